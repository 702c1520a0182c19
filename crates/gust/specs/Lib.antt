pub mod Gusts

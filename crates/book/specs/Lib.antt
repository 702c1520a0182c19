pub mod Book
pub mod Tables

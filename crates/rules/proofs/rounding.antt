-- Divisions and their rounding, the straight line, tables and searches: laws of specs/Rounding, and of each division of 01.
pub mod Signed
pub mod Rounding
pub mod StraightLine
pub mod Tables
pub mod Searches
pub mod Divisions
pub mod Times

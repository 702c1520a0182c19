pub mod Faults
pub mod Sets
pub mod OneAnswer
pub mod Tables

pub mod Weighing
pub mod Interpolation
pub mod Levers
pub mod Heeled

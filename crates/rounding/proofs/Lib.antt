pub mod TablePoints
pub mod Quotients
pub mod Halves
pub mod OneAnswer

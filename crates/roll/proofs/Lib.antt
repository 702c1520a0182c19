pub mod Limits
pub mod Factors
pub mod Judged
pub mod Heights
pub mod LeastSquare
pub mod Angles
pub mod OneAnswer

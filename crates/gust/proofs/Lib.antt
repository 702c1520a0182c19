pub mod Machine
pub mod Eighth
pub mod Angles
pub mod Steps
pub mod OneAnswer

pub mod Values
pub mod Answered
pub mod Limits
pub mod Leaves
pub mod Heads
pub mod Stations
pub mod OneAnswer

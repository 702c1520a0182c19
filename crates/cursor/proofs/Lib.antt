pub mod Heads
pub mod OneAnswer

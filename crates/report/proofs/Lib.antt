pub mod Answer
pub mod Digits
pub mod Parts
pub mod Frame
pub mod OneAnswer

pub mod Digits
pub mod Decoded
pub mod Ended
pub mod Laws
pub mod OneAnswer

pub mod Taken
pub mod Judgement
pub mod OneAnswer

pub mod Sums
pub mod Sizes
pub mod FrameAnswers

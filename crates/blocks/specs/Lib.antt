pub mod BlockAnswers

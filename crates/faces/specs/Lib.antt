pub mod Answers
pub mod Face
pub mod Promises
pub mod Cases

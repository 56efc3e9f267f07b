pub mod State
pub mod Reply
pub mod Rules
pub mod Due
pub mod Codes
pub mod Promises

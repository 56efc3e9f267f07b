pub mod Step
pub mod Run
pub mod Promises
pub mod Leaving
pub mod Keeping
pub mod Bench
pub mod Worked
pub mod Closing

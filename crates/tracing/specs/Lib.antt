pub mod Trace
pub mod Run
pub mod Flow
pub mod Promises
pub mod Reads
pub mod Bench

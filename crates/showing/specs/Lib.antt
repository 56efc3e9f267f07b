pub mod Seen
pub mod Taken

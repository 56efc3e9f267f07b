pub mod Reach
pub mod Staged
pub mod Latched
pub mod Filled
pub mod Rules
pub mod Promises
pub mod Reset
pub mod Cases

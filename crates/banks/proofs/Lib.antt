pub mod Places
pub mod HeadsAndLocks
pub mod Standing
pub mod Values
pub mod Cases
pub mod ForHistory

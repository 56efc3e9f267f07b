pub mod Values
pub mod Kind
pub mod Read
pub mod Write
pub mod Promises
pub mod Refusals

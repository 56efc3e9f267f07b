pub mod Class
pub mod Census
pub mod Reader
pub mod Facts
pub mod Figures
pub mod Promises
pub mod Cases

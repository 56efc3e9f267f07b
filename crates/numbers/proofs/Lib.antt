pub mod Numbers
pub mod Behind
pub mod Computing
pub mod Cases

pub mod Fitting
pub mod Following
pub mod Demand
pub mod Each

pub mod Cases
pub mod Same
pub mod Written
pub mod Listed
pub mod Turns
pub mod Numbered
pub mod Shown
pub mod Brought

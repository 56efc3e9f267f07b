pub mod Told
pub mod Among

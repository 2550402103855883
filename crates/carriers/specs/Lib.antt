pub mod Choosing
pub mod Nearest

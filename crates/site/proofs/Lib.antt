pub mod Named
pub mod Places
pub mod Numbered

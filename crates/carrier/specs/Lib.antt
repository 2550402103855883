pub mod Carrying
pub mod Sending

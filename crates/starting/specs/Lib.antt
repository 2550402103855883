pub mod Drafting
pub mod Landing
pub mod Reading
pub mod Starting
pub mod Steps

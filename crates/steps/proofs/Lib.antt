pub mod Deliveries
pub mod Landed
pub mod Others
pub mod Settlements
pub mod Starts

pub mod Deliver
pub mod Handed
pub mod Landing
pub mod Numbers
pub mod Settle
pub mod Start

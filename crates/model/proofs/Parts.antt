-- The parts of the invariant, each named by what it says. Assumes nothing.
pub mod Shape
pub mod Clocks
pub mod Provenance
pub mod Spread
pub mod Marks
pub mod Reservations
pub mod History
pub mod Verdicts
pub mod Numbers

-- The lemmas on the line.
pub mod Spots
pub mod Running
pub mod Stepping
pub mod Choosing
pub mod Absent

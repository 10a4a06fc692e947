-- What the contracts cite.
pub mod Code
pub mod Cost
pub mod Encoding
pub mod Trellis
pub mod Lanes
pub mod Slots

-- What the contracts of this crate cite.
pub mod ByteLists
pub mod Exhaustion
pub mod Words
pub mod Nearest
pub mod PlaceLists
pub mod Decoding
pub mod Verdict
pub mod Lanes
pub mod Syndromes
pub mod Encoder
pub mod Cutting
pub mod Correction

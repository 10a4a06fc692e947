-- The lemmas of this crate.
pub mod Tables
pub mod Lifts

-- The lemmas on digits, and on the bytes that a text says.
pub mod Values
pub mod Saying

pub mod Layout
pub mod Loops

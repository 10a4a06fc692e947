pub mod Composing
pub mod Judging

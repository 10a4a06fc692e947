pub mod Erased
pub mod Marked
pub mod Absence
pub mod Marks

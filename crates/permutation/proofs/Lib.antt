-- The lemmas on rearranged lists.
pub mod Picking
pub mod Permuting
pub mod Rows
pub mod Runs

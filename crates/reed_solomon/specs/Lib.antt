pub mod Coding
pub mod Coded
pub mod Bursts
pub mod WordByWord
pub mod Protecting
pub mod Examples

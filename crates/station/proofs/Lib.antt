mod Holding
mod Moving
pub mod Promising
pub mod Running
mod Sample

pub mod Calls
pub mod Counting
pub mod Events
pub mod Examples
pub mod Promise
pub mod Refusals
pub mod Runs

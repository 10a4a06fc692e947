pub mod Calling
pub mod Carriers
pub mod Coders
pub mod Giving
pub mod Standing
pub mod Table

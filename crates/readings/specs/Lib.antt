-- What the contracts cite.
pub mod Readings
pub mod Samples
pub mod Helix
pub mod Examples
pub mod Winding
pub mod Costs

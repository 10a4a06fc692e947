-- What the contracts cite.
pub mod Line
pub mod Examples
pub mod Lined
pub mod Costing
pub mod Octets

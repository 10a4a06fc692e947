-- What the contracts cite.
pub mod Limits
pub mod Numbers

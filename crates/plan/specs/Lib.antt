-- What the contracts cite.
pub mod Calls
pub mod Coders
pub mod Refusals
pub mod Stacks
pub mod Listed

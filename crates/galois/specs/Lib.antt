-- What the contracts of this crate cite.
pub mod Laws
pub mod Bytes
pub mod Polynomials
pub mod Choice
pub mod Rules
pub mod Raising
pub mod Sets
pub mod Shifts

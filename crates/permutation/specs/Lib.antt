-- What the contracts cite.
pub mod Arrange
pub mod Transposed
pub mod Turning

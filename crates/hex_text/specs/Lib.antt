-- What hexadecimal text means.
pub mod Digits
pub mod Parsing

-- The lemmas on readings, on samples and on the helical rule.
pub mod Sixteenths

pub mod Damage
pub mod Progress
pub mod Judged
pub mod SmallCode

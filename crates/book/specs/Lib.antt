-- What the contracts cite.
pub mod Faults
pub mod Contents
pub mod Judging
pub mod Jobs
pub mod Running
pub mod Handing

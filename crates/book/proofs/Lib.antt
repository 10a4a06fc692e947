mod Judged
mod Covering
mod Fitting
mod Filling
mod Entries
mod Recording
mod Lending
mod Refusals

pub mod Judging
pub mod Finding
pub mod Filling

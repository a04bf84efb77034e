pub mod Settled
pub mod Exits

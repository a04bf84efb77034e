-- The laws of bits and bytes, for this crate and those above it.
pub mod Lent
pub mod Numbers
pub mod OfBytes
pub mod Packed
pub mod Parts
pub mod Runs
pub mod Stores

-- The laws of bytes that are filled.
pub mod Filled

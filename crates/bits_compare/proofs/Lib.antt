-- The laws of comparing.
pub mod Comparing

-- The laws of runs that are written.
pub mod Written

-- What the contracts of the crates of bits cite beside the definitions of `meaning`.
pub mod Runs

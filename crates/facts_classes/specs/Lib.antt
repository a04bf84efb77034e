pub mod Chains
pub mod Seeking

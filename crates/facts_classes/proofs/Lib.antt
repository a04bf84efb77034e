pub mod Classes
pub mod Linking
pub mod Seeking

-- Laws of the questions about words and buffers.
pub mod Shaped

-- Laws of the calls that make a chosen word of bytes.
pub mod Picked

-- Tests of word, buffer and hash state types on a node that was read.
pub mod Shapes

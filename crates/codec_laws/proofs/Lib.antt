-- The laws of compact bits, piece by piece.
pub mod Nodes
pub mod Pieces
pub mod Walked
pub mod Writing
pub mod Streams
pub mod Readings

-- What the contracts of the words crates cite beside the definitions of `meaning`.
pub mod Segments

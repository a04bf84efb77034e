-- What the walk that writes has written.
pub mod Writes

-- What the functions over a number answer.
pub mod Places
pub mod Readings

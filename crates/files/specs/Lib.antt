-- What the functions over a table's file answer.
pub mod Readings

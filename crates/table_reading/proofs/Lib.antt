-- How `read_table` answers.
pub mod Readings

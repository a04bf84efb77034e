-- Laws of the file form that belong to no one function.
pub mod Nodes
pub mod Entries
pub mod Whole
pub mod Columns
pub mod Read
pub mod Unique
pub mod Right
pub mod Written

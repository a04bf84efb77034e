-- The tests of the lengths of columns.
pub mod Room

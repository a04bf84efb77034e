-- The facts of a node, as they are read.
pub mod Read

-- Laws of the questions about types.
pub mod Types

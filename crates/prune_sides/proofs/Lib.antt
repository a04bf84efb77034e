-- The laws that the walks cite.
pub mod CutSteps
pub mod Sides
pub mod Walks

pub mod Sides
pub mod FactsOf

-- Laws of the report's text and of a buffer that text is written to.
pub mod Sample
pub mod Decimals
pub mod Puts

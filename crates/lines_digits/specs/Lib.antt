-- The text that the report program prints, and what a buffer holds after a part of it was written.
pub mod Report
pub mod Buffer

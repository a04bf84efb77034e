-- Where a reading ends.
pub mod Ends

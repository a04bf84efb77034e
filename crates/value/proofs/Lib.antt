-- The laws of the calls on records.
pub mod Answered
pub mod Equality
pub mod OwnBits
pub mod OwnViews
pub mod RoundTrips
pub mod SubViews
pub mod TotalOrder
pub mod Two

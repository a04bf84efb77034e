-- Compact bits in the bytes lent, and the laws of the calls.
pub mod Lent
pub mod Passing
pub mod ReadLaws
pub mod WriteLaws
pub mod TripLaws
pub mod LeastLaws

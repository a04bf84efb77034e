-- What the proofs of several functions use.
pub mod Crossing
pub mod Fronts
pub mod Results
pub mod Refusals

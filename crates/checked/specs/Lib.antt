-- What the first rungs of a call let pass, and left and right said once.
pub mod Passed
pub mod Sides

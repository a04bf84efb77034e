-- What the contracts of words of bytes cite beside the definitions of `meaning`.
pub mod Chosen

-- What the contracts of the hash state cite beside the definitions of `meaning`.
pub mod State

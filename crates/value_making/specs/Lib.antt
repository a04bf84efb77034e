-- What the contracts of `value_making` cite beside the definitions of `meaning`.
pub mod Wraps

-- What the contracts of `value_comparing` cite beside the definitions of `meaning`.
pub mod Comparing

-- What the contracts of `value` cite beside the definitions of `meaning`.
pub mod Sides

-- What the contracts of `value_fitting` cite beside the definitions of `meaning`.
pub mod Fits

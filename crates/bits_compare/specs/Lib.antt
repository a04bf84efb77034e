-- What the contracts of `bits_compare` cite beside the definitions of `meaning` and `bits`.
pub mod Alike

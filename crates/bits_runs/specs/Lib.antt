-- What the contracts of `bits_runs` cite beside the definitions of `meaning` and `bits`.
pub mod Given

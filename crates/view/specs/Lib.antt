-- What the contracts of `view` cite beside the definitions of `meaning`.
pub mod Views

-- What the contracts of `value_views` cite beside the definitions of `meaning`.
pub mod Views

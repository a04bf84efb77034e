-- What the call knows of its record, and the laws of the call.
pub mod Calls
pub mod Lent

-- The laws of what was checked.
pub mod Handed
pub mod Lent
pub mod Made
pub mod Nodes
pub mod OwnBits
pub mod OwnStream
pub mod Passed
pub mod Passes
pub mod Read
pub mod Shaped
pub mod SideTypes
pub mod Told

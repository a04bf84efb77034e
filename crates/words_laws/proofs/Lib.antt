-- Laws of records written piece by piece, of the segments of a buffer and the parts of a hash state, of what the calls' records hold and of
-- the bits that the calls read.
pub mod Pieces
pub mod Parts
pub mod Hashed
pub mod Ranges
pub mod Streams
pub mod Distinct
pub mod Views
pub mod ReadBack
pub mod Joins
pub mod Halves
pub mod StateParts
pub mod OwnBits

-- What the walks of the codecs answer.
pub mod Walks

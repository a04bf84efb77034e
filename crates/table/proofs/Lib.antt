-- What the calls on whole tables have to do with each other.
pub mod Accepted

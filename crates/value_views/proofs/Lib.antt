-- The laws of the views.
pub mod Viewed

-- The laws of records that are made of their payloads.
pub mod Payloads

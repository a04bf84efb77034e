-- The laws of orders, and of records compared.
pub mod Compared
pub mod Orders

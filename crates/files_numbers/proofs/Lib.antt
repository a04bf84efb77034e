-- Laws of a number in a file that belong to no one function.
pub mod Numbers
pub mod Told

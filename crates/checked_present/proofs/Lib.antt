-- Laws of questions about nodes.
pub mod Asking

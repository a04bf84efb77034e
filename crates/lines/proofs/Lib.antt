-- Laws of whole lines and of a whole report.
pub mod Lines
pub mod Texts

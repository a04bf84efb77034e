-- What the proofs of several functions use.
mod Places
mod Offsets
mod Nears
mod States
pub mod LayoutStates
pub mod RungStates

-- Lemmas of `lists`.
mod Growth
mod Ends

-- What the contracts of `samples_names` cite. tools/calls writes this file.
pub mod Numbers

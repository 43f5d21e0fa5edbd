-- What the contracts of crate `print` cite.
pub mod Printed
pub mod Printers

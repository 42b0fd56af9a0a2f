pub mod Told
pub mod Lookups
pub mod Headers
pub mod Ranges
pub mod Writing
pub mod Numbers
pub mod Rows

pub mod Lookups
pub mod Searches
pub mod Links

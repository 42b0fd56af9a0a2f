pub mod Seen
pub mod Each

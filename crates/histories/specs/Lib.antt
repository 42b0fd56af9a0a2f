pub mod Runs
pub mod Reads
pub mod Law
pub mod Rows
pub mod Apart
pub mod Owed
pub mod Turns
pub mod Links

pub mod Appends
pub mod Answered
pub mod Sets
pub mod Visits
pub mod Opened
pub mod Wrote

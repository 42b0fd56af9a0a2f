pub mod Spans
pub mod Fills
pub mod Rows
pub mod Written

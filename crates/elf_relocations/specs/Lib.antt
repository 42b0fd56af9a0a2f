pub mod Actions
pub mod Texts
pub mod Records
pub mod Tables
pub mod Links

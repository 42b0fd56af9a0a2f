pub mod Draws
pub mod Alone
pub mod Visits
pub mod Parses
pub mod Shorter
pub mod Few

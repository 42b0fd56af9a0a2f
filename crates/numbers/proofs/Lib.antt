pub mod Uint

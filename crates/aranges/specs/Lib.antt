pub mod Sets
pub mod Tuples
pub mod Iterators
pub mod Answers
pub mod Links

pub mod Content
pub mod Index
pub mod Answers
pub mod Lawful
pub mod Part

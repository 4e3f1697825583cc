pub mod Table
pub mod Resolve
pub mod Seen
pub mod Books
pub mod Parts
pub mod Law

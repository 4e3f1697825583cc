pub mod Calls
pub mod Placed
pub mod Books
pub mod Law

pub mod Link
pub mod Views
pub mod Keeps
pub mod Last
pub mod Quiet

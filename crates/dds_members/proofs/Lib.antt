pub mod Leaves
pub mod Asked
pub mod Orders

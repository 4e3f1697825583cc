pub mod Orders
pub mod OwnOrder
pub mod Denials

pub mod Lists
pub mod Members
pub mod LeafOrder
pub mod NameHalves
pub mod Steps

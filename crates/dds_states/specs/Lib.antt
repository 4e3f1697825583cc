pub mod Turn
pub mod Leaf

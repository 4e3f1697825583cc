pub mod Law
pub mod Taken
pub mod SplitLeaves
pub mod Served

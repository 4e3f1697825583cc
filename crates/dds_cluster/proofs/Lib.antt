pub mod Openings
pub mod Handling
pub mod Frames
pub mod Sizes
pub mod Keys
pub mod KeyLists

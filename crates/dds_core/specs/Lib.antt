pub mod Notice
pub mod Brick
pub mod LibraryTurn

pub mod Names
pub mod Sets
pub mod Bricks
pub mod Outside
pub mod Places

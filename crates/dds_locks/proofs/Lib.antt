pub mod Seen
pub mod Txns
pub mod Trims
pub mod Places
pub mod Locked

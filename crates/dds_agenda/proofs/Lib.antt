pub mod Order
pub mod Places
pub mod Ranked
pub mod Same
pub mod Exchanged

pub mod Holds
pub mod Law

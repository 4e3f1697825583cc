pub mod Law
pub mod Sent

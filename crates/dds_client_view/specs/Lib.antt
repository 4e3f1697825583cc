pub mod Seen
pub mod Client
pub mod Quiet
pub mod Law

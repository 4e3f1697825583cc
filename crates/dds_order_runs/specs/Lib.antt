pub mod Law
pub mod Group

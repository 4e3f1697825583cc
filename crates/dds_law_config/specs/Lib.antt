pub mod Law
pub mod Values

pub mod Steady
pub mod Helped
pub mod Law

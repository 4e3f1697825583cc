pub mod Law
pub mod Values
pub mod Below
pub mod Held

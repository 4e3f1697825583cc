pub mod Due
pub mod Law
pub mod Opened
pub mod Quiet

pub mod Law
pub mod Standing
pub mod Covered
pub mod Asked
pub mod Leased

pub mod Law
pub mod Copies
pub mod Turns
pub mod Outside
pub mod Ends
pub mod Sources
pub mod Frozen
pub mod Runs

pub mod Ended
pub mod Ending

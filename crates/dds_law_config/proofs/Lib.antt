pub mod Rows
pub mod Replies
pub mod Standing
pub mod Values
pub mod Runs
pub mod Lost
pub mod Quiet

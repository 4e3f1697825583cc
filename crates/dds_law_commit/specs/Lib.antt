pub mod Commit
pub mod Law
pub mod Causes
pub mod Calls

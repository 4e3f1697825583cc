pub mod Rows
pub mod Letters
pub mod Mine
pub mod Events
pub mod Lines
pub mod Live
pub mod Over
pub mod Runs

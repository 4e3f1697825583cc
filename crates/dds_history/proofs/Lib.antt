pub mod Seen
pub mod Bindings
pub mod Histories
pub mod Entries

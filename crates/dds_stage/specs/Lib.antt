pub mod Queue
pub mod Sends

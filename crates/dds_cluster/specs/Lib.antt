pub mod World
pub mod Turn
pub mod Keyed
pub mod Lists
pub mod Trace
pub mod Framed

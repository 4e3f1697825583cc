pub mod Later
pub mod Good
pub mod Calls
pub mod Bricks
pub mod Steps
pub mod Facts

pub mod Names
pub mod Lie
pub mod Apart
pub mod Copied

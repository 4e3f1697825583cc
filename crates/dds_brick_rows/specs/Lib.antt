pub mod Refusal
pub mod Calls
pub mod Take
pub mod Resolution

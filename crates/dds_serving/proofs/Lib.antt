pub mod Finishes
pub mod Once

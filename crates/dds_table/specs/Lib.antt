pub mod Lawful
pub mod Store
pub mod Split
pub mod Old
pub mod Lift
pub mod Places
pub mod Met

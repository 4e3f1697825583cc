pub mod Copying
pub mod Installing

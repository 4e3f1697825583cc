pub mod Fields
pub mod Root
pub mod Overflow
pub mod Bucket
pub mod Said

pub mod Waiting
pub mod Leases
pub mod Quiet

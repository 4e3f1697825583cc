pub mod First
pub mod Outcomes
pub mod Pending
pub mod Leases
pub mod State
pub mod Status

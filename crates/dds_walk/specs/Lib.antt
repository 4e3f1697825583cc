pub mod Picking
pub mod Walk
pub mod Agenda

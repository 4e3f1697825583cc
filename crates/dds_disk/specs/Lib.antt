pub mod Pages
pub mod Disks

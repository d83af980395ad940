pub mod Joining
pub mod Checks

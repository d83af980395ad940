pub mod Conditions
pub mod Taking
pub mod Pairs
pub mod Calls
pub mod Meanings

pub mod Choosing
pub mod Taking
pub mod Tracing
pub mod Places
pub mod Leading

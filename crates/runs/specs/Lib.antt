pub mod Histories
pub mod Laws
pub mod Runs
pub mod Requests
pub mod Making

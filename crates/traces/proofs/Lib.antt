pub mod Firsts
pub mod Leads
pub mod Fuel
pub mod Standing
pub mod Pieces
pub mod Joins
pub mod Led

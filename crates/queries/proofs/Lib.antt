pub mod Sums
pub mod Firsts
pub mod Tracing
pub mod Listing
pub mod Among
pub mod Meaning
pub mod Told

pub mod Records
pub mod Growing
pub mod Walk
pub mod Filling
pub mod Putting
pub mod Booked
pub mod RoundTrip

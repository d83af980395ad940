pub mod Input
pub mod Kinds
pub mod Listings
pub mod Asking
pub mod Answers
pub mod Chosen
pub mod Tells

pub mod Standings
pub mod Obeying
pub mod Walking
pub mod Followed
pub mod Making
pub mod Going

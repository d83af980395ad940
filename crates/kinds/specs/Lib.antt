pub mod Payloads
pub mod Ranges
pub mod Names
pub mod Calendars
pub mod Days
pub mod Agreement

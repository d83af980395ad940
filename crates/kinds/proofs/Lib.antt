pub mod DayFacts

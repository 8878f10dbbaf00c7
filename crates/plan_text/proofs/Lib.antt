pub mod NameFacts
pub mod TripFacts
pub mod ReadingFacts
mod Worked
pub mod ReadBack
pub mod TripsAgain
pub mod PlansAgain

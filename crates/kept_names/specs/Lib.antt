pub mod Kept
pub mod Found
pub mod Laws
pub mod Telling
pub mod Tally
pub mod TellingLaws
pub mod LinesBack

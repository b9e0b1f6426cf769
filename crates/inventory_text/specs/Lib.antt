pub mod Writing
pub mod Heads
pub mod Listed
pub mod ReadBack
pub mod KindsBack
pub mod EntryPaths

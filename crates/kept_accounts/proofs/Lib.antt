pub mod PickedLemmas
pub mod OtherLemmas
pub mod OnlyLemmas
pub mod ReservedLemmas
pub mod SparedLemmas
pub mod StayLemmas
pub mod ReservingExample

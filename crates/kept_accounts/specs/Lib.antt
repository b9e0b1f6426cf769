pub mod Keeping
pub mod Others
pub mod Reserving
pub mod Laws
pub mod Picked
pub mod KindInside
pub mod ReservingExample

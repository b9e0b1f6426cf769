pub mod Solutions
pub mod Standing
pub mod Solving
pub mod Starting
pub mod Order
pub mod Lazy

pub mod Unowned
pub mod Surveying
pub mod Laws
pub mod UnownedExample

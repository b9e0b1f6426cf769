pub mod KeepLoop
pub mod KeepBack
pub mod KeepListed
pub mod KeepForms

pub mod Rows
pub mod Fill
pub mod Told
pub mod RowsInside
pub mod Settled

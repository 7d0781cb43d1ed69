pub mod Totals
pub mod Opened
pub mod RowsWalked
pub mod Found
pub mod Said
pub mod MadeIndex

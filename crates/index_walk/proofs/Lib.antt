pub mod RowsLoop

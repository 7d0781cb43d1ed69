pub mod Records
pub mod InOrder
pub mod RowChanges
pub mod FoundRow
pub mod ValuePlaces
pub mod Parts

pub mod Chunks
pub mod ColumnDegrees
pub mod Whole

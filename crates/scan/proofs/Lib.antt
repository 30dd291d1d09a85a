pub mod Cells
pub mod PlaceLists
pub mod FrameTables
pub mod Scans
pub mod Walking
pub mod RowParts
pub mod Degrees
pub mod Fronts

pub mod Common
pub mod RowDegree
pub mod RowSteps
pub mod Steps

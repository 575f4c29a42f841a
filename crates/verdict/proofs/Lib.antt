pub mod FailsBelow
pub mod Inverses
pub mod PivotStep
pub mod RowsLeft
pub mod SplitAnswers
pub mod SplitFilling

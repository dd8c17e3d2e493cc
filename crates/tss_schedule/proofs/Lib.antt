pub mod Drawing
pub mod SeededRuns
pub mod GivenRuns
pub mod drives

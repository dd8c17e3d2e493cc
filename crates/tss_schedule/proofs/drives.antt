-- Events that a schedule picks one after another: what they leave, their peaks, their bound, and their lines in a log.
pub mod PickedEvents
pub mod OneCourse
pub mod PeakEvents
pub mod BoundedEvents
pub mod LoggedLines
pub mod DrivenSoFar
pub mod DriveLaws

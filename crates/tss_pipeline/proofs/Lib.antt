pub mod places
pub mod ends
pub mod listed
pub mod front_rows
pub mod renaming_rows
pub mod version_rows
pub mod worker_rows
pub mod shown

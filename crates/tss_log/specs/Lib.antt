pub mod Logs
pub mod FileLogs
pub mod KeptFiles
pub mod LogLines

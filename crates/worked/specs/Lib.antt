pub mod Numbers
pub mod Sheets
pub mod Runs

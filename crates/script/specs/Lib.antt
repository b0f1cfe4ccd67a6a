pub mod Calls
pub mod Cells
pub mod Kits
pub mod Lines
pub mod Records
pub mod Replies
pub mod Slots

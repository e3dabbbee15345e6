pub mod Words
pub mod Layouts
pub mod Entries
pub mod Pages
pub mod Reads
pub mod Events

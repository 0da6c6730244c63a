pub mod Faults
pub mod Bytes
pub mod Kept
pub mod MemLink
pub mod MemShelf
pub mod Shelf
pub mod ShelfRefusal
pub mod Wire

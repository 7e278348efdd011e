pub mod Pointers
pub mod HeapRow
pub mod Numbers

-- What the private parts of the reader do. The contract of `read` does not speak of these.
pub mod Bytes
pub mod Machine
pub mod Scans
pub mod Filling
pub mod Parts

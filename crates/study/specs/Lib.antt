pub mod Filing
pub mod Studies
pub mod Written

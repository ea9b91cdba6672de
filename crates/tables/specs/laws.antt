-- The proof that a file which meets the conditions is a system.
pub mod FileLaws

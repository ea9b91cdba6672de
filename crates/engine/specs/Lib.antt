pub mod Causes
pub mod search

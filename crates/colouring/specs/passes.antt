-- What the passes over a board's columns do, for the contracts of the code inside.
pub mod Bytes
pub mod Columns
pub mod Clauses
pub mod Loans
pub mod Rising
pub mod RisingColumns
pub mod Falling
pub mod FallingColumns

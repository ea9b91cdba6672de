-- Proofs that a grouping keeps the laws of a system; the code's ghost member cites them.
pub mod GroupLaws

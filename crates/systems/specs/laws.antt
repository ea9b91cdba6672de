-- Proofs that the kinds of system here keep the laws; the code's ghost members cite them.
pub mod PassLaws
pub mod TableLaws

-- What the inner functions of the search keep; a reader of find_cause's contract need not believe any of it.
pub mod Looks
pub mod Searches
pub mod Traces
pub mod Starts
pub mod Scenes

-- What the clauses of private functions say; no public clause rests on it.
pub mod Looks
pub mod Writes

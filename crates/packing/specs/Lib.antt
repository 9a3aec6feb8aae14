-- An answer packed into the one word that a C call returns, and the ten words of decide.
pub mod Pack
pub mod Decision

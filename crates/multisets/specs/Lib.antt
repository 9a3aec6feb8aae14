-- Lists of numbers as multisets: how often a number stands in one, and what two of them have in common.
pub mod Multiplicity
pub mod Agreement

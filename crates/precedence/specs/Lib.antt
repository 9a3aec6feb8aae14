-- How far a grant stands against higher ones.
pub mod Precedence
pub mod PrecedenceWalk

-- What the attendant's panel answers to `may`.
pub mod MayText

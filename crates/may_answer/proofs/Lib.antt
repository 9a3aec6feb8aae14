-- The definitions of what is answered to `may`, tried.
pub mod MayCases

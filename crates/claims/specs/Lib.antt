-- The claims: demands 1 to 3, wide grants, quarters, holding, the same grants in any order, records of openings, and what C, slips, journals and the
-- panel show.
pub mod Made
pub mod KeepsGrants
pub mod Claims
pub mod SeniorGrants
pub mod HalfOpenQuarters
pub mod HoldingGrants
pub mod SameGrantsSameBytes
pub mod OpeningsClaims
pub mod SlipClaims
pub mod JournalClaims
pub mod PanelClaims
pub mod AttendantClaims
pub mod GrantPaths
pub mod PackedFits
pub mod PackedReads

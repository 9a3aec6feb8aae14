-- Laws of lists of numbers as multisets, for the crates above.
pub mod Cases
pub mod MultiplicityLaws
pub mod AgreementLaws
pub mod LeftPlacesLaws
pub mod MergeLaws
pub mod AgreedLaws

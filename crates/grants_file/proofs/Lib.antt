-- Laws of the grants file, for the crates above.
pub mod BytesLaws
pub mod RecordLaws
pub mod DefectLaws
mod RequestDefectLaws
pub mod RightRecordLaws
pub mod BlockLaws
pub mod FileLaws
pub mod CauseLaws
pub mod VerdictLaws
pub mod OneByteLaws
pub mod DefectCases
pub mod RecordSteps
pub mod BlockSteps
pub mod DefectSteps
pub mod ValidateSteps
pub mod GrantSteps
pub mod WriteBlockSteps
pub mod SetLaws

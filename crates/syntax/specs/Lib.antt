-- What the contracts of `syntax` cite.
pub mod Limits
pub mod Policy
pub mod Forms
pub mod Words
pub mod Members
pub mod PolicyLayout
pub mod RecordLayout
pub mod Told

pub mod Keeping
pub mod KeepingEntries
pub mod KeepingLists
pub mod KeepingTests
pub mod KeepingRows
pub mod KeepingStatements
pub mod KeepingWhole
pub mod KeepingPolicy

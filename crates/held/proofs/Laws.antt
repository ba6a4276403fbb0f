pub mod Runs
pub mod RunsWalk
pub mod Placed
pub mod RunsStatement
pub mod Places
pub mod Coming
pub mod Parts
pub mod Requests

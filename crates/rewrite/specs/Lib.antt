pub mod Made
pub mod Becomes
pub mod Join
pub mod Arms
pub mod Waiting

pub mod Connections
pub mod Callers
pub mod Calls
pub mod Close

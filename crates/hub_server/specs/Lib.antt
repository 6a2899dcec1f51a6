pub mod ServedAll
pub mod ServerEnd

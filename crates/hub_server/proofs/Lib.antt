mod Close
mod Stop
pub mod ServerEnd

pub mod Settings
pub mod MenuLines
pub mod Prepared
pub mod PreparedReading

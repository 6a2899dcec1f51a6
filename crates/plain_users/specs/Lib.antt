pub mod Commands
pub mod PlainView

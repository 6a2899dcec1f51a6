pub mod Afterwards
pub mod Lag
pub mod OpenConnections
pub mod Promises
pub mod Said
pub mod World

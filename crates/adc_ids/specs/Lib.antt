pub mod Nicks

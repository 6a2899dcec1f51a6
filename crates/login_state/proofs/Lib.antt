pub mod Firsts
pub mod Mentioned
pub mod Sightings
pub mod SignedWords
pub mod LineByLine

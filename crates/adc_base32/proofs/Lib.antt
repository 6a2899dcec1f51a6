pub mod BitLists
pub mod Codes
pub mod Spelled
pub mod Spelling
pub mod Turns
pub mod Vacancies

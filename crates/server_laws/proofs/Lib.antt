mod Ended
mod Takes
mod Owed

mod Rounds
mod Words

pub mod OwnRounds
pub mod Answer
pub mod Place
pub mod Levels
pub mod Asked
pub mod RoundsOfPackage
pub mod Tested

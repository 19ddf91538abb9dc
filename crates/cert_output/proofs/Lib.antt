mod Joined
mod Waiting
mod FieldSteps
mod LinePieces
mod WholeCert
mod OnlyPart

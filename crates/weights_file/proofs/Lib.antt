mod Lines
mod Reading
mod WeightsDecided
mod Unmarked

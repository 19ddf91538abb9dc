mod Parts
mod Sizes
mod Taking

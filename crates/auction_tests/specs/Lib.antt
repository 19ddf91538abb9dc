pub mod OneOfTwo

mod OneOfTwo
mod SmallBook

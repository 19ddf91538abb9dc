pub mod MarketTests
pub mod MarketPrices
pub mod Tests
pub mod Sound
pub mod Priced
pub mod BookSizes

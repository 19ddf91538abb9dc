pub mod Order
pub mod PointLaws
pub mod Ring
pub mod Sums

pub mod ListLaws
pub mod PositionLaws

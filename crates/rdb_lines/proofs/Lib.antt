pub mod WalkLaws
pub mod MapLaws
pub mod FillLaws
pub mod CountLaws

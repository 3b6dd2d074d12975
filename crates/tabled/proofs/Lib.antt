pub mod OpenLaws
pub mod BackLaws

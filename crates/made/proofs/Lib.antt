pub mod SaveLaws
pub mod AdoptLaws

pub mod PileLaws
pub mod AnswerLaws

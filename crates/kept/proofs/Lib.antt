pub mod RowLaws
pub mod NameLaws
pub mod FileLaws
pub mod WrittenLaws
pub mod AddLaws
pub mod ForgetLaws
pub mod Examples

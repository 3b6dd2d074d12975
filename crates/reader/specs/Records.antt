-- How values stand in bytes, for the crates above.
-- Assumes nothing.
pub use Rattle.types.specs.Prefix.{tag_of, utf8string_tag, further_astring_tag, StringTag, strings_minor}
pub use Rattle.rules.specs.Shows.{Bytes, ShowsByte, ShowsField, Run, ShowsWord, ShowsName, SimpleTag, InterfaceTag, InterfaceIsTag, ArrayTag, SizedTag, ShowsType, ShowsParam, ShowsMethod, Stored, ShowsConstant, ShowsDescriptor, ShowsSpace, ShowsOwn, ShowsEntry, ShowsEntries, ShowsHeader, ShowsTypelib}
pub use Rattle.head.specs.Header.{magic}
unfoldable pub use Rattle.head.specs.Annotation.{annotation_limit}
pub use Rattle.head.specs.Shows.{ShowsText, NotesRule}
unfoldable pub use Rattle.head.specs.Shows.{ShowsNote, Marks, ShowsNotes}
unfoldable pub use Rattle.typelib.specs.Typelib.{pool_of}

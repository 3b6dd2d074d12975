-- The rules that a decoded file obeys, for the crates above.
-- Assumes nothing.
pub use Rattle.rules.specs.Rules.{All, Identifier, PrefixRule, InDirectory, TypeRule, nesting, FlagRule, ParamRule, ArgumentRule, ResultRule, prefix_at, NamesIid, NamesSize, NumbersRule, SignatureRule, MethodRule, ConstantRule, flags_of, name_of, OneConstructor, GetterPairs, ParentRule, DescriptorRules, DescriptorRule, SpaceRule, OwnRule, EntryRule, iid_of, key_of, InOrder, UniqueKeys, rise, climb, NoReturn, NoCycle, EntriesRule, PositionRule, TypelibRule}
pub use Rattle.head.specs.Header.{newest}
unfoldable pub use Rattle.name.specs.Name.{is_identifier}

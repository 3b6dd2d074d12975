-- P1, P2 and P3 meet what read_plain asks, so each is accepted with the meaning whose plain form it is; an interface with a tag of minor 2 meets it too.
-- Assumes nothing.
use mathlib.Core.Path.{◌≡◌, refl, sym}
use mathlib.Core.Logic.{inl, inr}
use mathlib.Core.List.{List, [], ◌∷◌}
use mathlib.Core.Option.{none}
use Prim.Native.Nat.{ℕ, zero, suc, ◌^◌, ◌≤◌}
use native.Mathlib.Bridge.{le_by_compare, IsLe}
use native.Mathlib.Omega.{arith}
use lib.ListN.{length, get_or}
use Rattle.number.specs.Choice.{when◌then◌else◌, ◌<?◌, ◌≤?◌, ◌=?◌}
use Rattle.key.specs.Key.{Key}
use Rattle.reading.specs.Got.{got}
use Rattle.reader.specs.Values.{simple, prefix, param, param_flags, param_type, signature, Method, method, method_flags, method_name, methods_of, parent_of, Entry, entry_descriptor}
use Rattle.reader.specs.Rules.{is_identifier, GetterPairs, InOrder, UniqueKeys}
use Rattle.reader.specs.Reader.{decode}
use Rattle.reader.specs.Reader.Laws.{Identifier-exactly}
use Rattle.meaning.specs.Meaning.{map_ty, map_param, map_signature, map_method, map_parent, map_descriptor, map_own, map_entry}
use Rattle.meaning.specs.Index.{renumbered}
use Rattle.meaning.specs.Chain.{parent_ref}
use Rattle.meaning.proofs.Indexes.{length-renumbered}
use Rattle.meaning.proofs.Chains.{chains_end}
use Rattle.meaning.specs.Facts.Conditions.{any_of}
use Rattle.meaning.specs.Normal.Size.{sum, type_size, param_size, method_size, value_width, constant_size, descriptor_size, name_size, method_name_size, constant_name, constant_name_size, names_size, space_size, own_size, entry_size, entry_length, plain_length}
use Rattle.meaning.specs.Normal.Minor.{prefixes_of, params_of, new_tag, new_prefix, new_type, new_param, new_method, new_descriptor, new_own, new_entry, minor_of}
use Rattle.meaning.specs.Normal.Normal.{normal_typelib}
use Rattle.meaning.specs.Normal.Encodable.{Sound, PlainEncodable, PlainReadable}
use Rattle.meaning.proofs.Normal.Back.{read_plain}
use Rattle.reader.specs.Reader.Marked.{P1, P2, P3}
use Rattle.meaning.proofs.Normal.Examples.{tank, with_constant, with_string, marked}

-- ---- at most one entry, without parent

module _ (us : List (Entry Key)) (few : length us ≤ 1) where
  order_one : InOrder (renumbered us)
  order_one i j l m = absurd (omega (arith, length-renumbered us))

  keys_one : UniqueKeys (renumbered us)
  keys_one i j l m e = absurd (omega (arith, length-renumbered us))

  readable_one : (d : Entry Key) → ((i : ℕ) → parent_ref (get_or us i d) ≡ none) → PlainEncodable us → PlainReadable us
  readable_one d e enc = record {
    encodable = enc;
    order = order_one;
    keys = keys_one;
    chains = chains_end us enc.closed (λ _. none) d (λ i l. sym (e i)) (λ i l. (0, rw (e i) tt));
  }

-- ---- the three meanings

readable_none : PlainReadable []
unfolding plain_length sum tank parent_ref
readable_none = readable_one [] (omega arith) tank (λ i. refl) (record { few = omega arith; short = omega arith; each = tt; closed = tt })

Sound-tank : Sound tank
unfolding tank map_entry map_own is_identifier when◌then◌else◌ ◌<?◌ ◌≤?◌ ◌=?◌ IsLe
Sound-tank = record {
  rule = (
    (Identifier-exactly (0x54 ∷ 0x61 ∷ 0x6e ∷ 0x6b ∷ [])).0 refl,
    inl refl,
    tt,
  );
  ranged = (le_by_compare 1 (256 ^ 16) tt, tt);
}

readable_tank : PlainReadable (tank ∷ [])
unfolding tank parent_ref plain_length sum entry_length entry_size name_size space_size own_size
readable_tank = readable_one (tank ∷ []) (omega arith) tank parents (record { few = omega arith; short = omega arith; each = (Sound-tank, tt); closed = (tt, tt) })
  where
    parents : (i : ℕ) → parent_ref (get_or (tank ∷ []) i tank) ≡ none
    parents zero = refl
    parents (suc i) = refl

Sound-constant : Sound with_constant
unfolding with_constant map_entry map_own map_descriptor map_parent value_width is_identifier when◌then◌else◌ ◌<?◌ ◌≤?◌ ◌=?◌ IsLe
Sound-constant = record {
  rule = (
    (Identifier-exactly (0x41 ∷ [])).0 refl,
    inl refl,
    (
      λ e. omega arith,
      record {
        parent = tt;
        few_methods = omega arith;
        methods = tt;
        few_constants = omega arith;
        constants = (((Identifier-exactly (0x4b ∷ [])).0 refl, inl refl), tt);
        reserved = refl;
        function = λ z. refl;
        constructors = λ i j l m x y. absurd (omega arith);
        pairs = λ i j l m x y q. absurd (omega arith);
      },
    ),
  );
  ranged = (le_by_compare 2 (256 ^ 16) tt, (tt, (le_by_compare 0xffff 65536 tt, tt), omega arith));
}

readable_constant : PlainReadable (with_constant ∷ [])
unfolding with_constant parent_ref parent_of plain_length sum entry_length entry_size name_size space_size own_size descriptor_size constant_size value_width names_size method_name_size constant_name_size constant_name when◌then◌else◌ ◌=?◌
readable_constant = readable_one (with_constant ∷ []) (omega arith) with_constant parents (record { few = omega arith; short = omega arith; each = (Sound-constant, tt); closed = ((tt, tt), tt) })
  where
    parents : (i : ℕ) → parent_ref (get_or (with_constant ∷ []) i with_constant) ≡ none
    parents zero = refl
    parents (suc i) = refl

Sound-string : Sound with_string
unfolding with_string map_entry map_own map_descriptor map_parent map_method map_signature map_param map_ty method_flags param_flags param_type prefix is_identifier when◌then◌else◌ ◌<?◌ ◌≤?◌ ◌=?◌ IsLe
Sound-string = record {
  rule = (
    (Identifier-exactly (0x41 ∷ [])).0 refl,
    inl refl,
    (
      λ e. omega arith,
      record {
        parent = tt;
        few_methods = omega arith;
        methods = (
          (
            refl,
            (Identifier-exactly (0x6d ∷ [])).0 refl,
            record {
              arguments = tt;
              result = (
                record {
                  flags = record { reserved = refl; dipper = λ z. refl };
                  type = record { known = inr ((omega arith, omega arith), omega arith); astring = λ e z. omega arith; unique = λ _. omega arith; reference = λ _. omega arith; pointer = λ _. omega arith };
                  nested = omega arith;
                },
                refl,
                refl,
              );
              numbers = tt;
              result_numbers = tt;
              result_kind = inl refl;
            },
          ),
          tt,
        );
        few_constants = omega arith;
        constants = tt;
        reserved = refl;
        function = λ z. refl;
        constructors = λ i j l m x y. omega arith;
        pairs = pairs;
      },
    ),
  );
  ranged = (le_by_compare 2 (256 ^ 16) tt, (((omega arith, omega arith, tt, (omega arith, (omega arith, inr (omega arith, omega arith)))), tt), tt, omega arith));
}
  where
    one : List (Method ℕ)
    one = method 0x20 (0x6d ∷ []) (signature [] (param 0 (simple 0x97))) ∷ []

    -- it is no getter
    pairs : GetterPairs one
    pairs zero j l m x y q = absurd (omega arith)
    pairs (suc i) j l m x y q = absurd (omega arith)

pub string_minor : minor_of (with_string ∷ []) ≡ 2
unfolding with_string any_of when◌then◌else◌ ◌≤?◌ entry_descriptor methods_of param_type prefixes_of params_of new_tag new_prefix new_type new_param new_method new_descriptor new_own new_entry minor_of
string_minor = refl

pub readable_string : PlainReadable (with_string ∷ [])
unfolding with_string parent_ref parent_of plain_length sum entry_length entry_size name_size space_size own_size descriptor_size method_size param_size type_size names_size method_name_size method_name constant_name_size
readable_string = readable_one (with_string ∷ []) (omega arith) with_string parents (record { few = omega arith; short = omega arith; each = (Sound-string, tt); closed = ((tt, ((tt, tt), tt)), tt) })
  where
    parents : (i : ℕ) → parent_ref (get_or (with_string ∷ []) i with_string) ≡ none
    parents zero = refl
    parents (suc i) = refl

-- ---- read back

pub read_none : decode P1 ≡ got (normal_typelib []) (length P1)
read_none = rw (← marked.0) (read_plain [] readable_none)

pub read_tank : decode P2 ≡ got (normal_typelib (tank ∷ [])) (length P2)
read_tank = rw (← marked.1) (read_plain (tank ∷ []) readable_tank)

pub read_constant_lem : decode P3 ≡ got (normal_typelib (with_constant ∷ [])) (length P3)
read_constant_lem = rw (← marked.2) (read_plain (with_constant ∷ []) readable_constant)

-- A form is written in bytes: every number in it is below 256.
-- Assumes nothing.
use mathlib.Core.Path.{◌≡◌, ap}
use mathlib.Core.Bool.{Bool}
use mathlib.Core.Logic.{inl, inr}
use mathlib.Core.List.{List, [], ◌∷◌, ◌++◌, map}
use mathlib.Core.Option.{Option, none, some}
use Prim.Native.Nat.{ℕ, suc, ◌+◌}
use native.Mathlib.Omega.{arith}
use lib.ListN.{length}
use Rattle.number.proofs.Choice.{both}
use Rattle.key.specs.Key.{key}
use Rattle.reader.specs.Values.{Method, method, signature, method_name, Constant, constant, constant_name, Descriptor, descriptor, Entry, entry}
use Rattle.reader.specs.Records.{Bytes}
use Rattle.reader.specs.Rules.{All, Identifier, MethodRule, ConstantRule, DescriptorRule, SpaceRule, OwnRule, EntryRule}
use Rattle.meaning.proofs.Maps.{itself}
use Rattle.meaning.proofs.Alls.{All-map}
use Rattle.meaning.specs.Normal.Record.{method_bytes, constant_bytes, parent_number, name_bytes}
use Rattle.meaning.specs.Normal.Normal.{space_pointer, own_pointer}
use Rattle.meaning.specs.Normal.Ranged.{RangedMethod, Ranged, RangedOwn, RangedEntry}
use Rattle.meaning.proofs.Normal.Small.{none_small, one_small, join, small_number, small_name, small_method, small_constant, small_parts}
use Rattle.meaning.specs.Stock.Uses.{names_of, space_words, key_words, entry_words}
use Rattle.meaning.specs.Stock.Pool.{Piece, word, body, own_pieces, entry_pieces, pieces_of, pool_size}
use Rattle.meaning.specs.Stock.Form.{run_from, methods_with, constants_with, descriptor_with, kept_bytes, pool_with, own_after, entry_with, directory_with, length_with, file_with}

small_from : {X : Type 0} (W : X → Type 0) (one : ℕ → X → List ℕ) → ((u : ℕ) (x : X) → W x → Bytes (one u x)) → (u : ℕ) (xs : List X) → All W xs → Bytes (run_from one u xs)
unfolding run_from
small_from W one h u [] a = none_small
small_from W one h u (x ∷ xs) a = join (h u x a.0) (small_from W one h (u + 1) xs a.1)

small_kept : (kept : ℕ → Bool) (u : ℕ) (w : List ℕ) → Identifier w → Bytes (kept_bytes kept u w)
unfolding kept_bytes
small_kept kept u w i = both (λ (t : List ℕ). Bytes t) (kept u) (name_bytes w) [] (λ _. small_name w i) (λ _. none_small)

module _ (at : ℕ → ℕ) (kept : ℕ → Bool) where
  -- ---- the directory

  small_entry : {R : Type 0} (u q : ℕ) (e : Entry R) → Bytes (entry_with at kept u q e)
  unfolding entry_with
  small_entry u q (entry (key v w) i d) =
      join (join (join (small_number 16 i) (small_number 4 (at u))) (small_number 4 (space_pointer (at (u + 1)) v))) (small_number 4 (own_pointer (own_after kept u q (key v w)) d))

  small_directory : {R : Type 0} (u q : ℕ) (us : List (Entry R)) → Bytes (directory_with at kept u q us)
  unfolding directory_with
  small_directory u q [] = none_small
  small_directory u q (e ∷ us) = join (small_entry u q e) (small_directory (u + length (entry_words e)) (q + pool_size kept u (entry_pieces e)) us)

  -- ---- the pool

  module _ (minor n : ℕ) where
    -- what the pieces of entries that obey the rules are
    abbrev Good : Piece ℕ → Type 0
    Good (word w) = Identifier w
    Good (body d) = Ranged d × DescriptorRule minor n d

    small_descriptor : (u : ℕ) (d : Descriptor ℕ) → Ranged d → DescriptorRule minor n d → Bytes (descriptor_with itself at u d)
    unfolding descriptor_with methods_with constants_with
    small_descriptor u (descriptor up ms ks f) g r =
        join (join (join (join (join (small_number 2 (parent_number itself up)) (small_number 2 (length ms)))
        (small_from RangedMethod (λ k m. method_bytes itself (at k) m) (λ k m x. small_method (at k) m x) u ms g.0)) (small_number 2 (length ks)))
        (small_from ConstantRule (λ k c. constant_bytes (at k) c) (λ k c x. small_constant (at k) c x) (u + length ms) ks r.constants)) (one_small f g.2)

    small_pool : (u : ℕ) (ps : List (Piece ℕ)) → All Good ps → Bytes (pool_with itself at kept u ps)
    unfolding pool_with
    small_pool u [] a = none_small
    small_pool u (word w ∷ ps) a = join (small_kept kept u w a.0) (small_pool (u + 1) ps a.1)
    small_pool u (body d ∷ ps) a = join (small_descriptor u d a.0.0 a.0.1) (small_pool u ps a.1)

    All-append : {X : Type 0} (P : X → Type 0) (xs ys : List X) → All P xs → All P ys → All P (xs ++ ys)
    All-append P [] ys a b = b
    All-append P (x ∷ xs) ys a b = (a.0, All-append P xs ys a.1 b)

    named_method : (m : Method ℕ) → MethodRule minor n m → Identifier (method_name m)
    unfolding method_name
    named_method (method f w (signature ps x)) r = r.1

    named_constant : (c : Constant) → ConstantRule c → Identifier (constant_name c)
    unfolding constant_name
    named_constant (constant w k v) r = r.0

    good_names : (d : Descriptor ℕ) → DescriptorRule minor n d → All Identifier (names_of d)
    unfolding names_of
    good_names (descriptor up ms ks f) r =
        All-append Identifier (map method_name ms) (map constant_name ks) (All-map method_name (MethodRule minor n) Identifier named_method ms r.methods) (All-map constant_name ConstantRule Identifier named_constant ks r.constants)

    good_space : (v : List ℕ) → SpaceRule v → All Identifier (space_words v)
    unfolding space_words
    good_space [] r = tt
    good_space (b ∷ v) (inl e) = absurd (let z : suc (length v) ≡ 0 = ap length e in omega arith)
    good_space (b ∷ v) (inr i) = (i, tt)

    Good-words : (ws : List (List ℕ)) → All Identifier ws → All Good (map word ws)
    Good-words = All-map word Identifier Good (λ w i. i)

    Good-own : (i : ℕ) (d : Option (Descriptor ℕ)) → RangedOwn d → OwnRule minor n i d → All Good (own_pieces d)
    unfolding own_pieces
    Good-own i none g r = tt
    Good-own i (some d) g r = ((g, r.1), Good-words (names_of d) (good_names d r.1))

    Good-entry : (e : Entry ℕ) → RangedEntry e → EntryRule minor n e → All Good (entry_pieces e)
    unfolding entry_pieces key_words
    Good-entry (entry (key v w) i d) g r = All-append Good (map word (w ∷ space_words v)) (own_pieces d) (Good-words (w ∷ space_words v) (r.0, good_space v r.1)) (Good-own i d g.1 r.2)

    Good-pieces : (us : List (Entry ℕ)) → All RangedEntry us → All (EntryRule minor n) us → All Good (pieces_of us)
    unfolding pieces_of
    Good-pieces [] g r = tt
    Good-pieces (e ∷ us) g r = All-append Good (entry_pieces e) (pieces_of us) (Good-entry e g.0 r.0) (Good-pieces us g.1 r.1)

  -- ---- the file

  pub file_small : (us : List (Entry ℕ)) (minor : ℕ) → All RangedEntry us → All (EntryRule minor (length us)) us → Bytes (file_with itself at kept us)
  unfolding file_with
  file_small us minor g r = small_parts us (length_with kept us) (small_directory 0 1 us) (small_pool minor (length us) 0 (pieces_of us) (Good-pieces minor (length us) us g r))

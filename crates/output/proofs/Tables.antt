-- Entries that were led to and gathered, as the writers of pool and directory ask for them.
-- Assumes nothing.
use mathlib.Core.Path.{◌≡◌, refl, ap}
use mathlib.Core.List.{List, [], ◌∷◌}
use mathlib.Core.Option.{Option}
use Prim.Native.Nat.{ℕ, zero, suc, ◌+◌, ◌-◌, ◌*◌, ◌≤◌, ◌<◌}
use native.Mathlib.Decide.{ℕ_discrete, dec_le}
use native.Mathlib.Omega.{arith}
use lib.ListN.{length, get_or, length-append}
use Rattle.number.specs.Limits.{file_limit}
use Rattle.key.specs.First.{Filled}
use Rattle.key.specs.Key.{Key, key}
use Rattle.reader.specs.Values.{Descriptor, Entry, entry, entry_key, entry_descriptor, no_entry}
use Rattle.meaning.specs.Meaning.{map_descriptor}
use Rattle.names.specs.Uses.{use_limit}
use Rattle.meaning.specs.Stock.Uses.{own_words, key_words, entry_words, words_of, normal_length}
use Rattle.meaning.proofs.Stock.Few.{few_uses}
use Rattle.places.specs.Noted.{start_use, body_use}
use Rattle.pieces.specs.Bodies.{Lying}
use Rattle.pooling.specs.Tabled as pooling
use Rattle.pooling.specs.Tabled.{own_of, own_at, once_pool, Tabled, TablesFit}
use Rattle.filing.specs.Listed.{Listed, ListFits}
use Rattle.gather.specs.Leading.{shifted, Bodied, OwnLed, Gathered}
use Rattle.gather.proofs.Owns.{names_mapped}
use Rattle.output.specs.declared.Measured.{Measured}
use Rattle.output.specs.Measures.{Measures}
use Rattle.output.specs.Stores.{Ready}
use Rattle.output.proofs.Lengths.{length_parts}

-- ---- uses of entries

key_one : (k : Key) → 1 ≤ length (key_words k)
unfolding key_words
key_one (key v w) = omega arith

-- the names of a descriptor are uses
body_end : (us : List (Entry ℕ)) (i : ℕ) → i < length us → body_use us i + length (own_words (own_of us i)) ≤ length (words_of us)
unfolding body_use words_of own_of entry_words entry_key entry_descriptor
body_end [] i l = absurd (omega arith)
body_end (entry k j d ∷ us) zero l = omega (arith, length-append (entry_words (entry k j d)) (words_of us), length-append (key_words k) (own_words d))
body_end (e ∷ us) (suc i) l = omega (arith, length-append (entry_words e) (words_of us), body_end us i (omega arith))

-- an entry's first use is one
start_in_lem : (us : List (Entry ℕ)) (i : ℕ) → i < length us → start_use us i < length (words_of us)
unfolding start_use words_of entry_words
start_in_lem [] i l = absurd (omega arith)
start_in_lem (entry k j d ∷ us) zero l = omega (arith, length-append (entry_words (entry k j d)) (words_of us), length-append (key_words k) (own_words d), key_one k)
start_in_lem (e ∷ us) (suc i) l = omega (arith, length-append (entry_words e) (words_of us), start_in_lem us i (omega arith))

-- ---- the descriptor that b leads to

module _ (pool other : List ℕ) (n u b : ℕ) (small : length pool ≤ file_limit) (other_small : length other ≤ file_limit) where
  lying : (s : List ℕ) (p shift : ℕ) (d : Option (Descriptor ℕ)) (b : Bodied s p shift d) → u + length (own_words d) ≤ use_limit → length s ≤ file_limit → (q : ℕ) → 1 ≤ q → p ≡ q - 1
      → Lying s shift u q (map_descriptor (shifted shift) b.own) b.end
  unfolding own_words shifted
  lying s p shift d b l m q f e = record {
    small = m;
    pointer = f;
    stored = b.own;
    known = rw (← e) (record { shown = b.known.shown; fact = (omega (arith, ap (λ (o : Option (Descriptor ℕ)). length (own_words o)) b.same, ap length (names_mapped (shifted shift) b.own)), b.references) });
    counted = refl;
  }

  pub own_led : (d : Option (Descriptor ℕ)) → u + length (own_words d) ≤ use_limit → OwnLed pool other n b d → (e : ℕ) × pooling.OwnLed pool other n u b d e
  own_led d l o = elim (ℕ_discrete b 0) [
    | yes z ↦ (0, record { absent = λ _. o.absent z; present = λ y. absurd (y z) })
    | no z ↦ elim (dec_le b file_limit) [
      | yes m ↦
          let x = o.here z m in
          (x.end, record { absent = λ y. absurd (z y); present = λ _. (map_descriptor (shifted 0) x.own, x.same, record { here = λ _. lying pool (b - 1) 0 d x l small b (omega arith) refl; there = λ y. absurd (omega arith) }) })
      | no m ↦
          let x = o.there (omega arith) in
          (x.end, record { absent = λ y. absurd (z y); present = λ _. (map_descriptor (shifted n) x.own, x.same, record { here = λ y. absurd (m y); there = λ _. lying other (b - file_limit - 1) n d x l other_small (b - file_limit) (omega arith) refl }) })
    ]
  ]

-- ---- tables

module _ (pool other : List ℕ) (n : ℕ) (names spaces bodies high low t : List ℕ) (minor c : ℕ) (us : List (Entry ℕ)) (r : Ready pool other n names spaces bodies high low t minor c us)
    (words starts before sizes places : List ℕ) (z : Measured) (k : Measures us pool other words starts before sizes places c z) (s : z.size ≤ file_limit) where
  gathered : Gathered us pool other words starts before sizes z.uses c
  gathered = k.gathered s

  pub uses_are : z.uses ≡ length (words_of us)
  uses_are = gathered.noted.uses

  pub count_is : c ≡ length us
  count_is = gathered.noted.entries

  -- its pool, after front and directory
  pool_is : z.size ≡ 36 + 28 * c + once_pool us
  unfolding once_pool
  pool_is = omega (arith, k.size s, length_parts us, count_is)

  pub directory_in : 36 + 28 * c ≤ z.size
  directory_in = omega (arith, pool_is)

  pub tabled : Tabled pool other n words places before bodies z.uses c us
  unfolding own_of
  tabled = record {
    uses = uses_are;
    entries = count_is;
    few = r.leading.few;
    known = gathered.spelt;
    spelling = gathered.noted.spelling;
    placed = k.placed s;
    standing = gathered.noted.standing;
    owns = λ i l.
        own_led pool other n (body_use us i) (get_or bodies i 0) r.leading.small r.leading.other_small (entry_descriptor (get_or us i no_entry))
        (omega (arith, body_end us i (omega (arith, count_is)), uses_are, gathered.spelt.many)) (r.leading.owns i l);
  }

  pub tables_fit : (room : ℕ) → z.size ≤ 36 + 28 * c + room → TablesFit pool other n words places before bodies z.uses c room
  tables_fit room l = record { entries = us; tabled = tabled; room = omega (arith, pool_is); small = omega (arith, pool_is) }

  uses_few : z.uses + 2 ≤ use_limit
  unfolding normal_length
  uses_few = omega (arith, k.size s, few_uses us, uses_are)

  pub listed : (owns : List ℕ) → Filled owns c (own_at us) → Listed high low t starts before owns c us
  listed owns o = record {
    entries = count_is;
    few = r.leading.few;
    row = r.row;
    uses = λ i l. omega (arith, uses_few, start_in_lem us i (omega (arith, count_is)), uses_are);
    starting = gathered.starting;
    standing = gathered.noted.standing;
    pointed = o.held;
    named = r.named;
  }

  pub list_fits : (owns : List ℕ) → Filled owns c (own_at us) → (room : ℕ) → 28 * c ≤ room → ListFits high low t starts before owns c room
  list_fits owns o room l = record { value = us; listed = listed owns o; room = l }

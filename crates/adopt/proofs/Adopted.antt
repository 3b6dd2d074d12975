-- What it says of a file that adopting it writes something.
-- Assumes nothing.
use mathlib.Core.Path.{◌≡◌, refl, sym, ap, ◌∙◌}
use mathlib.Core.Bool.{Bool, true, false}
use mathlib.Core.List.{List}
use Prim.Native.Nat.{ℕ, ◌+◌, ◌-◌, ◌*◌, ◌%◌, ◌≤◌, ◌<◌}
use native.Mathlib.Omega.{arith}
use native.Mathlib.Decide.{dec_le}
use lib.ListN.{length, get_or, drop}
use Rattle.number.specs.Limits.{file_limit, entry_width}
use Rattle.number.specs.Choice.{when◌then◌else◌, ◌<?◌, ◌=?◌}
use Rattle.number.specs.Number.{be}
use Rattle.number.proofs.Choice.{is_eq, no_eq, both, from_not_lt, from_yes_eq, from_not_ne}
use Rattle.number.proofs.Scans.{clash}
use Rattle.reading.specs.Got.{Got, got, bad}
use Rattle.reading.specs.declared.Refusal.{Refusal}
use Rattle.head.specs.declared.Header.{Header}
use Rattle.head.specs.Header.{read_header}
use Rattle.reader.specs.Records.{Bytes}
use Rattle.joining.specs.Outcome.{Outcome, refused, written}
use Rattle.genuine.specs.Headed.{Headed}
use Rattle.genuine.specs.Start.{start_of, misplaced_start}
use Rattle.adopt.specs.Adopt.{gap_of, moved_bytes, adopted, fitted, moved_of, adopt_of}
use Rattle.adopt.specs.Theorems.{Adopts, Bytewise}
use Rattle.genuine.proofs.Front.{refused_Headed, read_Headed}
use Rattle.adopt.proofs.Stored.{length_moved}
use Rattle.adopt.proofs.Moved.{bytewise, directory_says, fields_small, moved_drop}

-- a test that refuses was passed
passed : (t : Bool) (x : Refusal) (o : Outcome Refusal) (b : List ℕ) → (when t then refused x else o) ≡ written b → (t ≡ false) × (o ≡ written b)
unfolding when◌then◌else◌
passed true x o b h = absurd (let w : ◌≡◌ {A = ℕ} 0 1 = cc in omega arith)
passed false x o b h = (refl, h)

-- where a directory of n entries may start
pub start_placed : (n start pool : ℕ) → misplaced_start n start pool ≡ false → (n ≡ 0 → ⊥) → (33 ≤ start) × (start + entry_width * n ≤ pool)
unfolding misplaced_start
start_placed n start pool =
    both P (n =? 0) _ _ (λ z _ f. absurd (f (from_yes_eq n 0 z)))
    (λ _. both P (start <? 33) true (pool <? start + 28 * n) (λ _ t. clash true refl t) (λ l t _. (from_not_lt start 33 l, from_not_lt pool (start + 28 * n) t)))
  where
    P : Bool → Type 0
    P t = t ≡ false → (n ≡ 0 → ⊥) → (33 ≤ start) × (start + entry_width * n ≤ pool)

pub record Says (s b : List ℕ) : Type 0 where
  pub headed : Headed s
  pub start : misplaced_start (be 2 s 18) (start_of s) (be 4 s 28) ≡ false
  pub short : length b ≤ file_limit
  pub is : adopted s ≡ b

module _ (s b : List ℕ) where
  moved_Says : Headed s → moved_of s ≡ written b → Says s b
  unfolding moved_of fitted
  moved_Says a h =
      let x = passed _ _ _ b h in
      let y = passed _ _ _ b x.1 in
      let e : adopted s ≡ b = cc in
      record { headed = a; start = x.0; short = rw (← e) (from_not_lt file_limit (length (adopted s)) y.0); is = e }

  adopt_Says : (g : Got Header) → read_header s ≡ g → adopt_of s g ≡ written b → Says s b
  unfolding adopt_of
  adopt_Says (got h e) q w = moved_Says (read_Headed s h e q) w
  adopt_Says (bad n p) q w =
      let x = passed _ _ _ b w in
      let y = passed _ _ _ b x.1 in
      let i : n ≡ 8 = from_not_ne n 8 x.0 in
      let j : p ≡ 24 = from_not_ne p 24 y.0 in
      moved_Says (refused_Headed s (record { no = n; place = p }) q i j) y.1

  pub Adopts-Says : Adopts s b → Says s b
  Adopts-Says w = adopt_Says (read_header s) refl w

-- ---- both cases: cut at a place after the header and before the pool, z zero bytes, and the directory's new offset

pub record Cut (s b : List ℕ) (cut z d : ℕ) : Type 0 where
  pub low : 32 ≤ cut
  pub high : cut ≤ be 4 s 28
  pub few : z ≤ 3
  pub close : d ≤ file_limit
  pub is : moved_bytes s cut z d ≡ b

module _ (s b : List ℕ) (w : Says s b) where
  module _ (cut z d : ℕ) (c : Cut s b cut z d) where
    size : length s + z ≡ length b
    size = sym (length_moved s z d w.headed.long cut c.low (omega (arith, c.high, w.headed.inside))) ∙ ap length c.is

    pub cut_bytes : Bytewise s b cut z
    cut_bytes =
        let h = w.headed in
        rw c.is at (bytewise s cut z d h.long c.low (omega (arith, c.high, h.inside)) (omega (arith, size, w.short)) h.inside h.length_at c.few)

    pub cut_directory : be 4 b 24 ≡ d
    cut_directory =
        let h = w.headed in
        rw c.is at (directory_says s cut z d h.long c.low (omega (arith, c.high, h.inside)) (omega (arith, size, w.short)) h.inside c.close)

    -- every byte of b is one
    pub cut_small : Bytes s → Bytes b
    cut_small small = record { small = go }
      where
        x : Bytewise s b cut z
        x = cut_bytes

        go : (i : ℕ) → get_or b i 0 < 256
        go i = elim (dec_le 32 i) [
          | no l ↦ elim (dec_le 20 i) [
            | no k ↦ omega (arith, x.head i (omega arith), small.small i)
            | yes k ↦ rw c.is at (fields_small s cut z d w.headed.long c.low (omega (arith, c.high, w.headed.inside)) i k (omega arith))
          ]
          | yes l ↦ elim (dec_le cut i) [
            | no k ↦ omega (arith, x.before i l (omega arith), small.small i)
            | yes k ↦ elim (dec_le (cut + z) i) [
              | no m ↦ omega (arith, x.zeros i k (omega arith))
              | yes m ↦
                  let e : i - z + z ≡ i = omega arith in
                  let q : get_or b i 0 ≡ get_or s (i - z) 0 = rw e at (x.behind (i - z) (omega arith)) in
                  omega (arith, q, small.small (i - z))
            ]
          ]
        ]

    pub cut_pool : drop (be 4 b 28) b ≡ drop (be 4 s 28) s
    cut_pool =
        let h = w.headed in
        rw cut_bytes.pool (rw c.is at (moved_drop s cut z d h.long c.low (omega (arith, c.high, h.inside)) (be 4 s 28) c.high))

  pub none_Cut : be 2 s 18 ≡ 0 → Cut s b 32 0 0
  unfolding adopted
  none_Cut e = record {
    low = omega arith;
    high = omega (arith, w.headed.low);
    few = omega arith;
    close = omega arith;
    is = is_eq _ _ _ _ e refl ∙ w.is;
  }

  module _ (some : be 2 s 18 ≡ 0 → ⊥) where
    pub some_placed : (33 ≤ start_of s) × (start_of s + entry_width * be 2 s 18 ≤ be 4 s 28)
    some_placed = start_placed (be 2 s 18) (start_of s) (be 4 s 28) w.start some

    pub gap_few : (gap_of (start_of s) ≤ 3) × ((start_of s + gap_of (start_of s)) % 4 ≡ 0)
    unfolding gap_of
    gap_few = omega arith

    pub some_Cut : Cut s b (start_of s) (gap_of (start_of s)) (start_of s + gap_of (start_of s))
    unfolding adopted
    some_Cut =
        let p = some_placed in
        let g = gap_few in
        let n : 1 ≤ be 2 s 18 = positive (be 2 s 18) some in
        record {
          low = omega arith;
          high = omega arith;
          few = g.0;
          close = omega (arith, w.headed.inside, w.headed.short);
          is = no_eq _ _ _ _ some refl ∙ w.is;
        }
      where
        positive : (n : ℕ) → (n ≡ 0 → ⊥) → 1 ≤ n
        positive n f = omega arith

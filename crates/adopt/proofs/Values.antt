-- What a file shows and what is written for it shows: header, annotations and entries.
-- Assumes nothing.
use mathlib.Core.Path.{◌≡◌, refl, sym, ap, ◌∙◌}
use mathlib.Core.Logic.{◌⊎◌, inl, inr}
use mathlib.Core.List.{List}
use Prim.Native.Nat.{ℕ, ◌+◌, ◌≤◌, ◌<◌}
use native.Mathlib.Omega.{arith}
use native.Mathlib.Decide.{ℕ_discrete, dec_le}
use lib.ListN.{length, get_or, drop}
use Rattle.number.specs.Number.{be}
use Rattle.number.proofs.Choice.{is_eq, no_eq}
use Rattle.reader.specs.Values.{Header, Annotation, Entry, typelib}
use Rattle.reader.specs.Records.{ShowsHeader, ShowsText, ShowsNotes, ShowsEntries, ShowsTypelib, annotation_limit, pool_of}
use Rattle.reader.specs.Rules.{PositionRule}
use Rattle.genuine.specs.Start.{start_of}
use Rattle.adopt.specs.Adopt.{gap_of}
use Rattle.adopt.specs.Placed.{fields_of, limit_at, ShowsAt}
use Rattle.adopt.specs.Theorems.{Bytewise, Published, Told}
use Rattle.adopt.proofs.Alike.{be_same, Alike, Alike-back, notes_alike, Stands, Stands-back, entries_same}
use Rattle.adopt.proofs.Adopted.{Says, Cut, cut_bytes, cut_directory, cut_pool, none_Cut, some_Cut, some_placed, gap_few}

-- ---- the relation

pub published : Published
unfolding annotation_limit limit_at
published s h notes es = (λ a. a, λ a. a)

-- where the annotations end at the latest
module _ (limit : ℕ) (h : Header) where
  limit_none : h.count ≡ 0 → limit_at limit h ≡ h.pool
  unfolding limit_at
  limit_none e = sym (is_eq _ _ _ _ e refl)

  limit_some : (h.count ≡ 0 → ⊥) → limit_at limit h ≡ limit
  unfolding limit_at
  limit_some f = sym (no_eq _ _ _ _ f refl)

limit_field : (h : Header) → annotation_limit h ≡ limit_at h.directory h
unfolding annotation_limit limit_at
limit_field h = refl

pub told : Told
told s limit d h notes es a =
    let g = a.0 in
    (λ i. record { minor = sym g.minor i; count = sym g.count i; directory = sym g.directory i; pool = sym g.pool i })

-- ---- what the two files have in common

pub record Common (s b : List ℕ) : Type 0 where
  pub minor : get_or b 17 0 ≡ get_or s 17 0
  pub count : be 2 b 18 ≡ be 2 s 18
  pub one : ShowsHeader s (fields_of s)
  pub other : ShowsHeader b (fields_of b)
  pub pool : drop (be 4 b 28) b ≡ drop (be 4 s 28) s
  pub limit : limit_at (start_of s) (fields_of b) ≡ limit_at (start_of s) (fields_of s)
  pub alike : Alike s b 32 (limit_at (start_of s) (fields_of s))
  pub stands : Stands s b (start_of s) (be 4 b 24) (be 2 s 18)
  pub rule : PositionRule (length b) (fields_of b)
  -- the limit in document 01's layout is further on by the zero bytes
  pub wider : limit_at (start_of s) (fields_of s) ≤ annotation_limit (fields_of b)
  pub among : (e : ℕ) → e ≤ annotation_limit (fields_of b) → (e ≤ limit_at (start_of s) (fields_of s)) ⊎ ((start_of s < e) × (e ≤ be 4 b 24))

module _ (s b : List ℕ) (w : Says s b) where
  header_one : ShowsHeader s (fields_of s)
  header_one = let h = w.headed in record { inside = h.long; magic_bytes = h.magic_at; major = h.major_at; minor = refl; count = refl; size = h.length_at; directory = refl; pool = refl }

  module _ (cut z d : ℕ) (c : Cut s b cut z d) where
    bytes : Bytewise s b cut z
    bytes = cut_bytes s b w cut z d c

    count_same : be 2 b 18 ≡ be 2 s 18
    count_same = be_same 2 s b 18 18 (λ j l. bytes.head (18 + j) (omega arith))

    header_other : ShowsHeader b (fields_of b)
    header_other =
        let h = w.headed in
        let x = bytes in
        record {
          inside = omega (arith, h.long, x.longer);
          magic_bytes = λ i l. x.head i (omega arith) ∙ h.magic_at i l;
          major = x.head 16 (omega arith) ∙ h.major_at;
          minor = refl;
          count = refl;
          size = omega (arith, x.size, x.longer, h.length_at);
          directory = refl;
          pool = refl;
        }

  Common-none : be 2 s 18 ≡ 0 → Common s b
  Common-none e =
      let h = w.headed in
      let c = none_Cut s b w e in
      let x = cut_bytes s b w 32 0 0 c in
      let n : be 2 b 18 ≡ 0 = count_same 32 0 0 c ∙ e in
      let f : be 4 b 24 ≡ 0 = cut_directory s b w 32 0 0 c in
      let p : be 4 b 28 ≡ be 4 s 28 = omega (arith, x.pool) in
      let l : limit_at (start_of s) (fields_of s) ≡ be 4 s 28 = limit_none (start_of s) (fields_of s) e in
      let m : limit_at (start_of s) (fields_of b) ≡ be 4 b 28 = limit_none (start_of s) (fields_of b) n in
      let a : annotation_limit (fields_of b) ≡ be 4 b 28 = limit_field (fields_of b) ∙ limit_none (be 4 b 24) (fields_of b) n in
      let minor = x.head 17 (omega arith) in
      record {
        minor = minor;
        count = count_same 32 0 0 c;
        one = header_one;
        other = header_other 32 0 0 c;
        pool = cut_pool s b w 32 0 0 c;
        limit = m ∙ p ∙ sym l;
        alike = record {
          one = omega (arith, l, h.inside);
          other = omega (arith, l, h.inside, x.longer);
          same = λ i k _. let q : i + 0 ≡ i = omega arith in rw q at (x.behind i k);
        };
        stands = record { same = λ i k. absurd (omega arith) };
        rule = record {
          short = w.short;
          few = omega (arith, n);
          known = rw minor h.known;
          low = omega (arith, p, h.low);
          inside = omega (arith, p, h.inside, x.longer);
          absent = λ _. f;
          placed = λ k. absurd (k n);
        };
        wider = omega (arith, l, a, p);
        among = λ k j. inl (omega (arith, l, a, p));
      }

  Common-some : (be 2 s 18 ≡ 0 → ⊥) → Common s b
  Common-some some =
      let h = w.headed in
      let c = some_Cut s b w some in
      let d = start_of s in
      let z = gap_of (start_of s) in
      let x = cut_bytes s b w d z (d + z) c in
      let r = count_same d z (d + z) c in
      let n : be 2 b 18 ≡ 0 → ⊥ = λ e. some (sym r ∙ e) in
      let f : be 4 b 24 ≡ d + z = cut_directory s b w d z (d + z) c in
      let t = some_placed s b w some in
      let g = gap_few s b w some in
      let l : limit_at d (fields_of s) ≡ d = limit_some d (fields_of s) some in
      let m : limit_at d (fields_of b) ≡ d = limit_some d (fields_of b) n in
      let a : annotation_limit (fields_of b) ≡ be 4 b 24 = limit_field (fields_of b) ∙ limit_some (be 4 b 24) (fields_of b) n in
      let minor = x.head 17 (omega arith) in
      record {
        minor = minor;
        count = r;
        one = header_one;
        other = header_other d z (d + z) c;
        pool = cut_pool s b w d z (d + z) c;
        limit = m ∙ sym l;
        alike = record {
          one = omega (arith, l, t.1, h.inside);
          other = omega (arith, l, t.1, h.inside, x.longer);
          same = λ i k j. x.before i k (omega (arith, l));
        };
        stands = record {
          same = λ i k.
              let y : be 4 b 24 + i ≡ d + i + z = omega (arith, f) in
              ap (λ (j : ℕ). get_or b j 0) y ∙ x.behind (d + i) (omega arith);
        };
        rule = record {
          short = w.short;
          few = rw r h.few;
          known = rw minor h.known;
          low = omega (arith, x.pool, h.low);
          inside = omega (arith, x.pool, h.inside, x.longer);
          absent = λ e. absurd (n e);
          placed = λ _. (rw f g.1, omega (arith, f, t.0), omega (arith, f, t.1, x.pool, r));
        };
        wider = omega (arith, l, a, f);
        among = λ e j. elim (dec_le e d) [ yes k ↦ inl (omega (arith, l)) | no k ↦ inr (omega arith, omega (arith, a)) ];
      }

  pub common : Common s b
  common = elim (ℕ_discrete (be 2 s 18) 0) [ yes e ↦ Common-none e | no f ↦ Common-some f ]

-- ---- and what they show

entries_as : (b : List ℕ) (d : ℕ) (es : List (Entry ℕ)) {p q : List ℕ} {n m : ℕ} → p ≡ q → n ≡ m → ShowsEntries b p d n es → ShowsEntries b q d m es
entries_as b d es e f h = rw (← e, ← f) h

module _ (s b : List ℕ) (k : Common s b) (notes : List Annotation) (es : List (Entry ℕ)) where
  pub shown_there : ShowsAt (start_of s) (start_of s) s (typelib (fields_of s) notes es) → ShowsAt (start_of s) (be 4 b 24) b (typelib (fields_of b) notes es)
  unfolding pool_of
  shown_there (h, (e, a, l), x) = (
    k.other,
    (e, notes_alike s b 32 (limit_at (start_of s) (fields_of s)) k.alike 32 notes e (omega arith) l a, omega (arith, k.limit)),
    entries_as b (be 4 b 24) es (sym k.pool) (sym k.count) (entries_same s b (drop (be 4 s 28) s) (start_of s) (be 4 b 24) (be 2 s 18) k.stands es x),
  )

  pub shown_here : ShowsAt (start_of s) (be 4 b 24) b (typelib (fields_of b) notes es) → ShowsAt (start_of s) (start_of s) s (typelib (fields_of s) notes es)
  unfolding pool_of
  shown_here (h, (e, a, l), x) = (
    k.one,
    (e, notes_alike b s 32 (limit_at (start_of s) (fields_of s)) (Alike-back s b 32 (limit_at (start_of s) (fields_of s)) k.alike) 32 notes e (omega arith) (omega (arith, k.limit)) a, omega (arith, k.limit)),
    entries_same b s (drop (be 4 s 28) s) (be 4 b 24) (start_of s) (be 2 s 18) (Stands-back s b (start_of s) (be 4 b 24) (be 2 s 18) k.stands) es (entries_as b (be 4 b 24) es k.pool k.count x),
  )

  pub shown_published : ShowsAt (start_of s) (start_of s) s (typelib (fields_of s) notes es) → ShowsTypelib b (typelib (fields_of b) notes es)
  shown_published a =
      let (h, (e, n, l), x) = shown_there a in
      (h, (e, n, omega (arith, k.limit, k.wider)), x)

  pub shown_only : ShowsTypelib b (typelib (fields_of b) notes es)
      → ShowsAt (start_of s) (start_of s) s (typelib (fields_of s) notes es) ⊎ ((e : ℕ) × ShowsNotes ShowsText b 32 notes e × (start_of s < e) × (e ≤ be 4 b 24))
  shown_only (h, (e, n, l), x) = elim (k.among e l) [
    | inl m ↦ inl (shown_here (h, (e, n, omega (arith, k.limit)), x))
    | inr m ↦ inr (e, n, m.0, m.1)
  ]

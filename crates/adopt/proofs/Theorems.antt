-- The theorems on adopting hold.
-- Assumes nothing.
use Rattle.std.specs.Prelude.{Ok}
use mathlib.Core.Path.{◌≡◌, refl, sym, ap, ◌∙◌, subst}
use mathlib.Core.Logic.{◌⊎◌, inl, inr}
use mathlib.Core.List.{List, ◌++◌, append_assoc}
use Prim.Native.Nat.{ℕ, ◌+◌, ◌-◌, ◌%◌, ◌≤◌, ◌<◌}
use native.Mathlib.Omega.{arith}
use native.Mathlib.Decide.{ℕ_discrete, dec_le}
use lib.ListN.{length, get_or, take, drop, length-append, get_or-append}
use lib.Seq.{sets, sets-eq, ext_get_or, length-sets, length-take-le, get_or-take, get_or-drop, get_or-append-add}
use Rattle.number.specs.Number.{be}
use Rattle.number.specs.Part.{part}
use Rattle.number.specs.Choice.{◌<?◌}
use Rattle.number.proofs.Choice.{both, from_not_lt}
use Rattle.number.proofs.Parts.{get_or-part}
use Rattle.decimal.proofs.Stores.{front}
use Rattle.reading.specs.Got.{got}
use Rattle.reading.specs.declared.Refusal.{Refusal}
use Rattle.head.specs.Header.{read_header}
use Rattle.reader.specs.Values.{Header, Annotation, Entry, Typelib, typelib}
use Rattle.reader.specs.Records.{Bytes, ShowsText, ShowsNotes, NotesRule, ShowsTypelib, pool_of}
use Rattle.reader.specs.Rules.{EntriesRule}
use Rattle.reader.specs.Reader.{decode}
use Rattle.reader.specs.Reader.Laws.{accepted_shows, accepted_obeys, shown_accepted}
use Rattle.meaning.specs.Normal.BigEndian.{bytes_of}
use Rattle.meaning.proofs.Normal.Lengths.{length_bytes}
use Rattle.meaning.proofs.Normal.Numbers.{Bytes-read}
use Rattle.joining.specs.Outcome.{Outcome, refused, written, refusal, in_room, after, normalised_as}
use Rattle.genuine.specs.Start.{start_of}
use Rattle.adopt.specs.Adopt.{gap_of, adopt_of, adopt_in, adopt_answer, adopt_buffer}
use Rattle.adopt.specs.Placed.{fields_of, ShowsAt}
use Rattle.adopt.specs.Theorems.{Adopts, Bytewise, Kept, Shown, Accepts, Left}
use Rattle.adopt.proofs.Adopted.{Says, Adopts-Says, cut_bytes, cut_directory, cut_small, none_Cut, some_Cut, gap_few}
use Rattle.adopt.proofs.Values.{published, told, Common, common, shown_there, shown_here, shown_published, shown_only}

-- ---- the bytes

-- what is stored in a list, byte by byte
module _ (l vs : List ℕ) (at : ℕ) (room : at + length vs ≤ length l) where
  stored_before : (i : ℕ) → i < at → get_or (sets l at vs) i 0 ≡ get_or l i 0
  stored_before i h =
      rw (sets-eq vs l at room, append_assoc (take at l) vs (drop (at + length vs) l))
      (get_or-append (take at l) (vs ++ drop (at + length vs) l) 0 i (omega (arith, length-take-le at l (omega arith))) ∙ get_or-take at l i 0 h)

  stored_behind : (i : ℕ) → at + length vs ≤ i → get_or (sets l at vs) i 0 ≡ get_or l i 0
  stored_behind i h =
      let front : List ℕ = take at l ++ vs in
      let n : length front ≡ at + length vs = omega (arith, length-append (take at l) vs, length-take-le at l (omega arith)) in
      let x : i ≡ length front + (i - (at + length vs)) = omega arith in
      let y : at + length vs + (i - (at + length vs)) ≡ i = omega arith in
      ap (λ (m : List ℕ). get_or m i 0) (sets-eq vs l at room)
      ∙ ap (λ (j : ℕ). get_or (front ++ drop (at + length vs) l) j 0) x
      ∙ get_or-append-add front (drop (at + length vs) l) (i - (at + length vs)) 0
      ∙ get_or-drop (at + length vs) l (i - (at + length vs)) 0
      ∙ ap (λ (j : ℕ). get_or l j 0) y

  stored_at : (i : ℕ) → i < length vs → get_or (sets l at vs) (at + i) 0 ≡ get_or vs i 0
  stored_at i h =
      let n = length-take-le at l (omega arith) in
      let x : at + i ≡ length (take at l) + i = omega arith in
      rw (sets-eq vs l at room, append_assoc (take at l) vs (drop (at + length vs) l))
      (ap (λ (j : ℕ). get_or (take at l ++ (vs ++ drop (at + length vs) l)) j 0) x
      ∙ get_or-append-add (take at l) (vs ++ drop (at + length vs) l) i 0
      ∙ get_or-append vs (drop (at + length vs) l) 0 i h)

-- the bytes of a number that two lists of bytes show
same_number : (s b : List ℕ) → Bytes s → Bytes b → (p : ℕ) → p + 4 ≤ length s → p + 4 ≤ length b → be 4 b p ≡ be 4 s p → (i : ℕ) → p ≤ i → i < p + 4 → get_or b i 0 ≡ get_or s i 0
same_number s b small small' p l l' e i h k =
    let x : p + (i - p) ≡ i = omega arith in
    let q : part b p (p + 4) ≡ part s p (p + 4) = sym (Bytes-read b small' 4 p l') ∙ ap (bytes_of 4) e ∙ Bytes-read s small 4 p l in
    ap (λ (j : ℕ). get_or b j 0) (sym x) ∙ sym (get_or-part b p (p + 4) (i - p) (omega arith)) ∙ ap (λ (m : List ℕ). get_or m (i - p) 0) q ∙ get_or-part s p (p + 4) (i - p) (omega arith) ∙ ap (λ (j : ℕ). get_or s j 0) x

-- without zero bytes one field changes
module _ (s b : List ℕ) (cut : ℕ) (x : Bytewise s b cut 0) (long : 32 ≤ length s) (small : Bytes s) (small' : Bytes b) where
  byte_same : (i : ℕ) → (i < 24) ⊎ (28 ≤ i) → get_or b i 0 ≡ get_or s i 0
  byte_same i (inl h) = elim (dec_le 20 i) [
    | no k ↦ x.head i (omega arith)
    | yes k ↦ same_number s b small small' 20 (omega arith) (omega (arith, x.longer)) (omega (arith, x.size)) i k h
  ]
  byte_same i (inr h) = elim (dec_le 32 i) [
    | no k ↦ same_number s b small small' 28 (omega arith) (omega (arith, x.longer)) (omega (arith, x.pool)) i h (omega arith)
    | yes k ↦ elim (dec_le cut i) [
      | no m ↦ x.before i k (omega arith)
      | yes m ↦ let q : i + 0 ≡ i = omega arith in rw q at (x.behind i m)
    ]
  ]

  field_only : b ≡ sets s 24 (bytes_of 4 (be 4 b 24))
  field_only = ext_get_or 0 b (sets s 24 v) (omega (arith, x.longer, length-sets s 24 v)) go
    where
      v : List ℕ
      v = bytes_of 4 (be 4 b 24)

      n : length v ≡ 4
      n = length_bytes 4 (be 4 b 24)

      room : 24 + length v ≤ length s
      room = omega (arith, n)

      go : (i : ℕ) → i < length b → get_or b i 0 ≡ get_or (sets s 24 v) i 0
      go i l = elim (dec_le 24 i) [
        | no h ↦ byte_same i (inl (omega arith)) ∙ sym (stored_before s v 24 room i (omega arith))
        | yes h ↦ elim (dec_le 28 i) [
          | no k ↦
              let y : 24 + (i - 24) ≡ i = omega arith in
              let q : v ≡ part b 24 28 = Bytes-read b small' 4 24 (omega (arith, x.longer)) in
              sym (ap (λ (j : ℕ). get_or (sets s 24 v) j 0) (sym y) ∙ stored_at s v 24 room (i - 24) (omega (arith, n)) ∙ ap (λ (m : List ℕ). get_or m (i - 24) 0) q ∙ get_or-part b 24 28 (i - 24) (omega arith) ∙ ap (λ (j : ℕ). get_or b j 0) y)
          | yes k ↦ byte_same i (inr k) ∙ sym (stored_behind s v 24 room i (omega (arith, n)))
        ]
      ]

aligned : (d : ℕ) → d % 4 ≡ 0 → gap_of d ≡ 0
unfolding gap_of
aligned d e = omega arith

kept_field : (s b : List ℕ) → Bytes s → Adopts s b → (be 2 s 18 ≡ 0) ⊎ (start_of s % 4 ≡ 0) → b ≡ sets s 24 (bytes_of 4 (be 4 b 24))
kept_field s b small a h =
    let w = Adopts-Says s b a in
    elim (ℕ_discrete (be 2 s 18) 0) [
      | yes e ↦ let c = none_Cut s b w e in field_only s b 32 (cut_bytes s b w 32 0 0 c) w.headed.long small (cut_small s b w 32 0 0 c small)
      | no f ↦
          let c = some_Cut s b w f in
          let z : gap_of (start_of s) ≡ 0 = aligned (start_of s) (elim h [ inl e ↦ absurd (f e) | inr e ↦ e ]) in
          field_only s b (start_of s) (rw z at (cut_bytes s b w (start_of s) (gap_of (start_of s)) (start_of s + gap_of (start_of s)) c)) w.headed.long small
          (cut_small s b w (start_of s) (gap_of (start_of s)) (start_of s + gap_of (start_of s)) c small)
    ]

pub kept : Kept
unfolding pool_of
kept = record {
  entries = λ s b a f.
      let w = Adopts-Says s b a in
      let c = some_Cut s b w f in
      let d = start_of s in
      let z = gap_of (start_of s) in
      let q = cut_directory s b w d z (d + z) c in
      (cut_bytes s b w d z (d + z) c, q, rw q (gap_few s b w f).1);
  none = λ s b a e.
      let w = Adopts-Says s b a in
      let c = none_Cut s b w e in
      (cut_bytes s b w 32 0 0 c, cut_directory s b w 32 0 0 c);
  pool = λ s b a. (common s b (Adopts-Says s b a)).pool;
  field = kept_field;
}

-- ---- the value, and the check

pub shown : Shown
shown = record {
  exactly = λ s b a notes es. let k = common s b (Adopts-Says s b a) in (shown_there s b k notes es, shown_here s b k notes es);
  shown = λ s b a notes es. shown_published s b (common s b (Adopts-Says s b a)) notes es;
  only = λ s b a notes es. shown_only s b (common s b (Adopts-Says s b a)) notes es;
}

small_too : (s b : List ℕ) → Says s b → Bytes s → Bytes b
small_too s b w small = elim (ℕ_discrete (be 2 s 18) 0) [
  | yes e ↦ cut_small s b w 32 0 0 (none_Cut s b w e) small
  | no f ↦ cut_small s b w (start_of s) (gap_of (start_of s)) (start_of s + gap_of (start_of s)) (some_Cut s b w f) small
]

accepted_only : (s b : List ℕ) → Common s b → (t : Typelib) (e : ℕ) → decode b ≡ got t e
    → (notes : List Annotation) × (es : List (Entry ℕ)) × (t ≡ typelib (fields_of b) notes es) × NotesRule notes × EntriesRule (get_or s 17 0) (be 2 s 18) es
    × (ShowsAt (start_of s) (start_of s) s (typelib (fields_of s) notes es) ⊎ ((m : ℕ) × ShowsNotes ShowsText b 32 notes m × (start_of s < m) × (m ≤ be 4 b 24)))
accepted_only s b k (typelib h notes es) e q =
    let a = accepted_shows b q in
    let r = accepted_obeys b q in
    let f : h ≡ fields_of b = told b h.directory h.directory h notes es ((published b h notes es).0 a) in
    let y : EntriesRule (get_or b 17 0) (be 2 b 18) es = subst (λ (x : Header). EntriesRule x.minor x.count es) f r.2 in (
      notes,
      es,
      ap (λ (x : Header). typelib x notes es) f,
      r.1,
      rw (k.minor, k.count) at y,
      shown_only s b k notes es (subst (λ (x : Header). ShowsTypelib b (typelib x notes es)) f a),
    )

pub accepts : Accepts
accepts = record {
  placed = λ s b a. (common s b (Adopts-Says s b a)).rule;
  accepted = λ s b small a notes es shows some rules.
      let w = Adopts-Says s b a in
      let k = common s b w in
      shown_accepted b (small_too s b w small) (typelib (fields_of b) notes es) (shown_published s b k notes es shows) (k.rule, some, rw (k.minor, k.count) rules);
  only = λ s b a. accepted_only s b (common s b (Adopts-Says s b a));
}

-- ---- answers and buffers

-- the outcome that this answer tells
wrote : (o : Outcome Refusal) (out : List ℕ) (n : ℕ) → normalised_as (in_room refusal (length out) o) ≡ Ok n
    → (b : List ℕ) × (o ≡ written b) × (length b ≡ n) × (length b ≤ length out) × (after (in_room refusal (length out) o) out ≡ sets out 0 b)
unfolding normalised_as in_room after
wrote (refused x) out n = λ h. absurd (let z : ◌≡◌ {A = ℕ} 0 1 = cc in omega arith)
wrote (written b) out n = both P (length out <? length b) (refused (refusal 27 (length b))) (written b)
    (λ _ h. absurd (let z : ◌≡◌ {A = ℕ} 0 1 = cc in omega arith))
    (λ t h. (b, refl, cc, from_not_lt (length out) (length b) t, refl))
  where
    P : Outcome Refusal → Type 0
    P p = normalised_as p ≡ Ok n → (c : List ℕ) × (◌≡◌ {A = Outcome Refusal} (written b) (written c)) × (length c ≡ n) × (length c ≤ length out) × (after p out ≡ sets out 0 c)

pub left : Left
unfolding adopt_answer adopt_buffer adopt_in
left s out n h =
    let r = wrote (adopt_of s (read_header s)) out n h in
    let b = r.0 in
    let e : take n (after (in_room refusal (length out) (adopt_of s (read_header s))) out) ≡ b = ap (take n) r.4 ∙ ap (λ (k : ℕ). take k (sets out 0 b)) (sym r.2) ∙ front out b r.3 in
    (ap length e ∙ r.2, r.1 ∙ ap (λ (c : List ℕ). written c) (sym e))

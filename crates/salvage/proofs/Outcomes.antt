-- The outcome of salvaging a file: its refusals, and that what is left is written as the cleared file's normal form.
-- Assumes nothing.
use Rattle.std.specs.Prelude.{Err, Ok, Result, ℕ}
use mathlib.Core.Path.{◌≡◌, refl, sym, ap, ◌∙◌}
use mathlib.Core.Bool.{true, false}
use mathlib.Core.List.{List, map}
use Prim.Native.Nat.{ℕ, ◌+◌, ◌*◌, ◌≤◌, ◌<◌}
use native.Mathlib.Omega.{arith}
use lib.ListN.{length}
use lib.Seq.{sets}
use Rattle.number.specs.Choice.{◌<?◌}
use Rattle.number.specs.Scan.{scan}
use Rattle.number.proofs.Choice.{yes_lt, not_lt}
use Rattle.number.proofs.Scans.{scan_ext}
use Rattle.reading.specs.Got.{Got, got, bad, next, Accepted}
use Rattle.reading.specs.declared.Refusal.{Refusal}
use Rattle.reading.proofs.Passes.{pass_next, pass_true, pass_false}
use Rattle.key.proofs.Firsts.{first_ext}
use Rattle.head.specs.declared.Header.{Header}
use Rattle.directory.proofs.DirectoryLaws.{row_told}
use Rattle.typelib.specs.Entry.{keys_in}
use Rattle.typelib.specs.Across.{repeated, first_repeated}
use Rattle.typelib.specs.Directory.{name_pointer, space_pointer, key_on}
use Rattle.typelib.specs.Typelib.{Fronted, Typelib, typelib, pool_of, read_front, read_typelib}
use Rattle.rules.specs.Shows.{Bytes}
use Rattle.rules.proofs.Whole as whole
use Rattle.reader.specs.Reader.{decode}
use Rattle.reader.specs.Reader.Laws as reader
use Rattle.joining.specs.Outcome.{Outcome, refused, written, refusal, in_room, after, normalised_as}
use Rattle.link.specs.Outcome.{normal_of, normalise_in, normalise_answer, normalise_buffer}
use Rattle.mend.specs.Left.{readable, left_in, Report, index_of, number_of, place_of, reports_of, left, left_behind, behind_front, read_left}
use Rattle.mend.specs.Cleared.{cleared}
use Rattle.mend.proofs.Entries.{says, key_at_lem}
use Rattle.mend.proofs.Mends.{accepts, way_left, cleared-Bytes}
use Rattle.salvage.specs.Salvage.{too_short, in_lists, salvage_of, reports_in, salvaged_as, listed, Lent, room_in, outcome_of, Salvages}

-- ---- a file that was read is decoded

pub read_decoded : (s : List ℕ) → Bytes s → (t : Typelib) (e : ℕ) → read_typelib s ≡ got t e → decode s ≡ got t e
read_decoded s b t e h = reader.shown_accepted s b t (whole.accepted_shows s h) (whole.accepted_obeys s h) ∙ ap (got t) (sym (whole.accepted_ends s h))

pub decoded_read : (s : List ℕ) → Bytes s → (t : Typelib) (e : ℕ) → decode s ≡ got t e → read_typelib s ≡ got t e
decoded_read s b t e h = whole.shown_accepted s b t (reader.accepted_shows s h) (reader.accepted_obeys s h) ∙ ap (got t) (sym (reader.accepted_ends s h))

-- ---- a refusal changes nothing

pub refuses : (s : List ℕ) (l : Lent) (x : Refusal) → outcome_of s l ≡ refused x → Salvages s l (Err x) l
unfolding salvaged_as after listed
refuses s l x e = record {
  answer = sym (ap (λ (o : Outcome Refusal). salvaged_as o (reports_in (read_left s))) e);
  out = sym (ap (λ (o : Outcome Refusal). after o l.out) e);
  indexes = sym (ap (λ (o : Outcome Refusal). listed o index_of (reports_in (read_left s)) l.indexes) e);
  numbers = sym (ap (λ (o : Outcome Refusal). listed o number_of (reports_in (read_left s)) l.numbers) e);
  places = sym (ap (λ (o : Outcome Refusal). listed o place_of (reports_in (read_left s)) l.places) e);
}

pub front_refused : (s : List ℕ) (l : Lent) (x : Refusal) → read_front s ≡ bad x.no x.place → outcome_of s l ≡ refused x
unfolding outcome_of salvage_of read_left refusal next
front_refused s l x e = ap (salvage_of (room_in l)) (left_bad s x.no x.place e)
  where
    left_bad : (s : List ℕ) (n q : ℕ) → read_front s ≡ bad n q → read_left s ≡ bad n q
    left_bad s n q e = rw e refl

-- ---- what follows the front

module _ (s : List ℕ) (h : Header) (w : Fronted s h) (pool : List ℕ) (m : pool ≡ pool_of h s) where
  keys_are : (k : ℕ) → k < h.count → keys_in (readable h s w.rows) k ≡ key_on s pool h.directory k
  unfolding keys_in key_on name_pointer space_pointer
  keys_are k l =
      key_at_lem s h w.notes w.rows w.end w.read k l
      ∙ (row_told s (pool_of h s) h.count h.directory (says s h w.notes w.rows w.end w.read).0.3.1 k l).keyed
      ∙ ap (λ (p : List ℕ). key_on s p h.directory k) (sym m)

  repeated_is : first_repeated (keys_in (readable h s w.rows)) h.count ≡ scan (repeated (key_on s pool h.directory)) h.count 0
  unfolding first_repeated repeated
  repeated_is =
      scan_ext (repeated (keys_in (readable h s w.rows))) (repeated (key_on s pool h.directory)) h.count 0 (λ i _ l.
      ap (λ (x : ℕ). x <? i) (first_ext (keys_in (readable h s w.rows)) (key_on s pool h.directory) i (λ j a. keys_are j (omega arith))))

  -- 18
  pub keys_refused : (l : Lent) (i : ℕ) → i ≡ scan (repeated (key_on s pool h.directory)) h.count 0 → i < h.count → outcome_of s l ≡ refused (record { no = 18; place = h.directory + 28 * i })
  unfolding outcome_of salvage_of read_left behind_front left_behind refusal
  keys_refused l i e a =
      let q : first_repeated (keys_in (readable h s w.rows)) h.count ≡ i = repeated_is ∙ sym e in
      ap (salvage_of (room_in l)) (pass_next _ _ w.read (pass_true _ _ _ (yes_lt _ _ (rw q a)) refl))
      ∙ ap (λ (x : ℕ). refused (record { no = 18; place = h.directory + 28 * x })) q

  module _ (u : h.count ≤ scan (repeated (key_on s pool h.directory)) h.count 0) where
    pub read_left_lem : read_left s ≡ got (left (typelib h w.notes (left_in (readable h s w.rows))) (reports_of h s (readable h s w.rows))) w.end
    read_left_lem = way_left s h w.notes w.rows w.end w.read (not_lt _ _ (rw repeated_is u))

    -- 38
    pub lists_refused : (l : Lent) → too_short (length l.indexes) (length l.numbers) (length l.places) ≡ true → outcome_of s l ≡ refused (record { no = 38; place = 1024 })
    unfolding outcome_of salvage_of in_lists room_in refusal
    lists_refused l t = ap (salvage_of (room_in l)) read_left_lem ∙ pass_true _ _ _ t refl

    module _ (l : Lent) (long : too_short (length l.indexes) (length l.numbers) (length l.places) ≡ false) (bytes : Bytes s) where
      decoded : decode (cleared s (reports_of h s (readable h s w.rows))) ≡ got (typelib h w.notes (left_in (readable h s w.rows))) (length s)
      decoded = read_decoded _ (cleared-Bytes s _ _ w.end read_left_lem bytes) _ _ (accepts s _ _ w.end read_left_lem)

      -- 26 and 27, or what is written
      pub outcome_left : outcome_of s l ≡ normalise_in (length l.out) (cleared s (reports_of h s (readable h s w.rows)))
      unfolding outcome_of salvage_of in_lists room_in normalise_in normal_of
      outcome_left =
          ap (salvage_of (room_in l)) read_left_lem ∙ pass_false _ _ _ long refl
          ∙ sym (ap (λ (g : Got Typelib). in_room refusal (length l.out) (normal_of g)) decoded)

      pub reports_left : reports_in (read_left s) ≡ reports_of h s (readable h s w.rows)
      unfolding reports_in
      reports_left = ap reports_in read_left_lem

      pub left_Accepted : Accepted (decode (cleared s (reports_of h s (readable h s w.rows))))
      left_Accepted = (_, _, decoded)

-- ---- the answers

normal_written : (o : Outcome Refusal) (n : ℕ) → normalised_as o ≡ Ok n → (b : List ℕ) × (o ≡ written b) × (length b ≡ n)
unfolding normalised_as
normal_written (refused x) n e = absurd (let z : ◌≡◌ {A = ℕ} 0 1 = cc in omega arith)
normal_written (written b) n e = (b, refl, cc)

normal_refused : (o : Outcome Refusal) (x : Refusal) → normalised_as o ≡ Err x → o ≡ refused x
unfolding normalised_as
normal_refused (refused y) x e = cc
normal_refused (written b) x e = absurd (let z : ◌≡◌ {A = ℕ} 0 1 = cc in omega arith)

module _ (s copy : List ℕ) (l : Lent) (same : outcome_of s l ≡ normalise_in (length l.out) copy) where
  pub left_refused : (x : Refusal) {r : Result ℕ Refusal} {out : List ℕ} → r ≡ normalise_answer copy l.out → out ≡ normalise_buffer copy l.out → r ≡ Err x
      → Salvages s l (Err x) (record { indexes = l.indexes; numbers = l.numbers; places = l.places; out = out })
  unfolding normalise_answer normalise_buffer
  left_refused x a b q =
      let p = same ∙ normal_refused _ x (sym a ∙ q) in
      let w = refuses s l x p in
      record { answer = w.answer; out = b ∙ sym (ap (λ (o : Outcome Refusal). after o l.out) same); indexes = w.indexes; numbers = w.numbers; places = w.places }

  -- the lists are written in the order of the reports
  module _ (rs : List Report) (told : reports_in (read_left s) ≡ rs) where
    pub left_written : (n changed : ℕ) {r : Result ℕ Refusal} {out indexes numbers places : List ℕ} → r ≡ normalise_answer copy l.out → out ≡ normalise_buffer copy l.out → r ≡ Ok n
        → changed ≡ length rs → indexes ≡ sets l.indexes 0 (map index_of rs) → numbers ≡ sets l.numbers 0 (map number_of rs) → places ≡ sets l.places 0 (map place_of rs)
        → Salvages s l (Ok (record { length = n; changed = changed })) (record { indexes = indexes; numbers = numbers; places = places; out = out })
    unfolding normalise_answer normalise_buffer salvaged_as listed after
    left_written n changed a b q c i k p =
        let o = normal_written _ n (sym a ∙ q) in
        let y = same ∙ o.1 in
        record {
          answer = (λ j. Ok (record { length = sym o.2 j; changed = c j })) ∙ sym (λ j. salvaged_as (y j) (told j));
          out = b ∙ sym (ap (λ (z : Outcome Refusal). after z l.out) same);
          indexes = i ∙ sym (λ j. listed (y j) index_of (told j) l.indexes);
          numbers = k ∙ sym (λ j. listed (y j) number_of (told j) l.numbers);
          places = p ∙ sym (λ j. listed (y j) place_of (told j) l.places);
        }

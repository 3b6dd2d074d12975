-- The last stage of a link: 25 to 27, or the normal form of the union in the buffer.
-- Assumes nothing.
use Rattle.std.specs.Prelude.{Err, Ok, Result, ℕ}
use mathlib.Core.Path.{◌≡◌, refl, sym, ap, ◌∙◌}
use mathlib.Core.List.{List, ◌++◌}
use Prim.Native.Nat.{ℕ, ◌+◌, ◌≤◌, ◌<◌}
use native.Mathlib.Omega.{arith}
use lib.ListN.{length, drop}
use lib.Seq.{sets}
use Rattle.number.specs.Choice.{when◌then◌else◌, ◌<?◌}
use Rattle.number.proofs.Choice.{is_lt, no_lt}
use Rattle.reading.specs.declared.Refusal.{Refusal}
use Rattle.key.specs.Key.{Key}
use Rattle.reader.specs.declared.Layout.{Layout}
use Rattle.reader.specs.Values.{Entry, entry, entry_iid, no_entry}
use Rattle.meaning.specs.Meaning.{meaning}
use Rattle.meaning.specs.Facts.Union.{union}
use Rattle.meaning.specs.Facts.Link.{Linked, stopped, joined as linked}
use Rattle.meaning.specs.Normal.Minor.{minor_of}
use Rattle.meaning.specs.Stock.Uses.{normal_length}
use Rattle.meaning.specs.Stock.Form.{file_bytes, normal_form}
use Rattle.meaning.proofs.Stock.Lengths.{length_normal}
use Rattle.rows.specs.Rows.{key_of_row, iid_of_row}
use Rattle.iids.specs.Joined.{joined}
use Rattle.iids.specs.Cells.{cell}
use Rattle.iids.specs.Numbers.{number_in}
use Rattle.iids.proofs.NumberLaws.{Wide-number}
use Rattle.bridge.specs.Written.{Matched, held_in, counted_of, row_entry, row_entries}
use Rattle.bridge.proofs.Spans.{span_ext, span_at}
use Rattle.bridge.proofs.Bytes.{union_length, union_bytes}
use Rattle.bridge.proofs.Links.{link_25, link_26, link_joined}
use Rattle.rows.specs.Files.{Pair, HoldBoth, Given, Gives}
use Rattle.gather.specs.View.{row_key, row_own, entry_of, view_entry, view_entries, Viewed}
use Rattle.gather.specs.Leading.{Leading}
use Rattle.output.specs.declared.Unstored.{Unstored}
use Rattle.output.specs.declared.Unstored.TheVariants.{Long, Short}
use Rattle.output.specs.Stores.{Ready, place_of, Stores}
use Rattle.joining.specs.Outcome.{Outcome, refused, written, refusal, encoded, in_room, after, normalised_as}
use Rattle.stages.specs.Stages.{Known, link_pair, Arranged}
use Rattle.joining.specs.Joins.{union_in, Joins}
use Rattle.stages.proofs.Held.{count_first, count_second, matched}
use Rattle.stages.proofs.Knows.{Resolved-most}
use Rattle.joining.proofs.Stops.{stops}

-- ---- what is joined, in a buffer of `room` bytes

module _ (x : Pair) (us : List (Entry Key)) (e : linked us ≡ link_pair x) (room : ℕ) where
  joined_in : union_in room x ≡ (when room <? length (normal_form us) then refused (refusal 27 (length (normal_form us))) else written (normal_form us))
  unfolding union_in in_room encoded
  joined_in = ap (λ (o : Linked). in_room refusal room (encoded refusal o)) (sym e)

  short_in : room < length (normal_form us) → refused (refusal 27 (length (normal_form us))) ≡ union_in room x
  short_in l = is_lt _ _ _ _ l refl ∙ sym joined_in

  written_in_lem : length (normal_form us) ≤ room → written (normal_form us) ≡ union_in room x
  written_in_lem l = no_lt _ _ _ _ l refl ∙ sym joined_in

-- ---- two files

module _ (s pool : List ℕ) (l : Layout) (s2 pool2 : List ℕ) (l2 : Layout) where
  abbrev Both : Pair → Type 0
  Both = HoldBoth s pool l s2 pool2 l2

  abbrev n : ℕ
  n = l.count

  abbrev N : ℕ
  N = l.count + l2.count

  -- the pools are the ends of the files
  pub Given-whole : Given Both → Given (HoldBoth s (drop l.pool s) l s2 (drop l2.pool s2) l2)
  Given-whole g = record { value = g.value; shown = record { first = record { laid = g.shown.first.laid; behind = refl }; second = record { laid = g.shown.second.laid; behind = refl } } }

  module _ (t holders high low place : List ℕ) (c : ℕ) where
    abbrev view : Pair → List (Entry ℕ)
    view x = view_entries x (number_in high low) (cell holders) t c

    module _ (x : Pair) (h : Both x) where
      abbrev es : List (Entry ℕ)
      es = x.first

      abbrev fs : List (Entry ℕ)
      fs = x.second

      abbrev U : List (Entry Key)
      U = union (meaning es ++ meaning fs)

      module _ (z : Arranged t holders high low place c (length es) (length es + length fs) x) where
        abbrev m : ℕ → ℕ
        m = cell z.ended.resolved.mates

        abbrev own : ℕ → ℕ
        own = cell z.ended.resolved.own

        abbrev M : Matched es fs m
        M = matched x h m z.ended.resolved.numbered.mated.paired

        -- the entries that are written are those of the union
        views : view x ≡ row_entries es fs own m t c
        unfolding view_entries row_entries view_entry entry_of row_key row_own row_entry cell
        views = span_ext (λ q. view_entry x (number_in high low) (cell holders) (cell t q)) (λ q. row_entry es fs own m (cell t q)) c (λ q b.
            let r = z.ordered.within q b in
            let a = Wide-number high low (length es + length fs) (joined (iid_of_row es fs) m (length es)) z.ended.resolved.numbered.wide (cell t q) r in
            let d = z.ended.resolved.held_by.held (cell t q) r in
            (λ j. entry (key_of_row es fs (cell t q)) (a j) (held_in (counted_of es fs) (d j))))

        length_own : normal_length (view x) ≡ length (normal_form U)
        length_own = ap normal_length views ∙ sym (union_length es fs m M own t c z.ended.resolved.owned z.ordered) ∙ sym (length_normal U)

        bytes_own : file_bytes (place_of place) (view x) ≡ normal_form U
        unfolding place_of
        bytes_own = ap (file_bytes (place_of place)) views ∙ sym (union_bytes es fs m M own t c z.ended.resolved.owned z.ordered place z.placed)

        many_own : 1024 < c → stopped 25 0 ≡ link_pair x
        unfolding link_pair cell
        many_own k =
            link_25 es fs m M z.ended.resolved.numbered.one_number z.ended.resolved.numbered.one_key z.ended.resolved.one_meaning own z.ended.resolved.owned
            (cell z.ended.up) (λ j b _. z.ended.rises.held j b) z.ended.ends t c z.ordered k

        long_own : c ≤ 1024 → 1048576 < normal_length (view x) → stopped 26 0 ≡ link_pair x
        unfolding link_pair cell
        long_own k b =
            link_26 es fs m M z.ended.resolved.numbered.one_number z.ended.resolved.numbered.one_key z.ended.resolved.one_meaning own z.ended.resolved.owned
            (cell z.ended.up) (λ j b _. z.ended.rises.held j b) z.ended.ends t c z.ordered k (omega (arith, ap normal_length views))

        joined_own : c ≤ 1024 → normal_length (view x) ≤ 1048576 → linked U ≡ link_pair x
        unfolding link_pair cell
        joined_own k b =
            link_joined es fs m M z.ended.resolved.numbered.one_number z.ended.resolved.numbered.one_key z.ended.resolved.one_meaning own z.ended.resolved.owned
            (cell z.ended.up) (λ j b _. z.ended.rises.held j b) z.ended.ends t c z.ordered k (omega (arith, ap normal_length views))

    module _ (k : Known Both (Arranged t holders high low place c n N)) where
      own_counts : (x : Pair) → Both x → Arranged t holders high low place c (length x.first) (length x.first + length x.second) x
      own_counts x h = rw (count_first x h, count_second x h) (k.each x h)

      pub stop_25 : 1024 < c → Known Both (λ x. stopped 25 0 ≡ link_pair x)
      stop_25 q = record { each = λ x h. many_own x h (own_counts x h) q }

      pub viewed : Given Both → c ≤ 1024 → Viewed N t holders c
      unfolding cell
      viewed g q =
          let z = k.each g.value g.shown in
          record {
            few = q;
            rows = z.ordered.within;
            held = (Resolved-most z.ended.resolved).each;
          }

      module _ (few : c ≤ 1024) where
        -- the tables are ready to be written
        pub ready : (names spaces bodies : List ℕ) (minor : ℕ)
            → ((x : Pair) (iid : ℕ → ℕ) → HoldBoth s (drop l.pool s) l s2 (drop l2.pool s2) l2 x → Leading (drop l.pool s) (drop l2.pool s2) n names spaces bodies (view_entries x iid (cell holders) t c) c)
            → ((iid : ℕ → ℕ) → Gives Both (λ x. minor_of (view_entries x iid (cell holders) t c)) minor)
            → (x : Pair) → Both x → Ready pool pool2 n names spaces bodies high low t minor c (view x)
        unfolding view_entries view_entry entry_of entry_iid
        ready names spaces bodies minor led newest x h =
            let v = viewed (record { value = x; shown = h }) few in
            record {
              leading = rw (h.first.behind, h.second.behind) (led x (number_in high low) (record { first = record { laid = h.first.laid; behind = refl }; second = record { laid = h.second.laid; behind = refl } }));
              few = few;
              row = λ i b. omega (arith, v.rows i b, h.first.laid.few, h.second.laid.few);
              named = λ i b. sym (ap entry_iid (span_at (λ q. view_entry x (number_in high low) (cell holders) (cell t q)) c i no_entry b));
              newest = (newest (number_in high low)).each x h;
            }

        module _ (out left : List ℕ) (r : Result ℕ Unstored) (told : (x : Pair) → Both x → Stores place (view x) out left r) where
          -- 26
          pub ends_26 : r ≡ Err Long → {a : Refusal} → a ≡ record { no = 26; place = 0 } → Joins Both out (Err a) left
          ends_26 e b =
              let f : (x : Pair) → Both x → Stores place (view x) out left (Err Long) = λ x h. rw e at (told x h) in
              let j = stops 26 0 out b (record { each = λ x h. long_own x h (own_counts x h) few (f x h).0 }) in
              record { answer = j.answer; buffer = λ x h. (f x h).1 ∙ j.buffer x h }

          module _ (len : ℕ) where
            joined_form : (x : Pair) → Both x → len ≡ normal_length (view x) → len ≤ 1048576 → linked (union (meaning x.first ++ meaning x.second)) ≡ link_pair x
            joined_form x h e b = joined_own x h (own_counts x h) few (omega arith)

            -- 27
            pub ends_27 : r ≡ Err (Short len) → {a : Refusal} → a ≡ record { no = 27; place = len } → Joins Both out (Err a) left
            unfolding normalised_as after refusal
            ends_27 e b =
                let f : (x : Pair) → Both x → Stores place (view x) out left (Err (Short len)) = λ x h. rw e at (told x h) in
                let g : (x : Pair) → Both x → len ≡ length (normal_form (union (meaning x.first ++ meaning x.second))) = λ x h. (f x h).0 ∙ length_own x h (own_counts x h) in
                let j : (x : Pair) → Both x → linked (union (meaning x.first ++ meaning x.second)) ≡ link_pair x = λ x h. joined_form x h (f x h).0 (f x h).1.0 in
                record {
                  answer = λ x h. ap (λ (f : Refusal). Err f) b ∙ ap (λ (i : ℕ). Err (refusal 27 i)) (g x h) ∙ ap normalised_as (short_in x _ (j x h) (length out) (omega (arith, g x h, (f x h).1.1.0)));
                  buffer = λ x h. (f x h).1.1.1 ∙ ap (λ (o : Outcome Refusal). after o out) (short_in x _ (j x h) (length out) (omega (arith, g x h, (f x h).1.1.0)));
                }

            pub ends_written : r ≡ Ok len → Joins Both out (Ok len) left
            unfolding normalised_as after
            ends_written e =
                let f : (x : Pair) → Both x → Stores place (view x) out left (Ok len) = λ x h. rw e at (told x h) in
                let g : (x : Pair) → Both x → len ≡ length (normal_form (union (meaning x.first ++ meaning x.second))) = λ x h. (f x h).0 ∙ length_own x h (own_counts x h) in
                let j : (x : Pair) → Both x → linked (union (meaning x.first ++ meaning x.second)) ≡ link_pair x = λ x h. joined_form x h (f x h).0 (f x h).1.0 in
                record {
                  answer = λ x h. ap (λ (i : ℕ). Ok i) (g x h) ∙ ap normalised_as (written_in_lem x _ (j x h) (length out) (omega (arith, g x h, (f x h).1.1.0)));
                  buffer = λ x h.
                      (f x h).1.1.1 ∙ ap (sets out 0) (bytes_own x h (own_counts x h)) ∙ ap (λ (o : Outcome Refusal). after o out) (written_in_lem x _ (j x h) (length out) (omega (arith, g x h, (f x h).1.1.0)));
                }

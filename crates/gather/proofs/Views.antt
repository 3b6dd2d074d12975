-- Tables that lead to the rows of a view of two accepted files.
-- Assumes nothing.
use mathlib.Core.Path.{◌≡◌, refl, sym, ap, ◌∙◌}
use mathlib.Core.List.{List}
use mathlib.Core.Logic.{inl, inr}
use mathlib.Core.Option.{Option, none, some}
use Prim.Native.Nat.{ℕ, suc, ◌+◌, ◌-◌, ◌≤◌, ◌<◌}
use native.Mathlib.Decide.{ℕ_discrete, dec_le}
use native.Mathlib.Omega.{arith}
use lib.ListN.{length, get_or, length-drop}
use Rattle.number.specs.Limits.{file_limit, row_limit}
use Rattle.key.specs.Key.{key, key_space, key_name}
use Rattle.key.specs.First.{Filled}
use Rattle.reader.specs.declared.Layout.{Layout}
use Rattle.reader.specs.Values.{Descriptor, descriptor, Entry, entry, entry_key, entry_descriptor, no_entry, keys_in, descriptor_in}
use Rattle.reader.specs.Records.{ShowsDescriptor, ShowsOwn}
use Rattle.reader.specs.Rules.{DescriptorRule, EntryRule}
use Rattle.reader.specs.Layout.{Lies, Spells, SpellsSpace}
use Rattle.meaning.specs.Meaning.{map_own}
use Rattle.meaning.proofs.Alls.{All-at}
use Rattle.meaning.specs.Stock.Uses.{names_of}
use Rattle.iids.specs.Cells.{cell}
use Rattle.rows.specs.Rows.{descriptor_of_row, reference_in}
use Rattle.rows.specs.Notes.{Noted, NameOf, SpaceOf, OwnOf}
use Rattle.rows.specs.Files.{Holds, Pair, HoldBoth}
use Rattle.rows.proofs.FillLaws.{Noted-still, Noted-behind, name_fits, space_fits, own_fits}
use Rattle.bridge.specs.Written.{counted_of}
use Rattle.bridge.proofs.Spans.{length-span, span_at}
use Rattle.bridge.proofs.Rows.{row_first, row_second, key_first_lem, key_second, reference_first, reference_second}
use Rattle.bridge.proofs.Pairs.{held_none, held_some}
use Rattle.gather.proofs.Named.{rule_named, rule_references}
use Rattle.gather.specs.View.{row_key, row_own, entry_of, view_entry, view_entries, Viewed}
use Rattle.gather.specs.Words.{Means}
use Rattle.gather.specs.Leading.{SpaceLed, shifted, Bodied, OwnLed, Leading, led_to, led_row, led_held, led_body, PointersIn, HeldIn, HoldersIn}
use Rattle.gather.proofs.Words.{Means-here, Means-there}
use Rattle.gather.proofs.Descriptors.{names_many}
use Rattle.gather.proofs.Leads.{led_none, led_low, led_high, held_zero, held_row}

-- ---- descriptors of one file

own_none : (s : List ℕ) (p : ℕ) (d : Option (Descriptor ℕ)) → p ≡ 0 → ShowsOwn s p d → d ≡ none
own_none s p none z o = refl
own_none s p (some d) z o = absurd (omega (arith, o.0))

rule_few : (minor n : ℕ) (d : Descriptor ℕ) → DescriptorRule minor n d → length (names_of d) ≤ 2048
rule_few minor n (descriptor up ms ks f) r = omega (arith, names_many up ms ks f, r.few_methods, r.few_constants)

descriptor_in_lem : (s : List ℕ) (p : ℕ) (d : Descriptor ℕ) (e : ℕ) → ShowsDescriptor s p d e → p < length s
descriptor_in_lem s p (descriptor up ms ks f) e k = omega (arith, k.0.inside)

own_in_lem : (s : List ℕ) (p : ℕ) (d : Option (Descriptor ℕ)) → length s ≤ file_limit → ShowsOwn s p d → p ≤ file_limit
own_in_lem s p none l o = omega (arith, o)
own_in_lem s p (some d) l o = omega (arith, descriptor_in_lem s (p - 1) d o.1.0 o.1.1)

module _ (s pool : List ℕ) (l : Layout) (es : List (Entry ℕ)) (h : Holds s pool l es) where
  pub pool_small : length pool ≤ file_limit
  pool_small = rw (h.behind, length-drop) (omega (arith, h.laid.small))

  bodied : (i shift p : ℕ) → i < l.count → shift + l.count ≤ 2048 → (p ≡ 0 → ⊥) → ShowsOwn pool p (descriptor_in es i) → Bodied pool (p - 1) shift (map_own (shifted shift) (descriptor_in es i))
  unfolding descriptor_in entry_descriptor map_own
  bodied i shift p b m n o =
      let a = h.laid in
      go (get_or es i no_entry) refl (All-at (EntryRule a.minor l.count) es no_entry a.ruled.each i (omega (arith, a.count))) o
    where
      go : (u : Entry ℕ) → get_or es i no_entry ≡ u → EntryRule h.laid.minor l.count u → ShowsOwn pool p (entry_descriptor (get_or es i no_entry)) → Bodied pool (p - 1) shift (map_own (shifted shift) (entry_descriptor (get_or es i no_entry)))
      go (entry (key v w) j none) e r q = let z : ShowsOwn pool p none = rw e at q in absurd (n z)
      go (entry (key v w) j (some d)) e r q =
          let z : ShowsOwn pool p (some d) = rw e at q in
          record {
            own = d;
            end = z.1.0;
            known = record { shown = z.1.1; fact = rule_named h.laid.minor l.count d r.2.1 };
            references = rule_references h.laid.minor l.count shift m d r.2.1;
            few = rule_few h.laid.minor l.count d r.2.1;
            same = ap (λ (u : Entry ℕ). map_own (shifted shift) (entry_descriptor u)) e;
          }

-- ---- rows of both

module _ (s pool : List ℕ) (l : Layout) (s2 pool2 : List ℕ) (l2 : Layout) (x : Pair) (h : HoldBoth s pool l s2 pool2 l2 x) where
  counts : length x.first ≡ l.count
  counts = h.first.laid.count

  rows_few : l.count + l2.count ≤ 2048
  rows_few = omega (arith, h.first.laid.few, h.second.laid.few)

  small : length pool ≤ file_limit
  small = pool_small s pool l x.first h.first

  other_small_lem : length pool2 ≤ file_limit
  other_small_lem = pool_small s2 pool2 l2 x.second h.second

  first_key : (r : ℕ) → r < l.count → keys_in x.first r ≡ row_key x r
  unfolding row_key
  first_key r b = sym (key_first_lem x.first x.second r (omega (arith, counts)))

  second_key : (r : ℕ) → l.count ≤ r → keys_in x.second (r - l.count) ≡ row_key x r
  unfolding row_key
  second_key r b = sym (key_second x.first x.second r (omega (arith, counts)) ∙ ap (λ (n : ℕ). keys_in x.second (r - n)) counts)

  row_none : row_own x 0 ≡ none
  unfolding row_own
  row_none = held_none (counted_of x.first x.second)

  own_file : (i : ℕ) (d : Option (Descriptor ℕ)) → descriptor_of_row x.first x.second i ≡ d → row_own x (suc i) ≡ map_own (reference_in (length x.first) i) d
  unfolding row_own counted_of
  own_file i d z = held_some (counted_of x.first x.second) (suc i) i refl ∙ ap (map_own (reference_in (length x.first) i)) z

  first_own : (i : ℕ) → i < l.count → row_own x (suc i) ≡ map_own (shifted 0) (descriptor_in x.first i)
  unfolding descriptor_of_row descriptor_in shifted
  first_own i b =
      let f : (r : ℕ) → reference_in (length x.first) i r ≡ shifted 0 r = λ r. reference_first x.first x.second i r (omega (arith, counts)) ∙ omega arith in
      own_file i (descriptor_in x.first i) (ap entry_descriptor (row_first x.first x.second i (omega (arith, counts)))) ∙ (λ j. map_own (λ r. f r j) (descriptor_in x.first i))

  second_own : (i : ℕ) → l.count ≤ i → row_own x (suc i) ≡ map_own (shifted l.count) (descriptor_in x.second (i - l.count))
  unfolding descriptor_of_row descriptor_in shifted
  second_own i b =
      let f : (r : ℕ) → reference_in (length x.first) i r ≡ shifted l.count r = λ r. omega (arith, reference_second x.first x.second i r (omega (arith, counts)), counts) in
      own_file i (descriptor_in x.second (i - l.count)) (ap entry_descriptor (row_second x.first x.second i (omega (arith, counts))) ∙ ap (λ (n : ℕ). descriptor_in x.second (i - n)) counts)
      ∙ (λ j. map_own (λ r. f r j) (descriptor_in x.second (i - l.count)))

  -- ---- what tables of pool pointers tell of row r

  module _ (names names₁ names₂ : List ℕ) (y : Noted (NameOf s l) names names₁ 0 l.count) (w : Noted (NameOf s2 l2) names₁ names₂ l.count l2.count) where
    pub name_led : (r : ℕ) → r < l.count + l2.count → Means pool pool2 (led_to l.count r (cell names₂ r)) (key_name (row_key x r))
    unfolding cell
    name_led r b = elim (dec_le l.count r) [
      | yes m ↦
          let t : Spells pool2 (get_or names₂ r 0) (key_name (row_key x r)) = rw (h.second.behind, ← second_key r m) ((Noted-behind (NameOf s2 l2) names₁ names₂ l.count l2.count w r m b).told x.second h.second.laid) in
          Means-there pool pool2 small other_small_lem (led_to l.count r (get_or names₂ r 0)) (get_or names₂ r 0) (key_name (row_key x r)) (led_high l.count r (get_or names₂ r 0) (λ z. omega (arith, t.leads.from)) m) t
      | no m ↦
          let a : r < l.count = omega arith in
          let t : Spells pool (get_or names₂ r 0) (key_name (row_key x r)) = rw (h.first.behind, ← first_key r a) ((Noted-still (NameOf s l) (NameOf s2 l2) names names₁ names₂ l.count l2.count y w r a).told x.first h.first.laid) in
          rw (led_low l.count r (get_or names₂ r 0) (λ z. omega (arith, t.leads.from)) a) (Means-here pool pool2 small other_small_lem (get_or names₂ r 0) (key_name (row_key x r)) t)
    ]

  module _ (spaces spaces₁ spaces₂ : List ℕ) (y : Noted (SpaceOf s l) spaces spaces₁ 0 l.count) (w : Noted (SpaceOf s2 l2) spaces₁ spaces₂ l.count l2.count) where
    pub space_led : (r : ℕ) → r < l.count + l2.count → SpaceLed pool pool2 (led_to l.count r (cell spaces₂ r)) (key_space (row_key x r))
    unfolding cell
    space_led r b = elim (dec_le l.count r) [
      | yes m ↦ there m (rw (h.second.behind, ← second_key r m) ((Noted-behind (SpaceOf s2 l2) spaces₁ spaces₂ l.count l2.count w r m b).told x.second h.second.laid))
      | no m ↦ let a : r < l.count = omega arith in here a (rw (h.first.behind, ← first_key r a) ((Noted-still (SpaceOf s l) (SpaceOf s2 l2) spaces spaces₁ spaces₂ l.count l2.count y w r a).told x.first h.first.laid))
    ]
      where
        here : r < l.count → SpellsSpace pool (get_or spaces₂ r 0) (key_space (row_key x r)) → SpaceLed pool pool2 (led_to l.count r (get_or spaces₂ r 0)) (key_space (row_key x r))
        here a (inl e) = inl (led_none l.count r (get_or spaces₂ r 0) e.0, e.1)
        here a (inr t) = inr (rw (led_low l.count r (get_or spaces₂ r 0) (λ z. omega (arith, t.leads.from)) a) (Means-here pool pool2 small other_small_lem (get_or spaces₂ r 0) (key_space (row_key x r)) t))

        there : l.count ≤ r → SpellsSpace pool2 (get_or spaces₂ r 0) (key_space (row_key x r)) → SpaceLed pool pool2 (led_to l.count r (get_or spaces₂ r 0)) (key_space (row_key x r))
        there m (inl e) = inl (led_none l.count r (get_or spaces₂ r 0) e.0, e.1)
        there m (inr t) = inr (Means-there pool pool2 small other_small_lem (led_to l.count r (get_or spaces₂ r 0)) (get_or spaces₂ r 0) (key_space (row_key x r)) (led_high l.count r (get_or spaces₂ r 0) (λ z. omega (arith, t.leads.from)) m) t)

  module _ (own own₁ own₂ : List ℕ) (y : Noted (OwnOf s l) own own₁ 0 l.count) (w : Noted (OwnOf s2 l2) own₁ own₂ l.count l2.count) where
    -- of the descriptor of row i
    first_led : (i p : ℕ) → i < l.count → ShowsOwn pool p (descriptor_in x.first i) → OwnLed pool pool2 l.count (led_to l.count i p) (row_own x (suc i))
    unfolding map_own
    first_led i p a o = elim (ℕ_discrete p 0) [
      | yes z ↦
          let e = led_none l.count i p z in
          record { absent = λ _. first_own i a ∙ ap (map_own (shifted 0)) (own_none pool p (descriptor_in x.first i) z o); here = λ n m. absurd (n e); there = λ m. absurd (omega (arith, e)) }
      | no z ↦
          let e = led_low l.count i p z a in
          let f = own_in_lem pool p (descriptor_in x.first i) small o in
          record { absent = λ q. absurd (z (sym e ∙ q)); here = λ n m. rw (e, first_own i a) (bodied s pool l x.first h.first i 0 p a (omega (arith, rows_few)) z o); there = λ m. absurd (omega (arith, e, f)) }
    ]

    second_led : (i p : ℕ) → l.count ≤ i → i < l.count + l2.count → ShowsOwn pool2 p (descriptor_in x.second (i - l.count)) → OwnLed pool pool2 l.count (led_to l.count i p) (row_own x (suc i))
    unfolding map_own
    second_led i p a b o = elim (ℕ_discrete p 0) [
      | yes z ↦
          let e = led_none l.count i p z in
          record { absent = λ _. second_own i a ∙ ap (map_own (shifted l.count)) (own_none pool2 p (descriptor_in x.second (i - l.count)) z o); here = λ n m. absurd (n e); there = λ m. absurd (omega (arith, e)) }
      | no z ↦
          let e = led_high l.count i p z a in
          let f : led_to l.count i p - file_limit - 1 ≡ p - 1 = omega (arith, e) in
          record {
            absent = λ q. absurd (omega (arith, e, q));
            here = λ n m. absurd (z (omega (arith, e, m)));
            there = λ m. rw (f, second_own i a) (bodied s2 pool2 l2 x.second h.second (i - l.count) l.count p (omega arith) rows_few z o);
          }
    ]

    pub own_led : (t : ℕ) → t ≤ l.count + l2.count → OwnLed pool pool2 l.count (led_held l.count own₂ t) (row_own x t)
    own_led t b = elim (ℕ_discrete t 0) [
      | yes z ↦
          let e = sym (held_zero l.count own₂ t z) in
          record { absent = λ _. ap (row_own x) z ∙ row_none; here = λ n m. absurd (n e); there = λ m. absurd (omega (arith, e)) }
      | no z ↦
          let i : t ≡ suc (t - 1) = omega arith in
          let e = sym (held_row l.count own₂ t z) in
          rw (e, ap (row_own x) i) (row (t - 1) (omega arith))
    ]
      where
        row : (i : ℕ) → i < l.count + l2.count → OwnLed pool pool2 l.count (led_to l.count i (get_or own₂ i 0)) (row_own x (suc i))
        row i c = elim (dec_le l.count i) [
          | yes m ↦ second_led i (get_or own₂ i 0) m c (rw h.second.behind ((Noted-behind (OwnOf s2 l2) own₁ own₂ l.count l2.count w i m c).told x.second h.second.laid))
          | no m ↦ let a : i < l.count = omega arith in first_led i (get_or own₂ i 0) a (rw h.first.behind ((Noted-still (OwnOf s l) (OwnOf s2 l2) own own₁ own₂ l.count l2.count y w i a).told x.first h.first.laid))
        ]

  -- ---- a view

  view_at : (iid holder : ℕ → ℕ) (t : List ℕ) (c q : ℕ) → q < c → get_or (view_entries x iid holder t c) q no_entry ≡ view_entry x iid holder (cell t q)
  unfolding view_entries
  view_at iid holder t c q m = span_at (λ q. view_entry x iid holder (cell t q)) c q no_entry m

  length_view : (iid holder : ℕ → ℕ) (t : List ℕ) (c : ℕ) → length (view_entries x iid holder t c) ≡ c
  unfolding view_entries
  length_view iid holder t c = length-span (λ q. view_entry x iid holder (cell t q)) c

  view_key : (iid holder : ℕ → ℕ) (r : ℕ) → entry_key (view_entry x iid holder r) ≡ row_key x r
  unfolding entry_key view_entry entry_of
  view_key iid holder r = refl

  view_own : (iid holder : ℕ → ℕ) (r : ℕ) → entry_descriptor (view_entry x iid holder r) ≡ row_own x (holder r)
  unfolding entry_descriptor view_entry entry_of
  view_own iid holder r = refl

  module _ (names names₁ names₂ spaces spaces₁ spaces₂ own own₁ own₂ : List ℕ)
      (n : Noted (NameOf s l) names names₁ 0 l.count) (n₂ : Noted (NameOf s2 l2) names₁ names₂ l.count l2.count)
      (v : Noted (SpaceOf s l) spaces spaces₁ 0 l.count) (v₂ : Noted (SpaceOf s2 l2) spaces₁ spaces₂ l.count l2.count)
      (o : Noted (OwnOf s l) own own₁ 0 l.count) (o₂ : Noted (OwnOf s2 l2) own₁ own₂ l.count l2.count)
      (t holders : List ℕ) (c : ℕ) (w : Viewed (l.count + l2.count) t holders c) where
    -- the tables that lead to the rows lead to the entries of the view
    pub view_Leading : (iid : ℕ → ℕ) (keys led bodies : List ℕ) → Filled keys c (led_row l.count names₂ t) → Filled led c (led_row l.count spaces₂ t) → Filled bodies c (led_body l.count own₂ t holders)
        → Leading pool pool2 l.count keys led bodies (view_entries x iid (cell holders) t c) c
    unfolding led_row led_body
    view_Leading iid keys led bodies f g k = record {
      count = sym (length_view iid (cell holders) t c);
      few = omega (arith, w.few);
      small = small;
      other_small = other_small_lem;
      keys = λ q m.
          let e = ap entry_key (view_at iid (cell holders) t c q m) ∙ view_key iid (cell holders) (cell t q) in
          rw (f.held q m, g.held q m, e) (record { name = name_led names names₁ names₂ n n₂ (cell t q) (w.rows q m); space = space_led spaces spaces₁ spaces₂ v v₂ (cell t q) (w.rows q m) });
      owns = λ q m.
          let e = ap entry_descriptor (view_at iid (cell holders) t c q m) ∙ view_own iid (cell holders) (cell t q) in
          rw (k.held q m, e) (own_led own own₁ own₂ o o₂ (cell holders (cell t q)) (w.held (cell t q) (w.rows q m)));
    }

    -- and their pointers are small
    first_Lies : Lies s l
    first_Lies = record { entries = x.first; laid = h.first.laid }

    second_Lies : Lies s2 l2
    second_Lies = record { entries = x.second; laid = h.second.laid }

    row_in : (q : ℕ) → q < c → cell t q < row_limit
    row_in q m = omega (arith, w.rows q m, rows_few)

    pub names_in_lem : PointersIn names₂ t c
    unfolding cell
    names_in_lem = record { few = omega (arith, w.few); row = row_in; small = λ q m. small_at (cell t q) (w.rows q m) }
      where
        small_at : (r : ℕ) → r < l.count + l2.count → get_or names₂ r 0 ≤ file_limit
        small_at r b = elim (dec_le l.count r) [
          | yes m ↦ name_fits s2 l2 (r - l.count) (get_or names₂ r 0) second_Lies (Noted-behind (NameOf s2 l2) names₁ names₂ l.count l2.count n₂ r m b).told
          | no m ↦ name_fits s l r (get_or names₂ r 0) first_Lies (Noted-still (NameOf s l) (NameOf s2 l2) names names₁ names₂ l.count l2.count n n₂ r (omega arith)).told
        ]

    pub spaces_in : PointersIn spaces₂ t c
    unfolding cell
    spaces_in = record { few = omega (arith, w.few); row = row_in; small = λ q m. small_at (cell t q) (w.rows q m) }
      where
        small_at : (r : ℕ) → r < l.count + l2.count → get_or spaces₂ r 0 ≤ file_limit
        small_at r b = elim (dec_le l.count r) [
          | yes m ↦ space_fits s2 l2 (r - l.count) (get_or spaces₂ r 0) second_Lies (Noted-behind (SpaceOf s2 l2) spaces₁ spaces₂ l.count l2.count v₂ r m b).told
          | no m ↦ space_fits s l r (get_or spaces₂ r 0) first_Lies (Noted-still (SpaceOf s l) (SpaceOf s2 l2) spaces spaces₁ spaces₂ l.count l2.count v v₂ r (omega arith)).told
        ]

    pub holders_in : HoldersIn own₂ t holders c
    unfolding cell
    holders_in = record { few = omega (arith, w.few); row = row_in; held = λ q m. held_at (cell holders (cell t q)) (w.held (cell t q) (w.rows q m)) }
      where
        small_at : (r : ℕ) → r < l.count + l2.count → get_or own₂ r 0 ≤ file_limit
        small_at r b = elim (dec_le l.count r) [
          | yes m ↦ own_fits s2 l2 (r - l.count) (get_or own₂ r 0) second_Lies (Noted-behind (OwnOf s2 l2) own₁ own₂ l.count l2.count o₂ r m b).told
          | no m ↦ own_fits s l r (get_or own₂ r 0) first_Lies (Noted-still (OwnOf s l) (OwnOf s2 l2) own own₁ own₂ l.count l2.count o o₂ r (omega arith)).told
        ]

        held_at : (j : ℕ) → j ≤ l.count + l2.count → HeldIn own₂ j
        held_at j b = record { row = omega (arith, rows_few); small = λ z. small_at (j - 1) (omega arith) }

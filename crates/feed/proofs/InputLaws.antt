-- What the steps of the feeder hand on.
-- Assumes nothing.
use mathlib.Core.Path.{◌≡◌, refl, sym, ap, ◌∙◌}
use mathlib.Core.Bool.{Bool, true, false}
use mathlib.Core.Logic.{◌⊎◌, inl, inr}
use mathlib.Core.List.{List, [], ◌∷◌, ◌++◌, append_assoc, append-nil}
use Prim.Native.Nat.{ℕ, suc, ◌+◌, ◌-◌, ◌≤◌, ◌<◌}
use native.Mathlib.Omega.{arith}
use native.Mathlib.Numerals.{add-one}
use native.Mathlib.Decide.{dec_lt}
use lib.ListN.{length, get_or, drop, length-drop}
use lib.Seq.{length-take-le, get_or-take, get_or-drop, take-add, drop-drop, drop-cons}
use Rattle.number.proofs.Choice.{is_true, is_false}
use Rattle.number.proofs.Scans.{below}
use Rattle.feed.specs.Lines.{Item, line, too_long, input_room, items_of, behind_newline}
use Rattle.feed.specs.declared.Feed.{Feed}
use Rattle.feed.specs.declared.Coming.{Coming}
use Rattle.feed.specs.declared.Coming.TheVariants as coming
use Rattle.feed.specs.Input.{between, NoNewline, FirstNewline, OneLine, Fed, unread, ahead, Hands, Starts, TakesLine, PassesLine, AsksMore, IsOver, Comes, Skips, Searched, feed_from}
use Rattle.feed.proofs.LineLaws.{behind_append, behind_line, behind_none, items_none, items_line, items_last, items_long}

-- ---- bytes of a list

module _ (s : List ℕ) where
  pub between_split : (i j k : ℕ) → i ≤ j → j ≤ k → between s i k ≡ between s i j ++ between s j k
  between_split i j k a b =
      let e : k - i ≡ (j - i) + (k - j) = omega arith in
      let f : i + (j - i) ≡ j = omega arith in
      rw (e, take-add (j - i) (k - j) (drop i s), drop-drop (j - i) i s, f)

  between-cons : (i k : ℕ) → i < k → i < length s → between s i k ≡ get_or s i 0 ∷ between s (i + 1) k
  between-cons i k h l =
      let e : k - i ≡ suc (k - (i + 1)) = omega arith in
      rw (e, drop-cons s i 0 l, add-one)

  pub length-between : (i k : ℕ) → k ≤ length s → length (between s i k) ≡ k - i
  length-between i k h = length-take-le (k - i) (drop i s) (omega (arith, length-drop i s))

  between_empty : (i k : ℕ) → k ≤ i → between s i k ≡ []
  between_empty i k h = let e : k - i ≡ 0 = omega arith in rw e

  -- ---- newlines

  pub none_empty : (from to : ℕ) → to ≤ from → NoNewline s from to
  none_empty from to h = record { each = λ k a b. absurd (omega arith) }

  pub none_next : (from i : ℕ) → NoNewline s from i → (get_or s i 0 ≡ 10 → ⊥) → NoNewline s from (i + 1)
  none_next from i n f = record { each = λ k a b. go k a (below k i (omega arith)) }
    where
      go : (k : ℕ) → from ≤ k → (k ≡ i) ⊎ (k < i) → get_or s k 0 ≡ 10 → ⊥
      go k a (inl e) = rw e f
      go k a (inr h) = n.each k a h

  none_join : (from mid to : ℕ) → NoNewline s from mid → NoNewline s mid to → NoNewline s from to
  none_join from mid to a b = record { each = λ k l h. elim (dec_lt k mid) [ yes c ↦ a.each k l c | no c ↦ b.each k (omega arith) h ] }

  -- a line has no newline
  pub one_line_lem : (from to : ℕ) → to ≤ length s → NoNewline s from to → OneLine (between s from to)
  one_line_lem from to m n =
      let size = length-between from to m in
      record { each = λ k a h e. n.each (from + k) (omega arith) (omega (arith, size)) (sym (get_or-take (to - from) (drop from s) k 0 (omega (arith, size)) ∙ get_or-drop from s k 0) ∙ e) }

  -- the search started behind what was seen
  pub first_whole : (f : Feed) (r : ℕ) → Fed s f → FirstNewline s f.seen f.end r → FirstNewline s f.from f.end r
  first_whole f r h n = record {
    ordered = omega (arith, h.ordered, n.ordered);
    inside = n.inside;
    none = none_join f.from f.seen r h.none n.none;
    found = n.found;
  }

  pub Fed-from : (f : Feed) (at : ℕ) (p : Bool) → at ≤ f.end → f.end ≤ input_room → Fed s (feed_from f at p)
  Fed-from f at p h m = record { ordered = omega arith; before = h; inside = m; none = none_empty at at (omega arith) }

-- ---- what is ahead

module _ (s : List ℕ) (f : Feed) (more : List ℕ) where
  ahead_plain : f.is_passing ≡ false → ahead s f more ≡ unread s f ++ more
  unfolding ahead
  ahead_plain e = sym (is_false _ _ _ e refl)

  ahead_passing : f.is_passing ≡ true → ahead s f more ≡ behind_newline (unread s f ++ more)
  unfolding ahead
  ahead_passing e = sym (is_true _ _ _ e refl)

-- what is handed on is taken off what is ahead
Hands-by : (s : List ℕ) (f g : Feed) (items : List Item) → g.is_over ≡ f.is_over
    → ((more : List ℕ) → (f.is_over ≡ true → more ≡ []) → items_of (ahead s f more) ≡ items ++ items_of (ahead s g more)) → Hands s f items g
Hands-by s f g items e k past handed r = record {
  whole = λ more h.
      let l : f.is_over ≡ true → more ≡ [] = λ q. h (e ∙ q) in
      r.whole more l ∙ ap (λ (t : List Item). handed ++ t) (k more l) ∙ sym (append_assoc handed items (items_of (ahead s g more)));
}

module _ (s : List ℕ) (f : Feed) where
  -- nothing is handed on
  pub same_Hands : (g : Feed) → g.is_over ≡ f.is_over → ((more : List ℕ) → ahead s f more ≡ ahead s g more) → Hands s f [] g
  same_Hands g e k = Hands-by s f g [] e (λ more _. ap items_of (k more))

  -- all was handed on
  pub over_all : f.is_over ≡ true → items_of (ahead s f []) ≡ [] → IsOver s f
  over_all e k = record { over = e; all = λ past handed r. sym (ap items_of (sym (append-nil past)) ∙ r.whole [] (λ _. refl) ∙ ap (λ (t : List Item). handed ++ t) k ∙ append-nil handed) }

module _ (s : List ℕ) (f : Feed) (stop : ℕ) (d : Fed s f) (m : f.end ≤ length s) (n : FirstNewline s f.from f.end stop) (h : stop < f.end) where
  -- the newline, and what stands around it
  parted : (more : List ℕ) → unread s f ++ more ≡ between s f.from stop ++ (10 ∷ (between s (stop + 1) f.end ++ more))
  parted more =
      let o : stop < length s = omega arith in
      rw (between_split s f.from stop f.end n.ordered n.inside, between-cons s stop f.end h o, n.found h, append_assoc (between s f.from stop) (10 ∷ between s (stop + 1) f.end) more)

  one : OneLine (between s f.from stop)
  one = one_line_lem s f.from stop (omega arith) n.none

  line-Hands : f.is_passing ≡ false → Hands s f (line (between s f.from stop) ∷ []) (feed_from f (stop + 1) false)
  line-Hands e = Hands-by s f (feed_from f (stop + 1) false) _ refl (λ more _.
      ap items_of (ahead_plain s f more e ∙ parted more)
      ∙ items_line (between s f.from stop) _ one (omega (arith, length-between s f.from stop (omega arith), n.ordered, d.inside))
      ∙ ap (λ (t : List ℕ). line (between s f.from stop) ∷ items_of t) (sym (ahead_plain s (feed_from f (stop + 1) false) more refl)))

  skip_Hands : f.is_passing ≡ true → Hands s f [] (feed_from f (stop + 1) false)
  skip_Hands e = Hands-by s f (feed_from f (stop + 1) false) [] refl (λ more _.
      ap items_of (ahead_passing s f more e ∙ ap behind_newline (parted more) ∙ behind_line (between s f.from stop) _ one ∙ sym (ahead_plain s (feed_from f (stop + 1) false) more refl)))

  pub takes_line : f.is_passing ≡ false → TakesLine s f (record { from = f.from; end = stop; feed = feed_from f (stop + 1) false })
  takes_line e = record { ordered = n.ordered; inside = omega (arith, d.inside); one = one; fed = Fed-from s f (stop + 1) false (omega arith) d.inside; hands = line-Hands e }

  pub Skips-line : f.is_passing ≡ true → Skips s f (feed_from f (stop + 1) false)
  Skips-line e = record { fed = Fed-from s f (stop + 1) false (omega arith) d.inside; over = refl; empty = λ q. absurd (let z : ◌≡◌ {A = ℕ} 0 1 = cc q in omega arith); hands = skip_Hands e }

module _ (s : List ℕ) (f : Feed) (m : f.end ≤ length s) (n : NoNewline s f.from f.end) where
  whole_line : OneLine (unread s f)
  whole_line = one_line_lem s f.from f.end m n

  -- nothing of what is unread is left
  after_all : (p : Bool) (more : List ℕ) → unread s (feed_from f f.end p) ++ more ≡ more
  after_all p more = rw (between_empty s f.end f.end (omega arith))

  drained_Hands : f.is_passing ≡ true → Hands s f [] (feed_from f f.end true)
  drained_Hands e = Hands-by s f (feed_from f f.end true) [] refl (λ more _.
      ap items_of (ahead_passing s f more e ∙ behind_append (unread s f) more whole_line ∙ sym (ahead_passing s (feed_from f f.end true) more refl ∙ ap behind_newline (after_all true more))))

  long_Hands : f.is_passing ≡ false → input_room ≤ f.end - f.from → Hands s f (too_long ∷ []) (feed_from f f.end true)
  long_Hands e l = Hands-by s f (feed_from f f.end true) _ refl (λ more _.
      ap items_of (ahead_plain s f more e)
      ∙ items_long (unread s f) more whole_line (omega (arith, length-between s f.from f.end m))
      ∙ ap (λ (t : List ℕ). too_long ∷ items_of t) (sym (ahead_passing s (feed_from f f.end true) more refl ∙ ap behind_newline (after_all true more))))

  last_Hands : f.is_passing ≡ false → f.is_over ≡ true → f.from < f.end → f.end - f.from < input_room → Hands s f (line (unread s f) ∷ []) (feed_from f f.end false)
  last_Hands e o h l = Hands-by s f (feed_from f f.end false) _ refl (λ more k. go more (k o))
    where
      go : (more : List ℕ) → more ≡ [] → items_of (ahead s f more) ≡ line (unread s f) ∷ items_of (ahead s (feed_from f f.end false) more)
      go more z =
          ap items_of (ahead_plain s f more e ∙ rw (z, append-nil (unread s f)))
          ∙ items_last (unread s f) whole_line (omega (arith, length-between s f.from f.end m)) (omega (arith, length-between s f.from f.end m))
          ∙ ap (λ (t : List Item). line (unread s f) ∷ t) (sym (ap items_of (ahead_plain s (feed_from f f.end false) more refl ∙ after_all false more ∙ z) ∙ items_none))

  Skips-buffer : f.end ≤ input_room → f.is_passing ≡ true → Skips s f (feed_from f f.end true)
  Skips-buffer u e = record { fed = Fed-from s f f.end true (omega arith) u; over = refl; empty = λ _. refl; hands = drained_Hands e }

module _ (s : List ℕ) (f : Feed) (d : Fed s f) where
  pub Skips-none : f.is_passing ≡ false → Skips s f f
  Skips-none e = record { fed = d; over = refl; empty = λ q. absurd (let z : ◌≡◌ {A = ℕ} 0 1 = cc in omega arith); hands = same_Hands s f f refl (λ more. refl) }

  module _ (stop : ℕ) (m : f.end ≤ length s) (n : FirstNewline s f.seen f.end stop) (h : f.end ≤ stop) where
    none_unread : NoNewline s f.from f.end
    none_unread = let e : f.end ≡ stop = omega (arith, n.inside) in rw e (first_whole s f stop d n).none

    pub Skips-all : f.is_passing ≡ true → Skips s f (feed_from f stop true)
    Skips-all e = let q : stop ≡ f.end = omega (arith, n.inside) in rw q (Skips-buffer s f m none_unread d.inside e)

    pub searched : f.is_passing ≡ false → Searched s f
    searched e = record { ordered = omega (arith, d.ordered, d.before); inside = d.inside; held = m; none = none_unread; plain = e }

module _ (s : List ℕ) (f : Feed) (d : Searched s f) where
  pub passes_line : input_room ≤ f.end - f.from → PassesLine s f (feed_from f f.end true)
  passes_line l = record { fed = Fed-from s f f.end true (omega arith) d.inside; hands = long_Hands s f d.held d.none d.plain l }

  pub takes_last : f.end - f.from < input_room → f.is_over ≡ true → (f.from ≡ f.end → ⊥) → TakesLine s f (record { from = f.from; end = f.end; feed = feed_from f f.end false })
  takes_last l o h = record {
    ordered = d.ordered;
    inside = d.inside;
    one = whole_line s f d.held d.none;
    fed = Fed-from s f f.end false (omega arith) d.inside;
    hands = last_Hands s f d.held d.none d.plain o (omega (arith, d.ordered, h)) l;
  }

  pub over_plain : f.is_over ≡ true → f.from ≡ f.end → IsOver s f
  over_plain o h = over_all s f o (ap items_of (ahead_plain s f [] d.plain ∙ append-nil (unread s f) ∙ between_empty s f.from f.end (omega (arith, h))) ∙ items_none)

  pub asks_more : f.end - f.from < input_room → f.is_over ≡ false → AsksMore s f (record { from = f.from; seen = f.end; end = f.end; is_passing = false; is_over = false })
  asks_more l o = record {
    fed = record { ordered = d.ordered; before = omega arith; inside = d.inside; none = d.none };
    room = l;
    unended = refl;
    none = d.none;
    hands = same_Hands s f _ (sym o) (λ more. ahead_plain s f more d.plain ∙ sym (ahead_plain s (record { from = f.from; seen = f.end; end = f.end; is_passing = false; is_over = false }) more refl));
  }

-- ---- what comes after a line was passed over

module _ (s : List ℕ) (f g : Feed) (k : Skips s f g) where
  -- handing on nothing first changes nothing
  then_Hands : (items : List Item) (h : Feed) → Hands s g items h → Hands s f items h
  then_Hands items h a past handed r = rw (append-nil handed) at (a past (handed ++ []) (k.hands past handed r))

  pub then_Comes : (r : Coming) → Comes s g r → Comes s f r
  then_Comes (coming.Line t) c = record { ordered = c.ordered; inside = c.inside; one = c.one; fed = c.fed; hands = then_Hands _ _ c.hands }
  then_Comes (coming.TooLong h) c = record { fed = c.fed; hands = then_Hands _ _ c.hands }
  then_Comes (coming.More h) c = record { fed = c.fed; room = c.room; unended = c.unended; none = c.none; hands = then_Hands _ _ c.hands }
  then_Comes coming.Over c = record { over = sym k.over ∙ c.over; all = λ past handed r. rw (append-nil handed) at (c.all past (handed ++ []) (k.hands past handed r)) }

  pub over_passing : g.is_passing ≡ true → g.is_over ≡ true → IsOver s g
  over_passing p o = over_all s g o (ap items_of (ahead_passing s g [] p ∙ ap behind_newline (append-nil (unread s g) ∙ between_empty s g.from g.end (omega (arith, k.empty p))) ∙ behind_none [] (none_empty [] 0 0 (omega arith))) ∙ items_none)

  pub more_passing : g.is_passing ≡ true → g.is_over ≡ false → AsksMore s f g
  more_passing p o = record { fed = k.fed; room = omega (arith, k.empty p); unended = o; none = none_empty s g.from g.end (omega (arith, k.empty p)); hands = k.hands }

pub starts : (f : Feed) → f ≡ record { from = 0; seen = 0; end = 0; is_passing = false; is_over = false } → Starts f
starts f e = rw e (record {
  fed = λ s. record { ordered = omega arith; before = omega arith; inside = omega arith; none = none_empty s 0 0 (omega arith) };
  reads = λ s. record { whole = λ more _. ap items_of (sym (ahead_plain s (record { from = 0; seen = 0; end = 0; is_passing = false; is_over = false }) more refl)) };
})

-- What is moved to the front of the buffer, and what is read behind it.
-- Assumes nothing.
use mathlib.Core.Path.{◌≡◌, refl, sym, ap, ◌∙◌}
use mathlib.Core.Bool.{Bool, true, false, not}
use Rattle.std.specs.Prelude.{None, Option, Some, is_some, is_none}
use mathlib.Core.Logic.{◌⊎◌, inl, inr}
use mathlib.Core.List.{List, ◌++◌, append_assoc}
use Prim.Native.Nat.{ℕ, zero, suc, ◌+◌, ◌-◌, ◌≤◌, ◌<◌}
use native.Mathlib.Omega.{arith}
use borrow.Author.Tests.{eq-eqb, ne_eqb}
use lib.Dec.{eqb}
use lib.ListN.{length, get_or, take, drop, set}
use lib.Seq.{length-take-le, get_or-take, get_or-drop, get_or-set_same, get_or-set_other, take-add, take_at, ext_get_or}
use Rattle.number.specs.Choice.{when◌then◌else◌, ◌=?◌}
use Rattle.number.proofs.Choice.{yes_eq, not_eq}
use Rattle.number.proofs.Scans.{below}
use Rattle.feed.specs.Lines.{Item, input_room, items_of, behind_newline}
use Rattle.feed.specs.declared.Feed.{Feed}
use Rattle.feed.specs.declared.Came.{Came}
use Rattle.feed.specs.Input.{between, Fed, unread, ahead, Reads, new_bytes, Adds, MovedDown, count_of, ReadBehind}
use Rattle.feed.proofs.InputLaws.{length-between}

-- ---- moving to the front

-- the first i bytes of t come from `from` on in s, and the rest is as in s
pub record MovedTo (s : List ℕ) (from i : ℕ) (t : List ℕ) : Type 0 where
  pub moved : (k : ℕ) → k < i → get_or t k 0 ≡ get_or s (from + k) 0
  pub rest : (k : ℕ) → i ≤ k → get_or t k 0 ≡ get_or s k 0

pub moved_start : (s : List ℕ) (from : ℕ) → MovedTo s from 0 s
moved_start s from = record { moved = λ k h. absurd (omega arith); rest = λ k h. refl }

pub moved_next : (s : List ℕ) (from i : ℕ) (t : List ℕ) → i < length t → MovedTo s from i t → MovedTo s from (i + 1) (set t i (get_or t (from + i) 0))
moved_next s from i t h m = record {
  moved = λ k l. go k (below k i (omega arith));
  rest = λ k l. get_or-set_other t i k (get_or t (from + i) 0) 0 (λ e. omega arith) ∙ m.rest k (omega arith);
}
  where
    go : (k : ℕ) → (k ≡ i) ⊎ (k < i) → get_or (set t i (get_or t (from + i) 0)) k 0 ≡ get_or s (from + k) 0
    go k (inl e) = rw e (get_or-set_same t i (get_or t (from + i) 0) 0 h ∙ m.rest (from + i) (omega arith))
    go k (inr l) = get_or-set_other t i k (get_or t (from + i) 0) 0 (λ e. omega arith) ∙ m.moved k l

module _ (s : List ℕ) (from end : ℕ) where
  -- what stands at the front stays
  pub moved_none : from ≡ 0 → MovedDown s from end end s
  moved_none e = let z : end - 0 ≡ end = omega arith in record { length = omega arith; whole = rw (e, z) }

  pub moved_all : (i : ℕ) (t : List ℕ) → i ≡ end - from → end ≤ length s → length t ≡ length s → MovedTo s from i t → MovedDown s from end i t
  moved_all i t e h l m =
      let a = length-take-le i t (omega arith) in
      let b = length-between s from end h in
      record {
        length = e;
        whole = ext_get_or 0 (take i t) (between s from end) (omega (arith, a, b)) (λ k o. get_or-take i t k 0 (omega (arith, a)) ∙ m.moved k (omega (arith, a)) ∙ sym (get_or-take (end - from) (drop from s) k 0 (omega (arith, a)) ∙ get_or-drop from s k 0));
      }

-- ---- reading behind it

-- what stands before a part that was lent
pub front_kept : (l ys : List ℕ) (at : ℕ) → at ≤ length l → take at (take at l ++ ys) ≡ take at l
front_kept l ys at h = take_at (take at l) ys at (length-take-le at l h)

count_none : (n k m : ℕ) → k ≡ m → eqb n 0 ≡ ((k + n) =? m)
count_none zero k m e = sym (yes_eq (k + 0) m (omega arith))
count_none (suc n) k m e = ne_eqb (suc n) 0 (λ z. omega arith) ∙ sym (not_eq (k + suc n) m (λ z. omega arith))

-- ahead of the feed is the same, whether it was read or comes
ahead_same : (p : Bool) (x y : List ℕ) → x ≡ y → (when p then behind_newline x else x) ≡ (when p then behind_newline y else y)
ahead_same p x y e = ap (λ (t : List ℕ). when p then behind_newline t else t) e

-- the read failed where `is_none` says so
pub none_told : (a : Option ℕ) (b : Bool) → is_some a ≡ not b → b ≡ is_none a
none_told a true e = sym (ap not e)
none_told a false e = sym (ap not e)

-- none came then
none_came : (a : Option ℕ) → is_none a ≡ true → count_of a ≡ 0
none_came None e = refl
none_came (Some n) e = absurd (let z : ◌≡◌ {A = ℕ} 0 1 = cc in omega arith)

module _ (s t u : List ℕ) (f : Feed) (kept : ℕ) (a : Option ℕ) (d : Fed s f) (m : MovedDown s f.from f.end kept t) (r : ReadBehind t kept a u) where
  abbrev after : Feed
  after = record { from = 0; seen = f.seen - f.from; end = kept + count_of a; is_passing = f.is_passing; is_over = eqb (count_of a) 0 }

  abbrev came : Came
  came = record { feed = after; is_failed = is_none a }

  front : take kept u ≡ unread s f
  front = r.before ∙ m.whole

  unread_more : unread u after ≡ unread s f ++ new_bytes f came u
  unread_more =
      let e : f.end - f.from ≡ kept = sym m.length in
      let z : (kept + count_of a) - 0 ≡ kept + count_of a = omega arith in
      let w : (kept + count_of a) - kept ≡ count_of a = omega arith in
      rw (z, take-add kept (count_of a) u, front, e, w)

  read_adds : f.is_over ≡ false → (past : List ℕ) (handed : List Item) → Reads past handed f s → Reads (past ++ new_bytes f came u) handed after u
  unfolding ahead
  read_adds o past handed q = record {
    whole = λ more h.
        ap items_of (append_assoc past (new_bytes f came u) more)
        ∙ q.whole (new_bytes f came u ++ more) (λ y. absurd (let z : ◌≡◌ {A = ℕ} 0 1 = cc in omega arith))
        ∙ ap (λ (x : List ℕ). handed ++ items_of x) (ahead_same f.is_passing _ _ (sym (append_assoc (unread s f) (new_bytes f came u) more) ∙ ap (λ (x : List ℕ). x ++ more) (sym unread_more)));
  }

  byte_kept : (k : ℕ) → k < kept → get_or u k 0 ≡ get_or s (f.from + k) 0
  byte_kept k h = sym (get_or-take kept u k 0 h) ∙ ap (λ (x : List ℕ). get_or x k 0) front ∙ get_or-take (f.end - f.from) (drop f.from s) k 0 (omega (arith, m.length)) ∙ get_or-drop f.from s k 0

  pub Adds-more : input_room ≡ length t → f.is_over ≡ false → Adds s f came u
  Adds-more l o = record {
    fed = record {
      ordered = omega arith;
      before = omega (arith, m.length, d.before);
      inside = omega (arith, r.inside);
      none = record { each = λ k x y z. d.none.each (f.from + k) (omega arith) (omega (arith, d.ordered)) (sym (byte_kept k (omega (arith, m.length, d.before))) ∙ z) };
    };
    adds = read_adds o;
    over = count_none (count_of a) kept (f.end - f.from) m.length;
    failed = λ e. eq-eqb (count_of a) 0 (none_came a e);
  }

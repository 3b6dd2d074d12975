-- Answers that begin, and buffers of what is left.
-- Assumes nothing.
use Rattle.std.specs.Prelude.{None, Option, Some}
use mathlib.Core.Path.{◌≡◌, refl, sym, ap, ◌∙◌}
use mathlib.Core.Bool.{Bool, true, false}
use mathlib.Core.Logic.{inr}
use mathlib.Core.List.{List, [], ◌++◌, append_assoc}
use Prim.Native.Nat.{ℕ, ◌+◌, ◌<◌}
use native.Mathlib.Omega.{arith}
use lib.ListN.{length, take, drop, length-drop, take-append-drop, drop_of_length-le}
use lib.Seq.{length-sets, length-take-le, drop-drop}
use Rattle.number.proofs.Choice.{from_yes_le, from_not_le}
use Rattle.lines.specs.declared.Cursor.TheVariants.{Done}
use Rattle.lines.specs.Cursor.{turns}
use Rattle.said.specs.declared.Said.{Said}
use Rattle.said.specs.declared.Why.TheVariants.{Answered}
use Rattle.said.specs.Saying.{Saying, Says, saying}
use Rattle.listed.specs.declared.Rest.{Rest}
use Rattle.listed.specs.declared.Opened.{Opened}
use Rattle.listed.specs.declared.More.{More}
use Rattle.listed.specs.Text.{shown, closing}
use Rattle.listed.specs.Rest as left
use Rattle.listed.proofs.RestLaws.{shown_both, length-shown, length_kept, shown-sets, rest_Left, rest_few}
use Rattle.listed.proofs.OpenLaws as listed
use Rattle.rdb_parts.specs.declared.PartAnswer.{PartAnswer}
use Rattle.rdb_told.specs.declared.Filled.{Filled}
use Rattle.rdb_told.specs.Told.{part_text, say_part, Small}
use Rattle.rdb_told.specs.Fills.{buffer_room, Fills}
use Rattle.rdb_path.specs.Reached.{Checked}
use Rattle.rdb_lines.specs.declared.Cursor.{Cursor}
use Rattle.rdb_lines.specs.declared.Filled as wrote
use Rattle.rdb_lines.specs.Rest as lines
use Rattle.streamed.specs.declared.Telling.{Telling}
use Rattle.streamed.specs.declared.Stream.{Stream}
use Rattle.streamed.specs.declared.Stream.TheVariants.{Lines, Part, Paths}
use Rattle.streamed.specs.declared.Begun.{Begun}
use Rattle.streamed.specs.Stream as stream
use Rattle.streamed.specs.Stream.{no_rest, spoken, listing, telling, after_part, after_paths, buffers, is_over, LeftOf, Opens, Turned}

-- ---- what an answer begins with

-- a line that is said is all of the answer
pub Says-Opens : (b : Bool) (x : Saying) (s before : List ℕ) (said : Said) (rest : Stream) (after : List ℕ) → Says x before said after → rest ≡ no_rest → Opens b x s before (record { said = said; rest = rest }) after
Says-Opens b x s before said rest after h e = rw e (listed.Says-Opens b x s before said left.no_rest after h refl)

module _ (b : Bool) (x : Saying) (s before after : List ℕ) where
  pub said_Opens : (said : Said) {r : Begun} → Says x before said after → r ≡ spoken said → Opens b x s before r after
  said_Opens said h e = rw e (Says-Opens b x s before said no_rest after h refl)

  pub listing-Opens : (begun : Opened) {r : Begun} → left.Opens b x s before begun after → r ≡ listing begun → Opens b x s before r after
  listing-Opens begun h e = rw e h

-- the line about a part is all left
pub telling-Opens : (b : Bool) (s before : List ℕ) (a : PartAnswer) {r : Begun} → Small s a → r ≡ telling a → Opens b (say_part s a) s before r before
unfolding say_part
telling-Opens b s before a h e = rw e (record {
  bytes = [];
  rest = part_text s a;
  split = refl;
  long = refl;
  fits = omega arith;
  why = refl;
  stored = refl;
  left = record { small = h; whole = refl };
})

-- the paths are all left
pub paths-Opens : (b : Bool) (s before : List ℕ) {r : Begun} → Checked s → r ≡ stream.paths → Opens b (saying (shown b (lines.paths_text s) ++ closing b) Answered) s before r before
unfolding lines.paths_text lines.left_at
paths-Opens b s before h e = rw e (record {
  bytes = [];
  rest = shown b (lines.paths_text s) ++ closing b;
  split = refl;
  long = refl;
  fits = omega arith;
  why = refl;
  stored = refl;
  left = record { begun = record { checked = h; near = omega arith }; whole = refl };
})

-- ---- what is left after a buffer

pub lines-Turned : (b : Bool) (s before : List ℕ) (x : Rest) (more : More) (after : List ℕ) → left.Filled b s x before more after → Turned b s (Lines x) before (record { length = more.length; rest = Lines more.rest }) after
unfolding is_over buffers
lines-Turned b s before x more after h = record { each = λ text g. h.each text g; fewer = h.fewer; inside = h.inside }

module _ (b : Bool) (s before : List ℕ) (x : Telling) (f : Filled) (z : Stream) (after : List ℕ) (small : Small s x.answer) (h : Fills (part_text s x.answer) x.place before f after) (k : z ≡ after_part x.answer f.place f.ends) where
  -- the line goes on after the buffer, or ended in it
  goes : (t : Bool) → f.ends ≡ t → LeftOf b s (after_part x.answer f.place t) (drop buffer_room (drop x.place (part_text s x.answer))) × (buffers s (after_part x.answer f.place t) < buffers s (Part x))
  unfolding after_part buffers left.buffers_at
  goes true e =
      let line = part_text s x.answer in
      let o = from_yes_le (length line) (x.place + buffer_room) (sym h.last ∙ e) in
      (drop-drop buffer_room x.place line ∙ drop_of_length-le line o, omega arith)
  goes false e =
      let line = part_text s x.answer in
      let o = from_not_le (length line) (x.place + buffer_room) (sym h.last ∙ e) in
      let n : f.length ≡ buffer_room = h.long ∙ length-take-le buffer_room (drop x.place line) (omega (arith, length-drop x.place line)) in
      let p : f.place ≡ x.place + buffer_room = omega (arith, h.next) in
      (record { small = small; whole = drop-drop buffer_room x.place line ∙ ap (λ (i : ℕ). drop i line) (sym p) }, omega arith)

  pub part-Turned : Turned b s (Part x) before (record { length = f.length; rest = z }) after
  part-Turned =
      let now = drop x.place (part_text s x.answer) in
      record {
        each = λ text g. record { bytes = take buffer_room now; rest = drop buffer_room now; split = g.whole ∙ sym (take-append-drop buffer_room now); long = h.long; stored = h.stored; left = rw k (goes f.ends refl).0 };
        fewer = inr (rw k (goes f.ends refl).1);
        inside = h.inside;
      }

-- ---- paths

paths_left : (b : Bool) (s : List ℕ) → Checked s → (r : Option Cursor) → lines.Near r → LeftOf b s (after_paths b r) (shown b (lines.left_in s r) ++ closing b)
unfolding after_paths lines.left_in
paths_left b s h None n = rest_Left b s (record { count = 0; directory = 0; pool = 0 }) (omega arith) Done [] refl
paths_left b s h (Some c) n = record { begun = record { checked = h; near = n }; whole = refl }

paths_fewer : (b : Bool) (s : List ℕ) (c : Cursor) (r : Option Cursor) → lines.buffers s r < lines.buffers s (Some c) → buffers s (after_paths b r) < buffers s (Paths c)
unfolding after_paths buffers lines.buffers turns
paths_fewer b s c None h = omega (arith, rest_few b (record { count = 0; directory = 0; pool = 0 }) Done)
paths_fewer b s c (Some d) h = omega arith

-- a buffer was filled from a cursor on, and shown
pub paths-Turned : (b : Bool) (s before mid : List ℕ) (c : Cursor) (f : wrote.Filled) (z : Stream) (after : List ℕ) → lines.Begun s c → lines.Fills s c before f mid → after ≡ shown b (take f.length mid) ++ drop f.length mid → z ≡ after_paths b f.rest
    → Turned b s (Paths c) before (record { length = f.length; rest = z }) after
paths-Turned b s before mid c f z after g h e k = record {
  each = λ text t. record {
    bytes = shown b h.bytes;
    rest = shown b (lines.left_in s f.rest) ++ closing b;
    split = t.whole ∙ ap (λ (x : List ℕ). shown b x ++ closing b) h.split ∙ ap (λ (x : List ℕ). x ++ closing b) (shown_both b h.bytes (lines.left_in s f.rest)) ∙ append_assoc (shown b h.bytes) (shown b (lines.left_in s f.rest)) (closing b);
    long = h.long ∙ sym (length-shown b h.bytes);
    stored = e ∙ shown-sets b before h.bytes mid f.length h.long (omega (arith, h.inside, ap (λ (l : List ℕ). length l) h.stored ∙ length-sets before 0 h.bytes)) h.stored;
    left = rw k (paths_left b s g.checked f.rest h.near);
  };
  fewer = inr (rw k (paths_fewer b s c f.rest h.fewer));
  inside = rw (e, length_kept b mid f.length) h.inside;
}

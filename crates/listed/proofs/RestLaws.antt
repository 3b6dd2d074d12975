-- A listing within one line, and what is left of it.
-- Assumes nothing.
use mathlib.Core.Path.{◌≡◌, refl, sym, ap, ◌∙◌}
use mathlib.Core.Bool.{Bool, true, false}
use mathlib.Core.Logic.{inr}
use mathlib.Core.List.{List, [], ◌∷◌, ◌++◌, map-append, append_assoc}
use Prim.Native.Nat.{ℕ, suc, ◌+◌, ◌≤◌, ◌<◌}
use native.Mathlib.Nat.{zero-add}
use native.Mathlib.Omega.{arith}
use lib.ListN.{length, length-append, take, drop, take-append-drop}
use lib.Seq.{sets, sets-eq, drop_at}
use Rattle.number.specs.Choice.{when◌then◌else◌}
use Rattle.decimal.proofs.Stores.{front}
use Rattle.reader.specs.declared.Layout.{Layout}
use Rattle.lines.specs.declared.Cursor.{Cursor}
use Rattle.lines.specs.declared.Cursor.TheVariants.{Done, AtEntry, AtMethods, AtConstants, AtTable}
use Rattle.lines.specs.declared.Filled.{Filled}
use Rattle.lines.specs.Tabs.{tab, tabbed}
use Rattle.lines.specs.Cursor.{Left, is_done, turns, Filling}
use Rattle.lines.proofs.FillLaws.{falls}
use Rattle.text.proofs.WritingLaws.{Wrote-length}
use Rattle.listed.specs.declared.Next.TheVariants.{At}
use Rattle.listed.specs.declared.Rest.{Rest}
use Rattle.listed.specs.Text.{shown, closing}
use Rattle.listed.specs.Rest as rest

pub shown_tabs : (b : Bool) (l ys : List ℕ) (n : ℕ) → b ≡ true → ys ≡ tabbed (take n l) → ys ++ drop n l ≡ shown b (take n l) ++ drop n l
unfolding shown
shown_tabs b l ys n t e = rw (t, e) refl

pub shown_plain : (b : Bool) (l : List ℕ) (n : ℕ) → b ≡ false → l ≡ shown b (take n l) ++ drop n l
unfolding shown
shown_plain b l n t = rw t (sym (take-append-drop n l))

pub shown_both : (b : Bool) (x y : List ℕ) → shown b (x ++ y) ≡ shown b x ++ shown b y
unfolding shown tabbed
shown_both true x y = map-append tab x y
shown_both false x y = refl

pub length-shown : (b : Bool) (x : List ℕ) → length (shown b x) ≡ length x
unfolding shown tabbed
length-shown true [] = refl
length-shown true (b ∷ x) = ap suc (length-shown true x)
length-shown false x = refl

pub length_kept : (b : Bool) (l : List ℕ) (n : ℕ) → length (shown b (take n l) ++ drop n l) ≡ length l
length_kept b l n =
    let e : length (take n l) + length (drop n l) ≡ length l = sym (length-append (take n l) (drop n l)) ∙ ap length (take-append-drop n l) in
    rw (length-append, length-shown) e

sets_front : (vs l : List ℕ) → length vs ≤ length l → sets l 0 vs ≡ vs ++ drop (length vs) l
sets_front vs l h = sets-eq vs l 0 (omega arith) ∙ ap (λ (k : ℕ). vs ++ drop k l) (zero-add (length vs))

-- what was stored at the front is shown
pub shown-sets : (b : Bool) (l bytes after : List ℕ) (n : ℕ) → n ≡ length bytes → n ≤ length l → after ≡ sets l 0 bytes → shown b (take n after) ++ drop n after ≡ sets l 0 (shown b bytes)
shown-sets b l bytes after n e h s =
    let w : after ≡ bytes ++ drop (length bytes) l = s ∙ sets_front bytes l (omega arith) in
    let f : take n after ≡ bytes = ap (λ (k : ℕ). take k after) e ∙ ap (take (length bytes)) s ∙ front l bytes (omega arith) in
    let d : drop n after ≡ drop (length bytes) l = ap (drop n) w ∙ drop_at bytes (drop (length bytes) l) n (sym e) in
    let k : length (shown b bytes) ≡ length bytes = length-shown b bytes in
    ap (λ (x : List ℕ). shown b x ++ drop n after) f ∙ ap (λ (x : List ℕ). shown b bytes ++ x) d
    ∙ sym (sets_front (shown b bytes) l (omega arith) ∙ ap (λ (j : ℕ). shown b bytes ++ drop j l) k)

-- what is left at a cursor, and behind its last line
module _ (b : Bool) (s : List ℕ) (l : Layout) (inside : l.pool ≤ length s) where
  pub rest_Left : (c : Cursor) (lines : List ℕ) → Left s l c lines → rest.LeftIn b s (rest.rest_of l b c) (shown b lines ++ closing b)
  unfolding rest.rest_of rest.after_lines shown tabbed closing is_done when◌then◌else◌
  rest_Left Done lines h = done b lines h
    where
      done : (b : Bool) (lines : List ℕ) → lines ≡ [] → rest.LeftAt b s l (rest.after_lines b) (shown b lines ++ closing b)
      done true lines e = rw e refl
      done false lines e = rw e refl
  rest_Left (AtEntry i) lines h = record { going = refl; inside = inside; lines = lines; left = h; whole = refl }
  rest_Left (AtMethods m) lines h = record { going = refl; inside = inside; lines = lines; left = h; whole = refl }
  rest_Left (AtConstants k) lines h = record { going = refl; inside = inside; lines = lines; left = h; whole = refl }
  rest_Left (AtTable t) lines h = record { going = refl; inside = inside; lines = lines; left = h; whole = refl }

pub rest_few : (b : Bool) (l : Layout) (c : Cursor) → rest.buffers (rest.rest_of l b c) ≤ 2 + turns l.count c
unfolding rest.rest_of rest.buffers_at rest.after_lines is_done when◌then◌else◌
rest_few b l Done = done b
  where
    done : (b : Bool) → rest.buffers_at l.count (rest.after_lines b) ≤ 2 + turns l.count Done
    done true = omega arith
    done false = omega arith
rest_few b l (AtEntry i) = omega arith
rest_few b l (AtMethods m) = omega arith
rest_few b l (AtConstants k) = omega arith
rest_few b l (AtTable t) = omega arith

-- a buffer was filled from a cursor on, and shown
pub Filled-shown : (b : Bool) (s : List ℕ) (l : Layout) (c : Cursor) (text before mid : List ℕ) (f : Filled) (r : Rest) (after : List ℕ)
    → rest.Going b s l c text → Filling s l c before f mid
    → after ≡ shown b (take f.length mid) ++ drop f.length mid → r ≡ rest.rest_of l b f.cursor
    → rest.Filled b s (record { layout = l; next = At c }) before (record { length = f.length; rest = r }) after
unfolding rest.buffers_at
Filled-shown b s l c text before mid f r after g h e k = record { each = each; fewer = inr fewer; inside = inside }
  where
    inside : f.length ≤ length after
    inside = rw (e, length_kept b mid f.length) h.inside

    each : (text : List ℕ) → rest.Going b s l c text → rest.Gives (λ z. rest.LeftIn b s r z) text before f.length after
    each text g =
        let p = h.each g.lines g.left in
        let n : f.length ≡ length p.bytes = omega (arith, p.wrote.next) in
        record {
          bytes = shown b p.bytes;
          rest = shown b p.rest ++ closing b;
          split = g.whole ∙ ap (λ (x : List ℕ). shown b x ++ closing b) p.split ∙ ap (λ (x : List ℕ). x ++ closing b) (shown_both b p.bytes p.rest) ∙ append_assoc (shown b p.bytes) (shown b p.rest) (closing b);
          long = n ∙ sym (length-shown b p.bytes);
          stored = e ∙ shown-sets b before p.bytes mid f.length n (omega (arith, h.inside, Wrote-length before p.bytes 0 p.wrote)) p.wrote.stored;
          left = rw k (rest_Left b s l g.inside f.cursor p.rest p.left);
        }

    fewer : rest.buffers r < rest.buffers_at l.count (At c)
    fewer = rw k (omega (arith, rest_few b l f.cursor, falls l.count c f.cursor h.onward g.going))

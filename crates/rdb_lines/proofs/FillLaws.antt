-- What a buffer gives of the listing, once its lines were met.
-- Assumes nothing.
use Rattle.std.specs.Prelude.{None, Some}
use mathlib.Core.Path.{◌≡◌, refl, sym, ap, ◌∙◌, subst}
use mathlib.Core.Bool.{Bool, true, false}
use mathlib.Core.List.{List, [], ◌∷◌, ◌++◌, append_assoc, append-nil}
use Prim.Native.Nat.{ℕ, zero, suc, ◌+◌, ◌-◌, ◌≤◌, ◌<◌}
use native.Mathlib.Omega.{arith}
use lib.ListN.{length, take, drop, set, length-append, length-drop, drop_of_length-le, take-append-drop}
use lib.Seq.{sets, drop-drop, drop_at, drop-append-add, length-take-le, take_all, set_out}
use Rattle.number.specs.Choice.{◌<?◌}
use Rattle.number.specs.Number.{le}
use Rattle.number.proofs.Choice.{both, no_lt, from_yes_lt, from_not_lt}
use Rattle.rdb_file.specs.Visit.{module_limit}
use Rattle.rdb_file.specs.File.{root_at, root_count}
use Rattle.rdb_path.specs.Reached.{Reached, Checked}
use Rattle.rdb_path.proofs.Reaching.{root_Reached}
use Rattle.rdb_list.specs.Listed.{Line, entity_lines, held_lines, list_of}
use Rattle.window.specs.Window.{byte_in, window}
use Rattle.window.proofs.WindowLaws.{window-append, length-window, window_whole}
use Rattle.rdb_line.specs.Text.{line_text, lines_text}
use Rattle.rdb_line.specs.Spelt.{words_at}
use Rattle.rdb_lines.specs.declared.Cursor.{Cursor}
use Rattle.rdb_lines.specs.declared.Pass.{Pass}
use Rattle.rdb_lines.specs.Walk.{buffer_bytes, unpassed, passed, stepped, shown_line, pass_all, show_all, Walked, Fit, Ready}
use Rattle.rdb_lines.specs.Rest.{paths_text, first, left_at, next_cursor, left_in, buffers, Begun, Fills}
use Rattle.rdb_lines.proofs.WalkLaws.{step_skip, show_skip, step_pass, show_pass, pass_stopped, show_stopped, Walked-kept}

-- ---- the root map

module _ (s ps : List ℕ) {at n : ℕ} (a : at ≡ le 4 s 8) (b : n ≡ le 4 s 12) where
  pub root_lines : entity_lines (held_lines module_limit s) s (words_at s ps 0) at n 0 ≡ list_of s
  unfolding list_of words_at root_at root_count
  root_lines = rw (a, b) refl

  pub root_held : (c : Checked s) → Reached c.reading s at n
  unfolding root_at root_count
  root_held c = rw (a, b) (root_Reached s c).1

pub Ready-first : (s ps : List ℕ) (c : Cursor) → length ps ≡ 18 → Begun s c → Ready s ps 0 c.place (unpassed c.line)
Ready-first s ps c l b = record {
  small = b.checked.small;
  spelt = record { long = l; few = omega arith; room = λ i k. absurd (omega arith); ended = λ i k. absurd (omega arith) };
  low = b.near;
  fit = record { few = omega arith; last = omega arith; near = omega arith };
}

-- ---- lines that are left out

module _ (from : ℕ) where
  step_out : (x : Line) (k : ℕ) → stepped from x (unpassed (suc k)) ≡ unpassed k
  step_out x k = let e : suc k - 1 ≡ k = omega arith in step_skip from x (unpassed (suc k)) (omega arith) (omega arith) ∙ ap (λ (n : ℕ). unpassed n) e

  pass_out : (xs : List Line) (k : ℕ) → pass_all from xs (unpassed k) ≡ pass_all from (drop k xs) (unpassed (k - length xs))
  unfolding pass_all
  pass_out xs zero = let e : 0 ≡ 0 - length xs = omega arith in ap (λ (n : ℕ). pass_all from xs (unpassed n)) e
  pass_out [] (suc k) = let e : suc k ≡ suc k - 0 = omega arith in ap (λ (n : ℕ). unpassed n) e
  pass_out (x ∷ xs) (suc k) =
      let e : k - length xs ≡ suc k - suc (length xs) = omega arith in
      ap (pass_all from xs) (step_out x k) ∙ pass_out xs k ∙ ap (λ (n : ℕ). pass_all from (drop k xs) (unpassed n)) e

  show_out : (xs : List Line) (k : ℕ) (out : List ℕ) → show_all from xs (unpassed k) out ≡ show_all from (drop k xs) (unpassed (k - length xs)) out
  unfolding show_all
  show_out xs zero out = let e : 0 ≡ 0 - length xs = omega arith in ap (λ (n : ℕ). show_all from xs (unpassed n) out) e
  show_out [] (suc k) out = refl
  show_out (x ∷ xs) (suc k) out =
      let e : k - length xs ≡ suc k - suc (length xs) = omega arith in
      ap (λ (p : Pass). show_all from xs p (shown_line from x (unpassed (suc k)) out)) (step_out x k)
      ∙ ap (show_all from xs (unpassed k)) (show_skip from x (unpassed (suc k)) (omega arith) out (omega arith))
      ∙ show_out xs k out
      ∙ ap (λ (n : ℕ). show_all from (drop k xs) (unpassed n) out) e

-- ---- what the buffer gets

window_none : (from p : ℕ) (out : List ℕ) → window from p [] out ≡ out
unfolding window
window_none from p out = refl

window_past : (from p : ℕ) (w out : List ℕ) → from + length out ≤ p → window from p w out ≡ out
unfolding window byte_in
window_past from p [] out h = refl
window_past from p (b ∷ w) out h =
    ap (window from (p + 1) w) (sym (no_lt p from out (set out (p - from) b) {z = out} (omega arith) (sym (set_out out (p - from) b (omega arith)))))
    ∙ window_past from (p + 1) w out (omega arith)

lines_none : lines_text [] ≡ []
unfolding lines_text
lines_none = refl

lines_more : (x : Line) (xs : List Line) → lines_text (x ∷ xs) ≡ line_text x ++ lines_text xs
unfolding lines_text
lines_more x xs = refl

pub lines_append : (xs ys : List Line) → lines_text (xs ++ ys) ≡ lines_text xs ++ lines_text ys
unfolding lines_text
lines_append [] ys = refl
lines_append (x ∷ xs) ys = ap (λ (l : List ℕ). line_text x ++ l) (lines_append xs ys) ∙ sym (append_assoc (line_text x) (lines_text xs) (lines_text ys))

module _ (from : ℕ) where
  show_window : (xs : List Line) (p : Pass) (out : List ℕ) → p.skip ≡ 0 → length out ≡ buffer_bytes → show_all from xs p out ≡ window from p.place (lines_text xs) out
  unfolding show_all
  show_window [] p out k n = sym (ap (λ (l : List ℕ). window from p.place l out) lines_none ∙ window_none from p.place out)
  show_window (x ∷ xs) p out k n =
      both (λ (b : Bool). show_all from (x ∷ xs) p out ≡ window from p.place (lines_text (x ∷ xs)) out) (p.place <? from + buffer_bytes) true false
      (λ t.
      let h = from_yes_lt _ _ t in
      ap (λ (q : Pass). show_all from xs q (shown_line from x p out)) (step_pass from x p h k)
      ∙ ap (show_all from xs (passed (length (line_text x)) p)) (show_pass from x p h out k)
      ∙ show_window xs (passed (length (line_text x)) p) (window from p.place (line_text x) out) refl (length-window from p.place (line_text x) out ∙ n)
      ∙ sym (ap (λ (l : List ℕ). window from p.place l out) (lines_more x xs) ∙ window-append from p.place (line_text x) (lines_text xs) out))
      (λ t. (let h = from_not_lt _ _ t in show_stopped from (x ∷ xs) p out h ∙ sym (window_past from p.place (lines_text (x ∷ xs)) out (omega (arith, n)))))

  nothing_shown : (j : ℕ) (out : List ℕ) → show_all from [] (unpassed (suc j)) out ≡ window from 0 (lines_text []) out
  unfolding show_all lines_text window
  nothing_shown j out = refl

  -- from the first line on; where lines are still to be left out, none is there
  shows : (xs : List Line) (j : ℕ) (out : List ℕ) → (0 < j → xs ≡ []) → length out ≡ buffer_bytes → show_all from xs (unpassed j) out ≡ window from 0 (lines_text xs) out
  shows xs zero out f n = show_window xs (unpassed 0) out refl n
  shows xs (suc j) out f n = subst (λ (l : List Line). show_all from l (unpassed (suc j)) out ≡ window from 0 (lines_text l) out) (sym (f (omega arith))) (nothing_shown j out)

-- ---- how far the lines were passed

-- the buffer ends in a line, or with it
record Full (xs : List Line) (p : Pass) : Type 0 where
  pub before : List Line
  pub line : Line
  pub rest : List Line
  pub split : xs ≡ before ++ (line ∷ rest)
  pub count : p.lines ≡ length before + 1
  pub start : p.mark ≡ length (lines_text before)
  pub reach : p.place ≡ p.mark + length (line_text line)

record Ended (from : ℕ) (xs : List Line) (p : Pass) : Type 0 where
  pub full : from + buffer_bytes ≤ p.place → Full xs p
  pub over : p.place < from + buffer_bytes → p.place ≡ length (lines_text xs)

text_more : (ys : List Line) (y : Line) → length (lines_text (ys ++ (y ∷ []))) ≡ length (lines_text ys) + length (line_text y)
unfolding lines_text
text_more ys y = ap length (lines_append ys (y ∷ [])) ∙ length-append (lines_text ys) (line_text y ++ []) ∙ ap (λ (l : List ℕ). length (lines_text ys) + length l) (append-nil (line_text y))

module _ (from : ℕ) where
  Ended-from : (xs done : List Line) (p : Pass) → p.skip ≡ 0 → p.lines ≡ length done → p.place ≡ length (lines_text done) → (from + buffer_bytes ≤ p.place → Full (done ++ xs) p) → Ended from (done ++ xs) (pass_all from xs p)
  unfolding pass_all
  Ended-from [] done p k l e f = record { full = f; over = λ _. e ∙ ap (λ (ys : List Line). length (lines_text ys)) (sym (append-nil done)) }
  Ended-from (x ∷ xs) done p k l e f =
      both (λ (b : Bool). Ended from (done ++ (x ∷ xs)) (pass_all from (x ∷ xs) p)) (p.place <? from + buffer_bytes) true false
      (λ t.
      let h = from_yes_lt _ _ t in
      let q = passed (length (line_text x)) p in
      let a : (done ++ (x ∷ [])) ++ xs ≡ done ++ (x ∷ xs) = append_assoc done (x ∷ []) xs in
      let n : length (lines_text (done ++ (x ∷ []))) ≡ length (lines_text done) + length (line_text x) = text_more done x in
      subst (λ (ys : List Line). Ended from ys (pass_all from xs (stepped from x p))) a
      (subst (λ (r : Pass). Ended from ((done ++ (x ∷ [])) ++ xs) (pass_all from xs r)) (sym (step_pass from x p h k))
      (Ended-from xs (done ++ (x ∷ [])) q refl (omega (arith, l, length-append done (x ∷ []))) (omega (arith, e, n)) (λ _. record { before = done; line = x; rest = xs; split = a; count = omega (arith, l); start = e; reach = refl }))))
      (λ t. (let h = from_not_lt _ _ t in subst (λ (r : Pass). Ended from (done ++ (x ∷ xs)) r) (sym (pass_stopped from (x ∷ xs) p h)) (record { full = f; over = λ g. absurd (omega arith) })))

  nothing_passed : (j : ℕ) → Ended from [] (pass_all from [] (unpassed (suc j)))
  unfolding pass_all lines_text
  nothing_passed j = record { full = λ h. absurd (omega arith); over = λ h. refl }

  ends : (xs : List Line) (j : ℕ) → (0 < j → xs ≡ []) → Ended from xs (pass_all from xs (unpassed j))
  unfolding lines_text
  ends xs zero f = Ended-from xs [] (unpassed 0) refl refl refl (λ h. absurd (omega arith))
  ends xs (suc j) f = subst (λ (l : List Line). Ended from l (pass_all from l (unpassed (suc j)))) (sym (f (omega arith))) (nothing_passed j)

-- ---- the next buffer

pub left_first : (s : List ℕ) → left_at s first ≡ paths_text s
unfolding left_at paths_text
left_first s = refl

-- the lines from the cursor's on, and their text
abbrev lines_from : List ℕ → Cursor → List Line
lines_from s c = drop c.line (list_of s)

abbrev text_from : List ℕ → Cursor → List ℕ
text_from s c = lines_text (lines_from s c)

left_is : (s : List ℕ) (c : Cursor) → left_at s c ≡ drop c.place (text_from s c)
unfolding left_at
left_is s c = refl

module _ (s : List ℕ) (c : Cursor) {before after : List ℕ} {p : Pass} (w : Walked c.place (list_of s) (unpassed c.line) before p after) (n : length before ≡ buffer_bytes) where
  none : 0 < c.line - length (list_of s) → lines_from s c ≡ []
  none h = drop_of_length-le (list_of s) {i = c.line} (omega arith)

  ended : Ended c.place (lines_from s c) p
  ended = subst (Ended c.place (lines_from s c)) (sym (w.state ∙ pass_out c.place (list_of s) c.line)) (ends c.place (lines_from s c) (c.line - length (list_of s)) none)

  filled : after ≡ sets before 0 (take buffer_bytes (drop c.place (text_from s c)))
  filled =
      w.shown
      ∙ show_out c.place (list_of s) c.line before
      ∙ shows c.place (lines_from s c) (c.line - length (list_of s)) before none n
      ∙ window_whole c.place (text_from s c) before
      ∙ ap (λ (k : ℕ). sets before 0 (take k (drop c.place (text_from s c)))) n

  -- all that was left fits
  pub Fills-over : {k : ℕ} → p.place < c.place + buffer_bytes → k ≡ p.place - c.place → Fills s c before (record { length = k; rest = None }) after
  unfolding left_in buffers
  Fills-over h e =
      let l : length (drop c.place (text_from s c)) ≡ p.place - c.place = length-drop c.place (text_from s c) ∙ ap (λ (k : ℕ). k - c.place) (sym (ended.over h)) in
      record {
        bytes = drop c.place (text_from s c);
        split = left_is s c ∙ sym (append-nil (drop c.place (text_from s c)));
        long = e ∙ sym l;
        stored = filled ∙ ap (sets before 0) (take_all buffer_bytes (drop c.place (text_from s c)) (omega (arith, l)));
        near = tt;
        fewer = omega arith;
        inside = omega (arith, Walked-kept w, n, e);
      }

  -- the buffer is full
  module _ (h : c.place + buffer_bytes ≤ p.place) where
    last : Full (lines_from s c) p
    last = ended.full h

    pub full_lines : (1 ≤ p.lines) × (c.line + p.lines ≤ length (list_of s))
    full_lines =
        let g = ap length last.split ∙ length-append last.before (last.line ∷ last.rest) in
        (omega (arith, last.count), omega (arith, last.count, length-drop c.line (list_of s), g))

    module _ (f : Fit c.place p) where
      next_lines : drop (c.line + (p.lines - 1)) (list_of s) ≡ last.line ∷ last.rest
      next_lines = sym (drop-drop (p.lines - 1) c.line (list_of s)) ∙ ap (drop (p.lines - 1)) last.split ∙ drop_at last.before (last.line ∷ last.rest) (p.lines - 1) (omega (arith, last.count))

      whole : text_from s c ≡ lines_text last.before ++ lines_text (last.line ∷ last.rest)
      whole = ap lines_text last.split ∙ lines_append last.before (last.line ∷ last.rest)

      next_left : drop buffer_bytes (drop c.place (text_from s c)) ≡ left_at s (next_cursor c p)
      unfolding left_at
      next_left =
          let k : c.place + buffer_bytes ≡ length (lines_text last.before) + (c.place + buffer_bytes - p.mark) = omega (arith, last.start, f.near) in
          drop-drop buffer_bytes c.place (text_from s c)
          ∙ ap (drop (c.place + buffer_bytes)) whole
          ∙ ap (λ (i : ℕ). drop i (lines_text last.before ++ lines_text (last.line ∷ last.rest))) k
          ∙ drop-append-add (lines_text last.before) (lines_text (last.line ∷ last.rest)) (c.place + buffer_bytes - p.mark)
          ∙ ap (λ (xs : List Line). drop (c.place + buffer_bytes - p.mark) (lines_text xs)) (sym next_lines)

      enough : c.place + buffer_bytes ≤ length (text_from s c)
      enough =
          let g = ap length whole ∙ length-append (lines_text last.before) (lines_text (last.line ∷ last.rest)) in
          let m = ap length (lines_more last.line last.rest) ∙ length-append (line_text last.line) (lines_text last.rest) in
          omega (arith, g, m, last.start, last.reach, h)

      Fills-next : Fills s c before (record { length = buffer_bytes; rest = Some (next_cursor c p) }) after
      unfolding left_in buffers
      Fills-next =
          let b = take buffer_bytes (drop c.place (text_from s c)) in
          let l : length b ≡ buffer_bytes = length-take-le buffer_bytes (drop c.place (text_from s c)) (omega (arith, length-drop c.place (text_from s c), enough)) in
          let e : left_at s c ≡ b ++ left_at s (next_cursor c p) = left_is s c ∙ sym (take-append-drop buffer_bytes (drop c.place (text_from s c))) ∙ ap (λ (r : List ℕ). b ++ r) next_left in
          let g = ap length e ∙ length-append b (left_at s (next_cursor c p)) in
          record { bytes = b; split = e; long = sym l; stored = filled; near = omega (arith, f.last, h); fewer = omega (arith, g, l); inside = omega (arith, Walked-kept w, n) }

      pub Fills-full : {d : Cursor} → d ≡ next_cursor c p → Fills s c before (record { length = buffer_bytes; rest = Some d }) after
      Fills-full e = subst (λ (d : Cursor). Fills s c before (record { length = buffer_bytes; rest = Some d }) after) (sym e) Fills-next

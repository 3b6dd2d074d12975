-- The lines of a map's entries, one by one, and what is known of an entry of a file that was accepted.
-- Assumes nothing.
use mathlib.Core.Path.{◌≡◌, refl, sym, ap, ◌∙◌, subst}
use mathlib.Core.List.{List, [], ◌∷◌, ◌++◌}
use Prim.Native.Nat.{ℕ, zero, suc, ◌+◌, ◌-◌, ◌≤◌, ◌<◌}
use native.Mathlib.Omega.{arith}
use lib.ListN.{get_or, set}
use Rattle.number.specs.Number.{le}
use Rattle.number.proofs.Choice.{is_eq, no_eq}
use Rattle.reading.specs.Got.{Accepted}
use Rattle.rdb_map.specs.Map.{entry_place, payload_place}
use Rattle.rdb_record.specs.Constant.{read_constant}
use Rattle.rdb_interface.specs.declared.SetCount.{SetCount}
use Rattle.rdb_file.specs.Kind.{kind_of, module_kind, group_kind}
use Rattle.rdb_file.specs.Visit.{count_place, map_place, visit_constant, visit_entity}
use Rattle.rdb_path.specs.Path.{payload_at}
use Rattle.rdb_path.specs.Reached.{Keyed, Holds, Visited, Reached}
use Rattle.rdb_path.proofs.Reaching.{constant_read, module_Reached, group_reached}
use Rattle.rdb.proofs.AnswerLaws.{stored_at}
use Rattle.rdb_list.specs.Listed.{Line, entity_line, constant_line, path_to, value_in, constant_lines, entity_lines, group_lines, held_lines}
use Rattle.rdb_line.specs.Spelt.{words_at, Spelt, line_of, Stored}
use Rattle.rdb_line.specs.declared.Target.TheVariants.{Entity, Constant}
use Rattle.rdb_line.proofs.LineLaws.{words_longer, Spelt-longer}
use Rattle.rdb_lines.specs.declared.Pass.{Pass}
use Rattle.rdb_lines.specs.Walk.{Walked, Fit, Ready}
use Rattle.rdb_lines.proofs.WalkLaws.{Walked-as, Walked-then, Going, Going-on}

-- ---- the path to an entry

module _ (s ps : List ℕ) (d at i : ℕ) {path : List ℕ} (h : path ≡ set ps d (entry_place at i)) where
  pub Ready-longer : {n from : ℕ} {p q : Pass} → Ready s ps d from p → d ≤ 17 → Keyed s at n → i < n → Fit from q → Ready s path (d + 1) from q
  Ready-longer r l k j f = record {
    small = r.small;
    spelt = subst (λ (x : List ℕ). Spelt s x (d + 1)) (sym h) (Spelt-longer s ps d (entry_place at i) r.spelt (omega arith) (k.room i j) (k.ended i j));
    low = r.low;
    fit = f;
  }

  module _ (w : Spelt s ps d) (l : d ≤ 17) where
    path_longer : words_at s path (d + 1) ≡ path_to s (words_at s ps d) at i
    unfolding path_to
    path_longer = ap (λ (x : List ℕ). words_at s x (d + 1)) h ∙ words_longer s ps d (entry_place at i) (omega (arith, w.long))

    module _ {o : ℕ} (e : o ≡ le 4 s (payload_place at i)) where
      constant_line_lem : line_of s (words_at s path (d + 1)) (Constant o) ≡ constant_line (path_to s (words_at s ps d) at i) (value_in s (payload_at s at i))
      unfolding line_of payload_at
      constant_line_lem = rw (path_longer, e) refl

      entity_line_lem : line_of s (words_at s path (d + 1)) (Entity o) ≡ entity_line (path_to s (words_at s ps d) at i) (get_or s (payload_at s at i) 0) (payload_at s at i)
      unfolding line_of payload_at
      entity_line_lem = rw (path_longer, e) refl

      held_path : (left : ℕ) → held_lines left s (words_at s path (d + 1)) o ≡ held_lines left s (path_to s (words_at s ps d) at i) (payload_at s at i)
      unfolding payload_at
      held_path left = rw (path_longer, e) refl

-- ---- entry by entry

module _ (s : List ℕ) (ws : List (List ℕ)) (at n i : ℕ) where
  constants_next : i < n → constant_lines s ws at (n - i) i ≡ (constant_line (path_to s ws at i) (value_in s (payload_at s at i)) ∷ []) ++ constant_lines s ws at (n - (i + 1)) (i + 1)
  unfolding constant_lines
  constants_next l = let e : n - i ≡ suc (n - (i + 1)) = omega arith in rw e refl

  pub constants_over : n ≤ i → constant_lines s ws at (n - i) i ≡ []
  unfolding constant_lines
  constants_over l = let e : n - i ≡ 0 = omega arith in rw e refl

  module _ (held : List (List ℕ) → ℕ → List Line) where
    entities_next : i < n → entity_lines held s ws at (n - i) i ≡ ((entity_line (path_to s ws at i) (get_or s (payload_at s at i) 0) (payload_at s at i) ∷ []) ++ held (path_to s ws at i) (payload_at s at i)) ++ entity_lines held s ws at (n - (i + 1)) (i + 1)
    unfolding entity_lines
    entities_next l = let e : n - i ≡ suc (n - (i + 1)) = omega arith in rw e refl

    pub entities_over : n ≤ i → entity_lines held s ws at (n - i) i ≡ []
    unfolding entity_lines
    entities_over l = let e : n - i ≡ 0 = omega arith in rw e refl

module _ (s ps : List ℕ) (d at n i : ℕ) {path : List ℕ} {o : ℕ} (w : Spelt s ps d) (l : d ≤ 17) (k : i < n) (h : path ≡ set ps d (entry_place at i)) (e : o ≡ le 4 s (payload_place at i)) where
  -- a constant was passed
  pub constants_turn : {from : ℕ} {all : List Line} {p q r : Pass} {b c t : List ℕ} → Going from all p b (constant_lines s (words_at s ps d) at (n - i) i) q c → Walked from (line_of s (words_at s path (d + 1)) (Constant o) ∷ []) q c r t → Going from all p b (constant_lines s (words_at s ps d) at (n - (i + 1)) (i + 1)) r t
  constants_turn g v = Going-on g (constant_line (path_to s (words_at s ps d) at i) (value_in s (payload_at s at i)) ∷ []) (constant_lines s (words_at s ps d) at (n - (i + 1)) (i + 1)) (constants_next s (words_at s ps d) at n i k) (Walked-as (ap (λ (x : Line). x ∷ []) (constant_line_lem s ps d at i h w l e)) v)

  -- an entity and what it holds
  pub entities_turn : (left : ℕ) {from : ℕ} {all : List Line} {p q r t : Pass} {b c u v : List ℕ} → Going from all p b (entity_lines (held_lines left s) s (words_at s ps d) at (n - i) i) q c → Walked from (line_of s (words_at s path (d + 1)) (Entity o) ∷ []) q c r u → Walked from (held_lines left s (words_at s path (d + 1)) o) r u t v → Going from all p b (entity_lines (held_lines left s) s (words_at s ps d) at (n - (i + 1)) (i + 1)) t v
  entities_turn left g x y =
      Going-on g ((entity_line (path_to s (words_at s ps d) at i) (get_or s (payload_at s at i) 0) (payload_at s at i) ∷ []) ++ held_lines left s (path_to s (words_at s ps d) at i) (payload_at s at i)) (entity_lines (held_lines left s) s (words_at s ps d) at (n - (i + 1)) (i + 1))
      (entities_next s (words_at s ps d) at n i (held_lines left s) k)
      (Walked-then (Walked-as (ap (λ (z : Line). z ∷ []) (entity_line_lem s ps d at i h w l e)) x) (Walked-as (held_path s ps d at i h w l e left) y))

-- ---- what an entity holds

module _ (s : List ℕ) (ws : List (List ℕ)) (o : ℕ) where
  pub group_other : (kind_of (get_or s o 0) ≡ group_kind → ⊥) → [] ≡ group_lines s ws o
  unfolding group_lines
  group_other f = no_eq _ _ _ _ f refl

  pub group_constants : {n : ℕ} → kind_of (get_or s o 0) ≡ group_kind → n ≡ le 4 s (count_place o) → constant_lines s ws (map_place o) n 0 ≡ group_lines s ws o
  unfolding group_lines
  group_constants h e = is_eq _ _ _ _ h (ap (λ (x : ℕ). constant_lines s ws (map_place o) x 0) e)

  pub held_zero : (left : ℕ) → left ≡ 0 → group_lines s ws o ≡ held_lines left s ws o
  unfolding held_lines
  held_zero zero e = refl
  held_zero (suc left) e = absurd (omega arith)

  pub held_other : (left : ℕ) → (get_or s o 0 ≡ module_kind → ⊥) → group_lines s ws o ≡ held_lines left s ws o
  unfolding held_lines
  held_other zero f = refl
  held_other (suc left) f = no_eq _ _ _ _ f refl

  pub held_module : (left : ℕ) {n : ℕ} → (left ≡ 0 → ⊥) → get_or s o 0 ≡ module_kind → n ≡ le 4 s (count_place o) → entity_lines (held_lines (left - 1) s) s ws (map_place o) n 0 ≡ held_lines left s ws o
  unfolding held_lines
  held_module zero f k e = absurd (f refl)
  held_module (suc left) f k e =
      let z : suc left - 1 ≡ left = omega arith in
      is_eq _ _ _ _ k (rw (z, e) refl)

-- ---- entries of a file that was accepted

pub constant-Stored : (s : List ℕ) (at n i : ℕ) {o : ℕ} → Holds (visit_constant s) s at n → i < n → o ≡ le 4 s (payload_place at i) → Stored s (Constant o)
unfolding payload_at
constant-Stored s at n i {o} h l e =
    let t = h.leads i l in
    (stored_at s o (subst (λ (x : ℕ). Accepted (read_constant s x)) (sym e) (constant_read s t.0 (le 4 s (payload_place at i)) t.1 t.2))).room

pub entity_Visited : (m : SetCount) (s : List ℕ) (at n i : ℕ) {o : ℕ} → Reached m s at n → i < n → o ≡ le 4 s (payload_place at i) → Visited m s o
unfolding payload_at
entity_Visited m s at n i {o} r l e =
    let t = r.holds.leads i l in
    record { left = r.left; from = t.0; before = t.1; accepted = subst (λ (x : ℕ). Accepted (visit_entity m r.left s t.0 x t.1)) (sym e) t.2 }

module _ (m : SetCount) (s : List ℕ) (o : ℕ) (v : Visited m s o) {n : ℕ} (e : n ≡ le 4 s (count_place o)) where
  pub group_held : kind_of (get_or s o 0) ≡ group_kind → Holds (visit_constant s) s (map_place o) n
  group_held z = subst (λ (x : ℕ). Holds (visit_constant s) s (map_place o) x) (sym e) (group_reached m s o v z).1

  pub module_held : get_or s o 0 ≡ module_kind → Reached m s (map_place o) n
  module_held z = subst (λ (x : ℕ). Reached m s (map_place o) x) (sym e) (module_Reached m s o v z).1

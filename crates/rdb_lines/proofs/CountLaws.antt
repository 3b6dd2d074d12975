-- As many lines are listed as entries were visited.
-- Assumes nothing.
use mathlib.Core.Path.{◌≡◌, refl, sym, ap, ◌∙◌, subst}
use mathlib.Core.List.{List, [], ◌∷◌}
use Prim.Native.Nat.{ℕ, zero, suc, ◌+◌, ◌-◌, ◌≤◌, ◌<◌}
use native.Mathlib.Omega.{arith}
use native.Mathlib.Nat.{add-zero}
use lib.ListN.{length, get_or, length-append}
use Rattle.number.specs.Number.{le}
use Rattle.number.proofs.Choice.{from_yes_eq, from_not_eq}
use Rattle.reading.specs.Got.{Got, got}
use Rattle.reading.proofs.Steps.{parts}
use Rattle.reading.proofs.Facts.{Facts, fact, f_if, f_unless, f_bad, f_got, f_next, f_read}
use Rattle.rdb_text.proofs.FieldLaws.{f_byte, f_uint}
use Rattle.rdb_map.specs.Map.{visit_limit, Entry, entry_at, entry_payload, read_map}
use Rattle.rdb_record.specs.Constant.{read_constant}
use Rattle.rdb_interface.specs.declared.SetCount.{SetCount}
use Rattle.rdb_file.specs.Entered.{no_entry}
use Rattle.rdb_file.specs.Kind.{kind_of, module_kind, group_kind}
use Rattle.rdb_file.specs.Visit.{count_place, map_place, module_limit, Sound, sound, each, alone, visit_constant, visit_group, visit_module, visit_record, visit_with, visit_entity}
use Rattle.rdb_file.specs.File.{root_at, root_count, read_root, read_file}
use Rattle.rdb_file.proofs.VisitLaws.{map_Entered}
use Rattle.rdb_path.specs.Path.{payload_at}
use Rattle.rdb_path.specs.Reached.{Checked}
use Rattle.rdb.proofs.Theorems.{entries_few}
use Rattle.rdb_list.specs.Listed.{Line, path_to, constant_lines, entity_lines, group_lines, held_lines, list_of}
use Rattle.rdb_lines.proofs.MapLaws.{group_other, group_constants, held_other, held_module}

-- ---- entities of a map, each with what it holds

abbrev Counted : (List (List ℕ) → ℕ → List Line) → (ℕ → ℕ → ℕ → Got Sound) → Type 0
Counted held f = (ws : List (List ℕ)) (p o v : ℕ) → Facts (λ x e. e ≡ v + length (held ws o)) (f p o v)

module _ (s : List ℕ) (ws : List (List ℕ)) (at : ℕ) (held : List (List ℕ) → ℕ → List Line) (f : ℕ → ℕ → ℕ → Got Sound) (g : Counted held f) where
  each_lines : (es : List Entry) (i v : ℕ) → ((j : ℕ) → j < length es → entry_payload (get_or es j no_entry) ≡ payload_at s at (i + j)) → {x : Sound} {e : ℕ} → each f es v ≡ got x e → e + length es ≡ v + length (entity_lines held s ws at (length es) i)
  unfolding each entity_lines
  each_lines [] i v pay {x} {e} h = let z : v ≡ e = cc in omega arith
  each_lines (y ∷ es) i v pay {x} {e} h =
      let r = parts (f (entry_at y) (entry_payload y) v) _ h in
      let q : entry_payload y ≡ payload_at s at i = pay 0 (omega arith) ∙ ap (payload_at s at) (add-zero i) in
      let a : r.end ≡ v + length (held (path_to s ws at i) (payload_at s at i)) = subst (λ (o : ℕ). r.end ≡ v + length (held (path_to s ws at i) o)) q (fact _ _ (g (path_to s ws at i) (entry_at y) (entry_payload y) v) r.first) in
      let b = each_lines es (i + 1) r.end (λ j l. (let k : i + suc j ≡ i + 1 + j = omega arith in pay (suc j) (omega arith) ∙ ap (payload_at s at) k)) r.rest in
      omega (arith, a, b, length-append (held (path_to s ws at i) (payload_at s at i)) (entity_lines held s ws at (length es) (i + 1)))

  -- those of a map that was read
  map_lines : (hold u n v : ℕ) {es : List Entry} {d : ℕ} {x : Sound} {e : ℕ} → read_map s hold u n at ≡ got es d → each f es v ≡ got x e → e + n ≡ v + length (entity_lines held s ws at n 0)
  unfolding payload_at
  map_lines hold u n v {es} {d} {x} {e} r h =
      let m = map_Entered s hold u n at r in
      let b = each_lines es 0 v (λ j l. (let k : j ≡ 0 + j = omega arith in m.payload j (omega (arith, m.count)) ∙ ap (payload_at s at) k)) h in
      subst (λ (k : ℕ). e + k ≡ v + length (entity_lines held s ws at k 0)) m.count b

-- ---- constants

constants_long : (s : List ℕ) (ws : List (List ℕ)) (at n i : ℕ) → length (constant_lines s ws at n i) ≡ n
unfolding constant_lines
constants_long s ws at zero i = refl
constants_long s ws at (suc n) i = ap suc (constants_long s ws at n (i + 1))

alone_same : {X : Type 0} (g : Got X) (v : ℕ) {x : Sound} {e : ℕ} → alone g v ≡ got x e → e ≡ v
unfolding alone
alone_same g v {x} {e} h = let r = parts g _ h in let q : ◌≡◌ {A = Got Sound} (got sound v) (got x e) = r.rest in cc

constants_same : (s : List ℕ) (es : List Entry) (v : ℕ) {x : Sound} {e : ℕ} → each (visit_constant s) es v ≡ got x e → e ≡ v
unfolding each visit_constant
constants_same s [] v {x} {e} h = cc
constants_same s (y ∷ es) v h =
    let r = parts (visit_constant s (entry_at y) (entry_payload y) v) _ h in
    constants_same s es r.end r.rest ∙ alone_same (read_constant s (entry_payload y)) v r.first

-- ---- an entity

module _ (m : SetCount) (s : List ℕ) where
  module _ (ws : List (List ℕ)) (o v : ℕ) where
    abbrev Group : Sound → ℕ → Type 0
    Group x e = e ≡ v + length (group_lines s ws o)

    -- which is no group
    lonely : {e : ℕ} → (kind_of (get_or s o 0) ≡ group_kind → ⊥) → e ≡ v → e ≡ v + length (group_lines s ws o)
    lonely f e = let z = ap length (group_other s ws o f) in omega arith

    Group-lines : kind_of (get_or s o 0) ≡ group_kind → Facts Group (visit_group s (get_or s o 0) o v)
    unfolding visit_group
    Group-lines z =
        f_uint s (o + 1) _ Group 4 (λ h. f_next (λ es d. Unit {0}) Group _ _ (f_read _ _ (λ es d r. tt)) (λ es d _.
        f_next (λ ns d. Unit {0}) Group _ _ (f_read _ _ (λ ns d r. tt)) (λ ns d _.
        f_read Group _ (λ x e g. (let k = ap length (group_constants s ws o z refl) in omega (arith, constants_same s es (v + le 4 s (count_place o)) g, constants_long s ws (map_place o) (le 4 s (count_place o)) 0))))))

    record_lines : Facts Group (visit_record m s (get_or s o 0) o v)
    unfolding visit_record
    record_lines =
        f_if Group _ _ _ (λ t. f_read Group _ (λ x e h. lonely (λ k. (let a = from_yes_eq _ _ t in absurd (omega arith))) (alone_same _ v h))) (λ _.
        f_if Group _ _ _ (λ t. f_read Group _ (λ x e h. lonely (λ k. (let a = from_yes_eq _ _ t in absurd (omega arith))) (alone_same _ v h))) (λ _.
        f_if Group _ _ _ (λ t. Group-lines (from_yes_eq _ _ t)) (λ t. f_got Group sound v (lonely (from_not_eq _ _ t) refl))))

  with_lines : (left : ℕ) (ws : List (List ℕ)) (o v : ℕ) (inner : ℕ → ℕ → Got Sound) → (get_or s o 0 ≡ module_kind → Facts (λ x e. e ≡ v + length (held_lines left s ws o)) (inner o v)) → Facts (λ x e. e ≡ v + length (held_lines left s ws o)) (visit_with m inner s o v)
  unfolding visit_with
  with_lines left ws o v inner f =
      f_byte s o _ _ (λ h. f_if _ _ _ _ (λ t. f (from_yes_eq _ _ t)) (λ t. f_unless _ _ _ _ _ (λ _.
      subst (λ (xs : List Line). Facts (λ x e. e ≡ v + length xs) (visit_record m s (get_or s o 0) o v)) (held_other s ws o left (from_not_eq _ _ t)) (record_lines ws o v))))

  visit_lines : (left : ℕ) → Counted (held_lines left s) (visit_entity m left s)
  unfolding visit_entity visit_module
  visit_lines zero ws p o v = with_lines zero ws o v _ (λ k. f_bad _ _ _)
  visit_lines (suc left) ws p o v =
      with_lines (suc left) ws o v _ (λ k.
      let q : count_place o + 4 ≡ map_place o = omega arith in
      let z : suc left - 1 ≡ left = omega arith in
      let a = held_module s ws o (suc left) (λ e. absurd (omega arith)) k refl in
      let b : entity_lines (held_lines left s) s ws (map_place o) (le 4 s (count_place o)) 0 ≡ held_lines (suc left) s ws o = subst (λ (i : ℕ). entity_lines (held_lines i s) s ws (map_place o) (le 4 s (count_place o)) 0 ≡ held_lines (suc left) s ws o) z a in
      let n = ap length b in
      f_uint s (o + 1) _ _ 4 (λ h. f_next (λ es d. read_map s o v (le 4 s (count_place o)) (count_place o + 4) ≡ got es d) _ _ _ (f_read _ _ (λ es d r. r)) (λ es d r.
      f_read _ _ (λ x e g. omega (arith, n, map_lines s ws (map_place o) (held_lines left s) (visit_entity m left s) (visit_lines left) o v (le 4 s (count_place o)) (v + le 4 s (count_place o)) (rw q at r) g)))))

  -- ---- the file

  file_lines : Facts (λ x e. e ≡ length (list_of s)) (read_file m s)
  unfolding read_file read_root list_of
  file_lines =
      f_unless _ _ _ _ _ (λ _. f_unless _ _ _ _ _ (λ _. f_unless _ _ _ _ _ (λ _. f_unless _ _ _ _ _ (λ _. f_unless _ _ _ _ _ (λ _.
      f_next (λ es d. read_map s (root_at s) 0 (root_count s) (root_at s) ≡ got es d) _ _ _ (f_read _ _ (λ es d r. r)) (λ es d r.
      f_read _ _ (λ x e g. (let b = map_lines s [] (root_at s) (held_lines module_limit s) (visit_entity m module_limit s) (visit_lines module_limit) (root_at s) 0 (root_count s) (root_count s) r g in omega arith))))))))

-- theorem: the listing has a line for each entry that the check counts
pub listed_count : (m : SetCount) (s : List ℕ) {x : Sound} {e : ℕ} → read_file m s ≡ got x e → length (list_of s) ≡ e
listed_count m s h = sym (fact _ _ (file_lines m s) h)

pub lines_few : (s : List ℕ) → Checked s → length (list_of s) ≤ visit_limit
lines_few s c = let a = c.accepted in omega (arith, listed_count c.reading s a.2, entries_few c.reading s a.0 a.1 a.2)

-- What stands before a part of the store that is read into, and a file that was read behind its name.
-- Assumes nothing.
use Rattle.std.specs.Prelude.{Err, Ok}
use mathlib.Core.Path.{◌≡◌, refl, sym, ap, ◌∙◌, subst}
use mathlib.Core.Bool.{Bool, true, false}
use mathlib.Core.List.{List, ◌++◌}
use Prim.Native.Nat.{ℕ, ◌+◌, ◌-◌, ◌*◌, ◌≤◌, ◌<◌}
use native.Mathlib.Omega.{arith}
use lib.IntN.{ℤ}
use lib.ListN.{length, take, drop, length-append}
use lib.Seq.{sets, sets-eq, take_all, take-add, take-take, take-append-le, take_at, drop_at, length-take-le}
use borrow.Rule.Slice.PartMut.{post_of, put_mid, take_put}
use Rattle.number.specs.Part.{part}
use Rattle.number.proofs.Scans.{clash}
use Rattle.words.specs.declared.Span.{Span}
use Rattle.paths.specs.Path.{path_limit}
use Rattle.number.specs.Limits.{file_most}
use Rattle.input.specs.File.{StandsBehind, FirstBytes}
use Rattle.input.proofs.FileLaws.{full_first}
use Rattle.kept.specs.declared.Kept.{Kept}
use Rattle.kept.specs.Names.{forgotten_state, row_of, row_added, one_more}
use Rattle.kept.specs.Table.{Tidy}
use Rattle.kept.specs.Files.{is_found}
use Rattle.kept.proofs.AddLaws.{keeps_files, still_lost, added_found, added_file, added_others, added_keeps}
use Rattle.kept.proofs.FileLaws.{found_yes, found_no}
use Rattle.store.specs.Loading.{ReadBehind, Answers, Loads}
use Rattle.store.specs.declared.Loaded.{Loaded}
use Rattle.store.specs.declared.Loaded.TheVariants as loaded
use Rattle.store.specs.declared.Asked.{Asked}

-- ---- a part of the store that was lent and read into

module _ (name store ys : List ℕ) (from : ℕ) (room : from ≤ length store) where
  abbrev k : ℕ
  k = from + file_most - from

  abbrev text : List ℕ
  text = put_mid from k store ys

  part_read : (n : ℕ) → n ≤ length ys → part text from (from + n) ≡ take n ys
  unfolding part
  part_read n h =
      let rest = post_of from k store in
      let e = length-take-le from store room in
      ap (drop from) (take-add from n text ∙ ap (λ (z : List ℕ). z ++ take n (drop from text)) (take_put from k store ys room))
      ∙ drop_at (take from store) (take n (drop from text)) from e
      ∙ ap (take n) (drop_at (take from store) (ys ++ rest) from e)
      ∙ take-append-le n ys rest h

  module _ (whole : length ys ≡ file_most) where
    pub read_whole : (n : ℕ) → n < length ys → FirstBytes name (length ys) (take n ys) → ReadBehind name store from (Ok (from + n)) text
    read_whole n h f = record {
      ends = (omega arith, omega arith);
      before = take_put from k store ys room;
      bytes = subst (FirstBytes name file_most) (sym (part_read n (omega arith))) (subst (λ (r : ℕ). FirstBytes name r (take n ys)) whole f);
    }

    pub read_full : (fd : ℤ) → StandsBehind name fd ys → ReadBehind name store from (Ok (from + file_most)) text
    read_full fd s = record {
      ends = (omega arith, omega arith);
      before = take_put from k store ys room;
      bytes = subst (FirstBytes name file_most) (sym (part_read file_most (omega arith) ∙ take_all file_most ys (omega arith))) (subst (λ (r : ℕ). FirstBytes name r ys) whole (full_first name fd ys s));
    }

  pub read_none : (e : ℤ) → ReadBehind name store from (Err e) text
  read_none e = record { ends = tt; before = take_put from k store ys room; bytes = tt }

-- ---- nothing more is kept

module _ (barred : Bool) (name : List ℕ) (kept : Kept) (rows store : List ℕ) (tidy : Tidy rows kept) where
  pub same_kept : (text : List ℕ) (file : Loaded) → take kept.used text ≡ take kept.used store → Answers barred name kept rows store kept rows text file → Loads barred name kept rows store (record { kept = kept; file = file }) rows text
  same_kept text file e a = record {
    tidy = tidy;
    keeps = keeps_files kept rows store rows text tidy (λ i h. refl) e kept (omega arith);
    others = λ other _ lost. still_lost kept rows store rows text tidy (λ i h. refl) e other kept (omega arith) (λ h. absurd (omega arith)) lost;
    file = a;
    few = omega arith;
    used = omega arith;
  }

  pub is_there : {k : ℕ} → barred ≡ false → k ≡ row_of name rows store kept.rows → k < kept.rows → Loads barred name kept rows store (record { kept = kept; file = loaded.Kept }) rows store
  is_there b e h =
      let f : is_found name kept rows store ≡ true = found_yes name kept rows store (omega arith) in
      same_kept store loaded.Kept refl (b, record { found = f; bytes = λ q. clash (is_found name kept rows store) f q })

pub not_there : (name : List ℕ) (kept : Kept) (rows store : List ℕ) {k : ℕ} → k ≡ row_of name rows store kept.rows → k ≤ kept.rows → kept.rows ≤ k → is_found name kept rows store ≡ false
not_there name kept rows store e g h = found_no name kept rows store (omega arith)

pub Loads-as : {b d : Bool} (name : List ℕ) (kept : Kept) (rows store : List ℕ) (r : Asked) (table text : List ℕ) → b ≡ d → Loads b name kept rows store r table text → Loads d name kept rows store r table text
Loads-as name kept rows store r table text e l = subst (λ (t : Bool). Loads t name kept rows store r table text) e l

-- ---- a name, and what is read behind it

module _ (name : List ℕ) (kept : Kept) (rows store written text : List ℕ) (from : ℕ) (tidy : Tidy rows kept) (room : kept.used + length name ≤ length store) (w : from ≡ kept.used + length name) (put : written ≡ sets store kept.used name) (before : take from text ≡ take from written) where
  name_put : take from text ≡ take kept.used store ++ name
  name_put =
      before
      ∙ ap (take from) (put ∙ sets-eq name store kept.used room)
      ∙ take_at (take kept.used store ++ name) (drop (kept.used + length name) store) from (omega (arith, length-append (take kept.used store) name, length-take-le kept.used store (omega arith)))

  -- what was in use is as it was
  used_stays : take kept.used text ≡ take kept.used store
  used_stays =
      sym (take-take kept.used from text (omega arith))
      ∙ ap (take kept.used) name_put
      ∙ take_at (take kept.used store) name kept.used (length-take-le kept.used store (omega arith))

  name_stands : name ≡ part text kept.used from
  unfolding part
  name_stands = sym (ap (drop kept.used) name_put ∙ drop_at (take kept.used store) name kept.used (length-take-le kept.used store (omega arith)))

  pub read_fails : (e : ℤ) → Loads false name kept rows store (record { kept = kept; file = loaded.Failed e }) rows text
  read_fails e = same_kept false name kept rows store tidy text (loaded.Failed e) used_stays refl

  module _ (state end : ℕ) (few : kept.rows < 64) (lost : is_found name kept rows store ≡ false) (s : state < forgotten_state) (short : length name ≤ path_limit) (f : from ≤ end) (l : end ≤ from + file_most) (held : FirstBytes name file_most (part text from end)) where
    abbrev file : Span
    file = record { from = from; end = end }

    one_more_lem : Tidy (row_added state file kept rows) (one_more file kept) → Loads false name kept rows store (record { kept = one_more file kept; file = loaded.Kept }) (row_added state file kept rows) text
    unfolding one_more
    one_more_lem t =
        let h : 4 * kept.rows + 3 < length rows = omega (arith, tidy.whole) in
        let q : state ≡ forgotten_state → ⊥ = λ z. omega arith in
        record {
          tidy = t;
          keeps = added_keeps name state file kept rows store text h tidy used_stays;
          others = added_others name state file kept rows store text h tidy used_stays name_stands;
          file = (
            refl,
            record {
              found = added_found name state file kept rows store text h tidy used_stays q name_stands lost;
              bytes = λ _. subst (FirstBytes name file_most) (sym (added_file name state file kept rows store text h tidy used_stays q name_stands lost)) held;
            },
          );
          few = omega arith;
          used = omega arith;
        }

    -- as the code adds it
    pub read_Loads : (more : Kept) (table : List ℕ) → Tidy table more → more ≡ one_more file kept → table ≡ row_added state file kept rows → Loads false name kept rows store (record { kept = more; file = loaded.Kept }) table text
    read_Loads more table t e g =
        let t' : Tidy (row_added state file kept rows) (one_more file kept) = subst (λ (k : Kept). Tidy (row_added state file kept rows) k) e (subst (λ (u : List ℕ). Tidy u more) g t) in
        rw (e, g) (one_more_lem t')

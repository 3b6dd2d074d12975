-- Files that are fetched and added one by one make the pile of their list.
-- Assumes nothing.
use mathlib.Core.Path.{◌≡◌, refl, sym, ap, subst, ◌∙◌}
use mathlib.Core.Bool.{Bool}
use mathlib.Core.List.{List, [], ◌∷◌, ◌++◌}
use Prim.Native.Nat.{ℕ, ◌+◌, ◌≤◌, ◌<◌}
use native.Mathlib.Omega.{arith}
use native.Mathlib.Numerals.{add-one}
use lib.ListN.{length}
use Rattle.number.specs.Limits.{file_limit}
use Rattle.tasks.specs.Tasks.{argument}
use Rattle.kept.specs.Table.{Tidy}
use Rattle.store.specs.declared.Loaded.{Loaded}
use Rattle.store.specs.declared.Loaded.TheVariants as loaded
use Rattle.pile.specs.declared.Pile.{Pile}
use Rattle.pile.specs.declared.Added.{Added}
use Rattle.pile.specs.declared.Added.TheVariants.{Grown, Refused, Full}
use Rattle.pile.specs.Pile.{no_files, Turn, turn, added, ended, onward, add_all, piled}
use Rattle.pile.proofs.Rooms.{PileFits, added_fits, ended_fits}
use Rattle.piling.specs.declared.Went.{Went}
use Rattle.piling.specs.declared.Went.TheVariants as went
use Rattle.piling.specs.Fetching.{WentOn, ShortEnd, Ends, Store, file_in, Asks, Fetches, begun, Short, Whole, Stopped, Answered}

-- ---- the pile of a list

-- one file more
add_last : (t : Turn) (fs : List (List ℕ)) (f : List ℕ) → add_all t (fs ++ (f ∷ [])) ≡ onward (λ p. added p f) (add_all t fs)
unfolding add_all
add_last t [] f = refl
add_last t (g ∷ fs) f = add_last (onward (λ p. added p g) t) fs f

add_grown : (t : Turn) (fs : List (List ℕ)) (f : List ℕ) (p : Pile) (one other : List ℕ) → turn (Grown p) one other ≡ add_all t fs → add_all t (fs ++ (f ∷ [])) ≡ added p f one other
unfolding onward
add_grown t fs f p one other e = add_last t fs f ∙ ap (onward (λ p. added p f)) (sym e)

-- after the last file
piled-grown : (fs : List (List ℕ)) (p : Pile) (one other first second : List ℕ) → turn (Grown p) first second ≡ add_all (begun one other) fs → piled fs one other ≡ ended p first second
unfolding piled onward
piled-grown fs p one other first second e = ap (onward ended) (sym e)

-- a refusal stays
piled_refused : (fs : List (List ℕ)) (a : Added) (one other first second : List ℕ) → ((p : Pile) → a ≡ Grown p → ⊥) → turn a first second ≡ add_all (begun one other) fs → turn a first second ≡ piled fs one other
unfolding piled onward
piled_refused fs (Grown p) one other first second z e = absurd (z p refl)
piled_refused fs (Refused x) one other first second z e = ap (onward ended) e
piled_refused fs Full one other first second z e = ap (onward ended) e

-- ---- lengths

fits_Short : (a : Added) (one other : List ℕ) → PileFits file_limit (turn a one other) → Short a
fits_Short (Grown p) one other h = h
fits_Short (Refused x) one other h = tt
fits_Short Full one other h = tt

pub added-Short : (p : Pile) (f one other : List ℕ) (a : Added) (first second : List ℕ) → length one ≡ file_limit → length other ≡ file_limit → turn a first second ≡ added p f one other → Short a
added-Short p f one other a first second l m e = fits_Short a first second (subst (PileFits file_limit) (sym e) (added_fits file_limit p f one other (omega arith) (omega arith)))

pub ended-Short : (p : Pile) (one other : List ℕ) (a : Added) (first second : List ℕ) → length one ≡ file_limit → length other ≡ file_limit → p.length ≤ file_limit → turn a first second ≡ ended p one other → Short a
ended-Short p one other a first second l m h e = fits_Short a first second (subst (PileFits file_limit) (sym e) (ended_fits file_limit p one other (omega arith) (omega arith) h))

-- ---- the loop

all_Whole : (k n : ℕ) (a : Added) → k ≡ n → Whole n k a
all_Whole k n (Grown p) e = e
all_Whole k n (Refused x) e = tt
all_Whole k n Full e = tt

not_Whole : (k n : ℕ) (a : Added) → ((p : Pile) → a ≡ Grown p → ⊥) → Whole n k a
not_Whole k n (Grown p) z = absurd (z p refl)
not_Whole k n (Refused x) z = tt
not_Whole k n Full z = tt

module _ (b : Bool) (ws : List (List ℕ)) (n : ℕ) (s : Store) (one other : List ℕ) where
  -- k files are in the pile
  pub record So (t : Store) (first second : List ℕ) (p : Pile) (k : ℕ) : Type 0 where
    pub few : k ≤ n
    pub tidy : Tidy t.rows t.kept
    pub files : List (List ℕ)
    pub fetched : Fetches b ws k s files t
    pub so_far : turn (Grown p) first second ≡ add_all (begun one other) files
    pub short : p.length ≤ file_limit

  pub begins : Tidy s.rows s.kept → So s one other no_files 0
  unfolding Fetches add_all no_files
  begins h = record { few = omega arith; tidy = h; files = []; fetched = (refl, refl); so_far = refl; short = omega arith }

  module _ (t : Store) (first second : List ℕ) (p : Pile) (k : ℕ) (h : So t first second p k) (u : Store) where
    one_more_lem : Asks b (argument (k + 1) ws) t loaded.Kept u → Fetches b ws (k + 1) s (h.files ++ (file_in u (argument (k + 1) ws) ∷ [])) u
    unfolding Fetches
    one_more_lem a = subst (λ (m : ℕ). Fetches b ws m s (h.files ++ (file_in u (argument (k + 1) ws) ∷ [])) u) (sym (add-one k)) (t, (h.files, (h.fetched, (a, refl))))

    module _ (x : Added) (left right : List ℕ) (a : Asks b (argument (k + 1) ws) t loaded.Kept u) (e : turn x left right ≡ added p (file_in u (argument (k + 1) ws)) first second) where
      next_pile : turn x left right ≡ add_all (begun one other) (h.files ++ (file_in u (argument (k + 1) ws) ∷ []))
      next_pile = e ∙ sym (add_grown (begun one other) h.files (file_in u (argument (k + 1) ws)) p first second h.so_far)

      pub grows : (q : Pile) → x ≡ Grown q → k < n → Tidy u.rows u.kept → Short x → So u left right q (k + 1)
      grows q g l d z = record {
        few = omega arith;
        tidy = d;
        files = h.files ++ (file_in u (argument (k + 1) ws) ∷ []);
        fetched = one_more_lem a;
        so_far = ap (λ (y : Added). turn y left right) (sym g) ∙ next_pile;
        short = subst Short g z;
      }

      pub refuses : ((q : Pile) → x ≡ Grown q → ⊥) → Answered b ws n (k + 1) s one other x u left right
      refuses z = record {
        files = h.files ++ (file_in u (argument (k + 1) ws) ∷ []);
        fetched = one_more_lem a;
        answer = piled_refused (h.files ++ (file_in u (argument (k + 1) ws) ∷ [])) x one other left right z next_pile;
        whole = not_Whole (k + 1) n x z;
      }

    pub stops : (file : Loaded) → Asks b (argument (k + 1) ws) t file u → Stopped b ws (k + 1) s one other file u first second
    stops file a = record { before = k; next = refl; files = h.files; store = t; fetched = h.fetched; asked = a; pile = p; added = h.so_far }

    came : (w v : Went) (left right : List ℕ) → w ≡ v → WentOn b (argument (k + 1) ws) p t first second w u left right → WentOn b (argument (k + 1) ws) p t first second v u left right
    came w v left right e g = subst (λ (y : Went). WentOn b (argument (k + 1) ws) p t first second y u left right) e g

    -- the next file is not to be had
    pub stops_short : (w : Went) (left right : List ℕ) (file : Loaded) → w ≡ went.Wanting file → WentOn b (argument (k + 1) ws) p t first second w u left right → Ends b ws n (k + 1) s one other w u left right
    unfolding WentOn Ends
    stops_short w left right file e g =
        let d = came w (went.Wanting file) left right e g in
        rw (e, d.1.0, d.1.1) (stops file d.0)

    -- it is refused
    pub refuses_next : (w : Went) (left right : List ℕ) (x : Added) → w ≡ went.Added x → ((q : Pile) → x ≡ Grown q → ⊥) → WentOn b (argument (k + 1) ws) p t first second w u left right → Ends b ws n (k + 1) s one other (went.Added x) u left right
    unfolding WentOn Ends
    refuses_next w left right x e z g =
        let d = came w (went.Added x) left right e g in
        refuses x left right d.0 d.1 z

    -- it is in the pile
    pub goes_on_lem : (w : Went) (left right : List ℕ) (x : Added) (q : Pile) → w ≡ went.Added x → x ≡ Grown q → WentOn b (argument (k + 1) ws) p t first second w u left right → k < n → Tidy u.rows u.kept → ShortEnd w → So u left right q (k + 1)
    unfolding WentOn
    goes_on_lem w left right x q e z g l d m =
        let c = came w (went.Added x) left right e g in
        grows x left right c.0 c.1 q z l d (subst ShortEnd e m)

  pub closes : (t : Store) (first second : List ℕ) (p : Pile) (k : ℕ) (h : So t first second p k) (x : Added) (left right : List ℕ) → turn x left right ≡ ended p first second → k ≡ n → Ends b ws n k s one other (went.Added x) t left right
  unfolding Ends
  closes t first second p k h x left right e w = record { files = h.files; fetched = h.fetched; answer = e ∙ sym (piled-grown h.files p one other first second h.so_far); whole = all_Whole k n x w }

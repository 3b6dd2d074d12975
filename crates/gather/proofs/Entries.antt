-- Entries one by one: their words, and what their descriptors take.
-- Assumes nothing.
use mathlib.Core.Path.{◌≡◌, refl, sym, ap, ◌∙◌}
use mathlib.Core.List.{List, [], ◌∷◌, ◌++◌, append_assoc, append-nil}
use Prim.Native.Nat.{ℕ, zero, suc, ◌+◌, ◌-◌, ◌*◌, ◌≤◌, ◌<◌}
use native.Mathlib.Omega.{arith}
use lib.ListN.{length, get_or, take, length-append}
use Rattle.reader.specs.Values.{Entry, entry, entry_key, entry_descriptor, no_entry}
use Rattle.meaning.specs.Normal.Size.{sum}
use Rattle.meaning.specs.Stock.Uses.{own_words, key_words, entry_words, words_of, own_body, body_length}
use Rattle.places.specs.Noted.{start_use, body_use, body_size}

pub entry_words_lem : (e : Entry ℕ) → key_words (entry_key e) ++ own_words (entry_descriptor e) ≡ entry_words e
unfolding entry_words entry_key entry_descriptor
entry_words_lem (entry k i d) = refl

body_length_lem : (e : Entry ℕ) → body_length e ≡ 28 + own_body (entry_descriptor e)
unfolding body_length entry_descriptor
body_length_lem (entry k i d) = refl

-- ---- one entry more

pub words_more : (us : List (Entry ℕ)) (q : ℕ) → q < length us → words_of (take (q + 1) us) ≡ words_of (take q us) ++ entry_words (get_or us q no_entry)
unfolding words_of
words_more [] q l = absurd (omega arith)
words_more (e ∷ us) zero l = append-nil (entry_words e)
words_more (e ∷ us) (suc q) l =
    let z : suc q + 1 ≡ suc (q + 1) = omega arith in
    ap (λ (j : ℕ). words_of (take j (e ∷ us))) z
    ∙ ap (λ (ws : List (List ℕ)). entry_words e ++ ws) (words_more us q (omega arith)) ∙ sym (append_assoc (entry_words e) (words_of (take q us)) (entry_words (get_or us q no_entry)))

pub sum_more : (us : List (Entry ℕ)) (q : ℕ) → q < length us → sum body_length (take (q + 1) us) ≡ sum body_length (take q us) + (28 + own_body (entry_descriptor (get_or us q no_entry)))
unfolding sum
sum_more [] q l = absurd (omega arith)
sum_more (e ∷ us) zero l = omega (arith, body_length_lem e)
sum_more (e ∷ us) (suc q) l =
    let z : suc q + 1 ≡ suc (q + 1) = omega arith in
    ap (λ (j : ℕ). sum body_length (take j (e ∷ us))) z ∙ omega (arith, sum_more us q (omega arith))

pub start_use_lem : (us : List (Entry ℕ)) (q : ℕ) → q < length us → start_use us q ≡ length (words_of (take q us))
unfolding start_use words_of
start_use_lem [] q l = absurd (omega arith)
start_use_lem (e ∷ us) zero l = refl
start_use_lem (e ∷ us) (suc q) l = omega (arith, length-append (entry_words e) (words_of (take q us)), start_use_lem us q (omega arith))

pub body_use_lem : (us : List (Entry ℕ)) (q : ℕ) → q < length us → body_use us q ≡ length (words_of (take q us)) + length (key_words (entry_key (get_or us q no_entry)))
unfolding body_use words_of
body_use_lem [] q l = absurd (omega arith)
body_use_lem (e ∷ us) zero l = omega arith
body_use_lem (e ∷ us) (suc q) l = omega (arith, length-append (entry_words e) (words_of (take q us)), body_use_lem us q (omega arith))

pub body_size_lem : (us : List (Entry ℕ)) (q : ℕ) → q < length us → body_size us q ≡ own_body (entry_descriptor (get_or us q no_entry))
unfolding body_size
body_size_lem [] q l = absurd (omega arith)
body_size_lem (e ∷ us) zero l = refl
body_size_lem (e ∷ us) (suc q) l = body_size_lem us q (omega arith)

-- ---- all of them

least : (us : List (Entry ℕ)) → 28 * length us ≤ sum body_length us
unfolding sum
least [] = omega arith
least (e ∷ us) = omega (arith, body_length_lem e, least us)

-- those that are left take their places in the directory at least
pub sum_rest : (us : List (Entry ℕ)) (q : ℕ) → q ≤ length us → sum body_length (take q us) + 28 * (length us - q) ≤ sum body_length us
unfolding sum
sum_rest [] zero l = omega arith
sum_rest [] (suc q) l = absurd (omega arith)
sum_rest (e ∷ us) zero l = omega (arith, body_length_lem e, least us)
sum_rest (e ∷ us) (suc q) l = omega (arith, sum_rest us q (omega arith))

pub take_whole : (us : List (Entry ℕ)) (q : ℕ) → length us ≤ q → take q us ≡ us
take_whole [] zero l = refl
take_whole [] (suc q) l = refl
take_whole (e ∷ us) zero l = absurd (omega arith)
take_whole (e ∷ us) (suc q) l = ap (λ (vs : List (Entry ℕ)). e ∷ vs) (take_whole us q (omega arith))

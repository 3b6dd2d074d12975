-- Linking one by one, and all facts at once.
-- Assumes nothing.
use mathlib.Core.Path.{◌≡◌, refl, sym, ap, ◌∙◌}
use mathlib.Core.Logic.{inl, inr}
use mathlib.Core.List.{List, [], ◌∷◌, ◌++◌, append-nil, append_assoc}
use mathlib.Core.Option.{Option, none, some}
use Prim.Native.Nat.{ℕ, ◌+◌, ◌≤◌, ◌<◌}
use native.Mathlib.Omega.{arith}
use lib.ListN.{length}
use Rattle.number.specs.Limits.{pile_limit}
use Rattle.reading.specs.Got.{Got, got}
use Rattle.key.specs.Key.{Key}
use Rattle.reader.specs.Values.{Typelib, entries_in, Entry}
use Rattle.reader.specs.Rules.{All}
use Rattle.meaning.specs.Meaning.{meaning}
use Rattle.meaning.specs.Facts.Facts.{In, Sub, Within, said}
use Rattle.meaning.specs.Facts.Union.{sort, union}
use Rattle.meaning.specs.Facts.Conditions.{Fine}
use Rattle.meaning.specs.Facts.Valid.{Valid}
use Rattle.meaning.specs.Facts.Link.{Linked, stopped, joined, link_entries, joined_of}
use Rattle.meaning.proofs.Facts.Sets.{In-left, In-right, In-append, Sub-same}
use Rattle.meaning.proofs.Facts.Values.{some_equal, not_some}
use Rattle.meaning.proofs.Facts.Said.{Within-Sub, Within-more}
use Rattle.meaning.proofs.Facts.Unions.{union_ext}
use Rattle.meaning.proofs.Facts.Agrees.{Agree-Sound}
use Rattle.meaning.proofs.Facts.Groups.{Fine-Within}
use Rattle.meaning.proofs.Facts.Algebra.{Closed, Closed-Valid, Closed-both, union_says, joined_exactly}
use Rattle.meaning.specs.Normal.Size.{sum}
use Rattle.meaning.specs.Normal.Encodable as normal
use Rattle.meaning.specs.Stock.Uses.{words_of, stored_size, stock_size, normal_length}
use Rattle.meaning.specs.Stock.Form.{normal_form}
use Rattle.meaning.proofs.Stock.Grows.{normal_Grows}
use Rattle.link.specs.Demand.{Means, Buffer, left_by}
use Rattle.link.proofs.Files.{accepted_Valid, accepted_Sound, form_Means}
use Rattle.link.proofs.Unions.{valid_Readable, Fine-Readable, Valid-Fine, Sound-both}
use Rattle.link.proofs.Answers.{form_of, left_by_lem}
use Rattle.pile.specs.declared.Added.TheVariants.{Grown, Refused, Full}
use Rattle.pile.specs.Pile.{empty_file, no_files, Turn, turn, added, ended, onward, add_all, piled, held_by, left_of, pile}
use Rattle.pile.specs.Claim.{MeanAll, said_by, Laid}
use Rattle.pile.proofs.Turns.{Stands, added-Stands, next_links, first_taken, ended_same, ended_alone}

-- ---- equal facts

module _ (es fs : List (Entry Key)) (w : Within es fs) (v : Within fs es) where
  pub Fine-same : Fine normal_length fs → Fine normal_length es
  Fine-same f = Fine-Within normal_length normal_Grows es fs w f

  pub union_same : Fine normal_length fs → union es ≡ union fs
  union_same f = let s = Agree-Sound fs f.agree in union_ext es fs w v s.iids s.descriptors

-- each entry is sound, and references lead to keys
pub record Told (E : List (Entry Key)) : Type 0 where
  pub each : All normal.Sound E
  pub closed : Closed E

file_Told : (a : List ℕ) (A : List (Entry Key)) → Means a A → Told A
file_Told a A m = record { each = accepted_Sound a A m; closed = Closed-Valid A (accepted_Valid a A m) }

both_Told : (A B : List (Entry Key)) → Told A → Told B → Told (A ++ B)
both_Told A B a b = record { each = Sound-both A B a.each b.each; closed = Closed-both A B a.closed b.closed }

pub all_Told : (fs : List (List ℕ)) (As : List (List (Entry Key))) → MeanAll fs As → Told (said_by As)
unfolding said_by said
all_Told [] [] m = record { each = tt; closed = record { resolved = λ k d i. absurd i; references = λ k d i. absurd i } }
all_Told [] (A ∷ As) m = absurd m
all_Told (f ∷ fs) [] m = absurd m
all_Told (f ∷ fs) (A ∷ As) m = both_Told A (said_by As) (file_Told f A m.0) (all_Told fs As m.1)

-- ---- files that say E were linked

-- o is their end
pub record Ended (o : Option (List ℕ)) (E : List (Entry Key)) : Type 0 where
  pub reached : (b : List ℕ) → o ≡ some b → Fine normal_length E × (b ≡ normal_form (union E))
  pub reaches : Fine normal_length E → o ≡ some (normal_form (union E))

-- b is an accepted file that says what E says
record Says (b : List ℕ) (E : List (Entry Key)) : Type 0 where
  pub all : List (Entry Key)
  pub means : Means b all
  pub no_more : Within all E
  pub no_less : Within E all

-- what goes on to the next file
record Goes (o : Option (List ℕ)) (E : List (Entry Key)) : Type 0 where
  pub says : (b : List ℕ) → o ≡ some b → Says b E
  pub going : Fine normal_length E → (b : List ℕ) × (o ≡ some b)

Ended-Goes : (o : Option (List ℕ)) (E : List (Entry Key)) → Told E → Ended o E → Goes o E
Ended-Goes o E t d = record {
  says = λ b h.
      let x = d.reached b h in
      let u = union_says E x.0.agree in
      record { all = union E; means = rw x.1 (form_Means (union E) (Fine-Readable E t.each t.closed x.0)); no_more = u.0; no_less = u.1 };
  going = λ g. (normal_form (union E), d.reaches g);
}

-- a file goes on as it is
file_Goes : (o : Option (List ℕ)) (f : List ℕ) (A : List (Entry Key)) → Means f A → o ≡ some f → Goes o A
file_Goes o f A m e =
    let same = Within-Sub A A (Sub-same A) in
    record {
      says = λ b h. record { all = A; means = rw (some_equal (sym h ∙ e)) m; no_more = same; no_less = same };
      going = λ g. (f, e);
    }

-- one link
module _ (a : List ℕ) (E : List (Entry Key)) (s : Says a E) (f : List ℕ) (A : List (Entry Key)) (n : Means f A) (out : List ℕ) (r : Buffer out) where
  abbrev U : List (Entry Key)
  U = s.all

  more : Within (U ++ A) (E ++ A)
  more = Within-more U E A s.no_more

  back : Within (E ++ A) (U ++ A)
  back = Within-more E U A s.no_less

  link_Ended : Ended (left_by a f out) (E ++ A)
  unfolding joined_of
  link_Ended = record {
    reached = λ b h. go (link_entries normal_length U A) refl b (sym (left_by_lem a U s.means f A n out r) ∙ h);
    reaches = λ g.
        let e = (joined_exactly normal_length U A (accepted_Valid f A n) (union (U ++ A))).1 (Fine-same (U ++ A) (E ++ A) more back g, refl) in
        left_by_lem a U s.means f A n out r ∙ ap (λ (l : Linked). form_of (joined_of l)) e ∙ ap (λ (us : List (Entry Key)). some (normal_form us)) (union_same (U ++ A) (E ++ A) more back g);
  }
    where
      go : (l : Linked) → link_entries normal_length U A ≡ l → (b : List ℕ) → form_of (joined_of l) ≡ some b → Fine normal_length (E ++ A) × (b ≡ normal_form (union (E ++ A)))
      go (stopped i q) e b h = not_some h
      go (joined W) e b h =
          let x = (joined_exactly normal_length U A (accepted_Valid f A n) W).0 e in
          let g = Fine-same (E ++ A) (U ++ A) back more x.0 in
          (g, sym (some_equal h) ∙ ap normal_form (x.1 ∙ union_same (U ++ A) (E ++ A) more back g))

-- ---- one more file

module _ (f : List ℕ) (A : List (Entry Key)) (n : Means f A) where
  next_Ended : (k : ℕ) (t : Turn) (E : List (Entry Key)) → Stands k t → 1 ≤ k → k < pile_limit → Goes (left_of t) E → Ended (left_of (onward (λ p. added p f) t)) (E ++ A)
  unfolding onward left_of
  next_Ended k (turn (Grown p) one other) E s l h g =
      let x = next_links p f one other (omega (arith, s.0)) (λ z. omega (arith, s.0)) s.1 s.2 in
      rw x.2 (link_Ended (held_by p one other) E (g.says (held_by p one other) refl) f A n x.0 x.1)
  next_Ended k (turn (Refused y) one other) E s l h g = record {
    reached = λ b e. not_some e;
    reaches = λ i. not_some (g.going (Fine-Within normal_length normal_Grows E (E ++ A) (Within-Sub E (E ++ A) (λ e j. In-left e E A j)) i)).1;
  }
  next_Ended k (turn Full one other) E s l h g = absurd s

  next_Stands : (k : ℕ) (t : Turn) → Stands k t → k < pile_limit → Stands (k + 1) (onward (λ p. added p f) t)
  unfolding onward
  next_Stands k (turn (Grown p) one other) s l = rw (sym s.0) (added-Stands p f one other (omega (arith, s.0)) s.1 s.2)
  next_Stands k (turn (Refused y) one other) s l = tt
  next_Stands k (turn Full one other) s l = absurd s

-- ---- all files

rest_ended : (fs : List (List ℕ)) (As : List (List (Entry Key))) → MeanAll fs As → (k : ℕ) (t : Turn) (E : List (Entry Key)) → Stands k t → 2 ≤ k → k + length fs ≤ pile_limit → Told E → Ended (left_of t) E
    → Ended (left_of (onward ended (add_all t fs))) (E ++ said_by As)
unfolding add_all said_by
rest_ended [] [] m k t E s l h d e = rw (append-nil E, ended_same k t s l) e
rest_ended [] (A ∷ As) m k t E s l h d e = absurd m
rest_ended (f ∷ fs) [] m k t E s l h d e = absurd m
rest_ended (f ∷ fs) (A ∷ As) m k t E s l h d e =
    rw (← append_assoc E A (said_by As)) (rest_ended fs As m.1 (k + 1) (onward (λ p. added p f) t) (E ++ A) (next_Stands f A m.0 k t s (omega arith)) (omega arith) (omega arith)
    (both_Told E A d (file_Told f A m.0)) (next_Ended f A m.0 k t E s (omega arith) (omega arith) (Ended-Goes (left_of t) E d e)))

-- ---- the empty typelib

none_Valid : Valid []
none_Valid = record {
  keys = λ i j l h e. omega arith;
  iids = λ i j l h e. absurd (omega arith);
  resolved = λ k i d m e. m;
  references = λ k i d m. absurd m;
  chains = λ k m. absurd m;
  few = omega arith;
}

none_union : union [] ≡ []
unfolding union sort
none_union = refl

none_Means : Means empty_file []
unfolding normal_length sum words_of stock_size stored_size
none_Means = form_Means [] (valid_Readable [] none_Valid tt none_union (omega arith))

none_Fine : Fine normal_length []
unfolding normal_length sum words_of stock_size stored_size
none_Fine = Valid-Fine [] none_Valid (λ h. omega (arith, h, ap normal_length none_union))

-- ---- the whole pile

module _ (one other : List ℕ) (r : Buffer one) (q : Buffer other) where
  -- after the first file
  abbrev kept : List ℕ → Turn
  kept f = added no_files f one other

  no_files_lem : no_files.files ≡ 0
  unfolding no_files
  no_files_lem = refl

  kept-Stands : (f : List ℕ) → Stands 1 (kept f)
  unfolding no_files
  kept-Stands f = added-Stands no_files f one other (omega arith) r q

  kept_left : (f : List ℕ) (A : List (Entry Key)) → Means f A → left_of (kept f) ≡ some f
  kept_left f A m = first_taken no_files f one other no_files_lem r m.typelib m.end m.decoded

  kept-Goes : (f : List ℕ) (A : List (Entry Key)) → Means f A → Goes (left_of (kept f)) A
  kept-Goes f A m = file_Goes (left_of (kept f)) f A m (kept_left f A m)

  -- then the others
  starts : (f : List ℕ) (fs : List (List ℕ)) → pile (f ∷ fs) one other ≡ left_of (onward ended (add_all (kept f) fs))
  unfolding pile piled add_all onward
  starts f fs = refl

  none_left : pile [] one other ≡ some empty_file
  unfolding pile piled add_all
  none_left = ap left_of (ended_alone 0 (turn (Grown no_files) one other) (no_files_lem, r, q) (omega arith)) ∙ (unfold onward in kept_left empty_file [] none_Means)

  alone_left : (f : List ℕ) → pile (f ∷ []) one other ≡ left_of (onward (λ p. added p empty_file) (kept f))
  unfolding add_all
  alone_left f = starts f [] ∙ ap left_of (ended_alone 1 (kept f) (kept-Stands f) (omega arith))

  pub all_Ended : (fs : List (List ℕ)) (As : List (List (Entry Key))) → MeanAll fs As → length fs ≤ pile_limit → Ended (pile fs one other) (said_by As)
  unfolding add_all said_by
  all_Ended [] [] m l = record {
    reached = λ b h. (none_Fine, some_equal (sym h ∙ none_left) ∙ ap normal_form (sym none_union));
    reaches = λ g. none_left ∙ ap (λ (us : List (Entry Key)). some (normal_form us)) (sym none_union);
  }
  all_Ended [] (A ∷ As) m l = absurd m
  all_Ended (f ∷ fs) [] m l = absurd m
  all_Ended (f ∷ []) (A ∷ []) m l = rw (alone_left f) (next_Ended empty_file [] none_Means 1 (kept f) A (kept-Stands f) (omega arith) (omega arith) (kept-Goes f A m.0))
  all_Ended (f ∷ []) (A ∷ (B ∷ As)) m l = absurd m.1
  all_Ended (f ∷ (g ∷ fs)) (A ∷ []) m l = absurd m.1
  all_Ended (f ∷ (g ∷ fs)) (A ∷ (B ∷ As)) m l =
      let n = m.1.0 in
      rw (starts f (g ∷ fs), ← append_assoc A B (said_by As)) (rest_ended fs As m.1.1 2 (onward (λ p. added p g) (kept f)) (A ++ B) (next_Stands g B n 1 (kept f) (kept-Stands f) (omega arith)) (omega arith) (omega arith)
      (both_Told A B (file_Told f A m.0) (file_Told g B n)) (next_Ended g B n 1 (kept f) A (kept-Stands f) (omega arith) (omega arith) (kept-Goes f A m.0)))

pub pile-Ended : (fs : List (List ℕ)) (As : List (List (Entry Key))) (one other : List ℕ) → Laid fs As one other → Ended (pile fs one other) (said_by As)
pile-Ended fs As one other l = all_Ended one other l.first l.second fs As l.means l.few

-- ---- any order, repeats added or dropped

pub file_In : (fs : List (List ℕ)) (As : List (List (Entry Key))) → MeanAll fs As → (f : List ℕ) → In f fs → (A : List (Entry Key)) × Means f A × Sub A (said_by As)
unfolding said_by
file_In [] As m f i = absurd i
file_In (g ∷ fs) [] m f i = absurd m
file_In (g ∷ fs) (A ∷ As) m f (inl e) = (A, rw e m.0, (λ x j. In-left x A (said_by As) j))
file_In (g ∷ fs) (A ∷ As) m f (inr i) = let r = file_In fs As m.1 f i in (r.0, r.1, (λ x j. In-right x A (said_by As) (r.2 x j)))

-- a file means one thing
pub Means-one : (f : List ℕ) (A B : List (Entry Key)) → Means f A → Means f B → A ≡ B
Means-one f A B m n =
    let q : ◌≡◌ {A = Got Typelib} (got m.typelib m.end) (got n.typelib n.end) = sym m.decoded ∙ n.decoded in
    let t : m.typelib ≡ n.typelib = cc in
    m.meant ∙ ap (λ (x : Typelib). meaning (entries_in x)) t ∙ sym n.meant

said_Sub : (fs gs : List (List ℕ)) (As Bs : List (List (Entry Key))) → MeanAll fs As → MeanAll gs Bs → Sub fs gs → Sub (said_by As) (said_by Bs)
unfolding said_by
said_Sub [] gs [] Bs m n s = λ x i. absurd i
said_Sub [] gs (A ∷ As) Bs m n s = absurd m
said_Sub (f ∷ fs) gs [] Bs m n s = absurd m
said_Sub (f ∷ fs) gs (A ∷ As) Bs m n s = λ x i. elim (In-append x A (said_by As) i) [
  | inl j ↦ let r = file_In gs Bs n f (s f (inl refl)) in r.2 x (rw (Means-one f A r.0 m.0 r.1) at j)
  | inr j ↦ said_Sub fs gs As Bs m.1 n (λ g k. s g (inr k)) x j
]

-- two ends of the same facts
same_end : (o p : Option (List ℕ)) (E F : List (Entry Key)) → Ended o E → Ended p F → Within E F → Within F E → (b : List ℕ) → o ≡ some b → p ≡ some b
same_end o p E F a c w v b h =
    let k = a.reached b h in
    c.reaches (Fine-same F E v w k.0) ∙ ap (λ (us : List (Entry Key)). some (normal_form us)) (union_same F E v w k.0) ∙ ap (λ (x : List ℕ). some x) (sym k.1)

same_option : {X : Type 0} (o p : Option X) → ((x : X) → o ≡ some x → p ≡ some x) → ((x : X) → p ≡ some x → o ≡ some x) → o ≡ p
same_option none none f g = refl
same_option none (some y) f g = g y refl
same_option (some x) p f g = sym (f x refl)

pub free : (fs gs : List (List ℕ)) (As Bs : List (List (Entry Key))) (one other left right : List ℕ) → Laid fs As one other → Laid gs Bs left right → Sub fs gs → Sub gs fs → pile fs one other ≡ pile gs left right
free fs gs As Bs one other left right m n s t =
    let a = pile-Ended fs As one other m in
    let b = pile-Ended gs Bs left right n in
    let w = Within-Sub (said_by As) (said_by Bs) (said_Sub fs gs As Bs m.means n.means s) in
    let v = Within-Sub (said_by Bs) (said_by As) (said_Sub gs fs Bs As n.means m.means t) in
    same_option (pile fs one other) (pile gs left right) (same_end _ _ _ _ a b w v) (same_end _ _ _ _ b a v w)

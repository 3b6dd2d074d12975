-- The theorems on normal forms hold.
-- Assumes nothing.
use mathlib.Core.Path.{◌≡◌, refl, sym, ap, ◌∙◌}
use mathlib.Core.List.{List, ◌++◌}
use Prim.Native.Nat.{ℕ}
use native.Mathlib.Omega.{arith}
use lib.ListN.{length}
use Rattle.reading.specs.Got.{Got, got, bad, Accepted}
use Rattle.key.specs.Key.{Key}
use Rattle.reader.specs.Values.{Typelib, Entry, entries_in}
use Rattle.reader.specs.Records.{Bytes}
use Rattle.reader.specs.Reader.{decode}
use Rattle.meaning.specs.Meaning.{meaning}
use Rattle.meaning.specs.Facts.Facts.{Within}
use Rattle.meaning.specs.Facts.Union.{union}
use Rattle.meaning.specs.Facts.Link.{Linked, stopped, joined, link_entries, normal_entries}
use Rattle.meaning.proofs.Facts.Algebra.{joined_exactly, joined_normal, joined_says, normal_exactly, normal_normal, union_means, mean_exactly}
use Rattle.meaning.specs.Stock.Uses.{normal_length}
use Rattle.meaning.specs.Stock.Form.{normal_form}
use Rattle.meaning.specs.Stock.Readable.{Readable}
use Rattle.meaning.proofs.Stock.Lengths.{length_normal}
use Rattle.meaning.proofs.Normal.Minors.{minor_exactly, minor_else}
use Rattle.meaning.proofs.Stock.Back.{normal_injective, minor_byte}
use Rattle.link.specs.declared.Which.TheVariants.{Union}
use Rattle.joining.specs.Outcome.{written, refusal, encoded}
use Rattle.link.specs.Outcome.{refusal_of, normal_of, link_of}
use Rattle.link.specs.Demand.{Means}
use Rattle.link.specs.Theorems.{SizedForms, FormOf, ReadsBack, SameForms, LinksBack, MinorForms, MinorWritten, Meant, Taken, Left, NormalisedBack, NormalisedSame, LinkedBack, LeftSame}
use Rattle.link.proofs.Files.{accepted_Valid, normal_of_lem, link_of_lem, form_Means}
use Rattle.link.proofs.Answers.{normal_Readable, link_Readable}
use Rattle.link.proofs.Faces.{accepted}
use Rattle.link.proofs.Minors.{minor_single, minor_joined}
use Rattle.link.proofs.Buffers.{normal_Front, normal_room, link_Front}

-- only what was joined is written, in its normal form
written-joined : {X : Type 0} (stop : ℕ → ℕ → X) (r : Linked) (b : List ℕ) → encoded stop r ≡ written b → (us : List (Entry Key)) × (r ≡ joined us) × (b ≡ normal_form us)
unfolding encoded
written-joined stop (stopped n q) b e = absurd (let z : ◌≡◌ {A = ℕ} 0 1 = cc in omega arith)
written-joined stop (joined us) b e = (us, refl, cc)

form_of : (us : List (Entry Key)) → Readable us → normal_entries normal_length us ≡ joined us → FormOf us (normal_form us)
unfolding encoded
form_of us r j =
    let m = form_Means us r in
    record { means = m; short = omega (arith, length_normal us, r.short); own = normal_of_lem (normal_form us) us m ∙ ap (encoded refusal) j }

module _ (a b : List ℕ) (A : List (Entry Key)) (m : Means a A) (h : normal_of (decode a) ≡ written b) where
  normal_joined : (normal_entries normal_length A ≡ joined (union A)) × (b ≡ normal_form (union A))
  normal_joined =
      let w = written-joined refusal (normal_entries normal_length A) b (sym (normal_of_lem a A m) ∙ h) in
      let u : w.0 ≡ union A = ((normal_exactly normal_length A w.0).0 w.1).1 in
      (w.1 ∙ ap (λ (us : List (Entry Key)). joined us) u, w.2 ∙ ap normal_form u)

  normal_form_lem : FormOf (union A) b
  normal_form_lem =
      let j = normal_joined.0 in
      rw normal_joined.1 (form_of (union A) (normal_Readable a A m (union A) j) (normal_normal normal_length A (accepted_Valid a A m) (union A) j))

pub reads_back : ReadsBack
reads_back = record { form = normal_form_lem; same = λ a A m. union_means A (accepted_Valid a A m) }

pub same_forms : SameForms
same_forms a b x y A B m n h k =
    let p = normal_joined a x A m h in
    let q = normal_joined b y B n k in
    let e = mean_exactly A B (accepted_Valid a A m) (accepted_Valid b B n) in (
      λ s. p.1 ∙ ap normal_form (e.0 s) ∙ sym q.1,
      λ s. e.1 (normal_injective (union A) (union B) (normal_Readable a A m (union A) p.0) (normal_Readable b B n (union B) q.0) (sym p.1 ∙ s ∙ q.1)),
    )

module _ (a b c : List ℕ) (A B : List (Entry Key)) (m : Means a A) (n : Means b B) (h : link_of (decode a) (decode b) ≡ written c) where
  link_joined : (link_entries normal_length A B ≡ joined (union (A ++ B))) × (c ≡ normal_form (union (A ++ B)))
  link_joined =
      let t = written-joined (refusal_of Union) (link_entries normal_length A B) c (sym (link_of_lem a A m b B n) ∙ h) in
      let u : t.0 ≡ union (A ++ B) = ((joined_exactly normal_length A B (accepted_Valid b B n) t.0).0 t.1).1 in
      (t.1 ∙ ap (λ (us : List (Entry Key)). joined us) u, t.2 ∙ ap normal_form u)

  link_form : FormOf (union (A ++ B)) c
  link_form =
      let j = link_joined.0 in
      rw link_joined.1 (form_of (union (A ++ B)) (link_Readable a A m b B n (union (A ++ B)) j) (joined_normal normal_length A B (accepted_Valid a A m) (accepted_Valid b B n) (union (A ++ B)) j))

  -- it says what the two files say
  link_says : Within (union (A ++ B)) (A ++ B) × Within (A ++ B) (union (A ++ B))
  link_says = joined_says normal_length A B (accepted_Valid a A m) (accepted_Valid b B n) (union (A ++ B)) link_joined.0

pub links_back : LinksBack
links_back = link_form

pub sized_forms : SizedForms
sized_forms = length_normal

pub minor_forms : MinorForms
minor_forms us = rw (minor_byte us) (minor_exactly us, minor_else us)

pub minor_written : MinorWritten
minor_written = record {
  normal = λ a b A m h.
      let s = reads_back.same a A m in
      rw ((normal_joined a b A m h).1, minor_byte (union A)) (minor_single A s.0 s.1);
  linked = λ a b c A B m n h.
      let s = link_says a b c A B m n h in
      rw ((link_joined a b c A B m n h).1, minor_byte (union (A ++ B))) (minor_joined A B s.0 s.1);
}

-- ---- at the contracts

meant : (a : List ℕ) → Bytes a → Accepted (decode a) → Meant a
meant a b m = (meaning (entries_in m.0), record { bytes = b; typelib = m.0; end = m.1; decoded = m.2; meant = refl })

normal_got : (g : Got Typelib) (b : List ℕ) → normal_of g ≡ written b → Accepted g
unfolding normal_of
normal_got (bad n q) b e = absurd (let z : ◌≡◌ {A = ℕ} 0 1 = cc in omega arith)
normal_got (got t f) b e = (t, f, refl)

link_got : (g h : Got Typelib) (c : List ℕ) → link_of g h ≡ written c → Accepted g × Accepted h
unfolding link_of
link_got (bad n q) h c e = absurd (let z : ◌≡◌ {A = ℕ} 0 1 = cc in omega arith)
link_got (got t f) (bad n q) c e = absurd (let z : ◌≡◌ {A = ℕ} 0 1 = cc in omega arith)
link_got (got t f) (got u k) c e = ((t, f, refl), (u, k, refl))

pub taken : Taken
taken = record {
  checked = λ a n b e. meant a b (accepted a e);
  normal = λ a out n b e. meant a b (normal_got (decode a) _ (normal_Front a out n e).whole);
  both = λ a b out n h k e. let m = link_got (decode a) (decode b) _ (link_Front a b out n e).whole in (meant a h m.0, meant b k m.1);
}

form_Left : (us : List (Entry Key)) (n : ℕ) (b : List ℕ) → length b ≡ n → FormOf us b → Left us n b
form_Left us n b l f = record { long = l; form = f; again = λ out h. rw (← l) (normal_room b out b f.own (omega (arith, l, h))) }

pub normalised_back : NormalisedBack
normalised_back a out n A m e =
    let f = normal_Front a out n e in
    (form_Left (union A) n _ f.long (reads_back.form a _ A m f.whole), reads_back.same a A m)

pub normalised_same : NormalisedSame
normalised_same a b out other n k A B m l e h = same_forms a b _ _ A B m l (normal_Front a out n e).whole (normal_Front b other k h).whole

pub linked_back : LinkedBack
linked_back a b out n A B m k e =
    let f = link_Front a b out n e in
    let s = link_says a b _ A B m k f.whole in
    (form_Left (union (A ++ B)) n _ f.long (links_back a b _ A B m k f.whole), s.0, s.1)

pub left_same : LeftSame
left_same us vs n k b c f g = same_forms b c b c us vs f.form.means g.form.means f.form.own g.form.own

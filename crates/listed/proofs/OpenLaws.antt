-- The first line of a listing, and the end of one.
-- Assumes nothing.
use Rattle.std.specs.Prelude.{Err, Ok}
use mathlib.Core.Path.{◌≡◌, refl, sym, ap, subst, ◌∙◌}
use mathlib.Core.Bool.{Bool}
use mathlib.Core.Logic.{inl, inr}
use mathlib.Core.List.{List, [], ◌++◌, append_assoc, append-nil}
use Prim.Native.Nat.{ℕ, ◌+◌, ◌≤◌}
use native.Mathlib.Omega.{arith}
use lib.ListN.{length, take, drop}
use lib.Seq.{sets, length-sets}
use Rattle.reading.specs.Got.{got}
use Rattle.reading.specs.declared.Refusal.{Refusal}
use Rattle.decimal.proofs.Stores.{length_kept}
use Rattle.text.specs.Line.{line_of, newline}
use Rattle.reader.specs.declared.Layout.{Layout}
use Rattle.reader.specs.Values.{Typelib, header_of, entries_in}
use Rattle.reader.specs.Reader.{decode, check_of}
use Rattle.reader.specs.Reader.Laws.{refused_decodes}
use Rattle.reader.specs.Layout.{LaidOut}
use Rattle.printed.specs.Listing.{entry_lines, listing_of}
use Rattle.lines.specs.declared.Cursor.{Cursor}
use Rattle.lines.specs.declared.Cursor.TheVariants.{AtEntry}
use Rattle.lines.proofs.BeginLaws.{listed_accepted, entries_start}
use Rattle.said.specs.declared.Said.{Said}
use Rattle.said.specs.declared.Why.TheVariants.{Answered, Refused}
use Rattle.said.specs.Texts.{refused_line}
use Rattle.said.specs.Saying.{answer_room, Saying, Says, saying, verdict_why}
use Rattle.listed.specs.declared.Next.{Next}
use Rattle.listed.specs.declared.Next.TheVariants.{Over, Closing, At}
use Rattle.listed.specs.declared.More.{More}
use Rattle.listed.specs.declared.Rest.{Rest}
use Rattle.listed.specs.Text.{shown, closing, listed_text, list_saying}
use Rattle.listed.specs.Rest.{Going, LeftAt, LeftIn, no_rest, nothing_next, is_over, buffers_at, rest_of, Opens, Filled}
use Rattle.listed.proofs.RestLaws.{shown_both, length-shown, shown-sets, rest_Left}

-- a line that is said is all of the answer
pub Says-Opens : (b : Bool) (x : Saying) (s before : List ℕ) (said : Said) (rest : Rest) (after : List ℕ) → Says x before said after → rest ≡ no_rest → Opens b x s before (record { said = said; rest = rest }) after
Says-Opens b x s before said rest after h e = record {
  bytes = x.text;
  rest = [];
  split = sym (append-nil x.text);
  long = h.long;
  fits = h.fits;
  why = h.why;
  stored = h.stored;
  left = rw e refl;
}

module _ (b : Bool) (s text : List ℕ) (said : Said) where
  pub Opens-refused : (x : Refusal) (r : Rest) (after : List ℕ) → check_of s ≡ Err x → Says (saying (refused_line x) (Refused x)) text said after → r ≡ no_rest → Opens b (list_saying b s) s text (record { said = said; rest = r }) after
  unfolding list_saying listed_text listing_of verdict_why
  Opens-refused x r after e h k = record {
    bytes = refused_line x;
    rest = [];
    split = rw (refused_decodes s e) (sym (append-nil (refused_line x)));
    long = h.long;
    fits = h.fits;
    why = h.why ∙ rw e refl;
    stored = h.stored;
    left = rw k refl;
  }

  pub Opens-accepted : (t : Typelib) (e n : ℕ) (l : Layout) (mid : List ℕ) (r : Rest) (after : List ℕ) → answer_room ≡ length mid
      → check_of s ≡ Ok n → decode s ≡ got t e → n ≡ (header_of t).count → LaidOut s l (entries_in t)
      → Says (saying (line_of (Ok n)) Answered) text said mid → after ≡ shown b (take said.length mid) ++ drop said.length mid → r ≡ rest_of l b (AtEntry 0)
      → Opens b (list_saying b s) s text (record { said = said; rest = r }) after
  unfolding list_saying listed_text verdict_why
  Opens-accepted t e n l mid r after room c d k laid h a z = record {
    bytes = shown b line;
    rest = shown b lines ++ closing b;
    split = split;
    long = h.long ∙ sym (length-shown b line);
    fits = h.fits;
    why = h.why ∙ rw c refl;
    stored = a ∙ shown-sets b text line mid said.length h.long (omega (arith, h.fits, length_kept text line 0 h.stored)) h.stored;
    left = rw z (rest_Left b s l laid.pool_inside (AtEntry 0) lines (entries_start s l t laid));
  }
    where
      line : List ℕ
      line = line_of (Ok n)

      lines : List ℕ
      lines = entry_lines (entries_in t) 1 (entries_in t)

      split : listed_text b (decode s) ≡ shown b line ++ (shown b lines ++ closing b)
      split =
          let w : listing_of (got t e) ≡ line ++ lines = ap listing_of (sym d) ∙ listed_accepted s t e n d k in
          rw d (ap (λ (x : List ℕ). shown b x ++ closing b) w ∙ ap (λ (x : List ℕ). x ++ closing b) (shown_both b line lines) ∙ append_assoc (shown b line) (shown b lines) (closing b))

-- ---- what is next

pub at_leaves : (b : Bool) (s : List ℕ) (x : Rest) (c : Cursor) (text : List ℕ) → x.next ≡ At c → LeftIn b s x text → Going b s x.layout c text
at_leaves b s x c text e h = subst (λ (n : Next). LeftAt b s x.layout n text) e h

module _ (b : Bool) (s before : List ℕ) where
  pub at_gives : (x : Rest) (c : Cursor) (r : More) (after : List ℕ) → x.next ≡ At c → Filled b s (record { layout = x.layout; next = At c }) before r after → Filled b s x before r after
  at_gives x c r after e h = subst (λ (n : Next). Filled b s (record { layout = x.layout; next = n }) before r after) (sym e) h

  pub over_gives : (x r : Rest) → x.next ≡ Over → r ≡ no_rest → Filled b s x before (record { length = 0; rest = r }) before
  unfolding is_over nothing_next
  over_gives x r e k = record {
    each = λ text h. record { bytes = []; rest = text; split = refl; long = refl; stored = refl; left = rw k (subst (λ (n : Next). LeftAt b s x.layout n text) e h) };
    fewer = inl (ap nothing_next e);
    inside = omega arith;
  }

  pub closing_gives : (x r : Rest) (n : ℕ) (after : List ℕ) → 1 ≤ length before → x.next ≡ Closing → r ≡ no_rest → (n ≡ 0 + length newline) × (after ≡ sets before 0 newline) → Filled b s x before (record { length = n; rest = r }) after
  unfolding buffers_at
  closing_gives x r n after h e k w = record {
    each = λ text g. record { bytes = newline; rest = []; split = subst (λ (n : Next). LeftAt b s x.layout n text) e g; long = w.0; stored = w.1; left = rw k refl };
    fewer = inr (rw (k, e) (omega arith));
    inside = rw (w.0, w.1, length-sets before 0 newline) h;
  }

-- The first line of a table, and what is left after it.
-- Assumes nothing.
use Rattle.std.specs.Prelude.{Err, None, Ok, Option as Maybe, Result, Some, ℕ}
use mathlib.Core.Path.{◌≡◌, refl, sym, ap, ◌∙◌}
use mathlib.Core.Bool.{Bool, true, false}
use mathlib.Core.List.{List, [], ◌++◌, append_assoc}
use mathlib.Core.Option.{Option, none, some}
use Prim.Native.Nat.{ℕ}
use native.Mathlib.Omega.{arith}
use lib.ListN.{length, take, drop}
use Rattle.number.proofs.Choice.{both}
use Rattle.reading.specs.Got.{got}
use Rattle.reading.specs.declared.Refusal.{Refusal}
use Rattle.decimal.proofs.Stores.{length_kept}
use Rattle.reader.specs.declared.Layout.{Layout}
use Rattle.reader.specs.Values.{Typelib, entries_in, Entry}
use Rattle.reader.specs.Rules.{InDirectory}
use Rattle.reader.specs.Reader.{decode, check_of}
use Rattle.reader.specs.Reader.Laws.{refused_decodes}
use Rattle.reader.specs.Layout.{LaidOut}
use Rattle.lookup.specs.declared.Slot.TheVariants.{Known, Undetermined}
use Rattle.lookup.specs.Chain.{root, unresolved, Chain, chain, ending, chain_of}
use Rattle.lookup.specs.Method.{slot_of, total_of}
use Rattle.lookup.specs.Question.{bad_space, bad_name, malformed, refusal, has_key, interface_where, interface_as, key_answer, slot_as}
use Rattle.lookup.proofs.InterfaceLaws.{key_found}
use Rattle.slots.specs.declared.TableAt.{TableAt}
use Rattle.slots.specs.Table.{rows_of, row_lines, head_line, chain_text, table_of}
use Rattle.slots.specs.Cursor.{RowsLeft}
use Rattle.lines.specs.Tabs.{tabbed}
use Rattle.lines.specs.declared.Cursor.TheVariants.{AtTable}
use Rattle.said.specs.declared.Said.{Said}
use Rattle.said.specs.declared.Why.TheVariants.{Answered}
use Rattle.said.specs.Texts.{undetermined, numbered}
use Rattle.said.specs.Saying.{answer_room, Says, saying}
use Rattle.sayings.specs.Sayings.{say_interface}
use Rattle.listed.specs.declared.Rest.{Rest}
use Rattle.listed.specs.declared.Opened.{Opened}
use Rattle.listed.specs.Text.{shown, closing}
use Rattle.listed.specs.Rest.{no_rest, rest_of, Opens}
use Rattle.listed.proofs.RestLaws.{shown_both, length-shown, shown-sets, rest_Left}
use Rattle.listed.proofs.OpenLaws.{Says-Opens}
use Rattle.tabled.specs.Text.{keyed_saying, decoded_saying}

-- ---- a table is its first line and its rows

chain_text_lem : (es : List (Entry ℕ)) (c : Chain ℕ) → chain_text es c ≡ head_line (ending c) ++ row_lines es (rows_of c)
unfolding chain_text ending rows_of
chain_text_lem es (chain xs end) = refl

head_known : (c : Chain ℕ) (n : ℕ) → Known n ≡ slot_as (total_of c) → head_line (ending c) ≡ []
unfolding head_line ending total_of slot_of slot_as
head_known (chain xs root) n e = refl
head_known (chain xs (unresolved r)) n e = absurd (let z : ◌≡◌ {A = ℕ} 0 1 = cc in omega arith)

head_unknown : (c : Chain ℕ) (r : ℕ) → Undetermined r ≡ slot_as (total_of c) → head_line (ending c) ≡ numbered undetermined r
unfolding head_line ending total_of slot_of slot_as
head_unknown (chain xs root) r e = absurd (let z : ◌≡◌ {A = ℕ} 0 1 = cc in omega arith)
head_unknown (chain xs (unresolved u)) r e = let q : u ≡ r = cc in ap (numbered undetermined) q

shown_none : (b : Bool) → shown b [] ≡ []
unfolding shown tabbed
shown_none true = refl
shown_none false = refl

module _ (b : Bool) (s : List ℕ) (l : Layout) (es : List (Entry ℕ)) (laid : LaidOut s l es) (i : ℕ) (t : TableAt)
    (left : RowsLeft s l t (row_lines es (rows_of (chain_of es i)))) (total : t.slot ≡ slot_as (total_of (chain_of es i)))
    (r : Rest) (e : r ≡ rest_of l b (AtTable t)) (text : List ℕ) where
  abbrev rows : List ℕ
  rows = row_lines es (rows_of (chain_of es i))

  answer : (line : List ℕ) → head_line (ending (chain_of es i)) ≡ line → shown b (table_of es i) ++ closing b ≡ shown b line ++ (shown b rows ++ closing b)
  unfolding table_of
  answer line h =
      ap (λ (x : List ℕ). shown b x ++ closing b) (chain_text_lem es (chain_of es i) ∙ ap (λ (x : List ℕ). x ++ rows) h)
      ∙ ap (λ (x : List ℕ). x ++ closing b) (shown_both b line rows)
      ∙ append_assoc (shown b line) (shown b rows) (closing b)

  -- a complete chain: the rows alone
  pub Opens-known : (n : ℕ) → t.slot ≡ Known n → Opens b (keyed_saying b es (Ok (Some i))) s text (record { said = record { length = 0; why = Answered }; rest = r }) text
  unfolding keyed_saying
  Opens-known n k = record {
    bytes = [];
    rest = shown b rows ++ closing b;
    split = answer [] (head_known (chain_of es i) n (sym k ∙ total)) ∙ ap (λ (x : List ℕ). x ++ (shown b rows ++ closing b)) (shown_none b);
    long = refl;
    fits = omega arith;
    why = refl;
    stored = refl;
    left = rw e (rest_Left b s l laid.pool_inside (AtTable t) rows left);
  }

  -- an incomplete one: first the line of the ancestor that is unresolved
  pub Opens-unknown : (q : ℕ) → t.slot ≡ Undetermined q → (said : Said) (mid after : List ℕ) → answer_room ≡ length mid → Says (saying (numbered undetermined q) Answered) text said mid
      → after ≡ shown b (take said.length mid) ++ drop said.length mid → Opens b (keyed_saying b es (Ok (Some i))) s text (record { said = said; rest = r }) after
  unfolding keyed_saying
  Opens-unknown q k said mid after room h a = record {
    bytes = shown b (numbered undetermined q);
    rest = shown b rows ++ closing b;
    split = answer (numbered undetermined q) (head_unknown (chain_of es i) q (sym k ∙ total));
    long = h.long ∙ sym (length-shown b (numbered undetermined q));
    fits = h.fits;
    why = h.why;
    stored = a ∙ shown-sets b text (numbered undetermined q) mid said.length h.long (omega (arith, h.fits, length_kept text (numbered undetermined q) 0 h.stored)) h.stored;
    left = rw e (rest_Left b s l laid.pool_inside (AtTable t) rows left);
  }

-- ---- the interface of a key

pub key_in_lem : (es : List (Entry ℕ)) (v w : List ℕ) (i : ℕ) → Ok (Some i) ≡ key_answer es v w → InDirectory (length es) i
unfolding key_answer interface_as
key_in_lem es v w i =
    both (λ (a : Result (Maybe ℕ) Refusal). Ok (Some i) ≡ a → InDirectory (length es) i) (bad_space v) (Err malformed) _
    (λ _ e. absurd (let z : ◌≡◌ {A = ℕ} 0 1 = cc in omega arith))
    (λ _. both (λ (a : Result (Maybe ℕ) Refusal). Ok (Some i) ≡ a → InDirectory (length es) i) (bad_name w) (Err malformed) _
    (λ _ e. absurd (let z : ◌≡◌ {A = ℕ} 0 1 = cc in omega arith))
    (λ _ e. go (interface_where (has_key v w) es) refl e))
  where
    go : (o : Option ℕ) → interface_where (has_key v w) es ≡ o → Ok (Some i) ≡ interface_as o → InDirectory (length es) i
    go none q e = absurd (let z : ◌≡◌ {A = ℕ} 0 1 = cc in omega arith)
    go (some j) q e = let z : j ≡ i = cc in rw (← z) (key_found v w es j q).0

module _ (b : Bool) (s before : List ℕ) (said : Said) (rest : Rest) (after : List ℕ) where
  -- `none`, or a malformed key
  pub Opens-none : (es : List (Entry ℕ)) (a : Result (Maybe ℕ) Refusal) → (Ok None) ≡ a → Says (say_interface (Ok None)) before said after → rest ≡ no_rest → Opens b (keyed_saying b es a) s before (record { said = said; rest = rest }) after
  unfolding keyed_saying
  Opens-none es a e h k = rw (← e) (Says-Opens b (say_interface (Ok None)) s before said rest after h k)

  pub Opens-malformed : (es : List (Entry ℕ)) (a : Result (Maybe ℕ) Refusal) (x : Refusal) → Err x ≡ a → Says (say_interface (Err x)) before said after → rest ≡ no_rest → Opens b (keyed_saying b es a) s before (record { said = said; rest = rest }) after
  unfolding keyed_saying
  Opens-malformed es a x e h k = rw (← e) (Says-Opens b (say_interface (Err x)) s before said rest after h k)

  -- a file that is refused
  pub Opens-refused : (v w : List ℕ) (x : Refusal) → check_of s ≡ Err x → Says (say_interface (Err x)) before said after → rest ≡ no_rest → Opens b (decoded_saying b (decode s) v w) s before (record { said = said; rest = rest }) after
  unfolding decoded_saying refusal
  Opens-refused v w x e h k = rw (refused_decodes s e) (Says-Opens b (say_interface (Err x)) s before said rest after h k)

pub Opens-accepted : (b : Bool) (s before : List ℕ) (v w : List ℕ) (t : Typelib) (e : ℕ) (r : Opened) (after : List ℕ) → decode s ≡ got t e
    → Opens b (keyed_saying b (entries_in t) (key_answer (entries_in t) v w)) s before r after → Opens b (decoded_saying b (decode s) v w) s before r after
unfolding decoded_saying
Opens-accepted b s before v w t e r after d h = rw d h

-- An accepted file as the crates above walk it: where its entries, names and descriptors stand.
-- Assumes nothing.
use Rattle.std.specs.Prelude.{◌≡◌, ◌⊎◌, List, [], ℕ, ◌+◌, ◌-◌, ◌*◌, ◌≤◌, ◌<◌, length, get_or, drop}
use Rattle.number.specs.Limits.{file_limit, entry_limit, entry_width}
use Rattle.key.specs.Word.{Leads, word_at}
use Rattle.typelib.specs.Entry.{Entry, no_entry}
use Rattle.rules.specs.Shows.{Run, ShowsEntry}
use Rattle.rules.specs.Rules.{Identifier, EntriesRule}
use Rattle.reader.specs.declared.Layout.{Layout}

-- the file s, laid out as l says, has these entries, and they obey the rules
pub record LaidOut (s : List ℕ) (l : Layout) (es : List (Entry ℕ)) : Type 0 where
  pub count : length es ≡ l.count
  pub few : l.count ≤ entry_limit
  pub small : length s ≤ file_limit
  pub inside : l.directory + entry_width * l.count ≤ l.pool
  pub pool_inside : l.pool ≤ length s
  pub shown : (k : ℕ) → k < l.count → ShowsEntry s (drop l.pool s) (l.directory + entry_width * k) (get_or es k no_entry)
  pub minor : ℕ
  pub minor_at : get_or s 17 0 ≡ minor
  pub ruled : EntriesRule minor l.count es

-- the file is laid out so
pub record Lies (s : List ℕ) (l : Layout) : Type 0 where
  pub entries : List (Entry ℕ)
  pub laid : LaidOut s l entries

-- ---- records, where P x e says that x is shown and ends before e

-- one is shown
pub record Stands {X : Type 0} (P : X → ℕ → Type 0) : Type 0 where
  pub value : X
  pub end : ℕ
  pub shown : P value end

-- each that is shown ends at r
pub record Ends {X : Type 0} (P : X → ℕ → Type 0) (r : ℕ) : Type 0 where
  pub each : (x : X) (e : ℕ) → P x e → r ≡ e

-- f gives r of each that is shown
pub record Tells {X Y : Type 0} (P : X → ℕ → Type 0) (f : X → Y) (r : Y) : Type 0 where
  pub each : (x : X) (e : ℕ) → P x e → r ≡ f x

-- n records in turn
pub record Rows {X : Type 0} (P : ℕ → X → ℕ → Type 0) (n p : ℕ) (xs : List X) (e : ℕ) : Type 0 where
  pub count : n ≡ length xs
  pub run : Run P p xs e

-- ---- names

-- the pool pointer q leads to the word w
pub record Spells (pool : List ℕ) (q : ℕ) (w : List ℕ) : Type 0 where
  pub leads : Leads pool q
  pub word : word_at pool (q - 1) ≡ w

-- the same of a namespace, which may be absent: the default has no bytes
abbrev pub SpellsSpace : List ℕ → ℕ → List ℕ → Type 0
SpellsSpace pool q v = ((q ≡ 0) × (v ≡ [])) ⊎ Spells pool q v

-- the pool pointer q leads to the name, which f gives, of each record that is shown, if it is an identifier
pub record Names {X : Type 0} (P : X → ℕ → Type 0) (f : X → List ℕ) (pool : List ℕ) (q : ℕ) : Type 0 where
  pub each : (x : X) (e : ℕ) → P x e → Identifier (f x) → Spells pool q (f x)

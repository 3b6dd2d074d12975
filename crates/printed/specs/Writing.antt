-- What a writer of the listing promises.
-- Assumes nothing.
use Rattle.std.specs.Prelude.{List, ℕ, ◌≤◌, length}
use Rattle.number.specs.Limits.{file_limit}
use Rattle.text.specs.Writing.{Wrote}
use Rattle.reader.specs.Values.{Method, method_name, Constant, constant_name}
use Rattle.reader.specs.Records.{ShowsMethod, ShowsConstant}
use Rattle.reader.specs.Rules.{Identifier}

-- room that any line of the listing fits in
abbrev pub line_room : ℕ
line_room = 1024

-- no file is longer than this, nor its pool
abbrev pub Small : List ℕ → Type 0
Small pool = length pool ≤ file_limit

-- ---- records that are shown, with a name that is an identifier

abbrev pub NamedMethod : List ℕ → ℕ → Method ℕ → ℕ → Type 0
NamedMethod pool p m e = ShowsMethod pool p m e × Identifier (method_name m)

abbrev pub NamedConstant : List ℕ → ℕ → Constant → ℕ → Type 0
NamedConstant pool p x e = ShowsConstant pool p x e × Identifier (constant_name x)

-- for each record that is shown, its line, which f gives, was written
pub record WroteOf {X : Type 0} (P : X → ℕ → Type 0) (f : X → List ℕ) (before : List ℕ) (at r : ℕ) (after : List ℕ) : Type 0 where
  pub each : (x : X) (e : ℕ) → P x e → Wrote before at (f x) r after

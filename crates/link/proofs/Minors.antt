-- What occurs in a union is what occurs in the entries that it is of.
-- Assumes nothing.
use mathlib.Core.Path.{◌≡◌}
use mathlib.Core.Logic.{◌⊎◌, ◌↔◌, inl, inr}
use mathlib.Core.List.{List, ◌++◌}
use Rattle.key.specs.Key.{Key}
use Rattle.reader.specs.Values.{Entry, entry_key}
use Rattle.meaning.specs.Facts.Facts.{Sub, says_descriptor, Within}
use Rattle.meaning.specs.Facts.Union.{union}
use Rattle.meaning.proofs.Facts.Sets.{In-left, In-right, In-append}
use Rattle.meaning.proofs.Facts.Said.{said-In, In-said, descriptor_says, says_descriptor_lem}
use Rattle.meaning.specs.Normal.Minor.{minor_of, Occurs}
use Rattle.meaning.proofs.Normal.Minors.{minor_exactly}

Occurs-Sub : (es fs : List (Entry Key)) → Sub es fs → Occurs es → Occurs fs
Occurs-Sub es fs s o = record { holder = o.holder; there = s o.holder o.there; descriptor = o.descriptor; held = o.held; inside = o.inside }

-- what says no more than fs has no more
Occurs-Within : (es fs : List (Entry Key)) → Within es fs → Occurs es → Occurs fs
Occurs-Within es fs w o =
    let k = entry_key o.holder in
    let i = In-said says_descriptor o.holder (k, o.descriptor) es o.there (says_descriptor_lem o.holder o.descriptor o.held) in
    let r = said-In says_descriptor (k, o.descriptor) fs (w.descriptors (k, o.descriptor) i) in
    record { holder = r.0; there = r.1; descriptor = o.descriptor; held = (descriptor_says r.0 k o.descriptor r.2).1; inside = o.inside }

Occurs-either : (A B : List (Entry Key)) → Occurs (A ++ B) → Occurs A ⊎ Occurs B
Occurs-either A B o = elim (In-append o.holder A B o.there) [
  | inl i ↦ inl (record { holder = o.holder; there = i; descriptor = o.descriptor; held = o.held; inside = o.inside })
  | inr i ↦ inr (record { holder = o.holder; there = i; descriptor = o.descriptor; held = o.held; inside = o.inside })
]

either_Occurs : (A B : List (Entry Key)) → Occurs A ⊎ Occurs B → Occurs (A ++ B)
either_Occurs A B (inl o) = Occurs-Sub A (A ++ B) (λ e i. In-left e A B i) o
either_Occurs A B (inr o) = Occurs-Sub B (A ++ B) (λ e i. In-right e A B i) o

-- of one list of entries
pub minor_single : (A : List (Entry Key)) → Sub (union A) A → Sub A (union A) → (minor_of (union A) ≡ 2) ↔ Occurs A
minor_single A f g = (λ e. Occurs-Sub (union A) A f ((minor_exactly (union A)).0 e), λ o. (minor_exactly (union A)).1 (Occurs-Sub A (union A) g o))

-- of two, where the union says what they say together
pub minor_joined : (A B : List (Entry Key)) → Within (union (A ++ B)) (A ++ B) → Within (A ++ B) (union (A ++ B)) → (minor_of (union (A ++ B)) ≡ 2) ↔ (Occurs A ⊎ Occurs B)
minor_joined A B f g = (
  λ e. Occurs-either A B (Occurs-Within (union (A ++ B)) (A ++ B) f ((minor_exactly (union (A ++ B))).0 e)),
  λ o. (minor_exactly (union (A ++ B))).1 (Occurs-Within (A ++ B) (union (A ++ B)) g (either_Occurs A B o)),
)

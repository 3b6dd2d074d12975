-- The descriptor of an entry of an accepted file, where its pointer leads.
-- Assumes nothing.
use mathlib.Core.Path.{◌≡◌, refl}
use mathlib.Core.List.{List}
use mathlib.Core.Option.{Option, none, some}
use Prim.Native.Nat.{ℕ, ◌-◌, ◌≤◌}
use native.Mathlib.Omega.{arith}
use lib.ListN.{length, drop, length-drop}
use Rattle.number.specs.Limits.{file_limit}
use Rattle.reader.specs.declared.Layout.{Layout}
use Rattle.reader.specs.Values.{Descriptor, Entry, descriptor_in}
use Rattle.reader.specs.Records.{ShowsDescriptor, ShowsOwn}
use Rattle.reader.specs.Layout.{LaidOut}
use Rattle.rows.specs.Files.{Holds}

-- the pool of a file is no longer than a file may be
pub pool_short : (s pool : List ℕ) (l : Layout) (es : List (Entry ℕ)) → Holds s pool l es → length pool ≤ file_limit
pool_short s pool l es h = rw (h.behind, length-drop) (omega (arith, h.laid.small))

-- the descriptor of entry i stands where its pointer `at` leads
pub record Resolved (pool : List ℕ) (at i : ℕ) (es : List (Entry ℕ)) : Type 0 where
  pub own : Descriptor ℕ
  pub same : descriptor_in es i ≡ some own
  pub end : ℕ
  pub shown : ShowsDescriptor pool (at - 1) own end

module _ (s pool : List ℕ) (l : Layout) (i at : ℕ) (told : (es : List (Entry ℕ)) → LaidOut s l es → ShowsOwn (drop l.pool s) at (descriptor_in es i)) where
  -- 0 is no descriptor
  pub held_none : at ≡ 0 → (es : List (Entry ℕ)) → Holds s pool l es → descriptor_in es i ≡ none
  held_none z es h = go (descriptor_in es i) (told es h.laid)
    where
      go : (d : Option (Descriptor ℕ)) → ShowsOwn (drop l.pool s) at d → d ≡ none
      go none o = refl
      go (some d) o = absurd (omega (arith, o.0))

  pub resolved : (at ≡ 0 → ⊥) → (es : List (Entry ℕ)) → Holds s pool l es → Resolved pool at i es
  resolved n es h = go (descriptor_in es i) refl (rw (← h.behind) at (told es h.laid))
    where
      go : (d : Option (Descriptor ℕ)) → descriptor_in es i ≡ d → ShowsOwn pool at d → Resolved pool at i es
      go none e o = absurd (n o)
      go (some d) e o = record { own = d; same = e; end = o.1.0; shown = o.1.1 }

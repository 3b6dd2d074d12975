-- Of a refusal that the check of a file gave: the interface that it is of, as its index from 1, and the rule; 0 for none.
-- Assumes nothing.
use Rattle.std.specs.Prelude.{Bool, List, ℕ, ◌+◌, ◌-◌, ◌*◌, ◌/◌}
use Rattle.number.specs.Limits.{entry_width}
use Rattle.number.specs.Choice.{when◌then◌else◌, ◌<?◌, ◌≤?◌, ◌=?◌, ◌≠?◌}
use Rattle.number.specs.Scan.{scan}
use Rattle.reading.specs.Got.{Got, got, bad}
use Rattle.reading.specs.declared.Context.{Context}
use Rattle.reading.specs.declared.Refusal.{Refusal}
use Rattle.head.specs.declared.Header.{Header}
use Rattle.head.specs.Header.{read_header}
use Rattle.typelib.specs.Entry.{read_own}
use Rattle.typelib.specs.Directory.{own_pointer}
use Rattle.typelib.specs.Typelib.{pool_of, context_of}
use Rattle.faults.specs.declared.Fault.{Fault}
use Rattle.broken.specs.Stop.{is_bad}
use Rattle.broken.specs.Rule.{position_rule, own_rule}

unfoldable pub no_fault : Fault
no_fault = record { entry = 0; rule = 0 }

-- the descriptor of entry k, from 0, of the directory at d is refused
unfoldable pub refused_own : Context → List ℕ → List ℕ → ℕ → ℕ → Bool
refused_own c s pool d k = is_bad (read_own c s pool (d + entry_width * k))

-- the first of n entries, from 0, whose descriptor is refused, or n
unfoldable pub first_refused : Context → List ℕ → List ℕ → ℕ → ℕ → ℕ
first_refused c s pool n d = scan (refused_own c s pool d) n 0

-- of a refusal in the descriptor of entry k of n
unfoldable pub own_fault : Context → List ℕ → List ℕ → ℕ → ℕ → Refusal → ℕ → Fault
own_fault c s pool n d why k =
    when n ≤? k then no_fault else
    when why.no ≠? 16 then record { entry = k + 1; rule = 0 } else
    record { entry = k + 1; rule = own_rule c pool (own_pointer s d k) why.place }

-- the entry of a directory at d whose bytes hold the place
unfoldable pub entry_at : ℕ → ℕ → ℕ
entry_at d place = when place <? d then 0 else (place - d) / entry_width + 1

-- of 10 to 19: in the directory, or behind it in a descriptor
unfoldable pub fault_with : Header → List ℕ → Refusal → Fault
fault_with h s why =
    when why.place <? h.directory + entry_width * h.count then record { entry = entry_at h.directory why.place; rule = 0 } else
    own_fault (context_of h) s (pool_of h s) h.count h.directory why (first_refused (context_of h) s (pool_of h s) h.count h.directory)

unfoldable pub fault_in : Got Header → List ℕ → Refusal → Fault
fault_in (got h e) s why = fault_with h s why
fault_in (bad n q) s why = no_fault

unfoldable pub fault_of : List ℕ → Refusal → Fault
fault_of s why =
    when why.no =? 8 then record { entry = 0; rule = position_rule s why.place } else
    when why.no <? 10 then no_fault else
    when 19 <? why.no then no_fault else
    fault_in (read_header s) s why

-- ---- of a refusal that is told of an entry: of the descriptor of entry k, from 0

unfoldable pub own_in : Got Header → List ℕ → ℕ → Refusal → Fault
own_in (got h e) s k why = own_fault (context_of h) s (pool_of h s) h.count h.directory why k
own_in (bad n q) s k why = no_fault

-- of entry i, from 1
unfoldable pub fault_at : List ℕ → ℕ → Refusal → Fault
fault_at s i why = when i =? 0 then no_fault else own_in (read_header s) s (i - 1) why

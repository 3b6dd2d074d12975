-- The tables that the reading of arguments and of methods fills.
-- Assumes nothing.
use Rattle.reading.specs.declared.Refusal.{Refusal}
use Rattle.std.specs.Prelude.{◌≡◌, true, false, List, ◌⊎◌, ℕ, ◌+◌, ◌-◌, ◌%◌, ◌/◌, ◌≤◌, ◌<◌, length, get_or, take, Err, Ok, Result}
use Rattle.number.specs.Limits.{file_limit, own_limit}
use Rattle.reading.specs.Got.{Got, got, bad, many, step_of}
use Rattle.reading.specs.declared.Context.{Context}
use Rattle.key.specs.Word.{word_at, Leads}
use Rattle.key.specs.First.{Past}
use Rattle.method.specs.Parameter.{Param, read_param}
use Rattle.method.specs.Numbers.{prefixes}
use Rattle.method.specs.Method.{Method, method_flags, method_name, read_method, no_method}
use Rattle.method.specs.Walk.{signature_from}
use Rattle.method.specs.declared.params.Span.{Span}

-- where n arguments were read as g says, the first n places of the table t are the prefixes of their types
abbrev pub Held : Got (List (Param ℕ)) → ℕ → List ℕ → Type 0
Held g n t = (ps : List (Param ℕ)) (e : ℕ) → g ≡ got ps e → take n t ≡ prefixes ps

-- n arguments were read as g says, and the first n places of the table t are the prefixes of their types
pub record Listed (g : Got (List (Param ℕ))) (n : ℕ) (r : Result ℕ Refusal) (t : List ℕ) : Type 0 where
  pub step : r ≡ step_of g
  pub held : Held g n t
  pub long : 256 ≡ length t

-- n arguments and the result behind them were read, the result from `mid` to `end`; where one is refused, so is the signature
unfoldable pub Signs : Context → List ℕ → ℕ → ℕ → Result Span Refusal → List ℕ → Type 0
Signs c s n at (Ok x) t = Listed (many (read_param false c s) n at) n (Ok x.mid) t × (Ok x.end ≡ step_of (read_param true c s x.mid))
Signs c s n at (Err why) t = ((first f : ℕ) → Err why ≡ step_of (signature_from c s first f n at)) × (256 ≡ length t)

-- the first n places of two tables are the flags and the name pointers of the methods ms
pub record Kept (s flags names : List ℕ) (ms : List (Method ℕ)) (n : ℕ) : Type 0 where
  pub flag : (i : ℕ) → i < n → get_or flags i 0 ≡ method_flags (get_or ms i no_method)
  pub leads : (i : ℕ) → i < n → Leads s (get_or names i 0)
  pub name : (i : ℕ) → i < n → word_at s (get_or names i 0 - 1) ≡ method_name (get_or ms i no_method)

-- n methods were read, and the tables have their flags and name pointers
pub record Noted (c : Context) (s : List ℕ) (n at : ℕ) (r : Result ℕ Refusal) (flags names : List ℕ) : Type 0 where
  pub step : r ≡ step_of (many (read_method c s) n at)
  pub kept : (ms : List (Method ℕ)) (e : ℕ) → many (read_method c s) n at ≡ got ms e → Kept s flags names ms n
  pub flags_long : own_limit ≡ length flags
  pub names_long : own_limit ≡ length names

-- k methods from `at` on have been read up to p, and the tables have their flags and name pointers
pub record Gathered (c : Context) (s : List ℕ) (at k p : ℕ) (flags names : List ℕ) : Type 0 where
  pub methods : List (Method ℕ)
  pub read : many (read_method c s) k at ≡ got methods p
  pub kept : Kept s flags names methods k

-- the tables after n methods, and before: they have those up to the end or the first that is refused, and past them hold what they held
pub record Reached (c : Context) (s : List ℕ) (n at : ℕ) (flags names flags₀ names₀ : List ℕ) : Type 0 where
  pub count : ℕ
  pub end : ℕ
  pub few : count ≤ n
  pub gathered : Gathered c s at count end flags names
  pub last : (count ≡ n) ⊎ ((m : ℕ) × (q : ℕ) × (read_method c s end ≡ bad m q))
  pub flags_past : Past count flags₀ flags
  pub names_past : Past count names₀ names

-- methods that were accepted are remembered, one for each block of so many bytes of the pool
abbrev pub block_size : ℕ
block_size = 128

-- Each number of the table from 128 on is of a method that was accepted and starts in its block: in the lowest seven bits where there, above them its length.
pub record Remembered (c : Context) (s seen : List ℕ) : Type 0 where
  pub each : (p e : ℕ) → p ≤ file_limit → get_or seen (p / block_size) 0 % block_size ≡ p % block_size → block_size ≤ get_or seen (p / block_size) 0
      → e ≡ p + get_or seen (p / block_size) 0 / block_size → Ok e ≡ step_of (read_method c s p)

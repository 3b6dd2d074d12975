-- The methods of an interface as tables, and the getters of each name.
-- Assumes nothing.
use Rattle.reading.specs.declared.Refusal.{Refusal}
use Rattle.std.specs.Prelude.{◌≡◌, Bool, true, false, List, ℕ, zero, suc, ◌+◌, ◌-◌, ◌<◌, length, get_or, Result}
use Rattle.number.specs.Limits.{own_limit}
use Rattle.number.specs.Choice.{when◌then◌else◌, ◌≤?◌, ◌=?◌, ◌≠?◌}
use Rattle.number.specs.Scan.{some, tally}
use Rattle.reading.specs.Got.{got, step_of}
use Rattle.reading.specs.declared.Context.{Context}
use Rattle.key.specs.Word.{Leads, word_at, same_word}
use Rattle.method.specs.Method.{Method, read_method}
use Rattle.method.specs.Tables.{Kept}
use Rattle.method.specs.Flags.{setter_bit}
use Rattle.descriptor.specs.Rules.{is_getter, is_setter, stray_pair}
use Rattle.descriptor.specs.Descriptor.{read_counted}

-- what a table holds at i
unfoldable pub cell : List ℕ → ℕ → ℕ
cell t i = get_or t i 0

-- the word that pool pointer i of a table leads to
unfoldable pub word_in : List ℕ → List ℕ → ℕ → List ℕ
word_in s t i = word_at s (get_or t i 0 - 1)

-- what is known of a name's getters, v, when method n is one more of them: 2000 stands for several, as no position is over 1,023
unfoldable pub one_more : ℕ → ℕ → ℕ
one_more v n = when v =? 0 then n + 1 else 2000

-- Of the first n methods, where g gives for each the group of its name: what is known of the getters whose name's group is k.
-- 0 where there is none; 1 more than its position where there is one; 2000 where there are several.
unfoldable pub getters_of : (ℕ → ℕ) → (ℕ → ℕ) → ℕ → ℕ → ℕ
getters_of f g zero k = 0
getters_of f g (suc n) k =
    when is_getter f n then (
    when g n =? k then one_more (getters_of f g n k) n else
    getters_of f g n k) else
    getters_of f g n k

-- v, what is known of the getters of setter j's name, is neither none nor the one just before j
unfoldable pub stray_of : ℕ → ℕ → Bool
stray_of v j = when v =? 0 then false else v ≠? j

-- method j is a setter, and a getter of its name, by what t says of each name, is not just before it
unfoldable pub stray_setter : (ℕ → ℕ) → (ℕ → ℕ) → (ℕ → ℕ) → ℕ → Bool
stray_setter f g t j = when is_setter f j then stray_of (t (g j)) j else false

-- a broken pair seen from setter j, and whether there is one among n methods
unfoldable pub pair_with : (ℕ → ℕ) → (ℕ → List ℕ) → ℕ → ℕ → Bool
pair_with f w j i = stray_pair f w i j

unfoldable pub stray_with : (ℕ → ℕ) → (ℕ → List ℕ) → ℕ → ℕ → Bool
stray_with f w n j = some (pair_with f w j) n

-- a getter or a setter: the two highest bits
unfoldable pub is_accessor : (ℕ → ℕ) → ℕ → Bool
is_accessor f i = setter_bit ≤? f i

-- t holds, in their order, the m of the first n numbers of `all` that p takes: number i at the place that counts those taken before it
pub record Taken (p : ℕ → Bool) (all t : List ℕ) (n m : ℕ) : Type 0 where
  pub count : m ≡ tally p n
  pub held : (i : ℕ) → i < n → p i ≡ true → get_or t (tally p i) 0 ≡ get_or all i 0
  pub from : (r : ℕ) → r < m → (i : ℕ) × (i < n) × (get_or t r 0 ≡ get_or all i 0)
  pub long : own_limit ≡ length t

-- what t holds for method i, if p takes it
unfoldable pub group_in : (ℕ → Bool) → List ℕ → ℕ → ℕ
group_in p t i = when p i then get_or t (tally p i) 0 else 0

-- of those of n methods that p takes, g is the same for two just where their names w are
pub record Grouped (p : ℕ → Bool) (w : ℕ → List ℕ) (g : ℕ → ℕ) (n : ℕ) : Type 0 where
  pub named : (i j : ℕ) → i < n → j < n → p i ≡ true → p j ≡ true → same_word (w i) (w j) ≡ true → g i ≡ g j
  pub same : (i j : ℕ) → i < n → j < n → p i ≡ true → p j ≡ true → g i ≡ g j → same_word (w i) (w j) ≡ true

-- the first n numbers of a table are positions of methods
pub record Below (t : List ℕ) (n : ℕ) : Type 0 where
  pub low : (i : ℕ) → i < n → get_or t i 0 < own_limit

-- the first n pointers of a table lead to words
pub record Led (s t : List ℕ) (n : ℕ) : Type 0 where
  pub each : (i : ℕ) → i < n → Leads s (get_or t i 0)

-- a method count and that many methods were read, and two tables have their flags and name pointers
pub record Tabled (c : Context) (s : List ℕ) (at : ℕ) (r : Result ℕ Refusal) (flags names : List ℕ) : Type 0 where
  pub step : r ≡ step_of (read_counted (read_method c s) c s at)
  pub kept : (ms : List (Method ℕ)) (e : ℕ) → read_counted (read_method c s) c s at ≡ got ms e → Kept s flags names ms (length ms)
  pub flags_long : own_limit ≡ length flags
  pub names_long : own_limit ≡ length names

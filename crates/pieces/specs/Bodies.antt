-- Descriptors that lie in one of two pools.
-- Assumes nothing.
use Rattle.std.specs.Prelude.{◌≡◌, List, ℕ, ◌+◌, ◌-◌, ◌≤◌, ◌<◌, length}
use Rattle.number.specs.Limits.{file_limit}
use Rattle.reader.specs.Values.{Descriptor}
use Rattle.reader.specs.Records.{ShowsDescriptor}
use Rattle.meaning.specs.Meaning.{map_descriptor}
use Rattle.writing.specs.Source.{Known}
use Rattle.interfaces.specs.Source.{DescriptorFit}

-- at the pool pointer q lies the descriptor d, but for its references: in d they count `shift` more. Its first name is use u
pub record Lying (pool : List ℕ) (shift u q : ℕ) (d : Descriptor ℕ) (e : ℕ) : Type 0 where
  pub small : length pool ≤ file_limit
  pub pointer : 1 ≤ q
  pub stored : Descriptor ℕ
  pub known : Known (ShowsDescriptor pool) (DescriptorFit shift u) (q - 1) stored e
  pub counted : d ≡ map_descriptor (λ r. shift + r) stored

-- b leads to the descriptor d, with references counted through both files: a pool pointer of the first or, with `file_limit` more, of the other, whose entries are counted after n
pub record Body (pool other : List ℕ) (n u b : ℕ) (d : Descriptor ℕ) (e : ℕ) : Type 0 where
  pub here : b ≤ file_limit → Lying pool 0 u b d e
  pub there : file_limit < b → Lying other n u (b - file_limit) d e

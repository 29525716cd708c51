-- Lists of first accepting states, those in which rows end, by the buckets of their values: the bucket of a value, the states in a
-- list, all lists of the first states, the first accepting state with a value, and the group that it gives a state. Assumes nothing.
use Rattle.std.specs.Prelude.{◌≡◌, List, ℕ, ◌*◌, ◌/◌, ◌<◌, ◌≤◌, length, get_or}
use Rattle.std.specs.Int.Bits.{bit_and, bit_xor}
use Rattle.base.specs.Limits.{state_limit}
use Rattle.indexed.specs.Chains.{Chained}

-- the bucket of a value of 64 bits, below 512: its two halves of 32 bits, each times a large odd number, and nine bits of these
unfoldable pub bucket_of : ℕ → ℕ
bucket_of value =
    bit_and (bit_xor (bit_and value 4294967295 * 2654435769) (value / 4294967296 * 2246822519) / 8388608) 511

-- the states in the list of a bucket: each is the first accepting state with its value
abbrev pub Listed : List ℕ → List ℕ → ℕ → ℕ → Type 0
Listed ends values b u =
    (0 < get_or ends u 0) × (bucket_of (get_or values u 0) ≡ b)
    × ((k : ℕ) → k < u → 0 < get_or ends k 0 → get_or values k 0 ≡ get_or values u 0 → ⊥)

-- the lists of the first i states, in arrays of 512
pub record Buckets (ends values : List ℕ) (i : ℕ) (links heads : List ℕ) : Type 0 where
  pub links_size : length links ≡ state_limit
  pub heads_size : length heads ≡ state_limit
  pub chained : Chained i (Listed ends values) links heads

-- the same, whichever states accept: what a search needs in order to end
pub record SomeBuckets (values : List ℕ) (i : ℕ) (links heads : List ℕ) : Type 0 where
  pub ends : List ℕ
  pub buckets : Buckets ends values i links heads

-- the first accepting state with the value of v
pub record FirstEnd (ends values : List ℕ) (v answer : ℕ) : Type 0 where
  pub low : answer ≤ v
  pub accepting : 0 < get_or ends answer 0
  pub alike : get_or values answer 0 ≡ get_or values v 0
  pub first : (u : ℕ) → u < answer → 0 < get_or ends u 0 → get_or values u 0 ≡ get_or values v 0 → ⊥

-- the group of v: that state where v accepts, v itself otherwise
pub record EndLabel (ends values : List ℕ) (v answer : ℕ) : Type 0 where
  pub end : 0 < get_or ends v 0 → FirstEnd ends values v answer
  pub other : get_or ends v 0 ≡ 0 → answer ≡ v

-- what a search of the lists finds for v, whichever states accept, where v does and the lists are theirs
pub record FirstAlike (values : List ℕ) (v : ℕ) (links heads : List ℕ) (answer : ℕ) : Type 0 where
  pub first :
      (ends : List ℕ) → 0 < get_or ends v 0 → Buckets ends values v links heads → FirstEnd ends values v answer

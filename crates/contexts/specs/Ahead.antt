-- Which two names in succession can be walked from each group, as a set of 16 bits for each group: what one pass over the arcs gives, and
-- what the sets tell of two groups. A group goes by its label, an arc by the state that it leads into. Assumes nothing.
use Rattle.std.specs.Prelude.{◌≡◌, List, ℕ, ◌+◌, ◌*◌, ◌<◌, get_or}
use Rattle.std.specs.Int.Bits.{bit_and}
use Rattle.base.specs.Limits.{name_limit}
use Rattle.indexed.specs.Partitions.{Share}
use Rattle.base.specs.Bits.{bit}
use Rattle.contexts.specs.Sweeps.{Linked}

-- the low two bits of a name
abbrev pub low_of : ℕ → ℕ
low_of name = bit_and name 3

-- the low two bits of each name in a set are in another
abbrev pub LowNames : ℕ → ℕ → Type 0
LowNames names low = (a : ℕ) → a < name_limit → bit a names ≡ 1 → bit (low_of a) low ≡ 1

-- the bit of two names in succession
abbrev pub pair_bit : ℕ → ℕ → ℕ
pair_bit a b = 4 * low_of a + low_of b

-- the name of arc v and each name that can be walked from where it leads to have their bit at the group that the arc leaves
abbrev pub LeadsOn : List ℕ → List ℕ → List ℕ → List ℕ → List ℕ → ℕ → Type 0
LeadsOn parents names old next ahead v =
    (b : ℕ) → b < name_limit → bit b (get_or next (get_or old v 0) 0) ≡ 1 →
    bit (pair_bit (get_or names v 0) b) (get_or ahead (get_or old (get_or parents v 0) 0) 0) ≡ 1

-- the same of the arcs into the states below i
abbrev pub LeadOnBelow : ℕ → List ℕ → List ℕ → List ℕ → List ℕ → List ℕ → Type 0
LeadOnBelow i parents names old next ahead = (v : ℕ) → 0 < v → v < i → LeadsOn parents names old next ahead v

-- arcs after which j names in succession can be walked in common lead into groups that have a bit in common
abbrev pub Telling : ℕ → ℕ → List ℕ → List ℕ → List ℕ → List ℕ → Type 0
Telling n j parents names old ahead =
    (v w : ℕ) → v < n → w < n → Share n parents names old j v w →
    bit_and (get_or ahead (get_or old v 0) 0) (get_or ahead (get_or old w 0) 0) ≡ 0 → ⊥

-- the same where the sets have the arcs into n states
abbrev pub AheadOf : ℕ → ℕ → List ℕ → List ℕ → List ℕ → List ℕ → List ℕ → Type 0
AheadOf n j parents names old next ahead = Linked n parents names old next → Telling n j parents names old ahead

-- Laws of sizes: of the states' own numbers, of what filling asks, and of lists and roots counted in another way.
-- Assumes nothing.
use mathlib.Core.Path.{◌≡◌, sym, ap, ◌∙◌, subst}
use mathlib.Core.List.{List}
use Prim.Native.Nat.{ℕ, ◌<◌}
use lib.ListN.{length, get_or}
use Rattle.base.specs.Lists.{numbers_from}
use Rattle.base.proofs.Places.{number_at, length-numbers_from}
use Rattle.partition.specs.Forests.{Forest, JoinedRoots}
use Rattle.worklist.specs.Lists.{Sorted, Merged}

-- the states' own numbers: how many they are, and that each is a state
pub own-size : {n : ℕ} {numbers : List ℕ} → numbers ≡ numbers_from n 0 → length numbers ≡ n
own-size {n} own = ap length own ∙ length-numbers_from n 0

pub own_below : {n : ℕ} {numbers : List ℕ} → numbers ≡ numbers_from n 0 → (v : ℕ) → v < n → get_or numbers v 0 < n
own_below {n} own v h =
    subst (λ (x : ℕ). x < n) (sym (ap (λ (l : List ℕ). get_or l v 0) own ∙ number_at n v h)) h

-- lists by the number of their keys
pub sorted_by_keys :
    {n : ℕ} {keys rows links heads : List ℕ} → Sorted n keys rows links heads → Sorted (length keys) keys rows links heads
sorted_by_keys {keys = keys} {rows} {links} {heads} sorted =
    subst (λ (m : ℕ). Sorted m keys rows links heads) (sym sorted.keys_size) sorted

-- lists merged, by the number of states
pub merged-by_states :
    {n : ℕ} {outs keys rows links heads : List ℕ} {to from : ℕ} {links' heads' firsts seconds firsts' seconds' : List ℕ}
    {tail tail' : ℕ} → Sorted n keys rows links heads →
    (Sorted (length keys) keys rows links heads →
    Merged (length keys) outs keys rows to from links' heads' firsts seconds firsts' seconds' tail tail') →
    Merged n outs keys rows to from links' heads' firsts seconds firsts' seconds' tail tail'
merged-by_states {outs = outs} {keys} {rows} {to = to} {from} {links'} {heads'} {firsts} {seconds} {firsts'} {seconds'} {tail}
    {tail'} sorted merged =
    subst (λ (m : ℕ). Merged m outs keys rows to from links' heads' firsts seconds firsts' seconds' tail tail')
    sorted.keys_size (merged (sorted_by_keys sorted))

-- roots by the number of states
pub roots_by_states :
    {n : ℕ} {above above' : List ℕ} {v w to from : ℕ} → Forest n above → JoinedRoots (length above) above above' v w to from →
    JoinedRoots n above above' v w to from
roots_by_states {above = above} {above'} {v} {w} {to} {from} forest roots =
    subst (λ (m : ℕ). JoinedRoots m above above' v w to from) forest.size roots

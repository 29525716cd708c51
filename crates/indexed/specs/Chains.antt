-- Lists of states by links, each list from its last state down: a state's link is the state before it in its list plus one, 0
-- where there is none; a list goes by its head, its last state plus one, 0 where it is empty. Assumes nothing.
use Rattle.std.specs.Prelude.{◌≡◌, List, ℕ, suc, ◌<◌, ◌≤◌, get_or}

-- the states below i that are in a list (Listed b u: state u is in list b) are linked
pub record Chained (i : ℕ) (Listed : ℕ → ℕ → Type 0) (links heads : List ℕ) : Type 0 where
  pub head_low : (b : ℕ) → get_or heads b 0 ≤ i
  pub head_in : (b v : ℕ) → get_or heads b 0 ≡ suc v → Listed b v
  pub head_last : (b u : ℕ) → u < i → get_or heads b 0 ≤ u → Listed b u → ⊥
  pub link_low : (b v : ℕ) → v < i → Listed b v → get_or links v 0 ≤ v
  pub link_in : (b v w : ℕ) → v < i → Listed b v → get_or links v 0 ≡ suc w → Listed b w
  pub link_last : (b v u : ℕ) → v < i → Listed b v → get_or links v 0 ≤ u → u < v → Listed b u → ⊥

-- a search down list b has come to `at`, a head or a link: no state of the list from there on is the one sought
pub record Searched (i : ℕ) (Listed : ℕ → ℕ → Type 0) (Sought : ℕ → Type 0) (b at : ℕ) : Type 0 where
  pub low : at ≤ i
  pub here : (v : ℕ) → at ≡ suc v → Listed b v
  pub past : (u : ℕ) → at ≤ u → u < i → Listed b u → Sought u → ⊥

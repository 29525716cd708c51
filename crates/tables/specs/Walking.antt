-- A walk's step and a whole walk, as model's targetIn and walk give them. Assumes nothing.
use Rattle.std.specs.Prelude.{◌≡◌, List, ℕ, suc, Option, MatchOption, ◌≤◌, ◌<◌, length, get_or}
use Rattle.model.specs.Tables as model
use Rattle.model.specs.Tables.{State, empty_state, target_in, walk_at}
use Rattle.tables.specs.declared.walks.Walk.{Walk}

-- the target of the walk's arc by this name plus 1, or 0 where its state has none
unfoldable pub target_of : List State → ℕ → ℕ → ℕ
target_of states q name = target_in name (get_or states q empty_state).arcs

-- the walk that model means
abbrev pub walk_of : Walk → model.Walk
walk_of w = walk_at w.state w.taken

-- a walk moved to the target of its state's arc by the name
pub record MovedTo (states : List State) (w : Walk) (name : ℕ) (next : Walk) : Type 0 where
  pub target : target_of states w.state name ≡ suc next.state
  pub one_more : next.taken ≡ suc w.taken
  pub in_table : next.state < length states

-- for each answer what model says: the arc's target, or that there is no arc by the name
abbrev pub SteppedAs : List State → Walk → ℕ → Option Walk → Type 0
SteppedAs states w name answer = MatchOption answer (target_of states w.state name ≡ 0) (λ (next : Walk). MovedTo states w name next)

-- a row walked from state 0 on
pub record WalkedAs (states : List State) (row : List ℕ) (w : Walk) : Type 0 where
  pub is : walk_of w ≡ model.walk states row
  pub in_table : w.state < length states
  pub within : w.taken ≤ length row

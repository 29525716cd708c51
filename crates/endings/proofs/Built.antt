-- The tables that builds write: every state begins an admitted row, so no arc leads to a state without a way to an end, and every walk
-- tells what the walk alone tells. Assumes nothing.
use mathlib.Core.Path.{◌≡◌, sym, subst}
use mathlib.Core.Bool.{true}
use mathlib.Core.List.{List, ◌++◌, Memᴰ as In}
use Prim.Native.Nat.{ℕ, ◌<◌}
use native.Mathlib.Omega.{arith}
use lib.ListN.{length}
use Rattle.model.specs.Fields.{Class, Settings, Allowed}
use Rattle.model.specs.Tables.{Arc, State, plain_walk}
use Rattle.model.specs.Classes.{Word}
use Rattle.model.specs.Joinings.{tree_of, joined_groups}
use Rattle.model.specs.Quotients.{states_of, book_states}
use Rattle.model.specs.Calls.{book_of}
use Rattle.model.specs.Claims.{Accepted}
use Rattle.model.proofs.Arcs.{ascending_at}
use Rattle.model.proofs.Trees.{node_begins_row}
use Rattle.model.proofs.TableWalks.{word_tails}
use Rattle.model.proofs.Writable.{Writable}
use Rattle.model.proofs.Reading.{accepted_has_row}
use Rattle.model.proofs.Joined.{Joined, joined_groups-joined}
use Rattle.model.proofs.NodeWalks.{state-node}
use Rattle.model.proofs.InTheClass.{admits-row}
use Rattle.model.proofs.Demands.{book_writable, reads_back}
use Rattle.endings.specs.Live.{HasWay, ArcsAscend, is_live, live_walk}
use Rattle.endings.specs.Claims.{StateBegins, built_states}
use Rattle.endings.proofs.Levels.{tells_live}
use Rattle.endings.proofs.AllLive.{walk_same}

-- in the table of a full joining of some rows every state begins a row: a word of the prefix tree that reaches it does
joined_begins :
    (c : Class) (rows : List Word) (groups : List ℕ) → Joined c rows groups → (r : Word) → In r rows → (q : ℕ) →
    q < length (states_of rows (tree_of rows) groups) → StateBegins (states_of rows (tree_of rows) groups) q
joined_begins c rows groups joined r m q low =
    let node = state-node c rows groups joined q low in
    let rest = node_begins_row rows r m node.0 node.1 in
    record {
      row = node.0;
      leads_there = node.2;
      begins = record { rest = rest.0; is_admitted = admits-row c rows groups joined (node.0 ++ rest.0) rest.1 };
    }

-- a state that begins an admitted row has a way to an end
state-live : (states : List State) (q : ℕ) → StateBegins states q → HasWay states q
state-live states q b =
    (b.begins.rest, (word_tails states b.row b.begins.rest q b.leads_there).0 b.begins.is_admitted)

module _ (settings : Settings) (allowed : Allowed settings) (s : List ℕ) (ok : Accepted settings s) where
  -- the states of the table are the book's
  same_states : book_states (book_of settings s) ≡ built_states settings s
  same_states = sym ((reads_back settings allowed).same_states s ok)

  -- every state begins an admitted row
  pub every_state : (q : ℕ) → q < length (built_states settings s) → StateBegins (built_states settings s) q
  unfolding book_states
  every_state =
      let f = book_of settings s in
      let first-row = accepted_has_row settings allowed s ok in
      subst (λ (states : List State). (q : ℕ) → q < length states → StateBegins states q) same_states
      (joined_begins f.class_is f.items (joined_groups f.class_is f.items) (joined_groups-joined f.class_is f.items)
      first-row.0 first-row.1)

  -- so every state has a way to an end
  built-live : (q : ℕ) → q < length (built_states settings s) → HasWay (built_states settings s) q
  built-live q low = state-live (built_states settings s) q (every_state q low)

  -- the table's states can be written: their arcs ascend, and lead to states of the table
  built-writable : Writable (length (book_of settings s).names) (built_states settings s)
  built-writable =
      subst (λ (states : List State). Writable (length (book_of settings s).names) states) same_states
      (book_writable settings allowed s ok)

  built-ascend : ArcsAscend (built_states settings s)
  built-ascend = ascending_at (built_states settings s) built-writable.ascending

  -- which the test tells
  is_live_lem : (q : ℕ) → q < length (built_states settings s) → is_live (built_states settings s) q ≡ true
  is_live_lem q low = (tells_live (built_states settings s) built-ascend q).test (built-live q low)

  arcs_live :
      (x : State) (a : Arc) → In x (built_states settings s) → In a x.arcs → is_live (built_states settings s) a.to ≡ true
  arcs_live x a m n = is_live_lem a.to (built-writable.targets_below x a m n)

  -- so no arc goes, and every walk tells what the walk alone tells
  pub as_before : (row : Word) → live_walk (built_states settings s) row ≡ plain_walk (built_states settings s) row
  as_before = walk_same (built_states settings s) arcs_live (is_live_lem 0 (omega (arith, built-writable.some_state)))

-- The levels while they are found: what holds before each state of the queue, that it goes on by the sources of the arcs to that state, and
-- that the levels are found when there is none left. Assumes nothing.
use mathlib.Core.Path.{◌≡◌, refl, sym, ap, ◌∙◌, subst}
use mathlib.Core.Logic.{◌⊎◌, inl, inr, ⊎_elim}
use mathlib.Core.List.{List, [], ◌∷◌}
use Prim.Native.Nat.{ℕ, zero, suc, ◌≤◌, ◌<◌}
use native.Mathlib.Omega.{arith}
use lib.ListN.{length, get_or, replicate}
use Rattle.base.specs.Limits.{state_limit}
use Rattle.base.proofs.Tests.{le_or_lt}
use Rattle.model.specs.Tables.{Arc, arc, State, empty_state, target_in}
use Rattle.model.specs.Classes.{Word}
use Rattle.model.specs.Sources.{AdmittedFrom}
use Rattle.model.proofs.TableWalks.{admitted-in}
use Rattle.model.proofs.Reached.{target_of_lem}
use Rattle.model.proofs.Walkable.{target_arc}
use Rattle.endings.specs.Live.{ArcsAscend}
use Rattle.endings.proofs.NameByName.{tells_none, admitted-cons}
use Rattle.endings.proofs.Levels.{level_by_arcs}
use Rattle.levels.specs.Sorted.{Leads, SortedArcs}
use Rattle.levels.specs.Found.{LevelsFound}
use Rattle.levels.specs.Queues.{Queue, MayEnter, Longer, SourceIn, Accepts, AcceptsBelow}
use Rattle.levels.proofs.LongerLaws.{no_level}

-- the states in the queue's places before `first` are done: the sources of the arcs to them have a level, at most the next one
pub record LevelsSoFar (states : List State) (levels queue : List ℕ) (first last : ℕ) : Type 0 where
  pub queued : Queue levels queue last
  pub behind : first ≤ last
  pub highest : first < last → (q : ℕ) → get_or levels q 0 ≤ suc (get_or levels (get_or queue first 0) 0)
  pub some_way : (q d : ℕ) → get_or levels q 0 ≡ suc d → (w : Word) × (length w ≡ d) × AdmittedFrom states q w
  pub at_end_fact : (q : ℕ) → q < length states → Accepts states q → get_or levels q 0 ≡ 1
  pub done :
      (i : ℕ) → i < first → (q : ℕ) → q < length states → Leads states q (get_or queue i 0) →
      (0 < get_or levels q 0) × (get_or levels q 0 ≤ suc (get_or levels (get_or queue i 0) 0))

-- ---- it begins

-- with the accepting states in the queue, none of them done
pub levels_begin :
    (states : List State) {queue levels' queue' : List ℕ} {last' : ℕ} →
    Longer (AcceptsBelow states (length states)) 1 (replicate state_limit 0) queue 0 levels' queue' last' →
    LevelsSoFar states levels' queue' 0 last'
levels_begin states {queue} {levels'} grew =
    record {
      queued = grew.after.queued;
      behind = omega arith;
      highest = λ some q. omega (arith, grew.after.highest q);
      some_way = λ q d e. way q d e (grew.only q (omega (arith, e)));
      at_end_fact = λ q inside yes. omega (arith, grew.all q (inside, yes), grew.after.highest q);
      done = λ i low. let z : ⊥ = omega (arith, low) in absurd z;
    }
  where
    way :
        (q d : ℕ) → get_or levels' q 0 ≡ suc d →
        (get_or levels' q 0 ≡ get_or (replicate state_limit 0) q 0)
        ⊎ ((get_or levels' q 0 ≡ 1) × AcceptsBelow states (length states) q) →
        (w : Word) × (length w ≡ d) × AdmittedFrom states q w
    way q d e (inl same) = let z : ⊥ = omega (arith, e, same, no_level state_limit q) in absurd z
    way q d e (inr new) = ([], omega (arith, e, new.0), (tells_none states q).fact new.1.1)

-- ---- one state of the queue more

module _
    {states : List State} {levels queue : List ℕ} {first last : ℕ} (so_far : LevelsSoFar states levels queue first last)
    (some : first < last) (t : ℕ) (here : t ≡ get_or queue first 0) where
  -- it has a level, which is at most its place's number plus 1
  has_level : 0 < get_or levels t 0
  has_level = subst (λ (k : ℕ). 0 < get_or levels k 0) (sym here) (so_far.queued.has_level first some)

  pub low_level : get_or levels t 0 ≤ suc first
  low_level = subst (λ (k : ℕ). get_or levels k 0 ≤ suc first) (sym here) (so_far.queued.near first some)

  -- a word of so many names is admitted from it
  way_on : (k : ℕ) → get_or levels t 0 ≡ k → (w : Word) × (suc (length w) ≡ k) × AdmittedFrom states t w
  way_on zero e = let z : ⊥ = omega (arith, e, has_level) in absurd z
  way_on (suc d) e = let r = so_far.some_way t d e in (r.0, ap suc r.1, r.2)

  -- it is one of the table's
  pub state-here : t < length states
  state-here = let r = way_on (get_or levels t 0) refl in admitted-in states t r.0 r.2

  -- states of the next level may enter
  pub may_reach : (level : ℕ) → level ≡ suc (get_or levels t 0) → MayEnter level levels queue last
  may_reach level e =
      record {
        queued = so_far.queued;
        some_level = omega (arith, e);
        next_level = omega (arith, e, low_level, some);
        highest = λ q. omega (arith, e, so_far.highest some q, ap (λ (k : ℕ). get_or levels k 0) here);
      }

  -- a source of an arc to it has a word of one name more
  way_to :
      (q d : ℕ) → ArcsAscend states → Leads states q t → d ≡ get_or levels t 0 →
      (w : Word) × (length w ≡ d) × AdmittedFrom states q w
  way_to q d up leads e =
      let r = way_on (get_or levels t 0) refl in
      let a : Arc = leads.0 in
      let target : target_in a.name (get_or states q empty_state).arcs ≡ suc t =
      target_of_lem 0 (get_or states q empty_state).arcs a (up q) leads.1 ∙ ap suc leads.2 in
      (a.name ∷ r.0, omega (arith, r.1, e), admitted-cons states q t a.name r.0 target r.2)

  -- what holds when the sources of the arcs to it have a level
  module _
      {work ends : List ℕ} (sorted : SortedArcs states work ends) (up : ArcsAscend states)
      {from to level : ℕ} (from_is : from ≡ get_or ends t 0) (to_is : to ≡ get_or ends (suc t) 0)
      (level_is : level ≡ suc (get_or levels t 0))
      {levels' queue' : List ℕ} {last' : ℕ}
      (grew : Longer (SourceIn work from to) level levels queue last levels' queue' last') where
    -- by a place of before the level is as before
    at_same : (i : ℕ) → i < last → get_or levels' (get_or queue' i 0) 0 ≡ get_or levels (get_or queue i 0) 0
    at_same i low =
        ap (λ (q : ℕ). get_or levels' q 0) (grew.same_place i low)
        ∙ grew.same_level (get_or queue i 0) (so_far.queued.has_level i low)

    -- so that of this state, too
    at_here : get_or levels' (get_or queue' first 0) 0 ≡ get_or levels t 0
    at_here = at_same first some ∙ ap (λ (q : ℕ). get_or levels q 0) (sym here)

    -- a word bears out each level, the new ones too
    way-new :
        (q d : ℕ) → get_or levels' q 0 ≡ suc d →
        (get_or levels' q 0 ≡ get_or levels q 0) ⊎ ((get_or levels' q 0 ≡ level) × SourceIn work from to q) →
        (w : Word) × (length w ≡ d) × AdmittedFrom states q w
    way-new q d e (inl same) = so_far.some_way q d (sym same ∙ e)
    way-new q d e (inr new) =
        let at = new.1 in
        let leads = (sorted.here t at.0 state-here (omega (arith, from_is, at.1)) (omega (arith, to_is, at.2))).1 in
        way_to q d up (subst (λ (k : ℕ). Leads states k t) at.3 leads) (omega (arith, e, new.0, level_is))

    -- the sources of the arcs to this state are done
    done-here :
        (q : ℕ) → q < length states → Leads states q t → (0 < get_or levels' q 0) × (get_or levels' q 0 ≤ suc (get_or levels t 0))
    done-here q inside leads =
        let at = sorted.there q t inside state-here leads in (
          grew.all q (at.0, omega (arith, from_is, at.1), omega (arith, to_is, at.2), at.3),
          omega (arith, grew.after.highest q, level_is),
        )

    -- and so are those of the arcs to the states before it
    done-new :
        (i : ℕ) → (i < first) ⊎ (i ≡ first) → (q : ℕ) → q < length states → Leads states q (get_or queue' i 0) →
        (0 < get_or levels' q 0) × (get_or levels' q 0 ≤ suc (get_or levels' (get_or queue' i 0) 0))
    done-new i (inl low) q inside leads =
        let before : i < last = omega (arith, low, some) in
        let was = so_far.done i low q inside (subst (λ (k : ℕ). Leads states q k) (grew.same_place i before) leads) in
        let same = grew.same_level q was.0 in
        (omega (arith, same, was.0), omega (arith, same, was.1, at_same i before))
    done-new i (inr e) q inside leads =
        let same : get_or queue' i 0 ≡ t = ap (λ (k : ℕ). get_or queue' k 0) e ∙ grew.same_place first some ∙ sym here in
        let now = done-here q inside (subst (λ (k : ℕ). Leads states q k) same leads) in
        (now.0, omega (arith, now.1, at_here, ap (λ (k : ℕ). get_or levels' (get_or queue' k 0) 0) e))

    -- then this state is done
    pub levels-go : LevelsSoFar states levels' queue' (suc first) last'
    levels-go =
        record {
          queued = grew.after.queued;
          behind = omega (arith, some, grew.more);
          highest = λ more q.
              omega (arith, grew.after.highest q, level_is, at_here, grew.after.queued.ordered first more);
          some_way = λ q d e. way-new q d e (grew.only q (omega (arith, e)));
          at_end_fact = λ q inside yes.
              let one = so_far.at_end_fact q inside yes in
              grew.same_level q (omega (arith, one)) ∙ one;
          done = λ i low. done-new i (⊎_elim (λ high. inr (omega (arith, low, high))) (λ before. inl before) (le_or_lt first i));
        }

-- ---- it ends

-- when all states of the queue are done, no arc could lower a level
pub levels_end :
    {states : List State} {levels queue : List ℕ} {first last : ℕ} → ArcsAscend states →
    LevelsSoFar states levels queue first last → last ≤ first → LevelsFound states levels
levels_end {states} {levels} {queue} {first} up so_far all =
    record { is = level_by_arcs states levels up (λ q inside. so_far.some_way q) so_far.at_end_fact by-arc }
  where
    by-arc :
        (q t : ℕ) → q < length states → (x : ℕ) → target_in x (get_or states q empty_state).arcs ≡ suc t →
        0 < get_or levels t 0 →
        (0 < get_or levels q 0) × (get_or levels q 0 ≤ suc (get_or levels t 0))
    by-arc q t inside x e some =
        let at = so_far.queued.stands t some in
        let leads : Leads states q (get_or queue at.0 0) =
        (arc x t, target_arc x t (get_or states q empty_state).arcs e, sym at.2) in
        let done = so_far.done at.0 (omega (arith, at.1, all)) q inside leads in
        (done.0, omega (arith, done.1, ap (λ (k : ℕ). get_or levels k 0) at.2))

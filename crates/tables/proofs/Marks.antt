-- Marks of the states with a way to an end: over an accepted table the arcs to marked states are those of the trimmed table, and so are
-- the target by a name and the set of next names. Assumes nothing.
use mathlib.Core.Path.{◌≡◌, refl, sym, ap, ap₂, ◌∙◌, subst}
use mathlib.Core.Bool.{Bool, true, false, not, cond, not-not}
use mathlib.Core.List.Memᴰ.{head as here}
use mathlib.Core.List.Memᴰ.{tail as there}
use mathlib.Core.List.{List, [], ◌∷◌, Memᴰ as In}
use Prim.Native.Nat.{ℕ, suc, ◌+◌, ◌-◌, ◌^◌, ◌≤◌, ◌<◌}
use native.Mathlib.Omega.{arith}
use borrow.Author.Tests.{eq-eqb, ne_eqb}
use lib.Bits.{bit_or}
use lib.ListN.{length, get_or, length-map}
use lib.Pow.{pow_mono}
use Rattle.base.specs.Limits.{name_limit, state_limit}
use Rattle.base.specs.Lists.{filter_by}
use Rattle.model.specs.Tables.{Arc, State, state, empty_state, state_in, name_set, Ascending}
use Rattle.model.proofs.TableBodies.{NamesBelow, state-ascends}
use Rattle.endings.specs.Live.{ArcsAscend, is_live, live_arcs, trimmed, Marked}
use Rattle.endings.proofs.Trimmed.{trimmed-arcs, trimmed-target}
use Rattle.tables.specs.Arcs.{StateOk, TargetsBelow, is_marked, marked_arcs}
use Rattle.tables.specs.Walking.{target_of}
use Rattle.tables.proofs.NameSets.{with_name_small, name_set-goes}

-- the trimmed table has as many states
pub length-trimmed : (states : List State) → length (trimmed states) ≡ length states
unfolding trimmed
length-trimmed states = length-map states (λ (s : State). state s.accepts (live_arcs states s.arcs))

-- targets below a number are below a higher one
pub targets_more : {n m : ℕ} {arcs : List Arc} → n ≤ m → TargetsBelow n arcs → TargetsBelow m arcs
targets_more h all = record { below = λ a m. omega (arith, all.below a m) }

-- the targets of the first arc and of the others
pub targets_turn : {n : ℕ} (a : Arc) (arcs : List Arc) → TargetsBelow n (a ∷ arcs) → (a.to < n) × TargetsBelow n arcs
targets_turn a arcs all = (all.below a (here refl), record { below = λ z m. all.below z (there m) })

-- elements that pass one test exactly where they pass another
filter_by-same :
    {A : Type 0} (test other : A → Bool) (xs : List A) → ((x : A) → In x xs → test x ≡ other x) →
    filter_by test xs ≡ filter_by other xs
unfolding filter_by
filter_by-same test other [] h = refl
filter_by-same {A} test other (x ∷ xs) h =
    ap₂ (λ (b : Bool) (rest : List A). cond b (x ∷ rest) rest) (h x (here refl)) (filter_by-same test other xs (λ y m. h y (there m)))

-- ---- a table whose live states are marked

module _ (states : List State) (marks : List ℕ) (marked : Marked states marks) where
  -- a mark is set for the states with a way to an end
  pub mark_is : (q : ℕ) → q < length states → is_marked (get_or marks q 0) ≡ is_live states q
  mark_is q h = ap not (marked.tells q h) ∙ not-not (is_live states q)

  -- so the arcs to marked states are those to states with a way to an end
  marked_arcs_lem : (arcs : List Arc) → TargetsBelow (length states) arcs → marked_arcs marks arcs ≡ live_arcs states arcs
  unfolding marked_arcs live_arcs
  marked_arcs_lem arcs inside =
      filter_by-same (λ (a : Arc). is_marked (get_or marks a.to 0)) (λ (a : Arc). is_live states a.to) arcs
      (λ a m. mark_is a.to (inside.below a m))

  -- which are the arcs of the trimmed table
  pub marked_trimmed :
      (q : ℕ) → TargetsBelow (length states) (get_or states q empty_state).arcs →
      marked_arcs marks (get_or states q empty_state).arcs ≡ (get_or (trimmed states) q empty_state).arcs
  marked_trimmed q inside = marked_arcs_lem (get_or states q empty_state).arcs inside ∙ sym (trimmed-arcs states q)

  module _ (up : ArcsAscend states) (q name : ℕ) where
    -- no target, none in the trimmed table
    pub target_none : target_of states q name ≡ 0 → target_of (trimmed states) q name ≡ 0
    unfolding target_of
    target_none e =
        trimmed-target states up q name
        ∙ ap (λ (t : ℕ). cond (is_live states (t - 1)) t 0) e
        ∙ go (is_live states (0 - 1)) 0
      where
        go : (b : Bool) (n : ℕ) → cond b n n ≡ n
        go true n = refl
        go false n = refl

    -- a target, and the same one or none in the trimmed table, as its mark tells
    pub target-marked :
        (to : ℕ) → target_of states q name ≡ suc to → to < length states →
        target_of (trimmed states) q name ≡ cond (is_marked (get_or marks to 0)) (suc to) 0
    unfolding target_of
    target-marked to e low =
        let back : suc to - 1 ≡ to = omega arith in
        trimmed-target states up q name
        ∙ ap (λ (t : ℕ). cond (is_live states (t - 1)) t 0) e
        ∙ ap (λ (t : ℕ). cond (is_live states t) (suc to) 0) back
        ∙ ap (λ (b : Bool). cond b (suc to) 0) (sym (mark_is to low))

-- ---- the names of arcs to marked states gathered, over the arcs still to be read

-- the names so far and the set of the arcs still to be read are together the whole set, and those so far are below the names to come
pub record Gathering (marks : List ℕ) (all left : List Arc) (names : ℕ) : Type 0 where
  pub next : ℕ
  pub up : Ascending next left
  pub low : names < 2 ^ next
  pub named : NamesBelow name_limit left
  pub inside : TargetsBelow state_limit left
  pub whole : names + name_set (marked_arcs marks left) ≡ name_set (marked_arcs marks all)

pub gathering_begins :
    {left : List Arc} (s marks : List ℕ) → StateOk s → TargetsBelow state_limit (state_in s).arcs → left ≡ (state_in s).arcs →
    Gathering marks (state_in s).arcs left 0
gathering_begins s marks ok inside e =
    let known = state-ascends s ok in
    rw e (record { next = 0; up = known.0; low = omega arith; named = known.1; inside = inside; whole = omega arith })

module _ {marks : List ℕ} {all left more : List Arc} {a : Arc} {names : ℕ}
    (now : Gathering marks all left names) (turn : left ≡ a ∷ more) where
  ascends : Ascending now.next (a ∷ more)
  ascends = subst (Ascending now.next) turn now.up

  pub gathered_name : a.name < name_limit
  gathered_name = (subst (NamesBelow name_limit) turn now.named).0

  pub gathered_target : a.to < state_limit
  gathered_target = (targets_turn a more (subst (TargetsBelow state_limit) turn now.inside)).0

  -- what is left after this arc, with a set of the names so far
  after :
      {r : ℕ} → r < 2 ^ suc a.name → r + name_set (marked_arcs marks more) ≡ names + name_set (marked_arcs marks (a ∷ more)) →
      Gathering marks all more r
  after {r} low same =
      record {
        next = suc a.name;
        up = ascends.1;
        low = low;
        named = (subst (NamesBelow name_limit) turn now.named).1;
        inside = (targets_turn a more (subst (TargetsBelow state_limit) turn now.inside)).1;
        whole = same ∙ ap (λ (arcs : List Arc). names + name_set (marked_arcs marks arcs)) (sym turn) ∙ now.whole;
      }

  below : names < 2 ^ a.name
  below = omega (arith, now.low, pow_mono {i = now.next} {j = a.name} ascends.0)

  pub gathered_one : {r : ℕ} → (get_or marks a.to 0 ≡ 0 → ⊥) → r ≡ bit_or names (2 ^ a.name) → Gathering marks all more r
  unfolding marked_arcs filter_by
  gathered_one {r} set is =
      let test : is_marked (get_or marks a.to 0) ≡ true = ap not (ne_eqb (get_or marks a.to 0) 0 set) in
      after (with_name_small names a.name below is)
      (name_set-goes names a.name a.to (marked_arcs marks more) below is
      ∙ ap (λ (b : Bool). names + name_set (cond b (a ∷ marked_arcs marks more) (marked_arcs marks more))) (sym test))

  pub gathered_none : get_or marks a.to 0 ≡ 0 → Gathering marks all more names
  unfolding marked_arcs filter_by
  gathered_none unset =
      let test : is_marked (get_or marks a.to 0) ≡ false = ap not (eq-eqb (get_or marks a.to 0) 0 unset) in
      after (omega (arith, below, pow_mono {i = a.name} {j = suc a.name} (omega arith)))
      (ap (λ (b : Bool). names + name_set (cond b (a ∷ marked_arcs marks more) (marked_arcs marks more))) (sym test))

pub gathering_ends :
    {marks : List ℕ} {all left : List Arc} {names : ℕ} → Gathering marks all left names → left ≡ [] →
    names ≡ name_set (marked_arcs marks all)
unfolding name_set marked_arcs filter_by
gathering_ends {marks} now e =
    omega (arith, ap (λ (arcs : List Arc). name_set (marked_arcs marks arcs)) e, now.whole)

-- Laws of joining at once: one pair joined or not, the pairs of an arc with the arcs of its chain one after another, and the chains of
-- all arcs. Assumes nothing.
use mathlib.Core.Path.{◌≡◌, refl, sym, ap, ◌∙◌, subst}
use mathlib.Core.Logic.{◌⊎◌, inl, inr, ⊎_elim}
use mathlib.Core.Bool.{Bool, true, false, ◌||◌, true≢false, false≢true}
use mathlib.Core.List.{List}
use Prim.Native.Nat.{ℕ, zero, suc, ◌+◌, ◌<◌, ◌≤◌}
use native.Mathlib.Omega.{arith}
use lib.ListN.{get_or}
use Rattle.base.specs.Lists.{numbers_from}
use Rattle.indexed.specs.Trees.{Arrays}
use Rattle.indexed.specs.Partitions.{Refines, Labelled, ForkClosed, KeyClosed, Share, sum}
use Rattle.indexed.proofs.Suffixes.{parent_below}
use Rattle.worklist.specs.Settling.{JoinedUntil}
use Rattle.contexts.specs.Climbs.{ParentsJoined}
use Rattle.contexts.specs.Sweeps.{OnChain, Falling}
use Rattle.contexts.specs.Joins.{Chains, PairJoined, ChainJoined, PairsJoined}
use Rattle.contexts.proofs.ClimbLaws.{below_suc}
use Rattle.contexts.proofs.ForkLaws.{forks-closed, coarser_less}
use Rattle.contexts.proofs.ChainLaws.{both_none, both_some, on_here, on_later, on_split, on_none}

-- names in common under a partition are in common under a coarser one
pub share_refines :
    (n : ℕ) (parents names groups others : List ℕ) → Arrays n parents names → Refines n groups others → (j v w : ℕ) → v < n → w < n →
    Share n parents names groups j v w → Share n parents names others j v w
share_refines n parents names groups others arrays refines zero v w hv hw s = tt
share_refines n parents names groups others arrays refines (suc j) v w hv hw s =
    let x = s.0 in
    let y = s.1 in
    let px : get_or parents x 0 < n = parent_below n parents names arrays x s.4 in
    let py : get_or parents y 0 < n = parent_below n parents names arrays y s.5 in (
      x,
      y,
      s.2,
      s.3,
      s.4,
      s.5,
      s.6,
      refines (get_or parents x 0) v px hv s.7,
      refines (get_or parents y 0) w py hw s.8,
      share_refines n parents names groups others arrays refines j x y s.4 s.5 s.9,
    )

-- ---- one pair

module _ {n j : ℕ} {parents names old : List ℕ} {v w : ℕ} {groups : List ℕ} where
  -- one group already, or no names in common: nothing is joined
  pub pair_left :
      Labelled n groups → (Share n parents names old j v w → ParentsJoined parents groups v w) →
      PairJoined n j parents names old v w groups groups false
  pair_left labelled together =
      record {
        labelled = labelled;
        coarser = λ u u' hu hu' same. same;
        sound = λ others closed given refines. refines;
        together = together;
        none = λ _. refl;
        some = λ e. absurd (false≢true e);
      }

  -- the groups x and y of the sources are made one, and forks closed
  pub pair_joined :
      {numbers groups' : List ℕ} (x y : ℕ) → Arrays n parents names → numbers ≡ numbers_from n 0 → Labelled n groups → v < n →
      w < n → x ≡ get_or groups (get_or parents v 0) 0 → y ≡ get_or groups (get_or parents w 0) 0 → (x ≡ y → ⊥) →
      Share n parents names groups j v w →
      JoinedUntil (λ (others : List ℕ). KeyClosed n parents numbers names others × (get_or others x 0 ≡ get_or others y 0)) n groups
      groups' →
      PairJoined n j parents names old v w groups groups' true
  pair_joined {numbers} {groups'} x y arrays own labelled hv hw x_is y_is apart shared until =
      record {
        labelled = until.labelled;
        coarser = until.coarser;
        sound = λ others closed given refines.
            until.sound others (
              forks-closed n parents names numbers arrays own others closed,
              at_source others refines v hv x x_is
                  ∙ given (share_refines n parents names groups others arrays refines j v w hv hw shared)
                  ∙ sym (at_source others refines w hw y y_is),
            ) refines;
        together = λ _.
            sym (at_source groups' until.coarser v hv x x_is) ∙ until.closed.1
            ∙ at_source groups' until.coarser w hw y y_is;
        none = λ e. absurd (true≢false e);
        some = λ _.
            coarser_less n groups groups' labelled until.labelled until.coarser x y (inside v hv x x_is) (inside w hw y y_is)
            (λ e. apart (sym (label v hv x x_is) ∙ e ∙ label w hw y y_is)) until.closed.1;
      }
    where
      source-below : (u : ℕ) → u < n → get_or parents u 0 < n
      source-below = parent_below n parents names arrays

      inside : (u : ℕ) → u < n → (g : ℕ) → g ≡ get_or groups (get_or parents u 0) 0 → g < n
      inside u hu g is = omega (arith, labelled.low (get_or parents u 0) (source-below u hu), source-below u hu)

      label : (u : ℕ) → u < n → (g : ℕ) → g ≡ get_or groups (get_or parents u 0) 0 → get_or groups g 0 ≡ g
      label u hu g is =
          ap (λ (z : ℕ). get_or groups z 0) is ∙ labelled.own (get_or parents u 0) (source-below u hu) ∙ sym is

      -- a coarser partition has the label where it has the source
      at_source :
          (others : List ℕ) → Refines n groups others → (u : ℕ) → u < n → (g : ℕ) → g ≡ get_or groups (get_or parents u 0) 0 →
          get_or others g 0 ≡ get_or others (get_or parents u 0) 0
      at_source others refines u hu g is =
          refines g (get_or parents u 0) (inside u hu g is) (source-below u hu) (label u hu g is ∙ is)

-- ---- a chain

-- the arcs of the chain before `at` are done: their sources are joined with that of v where they are to be
pub record Chaining
    (n j : ℕ) (parents names old links : List ℕ) (v : ℕ) (groups : List ℕ) (at : ℕ) (groups' : List ℕ) (joined : Bool) : Type 0
  where
    pub labelled : Labelled n groups'
    pub coarser : Refines n groups groups'
    pub sound :
        (others : List ℕ) → ForkClosed n parents names others →
        ((w : ℕ) → OnChain links (get_or links v 0) w → Share n parents names others j v w → ParentsJoined parents others v w) →
        Refines n groups others → Refines n groups' others
    pub to_come : (w : ℕ) → OnChain links at w → OnChain links (get_or links v 0) w
    pub together :
        (w : ℕ) → OnChain links (get_or links v 0) w → Share n parents names old j v w →
        OnChain links at w ⊎ ParentsJoined parents groups' v w
    pub none : joined ≡ false → groups' ≡ groups
    pub some : joined ≡ true → sum groups' < sum groups

module _ {n j : ℕ} {parents names old links : List ℕ} {v : ℕ} {groups : List ℕ} where
  module _ {at w : ℕ} {now-groups : List ℕ} {a : Bool} (falling : Falling links (get_or links v 0) n) (at_is : at ≡ suc w)
      (chaining : Chaining n j parents names old links v groups at now-groups a) where
    on-first : OnChain links (get_or links v 0) w
    on-first = chaining.to_come w (on_here links at w at_is)

    pub come-to : (w < n) × (get_or links w 0 ≤ w)
    come-to = falling w on-first

    pub chaining-more :
        {groups' : List ℕ} {b : Bool} → ((u : ℕ) → u < n → get_or parents u 0 < n) → v < n →
        PairJoined n j parents names old v w now-groups groups' b →
        Chaining n j parents names old links v groups (get_or links w 0) groups' (a || b)
    chaining-more {groups'} {b} source-below inside pair =
        record {
          labelled = pair.labelled;
          coarser = λ u u' hu hu' same. pair.coarser u u' hu hu' (chaining.coarser u u' hu hu' same);
          sound = λ others closed given refines.
              pair.sound others closed (given w on-first) (chaining.sound others closed given refines);
          to_come = λ u on. chaining.to_come u (on_later links at w u at_is on);
          together = λ u on shared.
              ⊎_elim (here u shared) (λ same. inr (kept u on same)) (chaining.together u on shared);
          none = both_none a b groups now-groups groups' chaining.none pair.none;
          some = both_some a b groups now-groups groups' chaining.none pair.none chaining.some pair.some;
        }
      where
        kept :
            (u : ℕ) → OnChain links (get_or links v 0) u → ParentsJoined parents now-groups v u → ParentsJoined parents groups' v u
        kept u on same =
            pair.coarser (get_or parents v 0) (get_or parents u 0) (source-below v inside) (source-below u (falling u on).0) same

        here :
            (u : ℕ) → Share n parents names old j v u → OnChain links at u →
            OnChain links (get_or links w 0) u ⊎ ParentsJoined parents groups' v u
        here u shared on =
            ⊎_elim
            (λ e. inr
            (subst (λ (z : ℕ). ParentsJoined parents groups' v z) (sym e)
            (pair.together (subst (λ (z : ℕ). Share n parents names old j v z) e shared))))
            (λ later. inl later) (on_split links at w u at_is on)

  pub chaining_done :
      {at : ℕ} {groups' : List ℕ} {joined : Bool} → at ≡ 0 →
      Chaining n j parents names old links v groups at groups' joined →
      ChainJoined n j parents names old links v groups groups' joined
  chaining_done {at} none chaining =
      record {
        labelled = chaining.labelled;
        coarser = chaining.coarser;
        sound = chaining.sound;
        together = λ w on shared.
            ⊎_elim (λ left. absurd (on_none links at w none left)) (λ same. same) (chaining.together w on shared);
        none = chaining.none;
        some = chaining.some;
      }

-- ---- all arcs

module _ {n j : ℕ} {parents names old links : List ℕ} where
  -- arc i is compared with its chain
  pub pairs_more :
      {i : ℕ} {base groups groups' : List ℕ} {before joined : Bool} → Arrays n parents names → Chains n links → i < n →
      PairsJoined n i j parents names old links base groups before →
      ChainJoined n j parents names old links i groups groups' joined →
      PairsJoined n (i + 1) j parents names old links base groups' (before || joined)
  pairs_more {i} {base} {groups} {groups'} {before} {joined} arrays chains inside so_far chain =
      record {
        labelled = chain.labelled;
        coarser = λ v w hv hw same. chain.coarser v w hv hw (so_far.coarser v w hv hw same);
        sound = λ others closed given refines.
            chain.sound others closed (λ w on shared. given i w inside on shared) (so_far.sound others closed given refines);
        complete = λ v w low on shared. complete v (omega arith) w on shared;
        none = both_none before joined base groups groups' so_far.none chain.none;
        some = both_some before joined base groups groups' so_far.none chain.none so_far.some chain.some;
      }
    where
      Done : ℕ → Type 0
      Done v =
          (w : ℕ) → OnChain links (get_or links v 0) w → Share n parents names old j v w → ParentsJoined parents groups' v w

      kept : (v : ℕ) → v < i → Done v
      kept v low w on shared =
          let in-v : v < n = omega arith in
          let in-w : w < n = (chains.falling v in-v w on).0 in
          chain.coarser (get_or parents v 0) (get_or parents w 0) (parent_below n parents names arrays v in-v)
          (parent_below n parents names arrays w in-w) (so_far.complete v w low on shared)

      complete : (v : ℕ) → v < suc i → Done v
      complete = below_suc Done i kept chain.together

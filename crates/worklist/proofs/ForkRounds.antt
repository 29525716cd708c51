-- Laws of a round of closing forks: pair after pair of the queue joined, until none is left; and such a round after two states
-- are joined. Assumes nothing.
use mathlib.Core.Path.{◌≡◌, refl, sym, ◌∙◌, subst, subst₂}
use mathlib.Core.List.{List}
use Prim.Native.Nat.{ℕ, suc, ◌<◌, ◌≤◌}
use native.Mathlib.Omega.{arith}
use lib.ListN.{length, get_or}
use Rattle.indexed.specs.Partitions.{Refines, Labelled}
use Rattle.indexed.specs.Passes.{relabelled}
use Rattle.indexed.proofs.Keys.{relabelled-coarser, relabelled-refines, relabelled-joins}
use Rattle.partition.specs.Forests.{Forest, roots_of}
use Rattle.partition.proofs.ForestLaws.{flat_roots, roots_length}
use Rattle.worklist.specs.Forks.{ForksReady, Kept, Closing, JoinedPair, SettledForks, KeptClosed, TwoClosed}
use Rattle.worklist.proofs.ReachLaws.{One}
use Rattle.worklist.proofs.ForkLaws.{closing_kept, closing-next, kept-closed}

-- ---- pair after pair of the queue

module _ {n : ℕ} {names numbers above₀ above links₀ heads₀ links heads firsts₀ seconds₀ firsts seconds : List ℕ}
    {tail₀ done tail : ℕ}
    (so_far : SettledForks n names numbers above₀ above links₀ heads₀ links heads firsts₀ seconds₀ firsts seconds tail₀ done
    tail) where
  -- the pair at `done` joined
  pub settled-more :
      {above' links' heads' firsts' seconds' : List ℕ} {v w tail' : ℕ} → done < tail → v ≡ get_or firsts done 0 →
      w ≡ get_or seconds done 0 →
      JoinedPair n names numbers above above' links heads links' heads' firsts seconds firsts' seconds' v w tail tail' →
      SettledForks n names numbers above₀ above' links₀ heads₀ links' heads' firsts₀ seconds₀ firsts' seconds' tail₀
      (suc done) tail'
  settled-more {above'} due first second pair =
      record {
        forest = pair.forest;
        coarser = λ x y hx hy e. pair.two.1.coarser x y hx hy (so_far.coarser x y hx hy e);
        closing = λ parents start before.
            let closing = so_far.closing parents start before in
            closing-next
            (pair.closing parents start done
            (λ closed by refines.
            subst₂ (One closed) (sym first) (sym second) ((closing.reached.safe closed by refines).1 done (omega arith) due))
            closing)
            (omega (arith, pair.grew.longer))
            (subst₂ (One (roots_of above')) (first ∙ sym (pair.grew.firsts_kept done due))
            (second ∙ sym (pair.grew.seconds_kept done due)) pair.two.1.together);
      }

  -- none is left
  pub settled_all :
      tail ≤ done → done ≤ tail →
      SettledForks n names numbers above₀ above links₀ heads₀ links heads firsts₀ seconds₀ firsts seconds tail₀ tail tail
  settled_all over order =
      subst
      (λ (i : ℕ).
      SettledForks n names numbers above₀ above links₀ heads₀ links heads firsts₀ seconds₀ firsts seconds tail₀ i tail)
      (omega arith) so_far

-- a round ended: from its start all pairs joined, and the forest flattened
pub round_ended :
    {n : ℕ} {parents names numbers start above above' links heads links' heads' firsts seconds firsts' seconds' groups' : List ℕ}
    {tail tail' : ℕ} → length names ≡ n → groups' ≡ roots_of above' → Refines n start (roots_of above) →
    Closing (length names) parents names numbers start (roots_of above) links heads firsts seconds 0 tail →
    SettledForks (length names) names numbers above above' links heads links' heads' firsts seconds firsts' seconds' tail tail'
    tail' →
    KeptClosed n parents names numbers start groups' links' heads' firsts' seconds' tail'
round_ended {parents = parents} {names} {numbers} {start} {links' = links'} {heads'} {firsts' = firsts'} {seconds'}
    {tail' = tail'} size flat coarser closing settled =
    subst₂ (λ (m : ℕ) (groups : List ℕ). KeptClosed m parents names numbers start groups links' heads' firsts' seconds' tail')
    size (sym flat)
    (kept-closed (settled.closing parents start closing) (omega arith)
    (λ x y hx hy e. settled.coarser x y hx hy (coarser x y (omega (arith, size)) (omega (arith, size)) e)))

-- a partition is as coarse as its forest's roots
pub flat_coarser : {n : ℕ} {groups : List ℕ} → Labelled n groups → Refines n groups (roots_of groups)
flat_coarser {n} {groups} labelled x y hx hy e =
    subst (λ (l : List ℕ). One l x y) (sym (flat_roots n groups labelled)) e

-- ---- two states joined, and pair after pair of the queue

-- from the queue's start there is room too
pub kept_from_start :
    (n : ℕ) (parents names numbers groups links heads firsts seconds : List ℕ) (tail : ℕ) →
    Kept n parents names numbers groups links heads firsts seconds tail →
    Kept n parents names numbers groups links heads firsts seconds 0
kept_from_start n parents names numbers groups links heads firsts seconds tail kept =
    record {
      rows = kept.rows;
      labelled = kept.labelled;
      kind = kept.kind;
      room = omega (arith, kept.room);
      queue = kept.queue;
    }

-- the roots with the groups of two states one, where the round starts
abbrev pub united : List ℕ → ℕ → ℕ → List ℕ
united above v w = relabelled (get_or (roots_of above) v 0) (get_or (roots_of above) w 0) (roots_of above)

module _ {n : ℕ} {parents names numbers above links heads firsts seconds above₁ links₁ heads₁ firsts₁ seconds₁ : List ℕ}
    {v w end : ℕ} (forest : Forest n above) (below-v : v < n) (below-w : w < n) (ready : ForksReady n parents names numbers)
    (kept : Kept n parents names numbers (roots_of above) links heads firsts seconds 0)
    (pair : JoinedPair (length names) names numbers above above₁ links heads links₁ heads₁ firsts seconds firsts₁ seconds₁ v w 0
    end) where
  sizes : length (roots_of above) ≡ n
  sizes = roots_length above ∙ forest.size

  -- it joins both, is as coarse as the roots, and no coarser than a partition that does and is
  united-one : One (united above v w) v w
  united-one = relabelled-joins n v w (roots_of above) sizes below-v below-w

  united-coarser : Refines n (roots_of above) (united above v w)
  united-coarser = relabelled-coarser n (get_or (roots_of above) v 0) (get_or (roots_of above) w 0) (roots_of above) sizes

  united-refines : (others : List ℕ) → One others v w → Refines n (roots_of above) others → Refines n (united above v w) others
  united-refines others one refines = relabelled-refines n v w (roots_of above) others sizes below-v below-w refines one

  -- what joining them queued is pending
  pub closing_two :
      Closing (length names) parents names numbers (united above v w) (roots_of above₁) links₁ heads₁ firsts₁ seconds₁ 0 end
  closing_two =
      pair.closing parents (united above v w) 0
      (λ closed by refines. refines v w (omega (arith, ready.names_size)) (omega (arith, ready.names_size)) united-one)
      (subst
      (λ (m : ℕ). Closing m parents names numbers (united above v w) (roots_of above) links heads firsts seconds 0 0)
      (sym ready.names_size) (closing_kept ready kept united-coarser))

  -- all of it joined
  pub two_closed :
      {above₂ links₂ heads₂ firsts₂ seconds₂ : List ℕ} {tail : ℕ} →
      SettledForks (length names) names numbers above₁ above₂ links₁ heads₁ links₂ heads₂ firsts₁ seconds₁ firsts₂ seconds₂ end
      tail tail →
      TwoClosed n parents names numbers v w above above₂ links₂ heads₂ firsts₂ seconds₂
  two_closed {above₂} {links₂} {heads₂} {firsts₂} {seconds₂} {tail} settled =
      let size = ready.names_size in
      let round : KeptClosed n parents names numbers (united above v w) (roots_of above₂) links₂ heads₂ firsts₂ seconds₂ tail =
      round_ended size refl
      (united-refines (roots_of above₁) pair.two.1.together
      (λ x y hx hy e. pair.two.1.coarser x y (omega (arith, size)) (omega (arith, size)) e))
      closing_two settled in
      record {
        forest = subst (λ (m : ℕ). Forest m above₂) size settled.forest;
        until =
            record {
              labelled = round.until.labelled;
              coarser = λ x y hx hy e. round.until.coarser x y hx hy (united-coarser x y hx hy e);
              sound = λ others by refines. round.until.sound others by.0 (united-refines others by.1 refines);
              closed = (round.until.closed, round.until.coarser v w below-v below-w united-one);
            };
        kept =
            kept_from_start n parents names numbers (roots_of above₂) links₂ heads₂ firsts₂ seconds₂ tail round.kept;
      }

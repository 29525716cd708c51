-- The chains of the near arcs by class, and the marks of the far ones: no arc yet, one more, which is put into its chain or
-- marked, and the far arcs linked in the end. Assumes nothing.
use mathlib.Core.Path.{◌≡◌, refl, sym, ◌∙◌, subst, subst₂}
use mathlib.Core.Logic.{◌⊎◌, inl, inr}
use mathlib.Core.List.{List}
use Prim.Native.Nat.{ℕ, zero, suc, ◌+◌, ◌<◌, ◌≤◌}
use native.Mathlib.Numerals.{add-one}
use native.Mathlib.Omega.{arith}
use lib.ListN.{length, get_or, set, replicate}
use lib.Seq.{get_or-set_same, get_or-set_other}
use Rattle.base.specs.Limits.{state_limit, setting_limit}
use Rattle.base.proofs.Tests.{eq_dec, decided, tells_ltb}
use Rattle.indexed.specs.Chains.{Chained}
use Rattle.indexed.proofs.Chains.{chained_none, chained_skip, chained_push}
use Rattle.base.specs.Bits.{bit}
use Rattle.contexts.specs.Sweeps.{FirstArc, Linked, Listed, ListedNear, Near, Far, waiting, Placed, ArcsLinked, FarLinked}
use Rattle.contexts.specs.Sweeps.{ArcsReady}
use Rattle.contexts.proofs.LinkLaws.{linked_none, linked_known}

-- the distances at first
pub distances_none : (n x : ℕ) → get_or (replicate n setting_limit) x 0 ≤ setting_limit
distances_none zero x = omega arith
distances_none (suc n) zero = omega arith
distances_none (suc n) (suc x) = distances_none n x

-- chains tell no other links than those of their members
chained_same :
    {i : ℕ} {In : ℕ → ℕ → Type 0} {links links' heads : List ℕ} →
    ((b v : ℕ) → v < i → In b v → get_or links' v 0 ≡ get_or links v 0) → Chained i In links heads → Chained i In links' heads
chained_same same chained =
    record {
      head_low = chained.head_low;
      head_in = chained.head_in;
      head_last = chained.head_last;
      link_low = λ b v low l. omega (arith, same b v low l, chained.link_low b v low l);
      link_in = λ b v w low l e. chained.link_in b v w low l (sym (same b v low l) ∙ e);
      link_last = λ b v u low l above. chained.link_last b v u low l (omega (arith, same b v low l));
    }

module _ {j : ℕ} {parents names classes old dist : List ℕ} where
  pub arcs_none :
      {next links heads : List ℕ} → ((x : ℕ) → get_or next x 0 ≡ 0) → ((v : ℕ) → get_or links v 0 ≡ 0) →
      ((b : ℕ) → get_or heads b 0 ≡ 0) → ArcsLinked 1 j parents names classes old dist next links heads
  arcs_none {next} {links} {heads} no_names no-links no-heads =
      record {
        linked = linked_none no_names;
        chained =
            chained_skip 0 (ListedNear j parents names classes old dist) links heads
            (λ b in_b. let z : ⊥ = omega (arith, in_b.listed.no_root) in z)
            (chained_none (ListedNear j parents names classes old dist) links heads no-heads);
        listed = λ v some. let z : ⊥ = omega (arith, no-links v) in absurd z;
        far = λ v low listed. let z : ⊥ = omega (arith, listed.no_root) in absurd z;
        waits = λ v mark. let z : ⊥ = omega (arith, no-links v) in absurd z;
      }

  module _ {i : ℕ} {next links heads : List ℕ}
      (so_far : ArcsLinked i j parents names classes old dist next links heads) where
    -- far arcs below i + 1 have the mark if arc i has, and those before it still have it
    far-more :
        (links' : List ℕ) → ((v : ℕ) → (v ≡ i → ⊥) → get_or links' v 0 ≡ get_or links v 0) →
        (Listed parents names classes old (get_or classes i 0) i → Far j old dist i → get_or links' i 0 ≡ waiting) →
        (v : ℕ) → v < i + 1 → Listed parents names classes old (get_or classes v 0) v → Far j old dist v → get_or links' v 0 ≡ waiting
    far-more links' kept here v low = go (eq_dec v i)
      where
        go :
            (v ≡ i) ⊎ (v ≡ i → ⊥) → Listed parents names classes old (get_or classes v 0) v → Far j old dist v →
            get_or links' v 0 ≡ waiting
        go (inl e) listed far =
            subst
            (λ (u : ℕ). Listed parents names classes old (get_or classes u 0) u → Far j old dist u → get_or links' u 0 ≡ waiting)
            (sym e) here listed far
        go (inr other) listed far = kept v other ∙ so_far.far v (omega arith) listed far

    -- arc i has a name that leads out of its group already
    pub arcs-known :
        bit (get_or names i 0) (get_or next (get_or old (get_or parents i 0) 0) 0) ≡ 1 →
        ArcsLinked (i + 1) j parents names classes old dist next links heads
    arcs-known known =
        record {
          linked = rw add-one (linked_known so_far.linked known);
          chained =
              chained_skip i (ListedNear j parents names classes old dist) links heads (λ b in_b. unlisted b in_b.listed)
              so_far.chained;
          listed = so_far.listed;
          far = far-more links (λ v other. refl) (λ listed far. absurd (unlisted (get_or classes i 0) listed));
          waits = so_far.waits;
        }
      where
        unlisted : (b : ℕ) → Listed parents names classes old b i → ⊥
        unlisted b listed =
            let arc = so_far.linked.arc (get_or old (get_or parents i 0) 0) (get_or names i 0) known in
            listed.first arc.target arc.no_root arc.below arc.name_is arc.from_x

    -- arc i is the first of its name out of its group
    module _ {next' : List ℕ} (linked : Linked (suc i) parents names old next') where
      -- it has no class
      arcs-short :
          state_limit ≤ get_or classes i 0 → ArcsLinked (i + 1) j parents names classes old dist next' links heads
      arcs-short short =
          record {
            linked = rw add-one linked;
            chained =
                chained_skip i (ListedNear j parents names classes old dist) links heads
                (λ b in_b. let z : ⊥ = omega (arith, in_b.listed.classed, in_b.listed.class_is) in z) so_far.chained;
            listed = so_far.listed;
            far = far-more links (λ v other. refl) (λ listed far. let z : ⊥ = omega (arith, listed.classed) in absurd z);
            waits = so_far.waits;
          }

      module _ (in-links : i < length links) (here : Listed parents names classes old (get_or classes i 0) i) where
        -- the other links are as they were, and this one is the one put
        other-kept : (value v : ℕ) → (v ≡ i → ⊥) → get_or (set links i value) v 0 ≡ get_or links v 0
        other-kept value v other = get_or-set_other links i v value 0 other

        this-put : (value : ℕ) → get_or (set links i value) i 0 ≡ value
        this-put value = get_or-set_same links i value 0 in-links

        -- so what has a link or the mark has a class, and only far arcs have the mark
        listed_more :
            (value v : ℕ) → 0 < get_or (set links i value) v 0 → Listed parents names classes old (get_or classes v 0) v
        listed_more value v some = go (eq_dec v i)
          where
            go : (v ≡ i) ⊎ (v ≡ i → ⊥) → Listed parents names classes old (get_or classes v 0) v
            go (inl e) = subst (λ (u : ℕ). Listed parents names classes old (get_or classes u 0) u) (sym e) here
            go (inr other) = so_far.listed v (omega (arith, other-kept value v other))

        waits-more :
            (value : ℕ) → (value ≡ waiting → Far j old dist i) → (v : ℕ) → get_or (set links i value) v 0 ≡ waiting →
            Far j old dist v
        waits-more value here-far v mark = go (eq_dec v i)
          where
            go : (v ≡ i) ⊎ (v ≡ i → ⊥) → Far j old dist v
            go (inl e) =
                subst (λ (u : ℕ). Far j old dist u) (sym e)
                (here-far
                (sym (this-put value) ∙ subst (λ (u : ℕ). get_or (set links i value) u 0 ≡ waiting) e mark))
            go (inr other) = so_far.waits v (sym (other-kept value v other) ∙ mark)

        -- it is marked
        arcs-far :
            Far j old dist i → ArcsLinked (i + 1) j parents names classes old dist next' (set links i waiting) heads
        arcs-far far =
            record {
              linked = rw add-one linked;
              chained =
                  chained_skip i (ListedNear j parents names classes old dist) (set links i waiting) heads
                  (λ b in_b. let z : ⊥ = omega (arith, in_b.near) in z)
                  (chained_same (λ b v low in_b. other-kept waiting v (λ e. omega arith)) so_far.chained);
              listed = listed_more waiting;
              far = far-more (set links i waiting) (other-kept waiting) (λ listed _. this-put waiting);
              waits = waits-more waiting (λ _. far);
            }

        -- it is put into the chain of its class
        arcs-near :
            get_or classes i 0 < length heads → length links ≡ state_limit → Near j old dist i →
            ArcsLinked (i + 1) j parents names classes old dist next' (set links i (get_or heads (get_or classes i 0) 0))
            (set heads (get_or classes i 0) (i + 1))
        arcs-near in-heads links_size near =
            let b = get_or classes i 0 in
            let head = get_or heads b 0 in
            record {
              linked = rw add-one linked;
              chained =
                  chained_push i (ListedNear j parents names classes old dist) links heads b (i + 1) in-links in-heads refl
                  (record { listed = here; near = near }) (λ c in_c. sym in_c.listed.class_is) so_far.chained;
              listed = listed_more head;
              far = far-more (set links i head) (other-kept head) (λ listed far. let z : ⊥ = omega arith in absurd z);
              waits = waits-more head (λ e. let z : ⊥ = omega (arith, so_far.chained.head_low b) in absurd z);
            }

      -- whichever of these: what placing the arc makes of the links and heads
      pub arcs-placed :
          {links' heads' : List ℕ} → i < state_limit → length links ≡ state_limit → length heads ≡ state_limit → 0 < i →
          FirstArc parents names old i → Placed j i classes old dist links heads links' heads' →
          ArcsLinked (i + 1) j parents names classes old dist next' links' heads'
      arcs-placed {links'} {heads'} inside links_size heads_size some first placed =
          go (decided (tells_ltb (get_or classes i 0) state_limit)) (decided (tells_ltb (get_or dist (get_or old i 0) 0) j))
        where
          to :
              (l h : List ℕ) → (links' ≡ l) × (heads' ≡ h) →
              ArcsLinked (i + 1) j parents names classes old dist next' l h →
              ArcsLinked (i + 1) j parents names classes old dist next' links' heads'
          to l h e arcs =
              subst₂ (λ (l h : List ℕ). ArcsLinked (i + 1) j parents names classes old dist next' l h) (sym e.0)
              (sym e.1) arcs

          here : get_or classes i 0 < state_limit → Listed parents names classes old (get_or classes i 0) i
          here classed = record { classed = classed; class_is = refl; no_root = some; first = first }

          go :
              (get_or classes i 0 < state_limit) ⊎ (get_or classes i 0 < state_limit → ⊥) →
              Near j old dist i ⊎ (Near j old dist i → ⊥) →
              ArcsLinked (i + 1) j parents names classes old dist next' links' heads'
          go (inr not-classed) near =
              let short : state_limit ≤ get_or classes i 0 = omega arith in
              to links heads (placed.short short) (arcs-short short)
          go (inl classed) (inr not-near) =
              let far : Far j old dist i = omega arith in
              to (set links i waiting) heads (placed.far classed far) (arcs-far (omega arith) (here classed) far)
          go (inl classed) (inl near) =
              to (set links i (get_or heads (get_or classes i 0) 0)) (set heads (get_or classes i 0) (i + 1))
              (placed.near classed near) (arcs-near (omega arith) (here classed) (omega arith) links_size near)

  -- the far arcs are linked
  pub arcs_ready :
      {n : ℕ} {next links links' heads : List ℕ} → ArcsLinked n j parents names classes old dist next links heads →
      FarLinked n classes heads links links' → ArcsReady n j parents names classes old dist next links' heads
  arcs_ready {n} {next} {links} {links'} arcs settled =
      record {
        linked = arcs.linked;
        chained =
            chained_same
            (λ b v low in_b. (settled v low).other (λ mark. let z : ⊥ = omega (arith, in_b.near, arcs.waits v mark) in z))
            arcs.chained;
        listed = λ v low some. listed v low some (eq_dec (get_or links v 0) waiting);
        far = λ v low in-v far. (settled v low).marked (arcs.far v low in-v far);
      }
    where
      listed :
          (v : ℕ) → v < n → 0 < get_or links' v 0 → (get_or links v 0 ≡ waiting) ⊎ (get_or links v 0 ≡ waiting → ⊥) →
          Listed parents names classes old (get_or classes v 0) v
      listed v low some (inl mark) = arcs.listed v (omega arith)
      listed v low some (inr other) = arcs.listed v (omega (arith, (settled v low).other other))

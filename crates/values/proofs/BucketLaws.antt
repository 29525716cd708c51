-- Laws of the lists of first accepting states by their value's bucket: a search down a list that found none; one state more, put
-- into its list where it is the first with its value. Assumes nothing.
use mathlib.Core.Path.{◌≡◌, refl, sym, ap, ◌∙◌}
use mathlib.Core.List.{List}
use Prim.Native.Nat.{ℕ, zero, suc, ◌+◌, ◌<◌, ◌≤◌}
use native.Mathlib.Omega.{arith}
use lib.ListN.{get_or, set, replicate, length-set, length-replicate}
use borrow.Author.Count.{below_more}
use Rattle.base.specs.Limits.{state_limit}
use Rattle.indexed.specs.Chains.{Searched}
use Rattle.indexed.proofs.Chains.{heads_none, chained_none, chained_push, chained_skip}
use Rattle.values.specs.Buckets.{bucket_of, Listed, Buckets, FirstEnd}

-- a state has the value of v
abbrev pub SameValue : List ℕ → ℕ → ℕ → Type 0
SameValue values v u = get_or values u 0 ≡ get_or values v 0

-- the search comes to the list's end: an accepting state with the value would have a first one, and that would be in the list
pub first_itself :
    (ends values : List ℕ) (v b at : ℕ) → at ≤ 0 → b ≡ bucket_of (get_or values v 0) → 0 < get_or ends v 0 →
    Searched v (Listed ends values) (SameValue values v) b at → FirstEnd ends values v v
first_itself ends values v b at end bucket accepting searched =
    record { low = omega arith; accepting = accepting; alike = refl; first = none v (omega arith) }
  where
    none : (i : ℕ) → i ≤ v → (k : ℕ) → k < i → 0 < get_or ends k 0 → SameValue values v k → ⊥
    none zero h k low a e = omega arith
    none (suc i) h k low a e =
        let earlier : (j : ℕ) → j < i → 0 < get_or ends j 0 → SameValue values v j → ⊥ = none i (omega arith) in
        let here : 0 < get_or ends i 0 → SameValue values v i → ⊥ = λ c q. searched.past i (omega arith) (omega arith)
        (c, ap bucket_of q ∙ sym bucket, λ j lower d r. earlier j lower d (r ∙ q)) q in
        below_more (λ (j : ℕ). 0 < get_or ends j 0 → SameValue values v j → ⊥) i earlier here k (omega arith) a e

-- lists of no state, in arrays of zeros
pub buckets_none : (ends values : List ℕ) → Buckets ends values 0 (replicate 512 0) (replicate 512 0)
buckets_none ends values =
    record {
      links_size = length-replicate {A = ℕ} 512 0;
      heads_size = length-replicate {A = ℕ} 512 0;
      chained = chained_none (Listed ends values) (replicate 512 0) (replicate 512 0) (heads_none 512);
    }

-- one state more, which is in no list
module _ (ends values : List ℕ) (v : ℕ) (links heads : List ℕ) (so_far : Buckets ends values v links heads) where
  buckets_skip : ((b : ℕ) → Listed ends values b v → ⊥) → Buckets ends values (v + 1) links heads
  buckets_skip unlisted =
      record {
        links_size = so_far.links_size;
        heads_size = so_far.heads_size;
        chained = chained_skip v (Listed ends values) links heads unlisted so_far.chained;
      }

  -- it accepts, and an earlier state is the first with its value
  pub buckets_kept : (first : ℕ) → first < v → FirstEnd ends values v first → Buckets ends values (v + 1) links heads
  buckets_kept first lower found = buckets_skip (λ b l. l.2 first lower found.accepting found.alike)

  -- it is the first itself, and put at the end of its list
  pub buckets_pushed :
      (b : ℕ) → v < state_limit → b < state_limit → b ≡ bucket_of (get_or values v 0) → FirstEnd ends values v v →
      Buckets ends values (v + 1) (set links v (get_or heads b 0)) (set heads b (v + 1))
  buckets_pushed b v_below b_below bucket itself =
      record {
        links_size = length-set links v (get_or heads b 0) ∙ so_far.links_size;
        heads_size = length-set heads b (v + 1) ∙ so_far.heads_size;
        chained =
            chained_push v (Listed ends values) links heads b (v + 1) (omega (arith, so_far.links_size))
            (omega (arith, so_far.heads_size))
            refl (itself.accepting, sym bucket, itself.first) (λ c l. sym l.1 ∙ sym bucket) so_far.chained;
      }

-- Laws of lists of states by links: no state yet, one more at the end of its list, one more in no list; and of a search down one
-- list: its start and its next turn. Assumes nothing.
use mathlib.Core.Path.{◌≡◌, refl, sym, ap, ◌∙◌, subst}
use mathlib.Core.Bool.{Bool, true, false}
use mathlib.Core.List.{List}
use Prim.Native.Nat.{ℕ, zero, suc, ◌+◌, ◌<◌, ◌≤◌}
use native.Mathlib.Omega.{arith}
use lib.Dec.{eqb}
use lib.ListN.{length, get_or, set, replicate}
use lib.Seq.{get_or-set_same, get_or-set_other}
use borrow.Author.Tests.{eqb-true, eqb-false}
use Rattle.indexed.specs.Chains.{Chained, Searched}

-- heads at the start
pub heads_none : (n b : ℕ) → ◌≡◌ {A = ℕ} (get_or (replicate n 0) b 0) 0
heads_none zero b = refl
heads_none (suc n) zero = refl
heads_none (suc n) (suc b) = heads_none n b

pub chained_none :
    (Listed : ℕ → ℕ → Type 0) (links heads : List ℕ) → ((b : ℕ) → get_or heads b 0 ≡ 0) → Chained 0 Listed links heads
chained_none Listed links heads none =
    record {
      head_low = λ b. omega (arith, none b);
      head_in = λ b v e. absurd (omega (arith, none b));
      head_last = λ b u h. absurd (omega arith);
      link_low = λ b v h. absurd (omega arith);
      link_in = λ b v w h. absurd (omega arith);
      link_last = λ b v u h. absurd (omega arith);
    }

-- state i is in no list
pub chained_skip :
    (i : ℕ) (Listed : ℕ → ℕ → Type 0) (links heads : List ℕ) → ((b : ℕ) → Listed b i → ⊥) → Chained i Listed links heads →
    Chained (i + 1) Listed links heads
chained_skip i Listed links heads unlisted so_far =
    record {
      head_low = λ b. omega (arith, so_far.head_low b);
      head_in = so_far.head_in;
      head_last = λ b u h low l. so_far.head_last b u (below b u h l) low l;
      link_low = λ b v h l. so_far.link_low b v (below b v h l) l;
      link_in = λ b v w h l. so_far.link_in b v w (below b v h l) l;
      link_last = λ b v u h l. so_far.link_last b v u (below b v h l) l;
    }
  where
    below : (b v : ℕ) → v < i + 1 → Listed b v → v < i
    below b v h l =
        let other : v ≡ i → ⊥ = λ e. unlisted b (subst (Listed b) e l) in
        omega arith

-- state i is in list b and in no other: its link is the list's head, and it is the head
pub chained_push :
    (i : ℕ) (Listed : ℕ → ℕ → Type 0) (links heads : List ℕ) (b head : ℕ) → i < length links → b < length heads → head ≡ i + 1 →
    Listed b i → ((c : ℕ) → Listed c i → c ≡ b) → Chained i Listed links heads →
    Chained (i + 1) Listed (set links i (get_or heads b 0)) (set heads b head)
chained_push i Listed links heads b head in-links in-heads head-is listed only so_far =
    record {
      head_low = λ c. low c (eqb c b) refl;
      head_in = λ c v. inside c v (eqb c b) refl;
      head_last = λ c u. last c u (eqb c b) refl;
      link_low = λ c v h l. link_low c v h l (eqb v i) refl;
      link_in = λ c v w h l. link_in c v w h l (eqb v i) refl;
      link_last = λ c v u h l. link_last c v u h l (eqb v i) refl;
    }
  where
    head-same : (c : ℕ) → eqb c b ≡ true → get_or (set heads b head) c 0 ≡ i + 1
    head-same c e =
        ap (λ (x : ℕ). get_or (set heads b head) x 0) (eqb-true c b e) ∙ get_or-set_same heads b head 0 in-heads ∙ head-is

    head-other : (c : ℕ) → eqb c b ≡ false → get_or (set heads b head) c 0 ≡ get_or heads c 0
    head-other c e = get_or-set_other heads b c head 0 (eqb-false c b e)

    link-same : (v : ℕ) → eqb v i ≡ true → get_or (set links i (get_or heads b 0)) v 0 ≡ get_or heads b 0
    link-same v e =
        ap (λ (x : ℕ). get_or (set links i (get_or heads b 0)) x 0) (eqb-true v i e)
        ∙ get_or-set_same links i (get_or heads b 0) 0 in-links

    link-other : (v : ℕ) → eqb v i ≡ false → get_or (set links i (get_or heads b 0)) v 0 ≡ get_or links v 0
    link-other v e = get_or-set_other links i v (get_or heads b 0) 0 (eqb-false v i e)

    -- the list of state i
    list_of : (c v : ℕ) → Listed c v → eqb v i ≡ true → c ≡ b
    list_of c v l e = only c (subst (Listed c) (eqb-true v i e) l)

    earlier : (v : ℕ) → v < i + 1 → eqb v i ≡ false → v < i
    earlier v h e =
        let apart : v ≡ i → ⊥ = eqb-false v i e in
        omega arith

    low : (c : ℕ) (t : Bool) → eqb c b ≡ t → get_or (set heads b head) c 0 ≤ i + 1
    low c true e = omega (arith, head-same c e)
    low c false e = omega (arith, head-other c e, so_far.head_low c)

    inside : (c v : ℕ) (t : Bool) → eqb c b ≡ t → get_or (set heads b head) c 0 ≡ suc v → Listed c v
    inside c v true e is =
        let here : i ≡ v = omega (arith, head-same c e) in
        let its : b ≡ c = sym (eqb-true c b e) in
        subst (λ (x : ℕ). Listed x v) its (subst (Listed b) here listed)
    inside c v false e is = so_far.head_in c v (sym (head-other c e) ∙ is)

    last : (c u : ℕ) (t : Bool) → eqb c b ≡ t → u < i + 1 → get_or (set heads b head) c 0 ≤ u → Listed c u → ⊥
    last c u true e h above l = omega (arith, head-same c e)
    last c u false e h above l =
        let other : u ≡ i → ⊥ = λ q. eqb-false c b e (only c (subst (Listed c) q l)) in
        so_far.head_last c u (omega arith) (omega (arith, head-other c e)) l

    link_low :
        (c v : ℕ) → v < i + 1 → Listed c v → (t : Bool) → eqb v i ≡ t → get_or (set links i (get_or heads b 0)) v 0 ≤ v
    link_low c v h l true e = omega (arith, link-same v e, so_far.head_low b, eqb-true v i e)
    link_low c v h l false e = omega (arith, link-other v e, so_far.link_low c v (earlier v h e) l)

    link_in :
        (c v w : ℕ) → v < i + 1 → Listed c v → (t : Bool) → eqb v i ≡ t →
        get_or (set links i (get_or heads b 0)) v 0 ≡ suc w → Listed c w
    link_in c v w h l true e is =
        subst (λ (x : ℕ). Listed x w) (sym (list_of c v l e)) (so_far.head_in b w (sym (link-same v e) ∙ is))
    link_in c v w h l false e is = so_far.link_in c v w (earlier v h e) l (sym (link-other v e) ∙ is)

    link_last :
        (c v u : ℕ) → v < i + 1 → Listed c v → (t : Bool) → eqb v i ≡ t →
        get_or (set links i (get_or heads b 0)) v 0 ≤ u → u < v → Listed c u → ⊥
    link_last c v u h l true e above under k =
        so_far.head_last b u (omega arith) (omega (arith, link-same v e))
        (subst (λ (x : ℕ). Listed x u) (list_of c v l e) k)
    link_last c v u h l false e above under k =
        so_far.link_last c v u (earlier v h e) l (omega (arith, link-other v e)) under k

-- a search begins at its list's head
pub searched_start :
    (i : ℕ) (Listed : ℕ → ℕ → Type 0) (Sought : ℕ → Type 0) (links heads : List ℕ) (b at : ℕ) → at ≡ get_or heads b 0 →
    Chained i Listed links heads → Searched i Listed Sought b at
searched_start i Listed Sought links heads b at is chained =
    record {
      low = omega (arith, chained.head_low b);
      here = λ v e. chained.head_in b v (sym is ∙ e);
      past = λ u above h l s. chained.head_last b u h (omega arith) l;
    }

-- the state come to is not the one sought: the search goes on by its link, which is lower
pub searched_on :
    (i : ℕ) (Listed : ℕ → ℕ → Type 0) (Sought : ℕ → Type 0) (links heads : List ℕ) (b at v next : ℕ) → at ≡ suc v →
    next ≡ get_or links v 0 → (Sought v → ⊥) → Chained i Listed links heads → Searched i Listed Sought b at →
    (next < at) × Searched i Listed Sought b next
searched_on i Listed Sought links heads b at v next at_is next-is not-it chained so_far = (
  omega (arith, lower),
  record {
    low = omega (arith, lower, below);
    here = λ w e. chained.link_in b v w below listed (sym next-is ∙ e);
    past = past;
  },
)
  where
    listed : Listed b v
    listed = so_far.here v at_is

    below : v < i
    below = omega (arith, so_far.low)

    lower : next ≤ v
    lower = omega (arith, chained.link_low b v below listed)

    past : (u : ℕ) → next ≤ u → u < i → Listed b u → Sought u → ⊥
    past u above h l s =
        let not-above : v < u → ⊥ = λ q. so_far.past u (omega arith) h l s in
        let not_itself : u ≡ v → ⊥ = λ q. not-it (subst Sought q s) in
        let not-below : u < v → ⊥ = λ q. chained.link_last b v u below listed (omega arith) q l in
        omega arith

-- f (the seen set, the last names) of longer words, and the two relations on words that are closed whatever was joined: equal
-- f, and equal tails in a set of words of the class that holds the rows. Assumes nothing.
use mathlib.Core.Path.{◌≡◌, refl, sym, ap, ◌∙◌, subst, subst₂}
use mathlib.Core.Logic.{◌↔◌}
use mathlib.Core.Bool.{Bool, true, false, cond, true≢false}
use mathlib.Core.List.{List, [], ◌∷◌, ◌++◌, append_assoc, append-nil, Memᴰ as In}
use Prim.Native.Nat.{ℕ, ◌+◌, ◌-◌, ◌≤◌, ◌<◌}
use native.Mathlib.Omega.{arith}
use lib.Dec.{eqb, ltb}
use lib.ListN.{length, take, drop, length-append, length-drop, take-append-drop}
use lib.Seq.{take-append_seam, drop-append-add}
use borrow.Author.Tests.{ltb-true, ltb-false, eqb-true, eqb-false, eq-eqb, ne_eqb, lt-ltb, le-ltb}
use Rattle.model.specs.Fields.{Class}
use Rattle.model.specs.Classes.{Word, put_name, seen_set, last_names, f_of, TailsEqual, Contextual, Distinguishable, InClass}
use Rattle.model.proofs.Notions.{Ways, OneContext, Closed, SameF, ◌▸◌}

-- ---- f of longer words

-- where a name is put: at its place if it is there, before a higher one, after a lower one
put_nil : (x : ℕ) → put_name x [] ≡ x ∷ []
unfolding put_name
put_nil x = refl

put_same : (x y : ℕ) (ys : List ℕ) → x ≡ y → put_name x (y ∷ ys) ≡ y ∷ ys
unfolding put_name
put_same x y ys e = rw (eq-eqb x y e, put_name)

put_below : (x y : ℕ) (ys : List ℕ) → x < y → put_name x (y ∷ ys) ≡ x ∷ (y ∷ ys)
unfolding put_name
put_below x y ys h =
    let d : x ≡ y → ⊥ = λ e. omega arith in
    rw (ne_eqb x y d, put_name) (rw (lt-ltb x y h))

put_above : (x y : ℕ) (ys : List ℕ) → y < x → put_name x (y ∷ ys) ≡ y ∷ put_name x ys
unfolding put_name
put_above x y ys h =
    let d : x ≡ y → ⊥ = λ e. omega arith in
    let q : y ≤ x = omega arith in
    rw (ne_eqb x y d, put_name) (rw (le-ltb x y q))

-- how two numbers stand to each other
data Order (x y : ℕ) : Type 0 where
  below : x < y → Order x y
  equal : x ≡ y → Order x y
  above : y < x → Order x y

-- one of the three holds
order : (x y : ℕ) → Order x y
order x y = go (ltb x y) refl (eqb x y) refl
  where
    go : (b : Bool) → ltb x y ≡ b → (d : Bool) → eqb x y ≡ d → Order x y
    go true e d f = below (ltb-true x y e)
    go false e true f = equal (eqb-true x y f)
    go false e false f =
        let low : y ≤ x = ltb-false x y e in
        let no_eq : x ≡ y → ⊥ = eqb-false x y f in
        above (omega arith)

-- two names are put in either order
put_swap_lt : (a x : ℕ) (ys : List ℕ) → a < x → put_name x (put_name a ys) ≡ put_name a (put_name x ys)
put_swap_lt a x [] h = cc (put_nil a, put_nil x, put_above x a [] h, put_below a x [] h)
put_swap_lt a x (y ∷ ys) h = go (order x y) (order a y) (put_swap_lt a x ys h)
  where
    go :
        Order x y → Order a y → put_name x (put_name a ys) ≡ put_name a (put_name x ys) →
        put_name x (put_name a (y ∷ ys)) ≡ put_name a (put_name x (y ∷ ys))
    go (below p) q again =
        let r : a < y = omega arith in
        cc (put_below a y ys r, put_below x y ys p, put_above x a (y ∷ ys) h, put_below a x (y ∷ ys) h)
    go (equal p) q again =
        let r : a < y = omega arith in
        cc (put_below a y ys r, put_same x y ys p, put_above x a (y ∷ ys) h)
    go (above p) (below q) again =
        cc (put_below a y ys q, put_above x y ys p, put_above x a (y ∷ ys) h, put_below a y (put_name x ys) q)
    go (above p) (equal q) again = cc (put_same a y ys q, put_above x y ys p, put_same a y (put_name x ys) q)
    go (above p) (above q) again =
        cc (put_above a y ys q, put_above x y (put_name a ys) p, put_above x y ys p, put_above a y (put_name x ys) q)

-- in either order, whichever is higher
put_swap : (a x : ℕ) (ys : List ℕ) → put_name x (put_name a ys) ≡ put_name a (put_name x ys)
put_swap a x ys = go (order a x)
  where
    go : Order a x → put_name x (put_name a ys) ≡ put_name a (put_name x ys)
    go (below h) = put_swap_lt a x ys h
    go (equal e) = cc
    go (above h) = sym (put_swap_lt x a ys h)

-- the seen set of a word with one name more
seen_snoc : (u : Word) (a : ℕ) → seen_set (u ▸ a) ≡ put_name a (seen_set u)
unfolding seen_set
seen_snoc [] a = refl
seen_snoc (x ∷ u) a = ap (put_name x) (seen_snoc u a) ∙ put_swap a x (seen_set u)

-- what stands before the last j names does not matter
pub last_append : (j : ℕ) (xs ys : Word) → j ≤ length ys → last_names j (xs ++ ys) ≡ last_names j ys
unfolding last_names
last_append j xs ys h =
    let size : length (xs ++ ys) ≡ length xs + length ys = length-append xs ys in
    let from : length (xs ++ ys) - j ≡ length xs + (length ys - j) = omega arith in
    rw from (drop-append-add xs ys (length ys - j))

-- so the last names of a longer word are told by those of the word
last_snoc : (j : ℕ) (u : Word) (a : ℕ) → last_names j (u ▸ a) ≡ last_names j (last_names j u ▸ a)
unfolding last_names
last_snoc j u a = go (order j (length u))
  where
    long : j ≤ length u → last_names j (u ▸ a) ≡ last_names j (last_names j u ▸ a)
    long h =
        let n = length u - j in
        let size : length (drop n u ▸ a) ≡ length (drop n u) + 1 = length-append (drop n u) (a ∷ []) in
        let kept : length (drop n u) ≡ length u - n = length-drop n u in
        let fits : j ≤ length (drop n u ▸ a) = omega arith in
        let parts : u ▸ a ≡ take n u ++ (drop n u ▸ a) =
        sym (ap (λ (v : Word). v ▸ a) (take-append-drop n u)) ∙ append_assoc (take n u) (drop n u) (a ∷ []) in
        ap (last_names j) parts ∙ last_append j (take n u) (drop n u ▸ a) fits

    go : Order j (length u) → last_names j (u ▸ a) ≡ last_names j (last_names j u ▸ a)
    go (below h) = long (omega arith)
    go (equal e) = long (omega arith)
    go (above h) =
        let none : length u - j ≡ 0 = omega arith in
        ap (λ (n : ℕ). last_names j (drop n u ▸ a)) (sym none)

-- kind 1 or 2
kinds_snoc :
    (b : Bool) (j : ℕ) (u w : Word) (a : ℕ) → cond b (seen_set u) (last_names j u) ≡ cond b (seen_set w) (last_names j w) →
    cond b (seen_set (u ▸ a)) (last_names j (u ▸ a)) ≡ cond b (seen_set (w ▸ a)) (last_names j (w ▸ a))
kinds_snoc true j u w a e = seen_snoc u a ∙ ap (put_name a) e ∙ sym (seen_snoc w a)
kinds_snoc false j u w a e = last_snoc j u a ∙ ap (λ (v : Word). last_names j (v ▸ a)) e ∙ sym (last_snoc j w a)

-- f of a word with a name more is told by f of the word
pub f_snoc : (c : Class) (u w : Word) (a : ℕ) → f_of c u ≡ f_of c w → f_of c (u ▸ a) ≡ f_of c (w ▸ a)
unfolding f_of
f_snoc c u w a e = kinds_snoc (eqb c.kind 1) c.first u w a e

-- and so with any more names
pub f_append : (c : Class) (u w p : Word) → f_of c u ≡ f_of c w → f_of c (u ++ p) ≡ f_of c (w ++ p)
f_append c u w [] e =
    let nil-u : u ++ [] ≡ u = append-nil u in
    let nil-w : w ++ [] ≡ w = append-nil w in
    rw (nil-u, nil-w) e
f_append c u w (a ∷ p) e =
    let cons-u : (u ▸ a) ++ p ≡ u ++ (a ∷ p) = append_assoc u (a ∷ []) p in
    let cons-w : (w ▸ a) ++ p ≡ w ++ (a ∷ p) = append_assoc w (a ∷ []) p in
    rw (← cons-u, ← cons-w) (f_append c (u ▸ a) (w ▸ a) p (f_snoc c u w a e))

-- equal f is closed under the rules of kinds 1 and 2
pub same_f_closed : (c : Class) (rows nodes : List Word) → eqb c.kind 0 ≡ false → Closed c rows nodes (SameF c)
same_f_closed c rows nodes kind =
    record {
      reflexive = λ u m. record { same_f = refl };
      symmetric = λ u w k. record { same_f = sym k.same_f };
      transitive = λ u v w k l. record { same_f = k.same_f ∙ l.same_f };
      fork = λ u w a k m n. record { same_f = f_snoc c u w a k.same_f };
      context = λ other u w one. absurd (true≢false (sym other ∙ kind));
      ends = λ k u w r s e m n o q ur ws i j. record { same_f = e };
      back = λ k u w r s a e m n o q ur ws i j after. record { same_f = e };
    }

-- ---- equal tails

module _ (l : Word → Type 0) where
  -- equal tails are an equivalence, kept by more names
  tails_refl : (u : Word) → TailsEqual l u u
  tails_refl u = record { tails = λ v. (λ h. h, λ h. h) }

  tails_sym : (u w : Word) → TailsEqual l u w → TailsEqual l w u
  tails_sym u w t = record { tails = λ v. ((t.tails v).1, (t.tails v).0) }

  tails_trans : (u v w : Word) → TailsEqual l u v → TailsEqual l v w → TailsEqual l u w
  tails_trans u v w s t = record { tails = λ z. (λ h. (t.tails z).0 ((s.tails z).0 h), λ h. (s.tails z).1 ((t.tails z).1 h)) }

  tails_append : (u w p : Word) → TailsEqual l u w → TailsEqual l (u ++ p) (w ++ p)
  tails_append u w p t =
      record {
        tails = λ v.
            subst₂ (λ (x y : Word). l x ↔ l y) (sym (append_assoc u p v)) (sym (append_assoc w p v)) (t.tails (p ++ v));
      }

-- a way modulo equal tails leads where the word itself leads
pub ways_tails :
    (l : Word → Type 0) (nodes : List Word) (p u w : Word) → Ways nodes (TailsEqual l) u p w → TailsEqual l (u ++ p) w
ways_tails l nodes [] u w f = subst (λ (v : Word). TailsEqual l v w) (sym (append-nil u)) f
ways_tails l nodes (a ∷ p) u w f =
    let v = f.0 in
    let rest : TailsEqual l ((v ▸ a) ++ p) w = ways_tails l nodes p (v ▸ a) w f.4 in
    tails_trans l (u ++ (a ∷ p)) (v ++ (a ∷ p)) w (tails_append l u v (a ∷ p) f.2)
    (subst (λ (z : Word). TailsEqual l z w) (append_assoc v (a ∷ []) p) rest)

module _ (c : Class) (rows nodes : List Word) (l : Word → Type 0) (holds : (r : Word) → In r rows → l r)
    (begin : (w : Word) → In w nodes → (v : Word) × In (w ++ v) rows) where
  -- a way by p and then q that ends at a node lies on a word of l
  on_word :
      (p q s u t : Word) → In t nodes → Ways nodes (TailsEqual l) s p u → Ways nodes (TailsEqual l) u q t →
      (z : Word) × l (s ++ ((p ++ q) ++ z))
  on_word p q s u t m f g =
      let row = begin t m in
      let z = row.0 in
      let at-u : l ((u ++ q) ++ z) = ((ways_tails l nodes q u t g).tails z).1 (holds (t ++ z) row.1) in
      let at-s : l ((s ++ p) ++ (q ++ z)) =
      ((ways_tails l nodes p s u f).tails (q ++ z)).1 (subst l (append_assoc u q z) at-u) in
      (z, simp (append_assoc) (simp (append_assoc) at at-s))

  -- the rules one by one: contexts, and by f ends and ways back
  tails_context :
      Contextual c.first c.second l → (u w : Word) → OneContext c nodes (TailsEqual l) u w → TailsEqual l u w
  tails_context contextual u w one =
      let p = one.p in
      let q = one.q in
      let one-u = on_word p q one.from_u u one.to_u one.to_u_node one.into_u one.out_of_u in
      let one-w = on_word p q one.from_w w one.to_w one.to_w_node one.into_w one.out_of_w in
      let size : length (p ++ q) ≡ c.first = length-append p q ∙ one.size in
      let high : length p ≤ c.first = omega (arith, one.size) in
      let met : TailsEqual l (one.from_u ++ take (length p) (p ++ q)) (one.from_w ++ take (length p) (p ++ q)) =
      contextual.equal_tails one.from_u one.from_w (p ++ q) one-u.0 one-w.0 (length p) size (omega (arith, one.low)) high
      one-u.1 one-w.1 in
      let met-p : TailsEqual l (one.from_u ++ p) (one.from_w ++ p) =
      subst (λ (i : Word). TailsEqual l (one.from_u ++ i) (one.from_w ++ i)) (take-append_seam p q) met in
      tails_trans l u (one.from_u ++ p) w
      (tails_sym l (one.from_u ++ p) u (ways_tails l nodes p one.from_u u one.into_u))
      (tails_trans l (one.from_u ++ p) (one.from_w ++ p) w met-p (ways_tails l nodes p one.from_w w one.into_w))

  module _ (in_class : Distinguishable c l) (u w r s : Word) (same_f : f_of c u ≡ f_of c w) (ur : TailsEqual l u r)
      (ws : TailsEqual l w s) where
    tails-ends : In r rows → In s rows → TailsEqual l u w
    tails-ends m n =
        in_class.equal_tails u w [] same_f
        ((ur.tails []).1 (subst l (sym (append-nil r)) (holds r m)))
        ((ws.tails []).1 (subst l (sym (append-nil s)) (holds s n)))

    tails-back : (a : ℕ) → In (r ▸ a) nodes → TailsEqual l (r ▸ a) (s ▸ a) → TailsEqual l u w
    tails-back a m after =
        let row = begin (r ▸ a) m in
        let z = row.0 in
        let at-r : l ((r ▸ a) ++ z) = holds ((r ▸ a) ++ z) row.1 in
        let at-s : l ((s ▸ a) ++ z) = (after.tails z).0 at-r in
        in_class.equal_tails u w (a ∷ z) same_f
        ((ur.tails (a ∷ z)).1 (subst l (append_assoc r (a ∷ []) z) at-r))
        ((ws.tails (a ∷ z)).1 (subst l (append_assoc s (a ∷ []) z) at-s))

-- equal tails in a set of the class that holds the rows are closed under the rules
pub tails_closed :
    (c : Class) (rows nodes : List Word) (l : Word → Type 0) → InClass c l → ((r : Word) → In r rows → l r) →
    ((w : Word) → In w nodes → (v : Word) × In (w ++ v) rows) → Closed c rows nodes (TailsEqual l)
tails_closed c rows nodes l in_class holds begin =
    record {
      reflexive = λ u m. tails_refl l u;
      symmetric = tails_sym l;
      transitive = tails_trans l;
      fork = λ u w a t m n. tails_append l u w (a ∷ []) t;
      context = λ kind. tails_context c rows nodes l holds begin (of_kind true kind);
      ends = λ kind u w r s e m n o q ur ws.
          tails-ends c rows nodes l holds begin (of_kind false kind) u w r s e ur ws;
      back = λ kind u w r s a e m n o q ur ws i j after.
          tails-back c rows nodes l holds begin (of_kind false kind) u w r s e ur ws a i after;
    }
  where
    of_kind : (b : Bool) → eqb c.kind 0 ≡ b → cond b (Contextual c.first c.second l) (Distinguishable c l)
    of_kind b e = subst (λ (x : Bool). cond x (Contextual c.first c.second l) (Distinguishable c l)) e in_class

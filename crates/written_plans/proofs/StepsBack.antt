-- One step of reading, from its end to its beginning: a byte, and then what may stand from the next place on, may stand from this place
-- on. First for each place, then for all. Assumes nothing.
use mathlib.Core.Path.{◌≡◌, refl, sym, ap, subst, ◌∙◌}
use mathlib.Core.Logic.{inl, inr}
use mathlib.Core.Bool.{Bool, true, false, cond}
use mathlib.Core.List.{List, [], ◌∷◌, ◌++◌, append-nil, append_assoc}
use Prim.Native.Nat.{ℕ}
use lib.Dec.{eqb}
use borrow.Author.Tests.{eqb-true}
use Rattle.model.specs.Fields.{name_ok}
use Rattle.written_plans.specs.Written.{less, greater, slash, is_white, is_text, Name, Plan, nothing, text, written}
use Rattle.written_plans.specs.Reading.{Place, before, inside, opened, naming, named, emptied, closing, after, leave}
use Rattle.written_plans.specs.Reading.{Next, stop, go, after_name, after_end, end_begins, step, begins_name}
use Rattle.written_plans.proofs.Rests.{Inside, Left, Ending, Ends, Named, empties, fills, Naming, Rest}
use Rattle.written_plans.proofs.Elements.{none, white-more, more, outermost, inner}

-- what is so of either outcome of a test is so of the choice by it
pub by_test : (P : Next → Type 0) (b : Bool) {x y : Next} → (b ≡ true → P x) → (b ≡ false → P y) → P (cond b x y)
by_test P true f g = f refl
by_test P false f g = g refl

-- where this byte leads on: it, and then what may stand from there on, may stand from this place on
abbrev pub Back : Place → ℕ → List ℕ → Next → Type 0
Back q b s stop = Unit {0}
Back q b s (go r) = Rest r s → Rest q (b ∷ s)

-- what may stand after an element
left : (around : List (List ℕ)) (s : List ℕ) → Rest (leave around) s → Left around s
unfolding Rest Left
left [] s r = r
left (n ∷ around) s r = r

-- the name of a tag
abbrev name_of : {around : List (List ℕ)} {s : List ℕ} → Naming around [] s → Name
name_of x = record { bytes = x.more; allowed = x.allowed }

-- a whole name is one that goes on with no bytes
whole_name : (around : List (List ℕ)) (n s : List ℕ) → name_ok n ≡ true → Named around n s → Naming around n s
whole_name around n s ok r =
    let same_name = sym (append-nil n) in
    record {
      more = [];
      allowed = subst (λ z. name_ok z ≡ true) same_name ok;
      onward = s;
      alike = refl;
      rest = subst (λ z. Named around z s) same_name r;
    }

module _ (b : ℕ) (s : List ℕ) where
  -- a byte told equal to this one
  byte : (x : ℕ) → eqb b x ≡ true → b ∷ s ≡ x ∷ s
  byte x e = ap (λ (z : ℕ). z ∷ s) (eqb-true b x e)

  -- the byte before equal lists
  onto : {t : List ℕ} → s ≡ t → b ∷ s ≡ b ∷ t
  onto e = ap (λ (z : List ℕ). b ∷ z) e

  -- one more byte of white space before the element
  more-before : is_white b ≡ true → Rest before s → Rest before (b ∷ s)
  unfolding Rest
  more-before e r =
      let p = r.0 in
      let q : Plan = record { before = more b e p.before; element = p.element; single = p.single; after = p.after } in
      (q, ap (λ (z : List ℕ). b ∷ z) r.1)

  -- the `<` of the outermost element
  begin-plan : eqb b less ≡ true → Rest (opened []) s → Rest before (b ∷ s)
  unfolding Rest Ends
  begin-plan e (inl x) =
      let p = outermost (name_of x) x.onward x.rest in
      (p.0, p.1 ∙ rw (eqb-true b less e, x.alike))
  begin-plan e (inr x) = absurd x

  -- before the outermost element
  back-before : Back before b s (step before b)
  unfolding step
  back-before =
      let P = Back before b s in
      by_test P (is_white b) more-before (λ other. by_test P (eqb b less) begin-plan (λ other. tt))

  -- after it
  back-after : Back after b s (step after b)
  unfolding step Rest
  back-after = by_test (Back after b s) (is_white b) (white-more b s) (λ other. tt)

  module _ (around : List (List ℕ)) where
    -- the `<` of a tag: of an element inside this one, or of its own end tag
    begin-tag : (n : List ℕ) → eqb b less ≡ true → Rest (opened (n ∷ around)) s → Rest (inside n around) (b ∷ s)
    unfolding Rest Ends written
    begin-tag n e (inl x) =
        let same_bytes : less ∷ (x.more ++ x.onward) ≡ b ∷ s = rw (eqb-true b less e, x.alike) in
        subst (Inside n (Left around)) same_bytes (inner (name_of x) n around x.onward x.rest)
    begin-tag n e (inr x) =
        let y = x.2 in
        record {
          content = nothing;
          white = y.white;
          onward = y.onward;
          alike = rw (eqb-true b less e, x.1, y.alike);
          rest = y.rest;
        }

    -- a byte of text
    more-text : (n : List ℕ) → is_text b ≡ true → Rest (inside n around) s → Rest (inside n around) (b ∷ s)
    unfolding Rest written
    more-text n e r =
        record {
          content = text b e r.content;
          white = r.white;
          onward = r.onward;
          alike = onto r.alike;
          rest = r.rest;
        }

    -- inside an element
    back_inside : (n : List ℕ) → Back (inside n around) b s (step (inside n around) b)
    unfolding step
    back_inside n =
        let P = Back (inside n around) b s in
        by_test P (eqb b less) (begin-tag n) (λ other. by_test P (is_text b) (more-text n) (λ other. tt))

    -- one more byte of a name
    more-name : (n : List ℕ) → Naming around (n ++ (b ∷ [])) s → Naming around n (b ∷ s)
    more-name n r =
        let same_name = append_assoc n (b ∷ []) r.more in
        record {
          more = b ∷ r.more;
          allowed = subst (λ z. name_ok z ≡ true) same_name r.allowed;
          onward = r.onward;
          alike = onto r.alike;
          rest = subst (λ z. Named around z r.onward) same_name r.rest;
        }

    -- one more byte of white space after it
    more-space : (n : List ℕ) → is_white b ≡ true → Named around n s → Named around n (b ∷ s)
    more-space n w (empties g t e x) = empties (more b w g) t (onto e) x
    more-space n w (fills g t e x) = fills (more b w g) t (onto e) x

    -- in the white space after a name
    back-named : (n : List ℕ) → Back (named around n) b s (after_name around n b)
    unfolding after_name Rest
    back-named n =
        let P = Back (named around n) b s in
        by_test P (is_white b) (more-space n) (λ other.
        by_test P (eqb b slash) (λ e r. empties none s (byte slash e) r) (λ other.
        by_test P (eqb b greater) (λ e r. fills none s (byte greater e) r) (λ other. tt)))

    -- what goes on after a name goes on in the name, where it is whole
    name-ended : (n : List ℕ) → name_ok n ≡ true → (z : Next) → Back (named around n) b s z → Back (naming around n) b s z
    unfolding Rest
    name-ended n ok stop f = tt
    name-ended n ok (go r) f = λ x. whole_name around n (b ∷ s) ok (f x)

    -- in a name
    back-naming : (n : List ℕ) → Back (naming around n) b s (step (naming around n) b)
    unfolding step Rest
    back-naming n =
        let P = Back (naming around n) b s in
        by_test P (begins_name (n ++ (b ∷ []))) (λ begins. more-name n) (λ other.
        by_test P (name_ok n) (λ ok. name-ended n ok (after_name around n b) (back-named n)) (λ other. tt))

    -- after the `/` of an empty-element tag
    back-emptied : Back (emptied around) b s (step (emptied around) b)
    unfolding step Rest
    back-emptied =
        by_test (Back (emptied around) b s) (eqb b greater) (λ e r. (s, byte greater e, left around s r)) (λ other. tt)

    -- a byte of the name that is due
    more-due : (x : ℕ) (due : List ℕ) → eqb b x ≡ true → Ending due around s → Ending (x ∷ due) around (b ∷ s)
    more-due x due e r =
        record { white = r.white; onward = r.onward; alike = rw (eqb-true b x e, r.alike); rest = r.rest }

    -- one more byte of white space after it
    more-end : is_white b ≡ true → Ending [] around s → Ending [] around (b ∷ s)
    more-end e r = record { white = more b e r.white; onward = r.onward; alike = onto r.alike; rest = r.rest }

    -- the `>` of an end tag
    end-ended : eqb b greater ≡ true → Rest (leave around) s → Ending [] around (b ∷ s)
    end-ended e r = record { white = none; onward = s; alike = byte greater e; rest = left around s r }

    -- in an end tag
    back-closing : (due : List ℕ) → Back (closing due around) b s (step (closing due around) b)
    unfolding step after_end Rest
    back-closing [] =
        let P = Back (closing [] around) b s in
        by_test P (is_white b) more-end (λ other. by_test P (eqb b greater) end-ended (λ other. tt))
    back-closing (x ∷ due) = by_test (Back (closing (x ∷ due) around) b s) (eqb b x) (more-due x due) (λ other. tt)

  -- the `/` of an end tag
  begin-end : (around : List (List ℕ)) → Back (opened around) b s (end_begins around b)
  unfolding end_begins Rest Ends
  begin-end [] = tt
  begin-end (n ∷ around) =
      by_test (Back (opened (n ∷ around)) b s) (eqb b slash) (λ e r. inr (s, byte slash e, r)) (λ other. tt)

  -- after the `<` of a tag
  back-opened : (around : List (List ℕ)) → Back (opened around) b s (step (opened around) b)
  unfolding step Rest
  back-opened around =
      by_test (Back (opened around) b s) (begins_name (b ∷ [])) (λ begins r. inl (more-name around [] r)) (λ other. begin-end around)

-- from any place
pub back : (q : Place) (b : ℕ) (s : List ℕ) → Back q b s (step q b)
unfolding step
back before b s = back-before b s
back (inside n around) b s = back_inside b s around n
back (opened around) b s = back-opened b s around
back (naming around n) b s = back-naming b s around n
back (named around n) b s = back-named b s around n
back (emptied around) b s = back-emptied b s around
back (closing due around) b s = back-closing b s around due
back after b s = back-after b s

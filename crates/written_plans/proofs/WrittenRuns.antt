-- Everything that is written can be read: the places that white space, names, tags and contents lead to, with the tags that are met on the
-- way; so the tags met in a plan are its tags, and a plan leads to the place after it. Assumes nothing.
use mathlib.Core.Path.{◌≡◌, refl, sym, ap, ◌∙◌, subst}
use mathlib.Core.Bool.{true, false, ◌||◌, true≢false, false≢true, and-eq-true_iff}
use mathlib.Core.List.{List, [], ◌∷◌, ◌++◌, append_assoc, append-nil}
use Prim.Native.Nat.{ℕ}
use native.Mathlib.Omega.{arith}
use lib.Dec.{eqb}
use lib.ListN.{length-append}
use borrow.Author.Tests.{eq-eqb, not-true}
use Rattle.base.specs.Lists.{all}
use Rattle.base.proofs.Tests.{tells_itself, told-false, false_or}
use Rattle.model.specs.Fields.{name_ok}
use Rattle.written_plans.specs.Written.{less, greater, slash, ampersand, is_white, Name, Space}
use Rattle.written_plans.specs.Written.{Content, nothing, text, empty, full, empty_tag, start_tag, end_tag, written, is_element}
use Rattle.written_plans.specs.Written.{Plan, plan_bytes, plan_tags, Tag, tag, tags}
use Rattle.written_plans.specs.Reading.{begins_name, Place, before, inside, opened, naming, named, emptied, closing, after}
use Rattle.written_plans.specs.Reading.{go, leave, after_name, after_end, end_begins, step, met}
use Rattle.written_plans.proofs.Runs.{run, tags_from}
use Rattle.written_plans.proofs.Steps.{run-goes, tags-go, run-nil}
use Rattle.written_plans.proofs.NameRule.{name_not_empty, name_begins, name_rest, name_rest_lem, name_white, name_slash, name_greater}

-- reading at q with bytes s comes to r with u still to read, and meets these tags on the way
pub record Passes (q : Place) (s : List ℕ) (met_tags : List Tag) (r : Place) (u : List ℕ) : Type 0 where
  pub runs : run q s ≡ run r u
  pub tagged : tags_from q s ≡ met_tags ++ tags_from r u

-- no byte
pub stay : (q : Place) (s : List ℕ) → Passes q s [] q s
stay q s = record { runs = refl; tagged = refl }

-- one reading and then another
infixr 20 ◌then◌
pub ◌then◌ : {q r z : Place} {s u v : List ℕ} {ts us : List Tag} → Passes q s ts r u → Passes r u us z v → Passes q s (ts ++ us) z v
◌then◌ {z = z} {v = v} {ts = ts} {us = us} f g =
    record {
      runs = f.runs ∙ g.runs;
      tagged = f.tagged ∙ ap (λ (x : List Tag). ts ++ x) g.tagged ∙ sym (append_assoc ts us (tags_from z v));
    }

-- one byte, with what is met at it
pub pass : (q r : Place) (b : ℕ) (s : List ℕ) → step q b ≡ go r → Passes q (b ∷ s) (met q b s) r s
pass q r b s e = record { runs = run-goes q b s e; tagged = tags-go q b s e }

-- white space where reading stays in its place and meets nothing
pass_white : (q : Place) → ((b : ℕ) → is_white b ≡ true → step q b ≡ go q) → ((b : ℕ) (s : List ℕ) → met q b s ≡ [])
    → (g s : List ℕ) → all is_white g ≡ true → Passes q (g ++ s) [] q s
unfolding all
pass_white q stays quiet [] s white = stay q s
pass_white q stays quiet (b ∷ g) s white =
    let both = (and-eq-true_iff (is_white b) (all is_white g)).0 white in
    let first : Passes q (b ∷ (g ++ s)) [] q (g ++ s) =
    subst (λ z. Passes q (b ∷ (g ++ s)) z q (g ++ s)) (quiet b (g ++ s)) (pass q q b (g ++ s) (stays b both.0)) in
    first then pass_white q stays quiet g s both.1

-- ---- names

-- no name goes on with a byte that is in none
pub name_ends : (n : List ℕ) (b : ℕ) → ((m : List ℕ) → name_ok (n ++ (b ∷ m)) ≡ true → ⊥)
    → begins_name (n ++ (b ∷ [])) ≡ false
name_ends n b none =
    let longer = n ++ (b ∷ []) in
    told-false (tells_itself (begins_name longer))
    (λ begins. none (name_rest longer)
    (subst (λ z. name_ok z ≡ true) (append_assoc n (b ∷ []) (name_rest longer)) (name_rest_lem longer begins)))

-- white space ends a name
pub white-ends : (n : List ℕ) (b : ℕ) → is_white b ≡ true → begins_name (n ++ (b ∷ [])) ≡ false
white-ends n b white = name_ends n b (λ m ok. true≢false (sym white ∙ name_white n m b ok))

-- `/` ends a name
pub slash-ends : (n : List ℕ) → begins_name (n ++ (slash ∷ [])) ≡ false
slash-ends n = name_ends n slash (λ m ok. true≢false (name_slash n m slash ok))

-- `>` ends a name
pub greater-ends : (n : List ℕ) → begins_name (n ++ (greater ∷ [])) ≡ false
greater-ends n = name_ends n greater (λ m ok. true≢false (name_greater n m greater ok))

-- a byte that goes on with a name
pass_letter : (around : List (List ℕ)) (n : List ℕ) (b : ℕ) (s : List ℕ) → begins_name (n ++ (b ∷ [])) ≡ true
    → Passes (naming around n) (b ∷ s) [] (naming around (n ++ (b ∷ []))) s
unfolding step met
pass_letter around n b s begins =
    let longer = naming around (n ++ (b ∷ [])) in
    let goes : step (naming around n) b ≡ go longer = rw (begins) in
    let quiet : met (naming around n) b s ≡ [] = rw (begins) in
    subst (λ z. Passes (naming around n) (b ∷ s) z longer s) quiet (pass (naming around n) longer b s goes)

-- the rest of a name
pub pass_more_name : (around : List (List ℕ)) (n m s : List ℕ) → name_ok (n ++ m) ≡ true
    → Passes (naming around n) (m ++ s) [] (naming around (n ++ m)) s
pass_more_name around n [] s ok =
    subst (λ z. Passes (naming around n) s [] (naming around z) s) (sym (append-nil n)) (stay (naming around n) s)
pass_more_name around n (b ∷ m) s ok =
    let longer = n ++ (b ∷ []) in
    let grouped = append_assoc n (b ∷ []) m in
    let ok' : name_ok (longer ++ m) ≡ true = subst (λ z. name_ok z ≡ true) (sym grouped) ok in
    let begins : begins_name longer ≡ true = name_begins longer m ok' (omega (arith, length-append n (b ∷ []))) in
    subst (λ z. Passes (naming around n) (b ∷ (m ++ s)) [] (naming around z) s) grouped
    (pass_letter around n b (m ++ s) begins then pass_more_name around longer m s ok')

-- a name after `<`
pub pass_name : (around : List (List ℕ)) (n s : List ℕ) → name_ok n ≡ true → Passes (opened around) (n ++ s) [] (naming around n) s
unfolding step met
pass_name around [] s ok = absurd (false≢true (sym name_not_empty ∙ ok))
pass_name around (b ∷ m) s ok =
    let begins : begins_name (b ∷ []) ≡ true = name_begins (b ∷ []) m ok (omega arith) in
    let goes : step (opened around) b ≡ go (naming around (b ∷ [])) = rw (begins) in
    pass (opened around) (naming around (b ∷ [])) b (m ++ s) goes then pass_more_name around (b ∷ []) m s ok

-- the byte that ends a name meets its tag
pass_name_end : (around : List (List ℕ)) (n : List ℕ) (b : ℕ) (s : List ℕ) (r : Place) → name_ok n ≡ true
    → begins_name (n ++ (b ∷ [])) ≡ false → after_name around n b ≡ go r
    → Passes (naming around n) (b ∷ s) (tag around n (b ∷ s) ∷ []) r s
unfolding step met
pass_name_end around n b s r ok ends goes =
    let here : step (naming around n) b ≡ go r = rw (ends, ok, goes) in
    let meets : met (naming around n) b s ≡ tag around n (b ∷ s) ∷ [] = rw (ends) in
    subst (λ z. Passes (naming around n) (b ∷ s) z r s) meets (pass (naming around n) r b s here)

-- white space after a name
white-after_name : (around : List (List ℕ)) (n : List ℕ) (b : ℕ) → is_white b ≡ true
    → after_name around n b ≡ go (named around n)
unfolding after_name
white-after_name around n b white = rw (white)

-- white space after a name, or none, and a byte that ends the name
pass_after_name : (around : List (List ℕ)) (n g : List ℕ) (b : ℕ) (s : List ℕ) (r : Place)
    → name_ok n ≡ true → all is_white g ≡ true
    → begins_name (n ++ (b ∷ [])) ≡ false → after_name around n b ≡ go r
    → Passes (naming around n) (g ++ (b ∷ s)) (tag around n (g ++ (b ∷ s)) ∷ []) r s
unfolding step all met
pass_after_name around n [] b s r ok white ends goes = pass_name_end around n b s r ok ends goes
pass_after_name around n (a ∷ g) b s r ok white ends goes =
    let both = (and-eq-true_iff (is_white a) (all is_white g)).0 white in
    pass_name_end around n a (g ++ (b ∷ s)) (named around n) ok (white-ends n a both.0) (white-after_name around n a both.0)
    then pass_white (named around n) (white-after_name around n) (λ c u. refl) g (b ∷ s) both.1
    then pass (named around n) r b s goes

-- ---- tags

-- what stands after the name in an empty-element tag
pub pass_empty_end : (around : List (List ℕ)) (n : List ℕ) (g : Space) (s : List ℕ) → name_ok n ≡ true
    → let rest = g.bytes ++ (slash ∷ (greater ∷ s)) in Passes (naming around n) rest (tag around n rest ∷ []) (leave around) s
unfolding after_name step met
pass_empty_end around n g s ok =
    pass_after_name around n g.bytes slash (greater ∷ s) (emptied around) ok g.white (slash-ends n) refl
    then pass (emptied around) (leave around) greater s refl

-- from a place where `<` can be read and meets nothing
module _ (q : Place) (around : List (List ℕ)) (opens : (s : List ℕ) → Passes q (less ∷ s) [] (opened around) s) where
  -- a start tag leads into its element
  pub pass_start : (n : Name) (g : Space) (s : List ℕ) → Passes q (start_tag n.bytes g.bytes s)
      (tag around n.bytes (g.bytes ++ (greater ∷ s)) ∷ []) (inside n.bytes around) s
  unfolding after_name
  pass_start n g s =
      opens (n.bytes ++ (g.bytes ++ (greater ∷ s)))
      then pass_name around n.bytes (g.bytes ++ (greater ∷ s)) n.allowed
      then pass_after_name around n.bytes g.bytes greater s (inside n.bytes around) n.allowed g.white
      (greater-ends n.bytes) refl

  -- an empty-element tag leads past its element
  pub pass_empty : (n : Name) (g : Space) (s : List ℕ) → Passes q (empty_tag n.bytes g.bytes s)
      (tag around n.bytes (g.bytes ++ (slash ∷ (greater ∷ s))) ∷ []) (leave around) s
  pass_empty n g s =
      opens (n.bytes ++ (g.bytes ++ (slash ∷ (greater ∷ s))))
      then pass_name around n.bytes (g.bytes ++ (slash ∷ (greater ∷ s))) n.allowed
      then pass_empty_end around n.bytes g s n.allowed

-- what is due of an end tag's name
pub pass_due : (around : List (List ℕ)) (due s : List ℕ) → Passes (closing due around) (due ++ s) [] (closing [] around) s
unfolding step met
pass_due around [] s = stay (closing [] around) s
pass_due around (x ∷ due) s =
    let goes : step (closing (x ∷ due) around) x ≡ go (closing due around) = rw (eq-eqb x x refl) in
    pass (closing (x ∷ due) around) (closing due around) x (due ++ s) goes then pass_due around due s

-- an end tag leads out of its element
pub pass_end : (around : List (List ℕ)) (n : List ℕ) (g : Space) (s : List ℕ)
    → Passes (inside n around) (end_tag n g.bytes s) [] (leave around) s
unfolding step end_begins after_end met
pass_end around n g s =
    let ends : begins_name (slash ∷ []) ≡ false = slash-ends [] in
    let goes : step (opened (n ∷ around)) slash ≡ go (closing n around) = rw (ends) in
    let stays : (b : ℕ) → is_white b ≡ true → step (closing [] around) b ≡ go (closing [] around) = λ b white. rw (white) in
    let rest = g.bytes ++ (greater ∷ s) in
    pass (inside n around) (opened (n ∷ around)) less (slash ∷ (n ++ rest)) refl
    then pass (opened (n ∷ around)) (closing n around) slash (n ++ rest) goes
    then pass_due around n rest
    then pass_white (closing [] around) stays (λ b u. refl) g.bytes (greater ∷ s) g.white
    then pass (closing [] around) (leave around) greater s refl

-- ---- contents and plans

-- `<` inside an element
pass_less : (n : List ℕ) (around : List (List ℕ)) (s : List ℕ) → Passes (inside n around) (less ∷ s) [] (opened (n ∷ around)) s
unfolding step met
pass_less n around s = pass (inside n around) (opened (n ∷ around)) less s refl

-- what stands inside an element leads to the same place, with its tags
pub pass_written : (n : List ℕ) (around : List (List ℕ)) (c : Content) (s : List ℕ)
    → Passes (inside n around) (written c s) (tags (n ∷ around) c s) (inside n around) s
unfolding step written tags met
pass_written n around nothing s = stay (inside n around) s
pass_written n around (text b p c) s =
    let apart : eqb b less ≡ false = (false_or (eqb b less) (eqb b ampersand) (not-true (eqb b less || eqb b ampersand) p)).0 in
    let goes : step (inside n around) b ≡ go (inside n around) = rw (p, apart) in
    pass (inside n around) (inside n around) b (written c s) goes then pass_written n around c s
pass_written n around (empty m g c) s =
    pass_empty (inside n around) (n ∷ around) (pass_less n around) m g (written c s) then pass_written n around c s
pass_written n around (full m g inner e c) s =
    let rest = end_tag m.bytes e.bytes (written c s) in
    pass_start (inside n around) (n ∷ around) (pass_less n around) m g (written inner rest)
    then pass_written m.bytes (n ∷ around) inner rest
    then pass_end (n ∷ around) m.bytes e (written c s)
    then pass_written n around c s

-- one element and nothing else is an empty-element tag, or a start tag, a content and an end tag
pub by_element : (P : Content → Type 0) → ((n : Name) (g : Space) → P (empty n g nothing))
    → ((n : Name) (g : Space) (inner : Content) (e : Space) → P (full n g inner e nothing))
    → (c : Content) → is_element c ≡ true → P c
by_element P of-empty of-full nothing single = absurd (false≢true single)
by_element P of-empty of-full (text b p c) single = absurd (false≢true single)
by_element P of-empty of-full (empty n g nothing) single = of-empty n g
by_element P of-empty of-full (empty n g (text _ _ _)) single = absurd (false≢true single)
by_element P of-empty of-full (empty n g (empty _ _ _)) single = absurd (false≢true single)
by_element P of-empty of-full (empty n g (full _ _ _ _ _)) single = absurd (false≢true single)
by_element P of-empty of-full (full n g inner e nothing) single = of-full n g inner e
by_element P of-empty of-full (full n g inner e (text _ _ _)) single = absurd (false≢true single)
by_element P of-empty of-full (full n g inner e (empty _ _ _)) single = absurd (false≢true single)
by_element P of-empty of-full (full n g inner e (full _ _ _ _ _)) single = absurd (false≢true single)

-- the `<` of the outermost element
pub pass_first : (s : List ℕ) → Passes before (less ∷ s) [] (opened []) s
unfolding step met
pass_first s = pass before (opened []) less s refl

-- the outermost element leads to the place after it, with its tags
pub pass_element : (c : Content) (s : List ℕ) → is_element c ≡ true → Passes before (written c s) (tags [] c s) after s
unfolding written tags
pass_element c s single =
    by_element (λ c. Passes before (written c s) (tags [] c s) after s)
    (λ n g. pass_empty before [] pass_first n g s)
    (λ n g inner e.
    let rest = end_tag n.bytes e.bytes s in
    pass_start before [] pass_first n g (written inner rest)
    then pass_written n.bytes [] inner rest
    then pass_end [] n.bytes e s)
    c single

-- a plan leads to the place after it, with its tags
pub pass_plan : (plan : Plan) → Passes before (plan_bytes plan) (plan_tags plan ++ []) after []
unfolding step met
pass_plan plan =
    let stays : (b : ℕ) → is_white b ≡ true → step before b ≡ go before = λ b white. rw (white) in
    let stays_after : (b : ℕ) → is_white b ≡ true → step after b ≡ go after = λ b white. rw (white) in
    let end = plan.after.bytes in
    let last : Passes after end [] after [] =
    subst (λ z. Passes after z [] after []) (append-nil end) (pass_white after stays_after (λ b u. refl) end [] plan.after.white) in
    pass_white before stays (λ b u. refl) plan.before.bytes (written plan.element end) plan.before.white
    then pass_element plan.element end plan.single
    then last

-- a plan is read to its end
pub plan-runs : (plan : Plan) → run before (plan_bytes plan) ≡ go after
plan-runs plan = (pass_plan plan).runs ∙ run-nil after

-- the tags met in a plan are its tags
pub plan-tags : (plan : Plan) → tags_from before (plan_bytes plan) ≡ plan_tags plan
unfolding tags_from
plan-tags plan = (pass_plan plan).tagged ∙ append-nil (plan_tags plan ++ []) ∙ append-nil (plan_tags plan)

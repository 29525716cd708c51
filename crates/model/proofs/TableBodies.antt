-- The states of a table as read: each state's field passed the test, so the names of its arcs ascend; and in an accepted table
-- every state is reached. Assumes nothing.
use mathlib.Core.Path.{◌≡◌, refl, sym, subst}
use mathlib.Core.Logic.{⊎_elim}
use mathlib.Core.Bool.{true, not, ◌&&◌, false≢true, and-eq-true_iff}
use mathlib.Core.List.{List, [], ◌∷◌, ◌++◌, map, Memᴰ as In}
use mathlib.Core.List.Memᴰ
use Prim.Native.Nat.{ℕ, zero, suc, ◌≤◌, ◌<◌}
use native.Mathlib.Omega.{arith}
use borrow.Author.Tests.{leb-true, ltb-true, lt-ltb}
use lib.Dec.{ltb, leb}
use lib.ListN.{length, get_or, drop, length-append}
use Rattle.base.specs.Limits.{name_limit, bad_numbering, when, first_of}
use Rattle.model.specs.Fields.{File, unread, standard, table, with_field, arcs_ok, state_ok, read_table, read_with}
use Rattle.model.specs.Tables.{Arc, State, empty_state, arcs_in, state_in, states_in, is_first_met, Ascending}
use Rattle.model.specs.Calls.{sizes_fault, table_of, table_states, table_fault}
use Rattle.model.specs.Sources.{AllReached}
use Rattle.base.proofs.Lists.{map-in}
use Rattle.model.proofs.Arcs.{ascending_at}
use Rattle.model.proofs.FieldLaws.{Fitting, a_name, a_class, a_row, a_state, fitting, first_of_lem, when-not}
use Rattle.model.proofs.Turns.{read_keeps}
use Rattle.model.proofs.Reached.{all-reached}

-- ---- arcs ascend

-- all names are below n
abbrev pub NamesBelow : ℕ → List Arc → Type 0
NamesBelow n [] = Unit {0}
NamesBelow n (a ∷ arcs) = (a.name < n) × NamesBelow n arcs

-- bytes of arcs that pass the test: names ascend, and are below n
pub arcs_ascend : (f n next : ℕ) (t : List ℕ) → arcs_ok f n next t ≡ true → Ascending next (arcs_in f t) × NamesBelow n (arcs_in f t)
unfolding arcs_ok arcs_in
arcs_ascend zero n next t ok = (tt, tt)
arcs_ascend (suc f) n next [] ok = (tt, tt)
arcs_ascend (suc f) n next (a ∷ t) ok =
    let p = (and-eq-true_iff (leb 2 (length t)) ((ltb a n && leb next a) && arcs_ok f n (suc a) (drop 2 t))).0 ok in
    let q = (and-eq-true_iff (ltb a n && leb next a) (arcs_ok f n (suc a) (drop 2 t))).0 p.1 in
    let r = (and-eq-true_iff (ltb a n) (leb next a)).0 q.0 in
    let more = arcs_ascend f n (suc a) (drop 2 t) q.1 in
    ((leb-true next a r.1, more.0), (ltb-true a n r.0, more.1))

-- a field that passed the test has ascending names, all below 64
pub state-ascends :
    (s : List ℕ) → state_ok name_limit s ≡ true → Ascending 0 (state_in s).arcs × NamesBelow name_limit (state_in s).arcs
unfolding state_ok state_in
state-ascends [] ok = (tt, tt)
state-ascends (b ∷ s) ok =
    arcs_ascend (length s) name_limit 0 s ((and-eq-true_iff (leb b 1) (arcs_ok (length s) name_limit 0 s)).0 ok).1

-- ---- every state's field passed the test

arcs_more : (f n m next : ℕ) (t : List ℕ) → n ≤ m → arcs_ok f n next t ≡ true → arcs_ok f m next t ≡ true
unfolding arcs_ok
arcs_more zero n m next t h ok = refl
arcs_more (suc f) n m next [] h ok = refl
arcs_more (suc f) n m next (a ∷ t) h ok =
    let p = (and-eq-true_iff (leb 2 (length t)) ((ltb a n && leb next a) && arcs_ok f n (suc a) (drop 2 t))).0 ok in
    let q = (and-eq-true_iff (ltb a n && leb next a) (arcs_ok f n (suc a) (drop 2 t))).0 p.1 in
    let r = (and-eq-true_iff (ltb a n) (leb next a)).0 q.0 in
    let low : a < m = omega (arith, ltb-true a n r.0) in
    rw (p.0, lt-ltb a m low, r.1, arcs_more f n m (suc a) (drop 2 t) h q.1)

-- a state over n names is one over more names
state-more : (n m : ℕ) (s : List ℕ) → n ≤ m → state_ok n s ≡ true → state_ok m s ≡ true
unfolding state_ok
state-more n m [] h ok = ok
state-more n m (b ∷ s) h ok =
    let p = (and-eq-true_iff (leb b 1) (arcs_ok (length s) n 0 s)).0 ok in
    rw (p.0, arcs_more (length s) n m 0 s h p.1)

-- a table as read so far
record Good (f : File) (rest : List ℕ) : Type 0 where
  few : length f.names ≤ name_limit
  bodies : (r : List ℕ) → In r f.items → state_ok name_limit r ≡ true

-- it stays so after any field without a fault
good_grows :
    (f : File) (mark : ℕ) (body more rest : List ℕ) → Fitting table f mark body → Good f more →
    Good (with_field f mark body) rest
unfolding with_field
good_grows f mark body more rest (a_name e low fits) g =
    subst (λ (z : ℕ). Good (with_field f z body) rest) (sym e)
    (record { few = simp length-append (omega (arith, fits.few)); bodies = g.bodies })
good_grows f mark body more rest (a_class k e at fits) g =
    subst (λ (z : ℕ). Good (with_field f z body) rest) (sym e) (record { few = g.few; bodies = g.bodies })
good_grows f mark body more rest (a_row k e high fits) g = absurd (false≢true k)
good_grows f mark body more rest (a_state k e high fits) g =
    subst (λ (z : ℕ). Good (with_field f z body) rest) (sym e)
    (record {
      few = g.few;
      bodies = λ r m.
          ⊎_elim (λ n. g.bodies r n)
          (λ n. subst (λ (z : List ℕ). state_ok name_limit z ≡ true) (sym (Memᴰ.eq_of_singleton n))
          (state-more (length f.names) name_limit body g.few fits.state_ok_fact))
          (Memᴰ.append_cases f.items m);
    })

-- so every state's field of a table that is read without a fault passed the test
pub bodies_ok :
    (s : List ℕ) → (read_table s).number ≡ 0 → (r : List ℕ) → In r (table_of s).items → state_ok name_limit r ≡ true
unfolding table_of read_with
bodies_ok s ok =
    (read_keeps table Good
    (λ f mark a b body rest size fit g.
    good_grows f mark body (mark ∷ (a ∷ (b ∷ (body ++ rest)))) rest (fitting table f mark body fit) g)
    (suc (length s)) (unread standard.default_class) s
    (record { few = omega arith; bodies = λ r m. absurd (Memᴰ.not-nil m) }) ok).1.bodies

-- ---- every state is reached

-- what an accepted table has passed: its fields, and the test of first-met numbering
fields_passed :
    (s work : List ℕ) → table_fault s work ≡ 0 → ((read_table s).number ≡ 0) × (is_first_met (table_states s) ≡ true)
unfolding table_fault
fields_passed s work ok =
    let numbered = is_first_met (table_states s) in
    let fault = (read_table s).number in
    let numbering = when (not numbered) bad_numbering in
    let fields = first_of_lem fault numbering (first_of_lem (sizes_fault s work) (first_of fault numbering) ok).1 in
    (fields.0, when-not numbered bad_numbering (omega arith) fields.1)

-- so the names of arcs ascend in each state of an accepted table
pub ascends_accepted :
    (s work : List ℕ) → table_fault s work ≡ 0 → (q : ℕ) → Ascending 0 (get_or (table_states s) q empty_state).arcs
unfolding table_states states_in
ascends_accepted s work ok =
    ascending_at (map state_in (table_of s).items)
    (λ x m.
    let r = map-in state_in (table_of s).items m in
    subst (λ (y : State). Ascending 0 y.arcs) (sym r.2)
    (state-ascends r.0 (bodies_ok s (fields_passed s work ok).0 r.0 r.1)).0)

-- and each is reached, since they are numbered first-met
pub accepted_reached : (s work : List ℕ) → table_fault s work ≡ 0 → AllReached (table_states s)
accepted_reached s work ok = all-reached (table_states s) (ascends_accepted s work ok) (fields_passed s work ok).1

-- The refusals of one field as facts: what a field without a fault satisfies, and for names, classes and states the other way
-- round. Assumes nothing.
use mathlib.Core.Path.{◌≡◌, refl, ap, subst}
use mathlib.Core.Logic.{◌⊎◌, ⊎_elim}
use mathlib.Core.Bool.{Bool, true, false, not, and-eq-true_iff}
use mathlib.Core.List.{List}
use Prim.Native.Nat.{ℕ, zero, suc, ◌≤◌, ◌<◌}
use native.Mathlib.Omega.{arith}
use lib.Dec.{eqb, leb}
use lib.ListN.{length, get_or}
use borrow.Author.Tests.{leb-false, lt-leb, eqb-true}
use Rattle.base.specs.Limits.{name_limit, book_rows, state_limit, when, first_of, misplaced}
use Rattle.base.specs.Limits.{bad_name, name_order, too_many, bad_class, bad_row, bad_state}
use Rattle.model.specs.Fields.{File, FileKind, takes_class, takes_rows, takes_states, may_come, by_mark, name_ok, above, class_ok}
use Rattle.model.specs.Fields.{row_ok, state_ok, field_fault}
use Rattle.model.specs.Fields.{ClassOk, settings_ok, class_from, name_fault, class_fault, item_fault, row_fault, state_fault}
use Rattle.base.proofs.Tests.{tells_itself, tells_eqb, tells_leb, tells_and, tells_or}

-- no refusal of two
pub first_of_lem : (a b : ℕ) → first_of a b ≡ 0 → (a ≡ 0) × (b ≡ 0)
first_of_lem zero b e = (refl, e)
first_of_lem (suc a) b e = let z : ⊥ = omega arith in absurd z

-- no refusal by a number that is one: its test is false
pub when-none : (t : Bool) (n : ℕ) → 1 ≤ n → when t n ≡ 0 → t ≡ false
when-none true n some e = let z : ⊥ = omega arith in absurd z
when-none false n some e = refl

pub when-not : (t : Bool) (n : ℕ) → 1 ≤ n → when (not t) n ≡ 0 → t ≡ true
when-not true n some e = refl
when-not false n some e = let z : ⊥ = omega arith in absurd z

-- no refusal of one more item: there are fewer than the limit, and it is allowed
one_more :
    (limit : ℕ) (ok : ℕ → List ℕ → Bool) (bad : ℕ) (f : File) (body : List ℕ) → 1 ≤ bad →
    item_fault limit ok bad f body ≡ 0 → (length f.items < limit) × (ok (length f.names) body ≡ true)
one_more limit ok bad f body some e =
    let full = leb limit (length f.items) in
    let allowed = ok (length f.names) body in
    let p = first_of_lem (when full too_many) (when (not allowed) bad) e in
    (leb-false limit (length f.items) (when-none full too_many (omega arith) p.0), when-not allowed bad some p.1)

-- what it takes of one more name
pub record NameFits (names : List (List ℕ)) (body : List ℕ) : Type 0 where
  pub well_formed : name_ok body ≡ true
  pub in_order : above names body ≡ true
  pub few : length names < name_limit

-- one more row
pub record RowFits (n : ℕ) (items : List (List ℕ)) (body : List ℕ) : Type 0 where
  pub few : length items < book_rows
  pub row_ok_fact : row_ok n body ≡ true

-- one more state
pub record StateFits (n : ℕ) (items : List (List ℕ)) (body : List ℕ) : Type 0 where
  pub few : length items < state_limit
  pub state_ok_fact : state_ok n body ≡ true

-- one kind of field after another: no fault, and what it takes
pub name_fits : (names : List (List ℕ)) (body : List ℕ) → name_fault names body ≡ 0 → NameFits names body
unfolding name_fault
name_fits names body e =
    let order = when (not (above names body)) name_order in
    let count = when (leb name_limit (length names)) too_many in
    let p = first_of_lem (when (not (name_ok body)) bad_name) (first_of order count) e in
    let q = first_of_lem order count p.1 in
    let few-enough = when-none (leb name_limit (length names)) too_many (omega arith) q.1 in
    record {
      well_formed = when-not (name_ok body) bad_name (omega arith) p.0;
      in_order = when-not (above names body) name_order (omega arith) q.0;
      few = leb-false name_limit (length names) few-enough;
    }

pub fits_name : (names : List (List ℕ)) (body : List ℕ) → NameFits names body → name_fault names body ≡ 0
unfolding name_fault
fits_name names body h = rw (h.well_formed, h.in_order, lt-leb name_limit (length names) h.few)

pub class_fits : (body : List ℕ) → class_fault body ≡ 0 → class_ok body ≡ true
unfolding class_fault
class_fits body e = when-not (class_ok body) bad_class (omega arith) e

pub fits_class : (body : List ℕ) → class_ok body ≡ true → class_fault body ≡ 0
unfolding class_fault
fits_class body e = ap (λ (t : Bool). when (not t) bad_class) e

-- a class field has three bytes, its settings
pub class_parts : (body : List ℕ) → class_ok body ≡ true → (length body ≡ 3) × ClassOk (class_from body)
class_parts body ok =
    let p = (and-eq-true_iff (eqb (length body) 3) (settings_ok (get_or body 0 0) (get_or body 1 0) (get_or body 2 0))).0 ok in
    (eqb-true (length body) 3 p.0, p.1)

pub row_fits : (f : File) (body : List ℕ) → row_fault f body ≡ 0 → RowFits (length f.names) f.items body
unfolding row_fault
row_fits f body e =
    let r = one_more book_rows row_ok bad_row f body (omega arith) e in
    record { few = r.0; row_ok_fact = r.1 }

pub state-fits : (f : File) (body : List ℕ) → state_fault f body ≡ 0 → StateFits (length f.names) f.items body
unfolding state_fault
state-fits f body e =
    let r = one_more state_limit state_ok bad_state f body (omega arith) e in
    record { few = r.0; state_ok_fact = r.1 }

pub fits_row : (f : File) (body : List ℕ) → RowFits (length f.names) f.items body → row_fault f body ≡ 0
unfolding row_fault
fits_row f body h = rw (h.row_ok_fact, lt-leb book_rows (length f.items) h.few)

pub fits_state : (f : File) (body : List ℕ) → StateFits (length f.names) f.items body → state_fault f body ≡ 0
unfolding state_fault
fits_state f body h = rw (h.state_ok_fact, lt-leb state_limit (length f.items) h.few)

-- a field without a fault is one of four
pub data Fitting (kind : FileKind) (f : File) (mark : ℕ) (body : List ℕ) : Type 0 where
  a_name : mark ≡ 1 → f.stage ≤ 1 → NameFits f.names body → Fitting kind f mark body
  a_class : takes_class kind ≡ true → mark ≡ 2 → f.stage ≡ 1 → class_ok body ≡ true → Fitting kind f mark body
  a_row :
      takes_rows kind ≡ true → mark ≡ 3 → 1 ≤ f.stage → RowFits (length f.names) f.items body → Fitting kind f mark body
  a_state :
      takes_states kind ≡ true → mark ≡ 4 → 2 ≤ f.stage → StateFits (length f.names) f.items body →
      Fitting kind f mark body

-- the marks that may come next, with the places where they may
may_come_lem :
    (kind : FileKind) (stage mark : ℕ) → may_come kind stage mark ≡ true →
    ((mark ≡ 1) × (stage ≤ 1)) ⊎ (((mark ≡ 2) × ((takes_class kind ≡ true) × (stage ≡ 1)))
    ⊎ (((mark ≡ 3) × ((takes_rows kind ≡ true) × (1 ≤ stage))) ⊎ ((mark ≡ 4) × ((takes_states kind ≡ true) × (2 ≤ stage)))))
may_come_lem kind stage mark e =
    let class = tells_and (tells_eqb mark 2) (tells_and (tells_itself (takes_class kind)) (tells_eqb stage 1)) in
    let row = tells_and (tells_eqb mark 3) (tells_and (tells_itself (takes_rows kind)) (tells_leb 1 stage)) in
    let state = tells_and (tells_eqb mark 4) (tells_and (tells_itself (takes_states kind)) (tells_leb 2 stage)) in
    (tells_or (tells_and (tells_eqb mark 1) (tells_leb stage 1)) (tells_or class (tells_or row state))).fact e

-- which of the four it is
pub fitting : (kind : FileKind) (f : File) (mark : ℕ) (body : List ℕ) → field_fault kind f mark body ≡ 0 → Fitting kind f mark body
unfolding field_fault
fitting kind f mark body e =
    let rest : ℕ → ℕ = λ m. by_mark m (name_fault f.names body) (class_fault body) (row_fault f body) (state_fault f body) in
    let p = first_of_lem (when (not (may_come kind f.stage mark)) misplaced) (rest mark) e in
    let at : (m : ℕ) → mark ≡ m → rest m ≡ 0 = λ m q. subst (λ z. rest z ≡ 0) q p.1 in
    ⊎_elim (λ q. a_name q.0 q.1 (name_fits f.names body (at 1 q.0)))
    (λ r. ⊎_elim (λ q. a_class q.1.0 q.0 q.1.1 (class_fits body (at 2 q.0)))
    (λ item. ⊎_elim (λ q. a_row q.1.0 q.0 q.1.1 (row_fits f body (at 3 q.0)))
    (λ q. a_state q.1.0 q.0 q.1.1 (state-fits f body (at 4 q.0))) item) r)
    (may_come_lem kind f.stage mark (when-not (may_come kind f.stage mark) misplaced (omega arith) p.0))

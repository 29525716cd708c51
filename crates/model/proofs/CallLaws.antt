-- Which refusal comes first; what every call gives back, from its refusal: refused, refused for an output that is too short, or
-- answered; the same with the answer seen as another; what follows for callers; the sizes of what is lent; when a table is accepted, and
-- by what a walk over it is judged. Assumes nothing.
use mathlib.Core.Path.{◌≡◌, refl, sym, ap, ◌∙◌, subst}
use mathlib.Core.Bool.{Bool, true, false, cond, ◌||◌, not, or-false}
use mathlib.Core.List.{List, [], ◌∷◌}
use Prim.Native.Nat.{ℕ, zero, suc, ◌≤◌, ◌<◌}
use native.Mathlib.Omega.{arith}
use borrow.Author.Tests.{eq-eqb, ne_eqb, eqb-true, ltb-false, lt-ltb, le-ltb}
use lib.Dec.{eqb, ltb, eqb-suc-zero}
use lib.ListN.{length, get_or, take, drop, length-append}
use lib.Seq.{take-append_seam}
use Rattle.base.specs.Limits.{when, first_of, input_limit, work_bytes, bad_sizes, bad_row, output_too_short}
use Rattle.model.specs.Fields.{read_table, row_ok}
use Rattle.model.specs.Tables.{is_first_met}
use Rattle.model.specs.Calls.{Call, too_short, over, fronts, fault_with, unless, seen_as, Gives, Refuses, sizes_fault, table_of}
use Rattle.model.specs.Calls.{table_states, table_fault, walk_fault}
use Rattle.base.proofs.Tests.{false_or, or_false as neither}
use Rattle.model.proofs.FieldLaws.{first_of_lem, when-none}

-- ---- refusals

-- the first of two refuses
pub refuses_first : {a k : ℕ} (b : ℕ) → Refuses a k → Refuses (first_of a b) k
refuses_first {a = zero} b r = let z : ⊥ = omega (arith, r.is, r.some) in absurd z
refuses_first {a = suc a} b r = r

-- the first does not, and the second does
pub refuses_then : {a b k : ℕ} → a ≡ 0 → Refuses b k → Refuses (first_of a b) k
refuses_then {a = a} {b = b} e r = record { is = ap (λ (n : ℕ). first_of n b) e ∙ r.is; some = r.some }

-- neither does
pub refuses_none : {a b : ℕ} → a ≡ 0 → b ≡ 0 → first_of a b ≡ 0
refuses_none {a = a} {b = b} e f = ap (λ (n : ℕ). first_of n b) e ∙ f

-- a test that finds a fault
pub refuses_when : {t : Bool} {k : ℕ} → t ≡ true → 0 < k → Refuses (when t k) k
refuses_when {t = t} {k = k} e some = record { is = ap (λ (b : Bool). when b k) e; some = some }

-- ---- a value unless a refusal

unless-refused : {A : Type 0} {fault k : ℕ} (none value : A) → Refuses fault k → unless fault none value ≡ none
unless-refused {fault = fault} none value r =
    rw (ne_eqb fault 0 (λ (e : fault ≡ 0). omega (arith, r.is, r.some)))

pub unless-accepted : {A : Type 0} {fault : ℕ} (none value : A) → fault ≡ 0 → unless fault none value ≡ value
unless-accepted {fault = fault} none value e = rw (eq-eqb fault 0 e)

-- ---- what a call gives

module _ {A : Type 0} (c : Call A) (outs : List (List ℕ)) where
  refused_with : {k : ℕ} → Refuses (fault_with c outs) k → Gives c outs outs (c.none k)
  refused_with {k = k} r =
      record {
        answer_is = ap c.none (sym r.is) ∙ sym (unless-refused (c.none (fault_with c outs)) c.answer r);
        outputs_are = sym (unless-refused outs (fronts c.writes outs) r);
      }

  -- refused: no output is touched
  pub call-refused : {k : ℕ} → Refuses c.refusal k → Gives c outs outs (c.none k)
  call-refused r = refused_with (refuses_first (when (too_short c.writes outs) output_too_short) r)

  -- refused for an output that is too short
  pub call-short : c.refusal ≡ 0 → too_short c.writes outs ≡ true → Gives c outs outs (c.none output_too_short)
  call-short e short = refused_with (refuses_then e (refuses_when short (omega arith)))

  -- answered
  pub call-accepted : c.refusal ≡ 0 → too_short c.writes outs ≡ false → Gives c outs (fronts c.writes outs) c.answer
  call-accepted e room =
      let none : fault_with c outs ≡ 0 = refuses_none e (ap (λ (b : Bool). when b output_too_short) room) in
      record {
        answer_is = sym (unless-accepted (c.none (fault_with c outs)) c.answer none);
        outputs_are = sym (unless-accepted outs (fronts c.writes outs) none);
      }

  -- an answer that is said by an equation
  pub gives_as : {outs' : List (List ℕ)} {r r' : A} → r' ≡ r → Gives c outs outs' r → Gives c outs outs' r'
  gives_as {outs' = outs'} e gives = subst (λ (a : A). Gives c outs outs' a) (sym e) gives

-- ---- the answer seen as another

seen_either : {A B : Type 0} (f : A → B) (x y : A) (b : Bool) → f (cond b x y) ≡ cond b (f x) (f y)
seen_either f x y true = refl
seen_either f x y false = refl

pub seen_as_lem :
    {A B : Type 0} (f : A → B) (c : Call A) (outs outs' : List (List ℕ)) (r : A) → Gives c outs outs' r →
    Gives (seen_as f c) outs outs' (f r)
seen_as_lem f c outs outs' r gives =
    record {
      answer_is = ap f gives.answer_is ∙ seen_either f c.answer (c.none (fault_with c outs)) (eqb (fault_with c outs) 0);
      outputs_are = gives.outputs_are;
    }

-- ---- what callers see

module _ {A : Type 0} {c : Call A} {outs outs' : List (List ℕ)} {r : A} (gives : Gives c outs outs' r) where
  -- the answer tells the refusal where that of a refused call does, and that of an accepted one tells none
  pub refusal_is :
      (tells : A → ℕ) → ((k : ℕ) → tells (c.none k) ≡ k) → tells c.answer ≡ 0 → tells r ≡ fault_with c outs
  refusal_is tells none accepted = ap tells gives.answer_is ∙ go (fault_with c outs)
    where
      go : (k : ℕ) → tells (unless k (c.none k) c.answer) ≡ k
      go zero = accepted
      go (suc k) = ap (λ (b : Bool). tells (cond b c.answer (c.none (suc k)))) (eqb-suc-zero k) ∙ none (suc k)

  -- what holds of every refused answer and of the accepted one holds of the answer
  pub answer_by : (P : A → Type 0) → ((k : ℕ) → P (c.none k)) → (fault_with c outs ≡ 0 → P c.answer) → P r
  answer_by P none accepted = subst P (sym gives.answer_is) (go (eqb (fault_with c outs) 0) refl)
    where
      go : (b : Bool) → eqb (fault_with c outs) 0 ≡ b → P (cond b c.answer (c.none (fault_with c outs)))
      go true e = accepted (eqb-true (fault_with c outs) 0 e)
      go false e = none (fault_with c outs)

  pub answered : fault_with c outs ≡ 0 → r ≡ c.answer
  answered e = gives.answer_is ∙ unless-accepted (c.none (fault_with c outs)) c.answer e

  pub untouched : {k : ℕ} → Refuses (fault_with c outs) k → outs' ≡ outs
  untouched r = gives.outputs_are ∙ unless-refused outs (fronts c.writes outs) r

  pub wrote : fault_with c outs ≡ 0 → outs' ≡ fronts c.writes outs
  wrote e = gives.outputs_are ∙ unless-accepted outs (fronts c.writes outs) e

-- outputs that are long enough where nothing else refuses: 13 never comes
pub fault_roomy :
    {A : Type 0} (c : Call A) (outs : List (List ℕ)) → (c.refusal ≡ 0 → too_short c.writes outs ≡ false) →
    fault_with c outs ≡ c.refusal
fault_roomy c outs room = go c.refusal room
  where
    go :
        (k : ℕ) → (k ≡ 0 → too_short c.writes outs ≡ false) →
        first_of k (when (too_short c.writes outs) output_too_short) ≡ k
    go zero room = ap (λ (b : Bool). when b output_too_short) (room refl)
    go (suc k) room = refl

-- ---- sizes

-- the lent slices are of sizes that are refused
abbrev pub sizes_bad : List ℕ → List ℕ → Bool
sizes_bad input work = ltb input_limit (length input) || ltb (length work) work_bytes

pub record SizesFit (input work : List ℕ) : Type 0 where
  pub input_fits : length input ≤ input_limit
  pub work_fits : work_bytes ≤ length work

module _ (input work : List ℕ) where
  pub sizes_refuse : sizes_bad input work ≡ true → Refuses (sizes_fault input work) bad_sizes
  unfolding sizes_fault
  sizes_refuse bad = refuses_when bad (omega arith)

  pub sizes_pass : sizes_bad input work ≡ false → sizes_fault input work ≡ 0
  unfolding sizes_fault
  sizes_pass fit = ap (λ (b : Bool). when b bad_sizes) fit

  pub sizes_none : SizesFit input work → sizes_fault input work ≡ 0
  sizes_none fit =
      sizes_pass
      (neither (le-ltb input_limit (length input) fit.input_fits) (le-ltb (length work) work_bytes fit.work_fits))

  pub sizes_fit : sizes_fault input work ≡ 0 → SizesFit input work
  unfolding sizes_fault
  sizes_fit e =
      let both = false_or (ltb input_limit (length input)) (ltb (length work) work_bytes)
      (when-none (sizes_bad input work) bad_sizes (omega arith) e) in
      record {
        input_fits = ltb-false input_limit (length input) both.0;
        work_fits = ltb-false (length work) work_bytes both.1;
      }

-- ---- tables and walks

-- a table of sizes that fit is accepted where it is read without a fault and numbered first-met
pub table_accepted :
    (s work : List ℕ) → SizesFit s work → (read_table s).number ≡ 0 → is_first_met (table_states s) ≡ true →
    table_fault s work ≡ 0
unfolding table_fault
table_accepted s work fit read met = rw (sizes_none s work fit, read, met)

-- an accepted table has sizes that fit
pub table_sizes : (s work : List ℕ) → table_fault s work ≡ 0 → SizesFit s work
unfolding table_fault
table_sizes s work none = sizes_fit s work (first_of_lem (sizes_fault s work) _ none).0

-- over an accepted table only the row is judged
pub walk-judged :
    (s row work : List ℕ) → table_fault s work ≡ 0 →
    walk_fault s row work ≡ when (not (row_ok (length (table_of s).names) row)) bad_row
unfolding walk_fault
walk-judged s row work ok = ap (λ (n : ℕ). first_of n (when (not (row_ok (length (table_of s).names) row)) bad_row)) ok

-- ---- a call without outputs

pub call_answered : {A : Type 0} (c : Call A) {r : A} → c.writes ≡ [] → c.refusal ≡ 0 → r ≡ c.answer → Gives c [] [] r
unfolding too_short fronts
call_answered c no_output none answer =
    let accepted = call-accepted c [] none (ap (λ (ws : List (List ℕ)). too_short ws []) no_output) in
    record {
      answer_is = answer ∙ accepted.answer_is;
      outputs_are = sym (ap (λ (ws : List (List ℕ)). fronts ws []) no_output) ∙ accepted.outputs_are;
    }

-- ---- a call with one output

module _ {A : Type 0} (c : Call A) (bytes out : List ℕ) (one : c.writes ≡ bytes ∷ []) where
  -- whether the output is too short
  pub short_is : too_short c.writes (out ∷ []) ≡ ltb (length out) (length bytes)
  unfolding too_short
  short_is = ap (λ (ws : List (List ℕ)). too_short ws (out ∷ [])) one ∙ or-false (ltb (length out) (length bytes))

  pub call-one_short :
      c.refusal ≡ 0 → length out < length bytes → Gives c (out ∷ []) (out ∷ []) (c.none output_too_short)
  call-one_short none short = call-short c (out ∷ []) none (short_is ∙ lt-ltb (length out) (length bytes) short)

  pub call-one_wrote :
      (out' : List ℕ) (r : A) → c.refusal ≡ 0 → length bytes ≤ length out → out' ≡ over bytes out → r ≡ c.answer →
      Gives c (out ∷ []) (out' ∷ []) r
  unfolding fronts
  call-one_wrote out' r none room written answer =
      let accepted = call-accepted c (out ∷ []) none (short_is ∙ le-ltb (length out) (length bytes) room) in
      let front : fronts c.writes (out ∷ []) ≡ over bytes out ∷ [] =
      ap (λ (ws : List (List ℕ)). fronts ws (out ∷ [])) one in
      record {
        answer_is = answer ∙ accepted.answer_is;
        outputs_are = ap (λ (l : List ℕ). l ∷ []) written ∙ sym front ∙ accepted.outputs_are;
      }

  -- what a call that is not refused left in its output
  pub one_wrote :
      (out' : List ℕ) (r : A) → Gives c (out ∷ []) (out' ∷ []) r → fault_with c (out ∷ []) ≡ 0 →
      out' ≡ over bytes out
  unfolding fronts
  one_wrote out' r gives accepted =
      ap (λ (l : List (List ℕ)). get_or l 0 []) (wrote gives accepted ∙ ap (λ (ws : List (List ℕ)). fronts ws (out ∷ [])) one)

-- ---- a call with two outputs

module _ {A : Type 0} (c : Call A) (first second out other : List ℕ) (two : c.writes ≡ first ∷ (second ∷ [])) where
  -- the call by its first output alone, its answer seen as another
  abbrev pub by_first : {B : Type 0} → (A → B) → Call B
  by_first see = record { refusal = c.refusal; none = λ k. see (c.none k); answer = see c.answer; writes = first ∷ [] }

  -- an output that is long enough does not make the call refused
  short_by_first : length second ≤ length other → too_short c.writes (out ∷ (other ∷ [])) ≡ too_short (first ∷ []) (out ∷ [])
  unfolding too_short
  short_by_first room =
      ap (λ (ws : List (List ℕ)). too_short ws (out ∷ (other ∷ []))) two
      ∙ ap (λ (b : Bool). ltb (length out) (length first) || (b || false)) (le-ltb (length other) (length second) room)

  fault-by_first :
      {B : Type 0} (see : A → B) → (c.refusal ≡ 0 → length second ≤ length other) →
      fault_with c (out ∷ (other ∷ [])) ≡ fault_with (by_first see) (out ∷ [])
  fault-by_first see room = go c.refusal (λ e. short_by_first (room e))
    where
      go :
          (k : ℕ) → (k ≡ 0 → too_short c.writes (out ∷ (other ∷ [])) ≡ too_short (first ∷ []) (out ∷ [])) →
          first_of k (when (too_short c.writes (out ∷ (other ∷ []))) output_too_short)
          ≡ first_of k (when (too_short (first ∷ []) (out ∷ [])) output_too_short)
      go zero same = ap (λ (b : Bool). when b output_too_short) (same refl)
      go (suc k) same = refl

  -- where the second output is long enough, the call is what it is without it
  pub first_alone :
      {B : Type 0} (see : A → B) (out' other' : List ℕ) (r : A) → (c.refusal ≡ 0 → length second ≤ length other) →
      Gives c (out ∷ (other ∷ [])) (out' ∷ (other' ∷ [])) r → Gives (by_first see) (out ∷ []) (out' ∷ []) (see r)
  unfolding fronts
  first_alone see out' other' r room gives =
      record {
        answer_is =
            ap see gives.answer_is
            ∙ seen_either see c.answer (c.none fault) (eqb fault 0)
            ∙ ap (λ (k : ℕ). unless k (see (c.none k)) (see c.answer)) same;
        outputs_are =
            ap alone (gives.outputs_are ∙ ap (λ (ws : List (List ℕ)). unless fault outs (fronts ws outs)) two)
            ∙ seen_either alone (over first out ∷ (over second other ∷ [])) outs (eqb fault 0)
            ∙ ap (λ (k : ℕ). unless k (out ∷ []) (over first out ∷ [])) same;
      }
    where
      outs : List (List ℕ)
      outs = out ∷ (other ∷ [])

      fault : ℕ
      fault = fault_with c outs

      same : fault ≡ fault_with (by_first see) (out ∷ [])
      same = fault-by_first see room

      alone : List (List ℕ) → List (List ℕ)
      alone l = get_or l 0 [] ∷ []

-- bytes that stand at the front of an output
pub record FrontOf (bytes out' : List ℕ) (n : ℕ) : Type 0 where
  pub within : n ≤ length out'
  pub bytes_are : take n out' ≡ bytes

pub front_of_lem : (bytes out out' : List ℕ) (n : ℕ) → out' ≡ over bytes out → n ≡ length bytes → FrontOf bytes out' n
front_of_lem bytes out out' n wrote size =
    record {
      within = omega (arith, size, ap length wrote, length-append bytes (drop (length bytes) out));
      bytes_are =
          ap (λ (k : ℕ). take k out') size
          ∙ ap (λ (l : List ℕ). take (length bytes) l) wrote
          ∙ take-append_seam bytes (drop (length bytes) out);
    }

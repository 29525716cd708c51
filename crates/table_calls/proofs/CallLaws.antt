-- What a table rewritten and a row walked give back, from what opening the table says. Assumes nothing.
use mathlib.Core.Path.{◌≡◌, refl, sym, ap, ◌∙◌, subst}
use mathlib.Core.Bool.{Bool, true, false, not, cond}
use mathlib.Core.List.{List, [], ◌∷◌}
use Prim.Native.Nat.{ℕ, ◌≤◌, ◌<◌}
use native.Mathlib.Omega.{arith}
use lib.Dec.{eqb}
use lib.ListN.{length, take, drop, length-take, take-append-drop}
use lib.Seq.{take-append_seam}
use Rattle.base.specs.Limits.{when, bad_row, output_too_short}
use Rattle.base.specs.Refusals.{number_of}
use Rattle.base.specs.declared.refusals.Refusal.{Refusal}
use Rattle.std.specs.Prelude.{Err}
use Rattle.model.specs.Fields.{File, row_ok}
use Rattle.model.specs.Tables.{State, plain_walk, walk}
use Rattle.model.specs.Claims.{AllBytes}
use Rattle.model.specs.Calls.{Gives, too_short, unless, table_of, table_states, table_fault, walk_fault}
use Rattle.model.proofs.CallLaws.{refuses_first, refuses_then, refuses_none, refuses_when}
use Rattle.model.proofs.CallLaws.{call-refused, call_answered, answer_by, fault_roomy, call-one_short, call-one_wrote}
use Rattle.model.proofs.Reading.{rewrites_same}
use Rattle.endings.specs.Live.{is_live, trimmed, nowhere, live_walk}
use Rattle.fields.specs.declared.Place.{Place}
use Rattle.fields.proofs.Parts.{length-names}
use Rattle.writing.specs.Writing.{Written}
use Rattle.writing.proofs.WritingLaws.{written-from_zero}
use Rattle.tables.specs.Accepting.{TableRead, OpenedAs}
use Rattle.tables.proofs.TableLaws.{opened_refused}
use Rattle.results.specs.declared.Walked.{Walked}
use Rattle.results.specs.Says.{rewritten_as, not_rewritten, rewriting, not_walked, walked_over, walking}

-- ---- a table rewritten

pub rewrite_refused :
    {after : List ℕ} (table work out : List ℕ) (k : Refusal) → OpenedAs table work after (Err k) →
    Gives (rewriting table work) (out ∷ []) (out ∷ []) (not_rewritten (number_of k))
unfolding rewriting
rewrite_refused table work out k r = call-refused (rewriting table work) (out ∷ []) (opened_refused r)

module _ (table work out : List ℕ) (bytes : AllBytes table) (none : table_fault table work ≡ 0) where
  pub rewrite_short :
      length out < length table → Gives (rewriting table work) (out ∷ []) (out ∷ []) (not_rewritten output_too_short)
  unfolding rewriting
  rewrite_short short =
      call-one_short (rewriting table work) table out (ap (λ (l : List ℕ). l ∷ []) (rewrites_same table work bytes none)) none short

  -- an accepted table copied
  pub rewrite_copied :
      (out' : List ℕ) (states : ℕ) → length table ≤ length out → Written out out' 0 table →
      states ≡ length (table_states table) →
      Gives (rewriting table work) (out ∷ []) (out' ∷ []) (rewritten_as 0 (length table) states)
  unfolding rewriting
  rewrite_copied out' states room written counted =
      let same = rewrites_same table work bytes none in
      call-one_wrote (rewriting table work) table out (ap (λ (l : List ℕ). l ∷ []) same) out' _ none room
      (written-from_zero written)
      (λ i. rewritten_as 0 (length (sym same i)) (counted i))

-- ---- a row walked

-- how many names an accepted table has
pub names_count : (s : List ℕ) (p : Place) → TableRead s p → length (table_of s).names ≡ p.names
names_count s p read = ap (λ (f : File). length f.names) (sym read.file_is) ∙ length-names s p read.sound

-- the beginning that is told is one of the row
beginning_of : (states : List State) (row : List ℕ) → (n : ℕ) × ((live_walk states row).beginning ≡ take n row)
unfolding live_walk plain_walk
beginning_of states row = go (is_live states 0)
  where
    go : (b : Bool) → (n : ℕ) × ((cond b (plain_walk (trimmed states) row) nowhere).beginning ≡ take n row)
    go true = ((walk (trimmed states) row).taken, refl)
    go false = (0, refl)

-- taken again by its length
take_again : (n : ℕ) (l : List ℕ) → take (length (take n l)) l ≡ take n l
take_again n l =
    ap (λ (m : List ℕ). take (length (take n l)) m) (sym (take-append-drop n l)) ∙ take-append_seam (take n l) (drop n l)

beginning_again : (states : List State) (row : List ℕ)
    → take (length (live_walk states row).beginning) row ≡ (live_walk states row).beginning
beginning_again states row =
    let some = beginning_of states row in
    subst (λ (l : List ℕ). take (length l) row ≡ l) (sym some.1) (take_again some.0 row)

-- so it is no longer than the row
beginning_short : (states : List State) (row : List ℕ) → length (live_walk states row).beginning ≤ length row
beginning_short states row =
    let some = beginning_of states row in
    subst (λ (l : List ℕ). length l ≤ length row) (sym some.1) (simp length-take (omega arith))

module _ (table row work : List ℕ) where
  pub walk_refused :
      {after : List ℕ} (k : Refusal) → OpenedAs table work after (Err k) →
      Gives (walking table row work) [] [] (not_walked (number_of k))
  unfolding walking walk_fault
  walk_refused k r = call-refused (walking table row work) [] (refuses_first _ (opened_refused r))

  module _ (names : ℕ) (none : table_fault table work ≡ 0) (count : length (table_of table).names ≡ names) where
    pub walk-row-refused : row_ok names row ≡ false → Gives (walking table row work) [] [] (not_walked bad_row)
    unfolding walking walk_fault
    walk-row-refused bad =
        call-refused (walking table row work) []
        (refuses_then none
        (refuses_when (ap (λ (n : ℕ). not (row_ok n row)) count ∙ ap not bad) (omega arith)))

    pub walk-ended :
        {r : Walked} → row_ok names row ≡ true → r ≡ walked_over (table_states table) row → Gives (walking table row work) [] [] r
    unfolding walking walk_fault
    walk-ended good =
        call_answered (walking table row work) refl
        (refuses_none none
        (ap (λ (b : Bool). when (not b) bad_row) (ap (λ (n : ℕ). row_ok n row) count ∙ good)))

  -- the answer tells how much of the row was walked
  pub walked-within : (r : Walked) → Gives (walking table row work) [] [] r → r.walked ≤ length row
  unfolding walking
  walked-within r gives =
      answer_by gives (λ (w : Walked). w.walked ≤ length row) (λ k. omega arith) (λ none. beginning_short (table_states table) row)

  pub beginning_told :
      (r : Walked) → Gives (walking table row work) [] [] r →
      take r.walked row ≡ unless (walk_fault table row work) [] (live_walk (table_states table) row).beginning
  unfolding walking too_short
  beginning_told r gives =
      ap (λ (w : Walked). take w.walked row) gives.answer_is
      ∙ ap (λ (k : ℕ). take (unless k (not_walked k) (walked_over (table_states table) row)).walked row)
      (fault_roomy (walking table row work) [] (λ none. refl))
      ∙ go (eqb (walk_fault table row work) 0)
    where
      go :
          (b : Bool) →
          take (cond b (walked_over (table_states table) row) (not_walked (walk_fault table row work))).walked row
          ≡ cond b (live_walk (table_states table) row).beginning []
      go true = beginning_again (table_states table) row
      go false = refl

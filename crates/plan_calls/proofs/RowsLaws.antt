-- What the calls that read a plan's rows come to, one law for each answer: rows written, a plan read and its rows written, and all that is
-- refused before the plan is read. Assumes nothing.
use mathlib.Core.Path.{◌≡◌, refl, sym, ap, ◌∙◌, subst}
use mathlib.Core.Bool.{Bool, ◌||◌}
use mathlib.Core.List.{List, [], ◌∷◌, map}
use Prim.Native.Nat.{ℕ, ◌≤◌, ◌<◌}
use native.Mathlib.Omega.{arith}
use borrow.Author.Tests.{le-leb, lt-leb}
use lib.Dec.{ltb}
use lib.ListN.{length, get_or}
use Rattle.base.specs.Limits.{when, first_of, book_rows, rows_bytes, bad_sizes, bad_row, bad_plan, output_too_short}
use Rattle.base.specs.Limits.{input_limit, work_bytes}
use Rattle.model.specs.Fields.{standard, name_list, read_names, Ascends}
use Rattle.model.specs.Tables.{row_fields}
use Rattle.model.specs.Calls.{Call, Gives, Refuses, too_short, unless, fault_with, names_of, sizes_fault}
use Rattle.model.proofs.CallLaws.{refuses_first, refuses_then, refuses_none, refuses_when, call-refused, gives_as}
use Rattle.model.proofs.CallLaws.{call-one_short, call-one_wrote, sizes_fit}
use Rattle.model.proofs.LowNumbers.{when-low, first_low, fields_low}
use Rattle.model.proofs.NameLists.{names_ascend}
use Rattle.judging.specs.Offsets.{fields_at}
use Rattle.judging.proofs.OffsetLaws.{length_fields}
use Rattle.fields.proofs.Parts.{ListAt}
use Rattle.fields.specs.declared.Place as reader
use Rattle.writing.specs.Writing.{Put}
use Rattle.writing.proofs.WritingLaws.{written-from_zero}
use Rattle.written_plans.specs.Reading.{Reading, read_plan, entry_of, rows_in, rows_fault}
use Rattle.written_plans.specs.Calls.{plan_reading, plan_rows, asked_fault, plan_fault}
use Rattle.written_plans.proofs.Numbers.{plan-refusal}
use Rattle.plan_reading.specs.Turns.{Room, Logged, RefusedAs}
use Rattle.plan_rows.specs.LoggedRows.{log_rows, MeasuredAs}
use Rattle.plan_rows.proofs.Faults.{rows_passed, rows_low}
use Rattle.plan_rows.proofs.Lengths.{rows_length}
use Rattle.results.specs.declared.PlanRows.{PlanRows}
use Rattle.results.specs.Says.{plan_rows_of, not_read, rows_or, reading_rows}
use Rattle.plan_calls.specs.Parts.{placeless_rows, writing_rows, rows_with}

-- ---- the answer of a refused call

-- a place is told for the refusals of plans, and for no others
not_read-low : (place k : ℕ) → k < bad_plan → not_read place k ≡ plan_rows_of k 0 0 0
not_read-low place k low = ap (λ (b : Bool). plan_rows_of k 0 0 (when b place)) (lt-leb bad_plan k low)

not_read-high : (place k : ℕ) → bad_plan ≤ k → not_read place k ≡ plan_rows_of k 0 0 place
not_read-high place k high = ap (λ (b : Bool). plan_rows_of k 0 0 (when b place)) (le-leb bad_plan k high)

-- a call that is refused for something else than its plan
refused-low :
    (c : Call PlanRows) (place k : ℕ) (out : List ℕ) → c.none k ≡ not_read place k → Refuses c.refusal k → k < bad_plan →
    Gives c (out ∷ []) (out ∷ []) (plan_rows_of k 0 0 0)
refused-low c place k out is refuses low =
    gives_as c (out ∷ []) (sym (is ∙ not_read-low place k low)) (call-refused c (out ∷ []) refuses)

-- ---- rows written

module _ (rows : List (List ℕ)) (out : List ℕ) where
  -- 7 or 9
  pub rows_refused : (k : ℕ) → Refuses (rows_fault rows) k → Gives (writing_rows rows) (out ∷ []) (out ∷ []) (plan_rows_of k 0 0 0)
  rows_refused k refuses = refused-low (writing_rows rows) 0 k out refl refuses (omega (arith, refuses.is, rows_low rows))

  module _ {count bytes : ℕ} (measured : MeasuredAs rows count bytes) where
    -- 13
    pub rows_short :
        length out < bytes → Gives (writing_rows rows) (out ∷ []) (out ∷ []) (plan_rows_of output_too_short 0 0 0)
    rows_short short =
        call-one_short (writing_rows rows) (row_fields rows) out refl measured.no_fault (omega (arith, measured.bytes_are))

    -- the rows at the front of the output
    pub rows_written :
        (out' : List ℕ) (after : ℕ) → bytes ≤ length out → Put out out' 0 (row_fields rows) after →
        Gives (writing_rows rows) (out ∷ []) (out' ∷ []) (plan_rows_of 0 bytes count 0)
    rows_written out' after room put =
        call-one_wrote (writing_rows rows) (row_fields rows) out refl out' _ measured.no_fault (omega (arith, measured.bytes_are))
        (written-from_zero put.written)
        (ap (λ (n : ℕ). plan_rows_of 0 n count 0) measured.bytes_are
        ∙ ap (λ (n : ℕ). plan_rows_of 0 (length (row_fields rows)) n 0) measured.rows_are)

-- rows that are measured have few bytes, and are few
pub record Few (count bytes : ℕ) : Type 0 where
  pub few_rows : count ≤ book_rows
  pub few_bytes : bytes ≤ rows_bytes

pub measured_few : (rows : List (List ℕ)) {count bytes : ℕ} → MeasuredAs rows count bytes → Few count bytes
measured_few rows measured =
    record {
      few_rows = omega (arith, measured.rows_are, (rows_passed rows measured.no_fault).0);
      few_bytes = omega (arith, measured.bytes_are, rows_length rows measured.no_fault);
    }

-- ---- a plan read, and its rows written

-- rows that are written are those of a plan without a refusal, whatever its place
written_at :
    (place : ℕ) (rows outs outs' : List (List ℕ)) (r : PlanRows) → Gives (writing_rows rows) outs outs' r →
    Gives (rows_or (rows_fault rows) place rows) outs outs' r
written_at place rows outs outs' r gives =
    let fault = fault_with (writing_rows rows) outs in
    let low : fault < bad_plan =
    first_low (rows_fault rows) _ (omega (arith, rows_low rows))
    (when-low (too_short (writing_rows rows).writes outs) output_too_short (omega arith)) in
    record {
      answer_is =
          gives.answer_is
          ∙ ap (λ (none : PlanRows). unless fault none (writing_rows rows).answer)
          (not_read-low 0 fault low ∙ sym (not_read-low place fault low));
      outputs_are = gives.outputs_are;
    }

-- the rows in the log of a plan's tags are the plan's
pub rows_read :
    (names : List (List ℕ)) (chosen : ℕ) (read : Reading) {s log : List ℕ} {count : ℕ} → Logged names read s log count →
    (outs outs' : List (List ℕ)) (r : PlanRows) → Gives (writing_rows (log_rows log count chosen)) outs outs' r →
    Gives (rows_with names chosen read) outs outs' r
rows_read names chosen read logged outs outs' r gives =
    let rows = rows_in chosen (map (entry_of names) read.met_tags) in
    let is = ap (rows_in chosen) logged.logged in
    subst (λ (n : ℕ). Gives (rows_or (first_of n (rows_fault rows)) read.place rows) outs outs' r) (sym logged.no_fault)
    (written_at read.place rows outs outs' r (subst (λ (l : List (List ℕ)). Gives (writing_rows l) outs outs' r) is gives))

module _ (names : List (List ℕ)) (name s : List ℕ) {k p : ℕ} (refused : RefusedAs (read_plan names name s) k p) where
  -- the place of a refusal
  pub place_within : p ≤ length s
  place_within = omega (arith, refused.place_is, (plan-refusal names name s (omega (arith, refused.number_is, refused.some))).within)

  -- 14, 15 or 16, with its place
  pub plan_refused :
      (chosen : ℕ) (out : List ℕ) → Gives (rows_with names chosen (read_plan names name s)) (out ∷ []) (out ∷ []) (plan_rows_of k 0 0 p)
  plan_refused chosen out =
      let read = read_plan names name s in
      let high = (plan-refusal names name s (omega (arith, refused.number_is, refused.some))).high in
      gives_as (rows_with names chosen read) (out ∷ [])
      (sym
      (not_read-high read.place k (omega (arith, refused.number_is, high))
      ∙ ap (λ (n : ℕ). plan_rows_of k 0 0 n) refused.place_is))
      (call-refused (rows_with names chosen read) (out ∷ [])
      (refuses_first _ (record { is = refused.number_is; some = refused.some })))

-- ---- what is refused before the plan is read

-- what the lent slices' sizes are refused by, as the code tells it
pub sizes_told : (input work : List ℕ) (k : ℕ) → k ≡ when (ltb input_limit (length input) || ltb (length work) work_bytes) bad_sizes
    → sizes_fault input work ≡ k
unfolding sizes_fault
sizes_told input work k is = sym is

sizes_low : (input work : List ℕ) → sizes_fault input work < bad_plan
unfolding sizes_fault
sizes_low input work = when-low (ltb input_limit (length input) || ltb (length work) work_bytes) bad_sizes (omega arith)

module _ (plan list : List ℕ) (chosen : ℕ) (work out : List ℕ) where
  -- by any of these
  asked_refused :
      (k : ℕ) → Refuses (asked_fault plan list chosen work) k → k < bad_plan →
      Gives (reading_rows plan list chosen work) (out ∷ []) (out ∷ []) (plan_rows_of k 0 0 0)
  unfolding reading_rows plan_fault
  asked_refused k refuses low =
      refused-low (reading_rows plan list chosen work) (plan_reading plan list chosen).place k out refl (refuses_first _ refuses) low

  -- 1 for the plan
  pub plan_sizes_refused :
      {k : ℕ} → sizes_fault plan work ≡ k → 0 < k → Gives (reading_rows plan list chosen work) (out ∷ []) (out ∷ []) (placeless_rows k)
  unfolding asked_fault
  plan_sizes_refused {k} is some =
      asked_refused k (refuses_first _ (record { is = is; some = some })) (omega (arith, is, sizes_low plan work))

  module _ (plan-fits : sizes_fault plan work ≡ 0) where
    -- 1 for the list
    pub list_sizes_refused :
        {k : ℕ} → sizes_fault list work ≡ k → 0 < k
        → Gives (reading_rows plan list chosen work) (out ∷ []) (out ∷ []) (placeless_rows k)
    unfolding asked_fault
    list_sizes_refused {k} is some =
        asked_refused k (refuses_then plan-fits (refuses_first _ (record { is = is; some = some })))
        (omega (arith, is, sizes_low list work))

    module _ (list-fits : sizes_fault list work ≡ 0) where
      -- the list's own refusals
      pub list_refused :
          (k : ℕ) → (read_names list).number ≡ k → 0 < k →
          Gives (reading_rows plan list chosen work) (out ∷ []) (out ∷ []) (plan_rows_of k 0 0 0)
      unfolding asked_fault
      list_refused k is some =
          asked_refused k
          (refuses_then plan-fits
          (refuses_then list-fits (refuses_first _ (record { is = is; some = some }))))
          (omega (arith, is, fields_low standard name_list list))

      module _ {p : reader.Place} (at : ListAt list p) where
        -- so many names are in the list
        names_count : length (names_of list) ≡ p.names
        names_count = ap length at.names_are ∙ length_fields list 0 p.names

        -- 9 for a number that names nothing
        pub chosen_refused :
            p.names ≤ chosen → Gives (reading_rows plan list chosen work) (out ∷ []) (out ∷ []) (plan_rows_of bad_row 0 0 0)
        unfolding asked_fault
        chosen_refused high =
            asked_refused bad_row
            (refuses_then plan-fits
            (refuses_then list-fits
            (refuses_then at.accepted
            (refuses_when (le-leb (length (names_of list)) chosen (omega (arith, names_count))) (omega arith)))))
            (omega arith)

        -- by none of these
        none-asked : chosen < p.names → asked_fault plan list chosen work ≡ 0
        unfolding asked_fault
        none-asked some =
            refuses_none plan-fits
            (refuses_none list-fits
            (refuses_none at.accepted
            (ap (λ (b : Bool). when b bad_row) (lt-leb (length (names_of list)) chosen (omega (arith, names_count))))))

        -- then the call gives what the plan and its rows come to
        pub rows_asked :
            chosen < p.names → (out' : List ℕ) (r : PlanRows) →
            Gives (rows_with (fields_at list 0 p.names) chosen
            (read_plan (fields_at list 0 p.names) (get_or (fields_at list 0 p.names) chosen []) plan)) (out ∷ []) (out' ∷ []) r →
            Gives (reading_rows plan list chosen work) (out ∷ []) (out' ∷ []) r
        unfolding reading_rows plan_fault plan_rows plan_reading
        rows_asked some out' r gives =
            let rows = plan_rows plan list chosen in
            let read = plan_reading plan list chosen in
            subst (λ (k : ℕ).
            Gives (rows_or (first_of k (first_of read.number (rows_fault rows))) read.place rows) (out ∷ []) (out' ∷ []) r)
            (sym (none-asked some))
            (subst (λ (names : List (List ℕ)).
            Gives (rows_with names chosen (read_plan names (get_or names chosen []) plan)) (out ∷ []) (out' ∷ []) r)
            (sym at.names_are) gives)

-- ---- what a plan is read with

-- a plan and an area whose sizes are not refused
pub plan_room : (plan work : List ℕ) → sizes_fault plan work ≡ 0 → Room plan work
plan_room plan work fits =
    let fit = sizes_fit plan work fits in record { short = fit.input_fits; long = fit.work_fits }

-- the names of an accepted list ascend
pub list_ascends : {list : List ℕ} {p : reader.Place} → ListAt list p → Ascends (fields_at list 0 p.names)
list_ascends at = names_ascend _ at.names_read.names_ok

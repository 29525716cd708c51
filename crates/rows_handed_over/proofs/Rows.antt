-- What holds of a plan's rows as calls give them: `rows_handed_over`. First of a call's refusal and place, then of what it wrote. Assumes
-- nothing.
use mathlib.Core.Path.{◌≡◌, refl, sym, ap, ap₂, ◌∙◌, subst}
use mathlib.Core.Logic.{◌⊎◌, inl, inr, ⊎_elim}
use mathlib.Core.Bool.{Bool, true, false, ◌&&◌}
use mathlib.Core.List.{List, [], ◌∷◌, ◌++◌, map, flat_map, append_assoc}
use mathlib.Core.List.Memᴰ.{head as here}
use mathlib.Core.List.Memᴰ.{tail as there}
use mathlib.Core.List.{Memᴰ as In}
use Prim.Native.Nat.{ℕ, zero, suc, ◌≤◌, ◌<◌}
use native.Mathlib.Omega.{arith}
use borrow.Author.Tests.{ltb-true, lt-ltb, le-leb, lt-leb, leb-false}
use lib.Dec.{ltb, leb}
use lib.ListN.{length}
use Rattle.base.specs.Limits.{row_mark, book_rows, row_limit, rows_bytes, bad_sizes, bad_row, output_too_short, bad_plan, when, first_of}
use Rattle.base.proofs.Lists.{map-in, flat_map-in}
use Rattle.base.proofs.Tests.{le_or_lt, tells_all, tells_itself}
use Rattle.model.specs.Fields.{Settings, standard, name_list, read_names, read_book, name_number, all_below, row_ok}
use Rattle.model.specs.Tables.{field_bytes, class_field, row_fields}
use Rattle.model.specs.Calls.{names_of, sizes_fault, too_short, fault_with}
use Rattle.model.specs.Claims.{RowsOk}
use Rattle.model.proofs.FieldLaws.{first_of_lem, when-none}
use Rattle.model.proofs.CallLaws.{sizes_bad, refusal_is, answer_by, answered, one_wrote, short_is, FrontOf, front_of_lem}
use Rattle.model.proofs.LowNumbers.{when-low, first_low, fields_low}
use Rattle.model.proofs.NameLists.{accepted_names}
use Rattle.model.proofs.NameNumbers.{number-only, number_of-known}
use Rattle.model.proofs.RowBooks.{rows_make_books}
use Rattle.written_plans.specs.Written.{Plan, plan_bytes, First}
use Rattle.written_plans.specs.Reading.{entry_of, rows_in, rows_fault, rows_short}
use Rattle.written_plans.specs.Calls.{chosen_name, plan_reading, plan_rows, asked_fault, plan_fault}
use Rattle.written_plans.specs.Claims.{ReadingTells, Faultless, Known}
use Rattle.written_plans.proofs.FirstFault.{reading_tells}
use Rattle.written_plans.proofs.Numbers.{plan-refusal}
use Rattle.written_plans.proofs.Rows.{rows_are_traces}
use Rattle.written_plans.proofs.KnownChildren.{children-are_known}
use Rattle.plan_rows.proofs.Faults.{rows_passed, rows_low}
use Rattle.plan_rows.proofs.Lengths.{row_fields-none, rows_length}
use Rattle.results.specs.declared.PlanRows.{PlanRows}
use Rattle.results.specs.Says.{plan_rows_of, reading_rows}
use Rattle.rows_handed_over.specs.Rows.{RowsCall, rows_written, traces_in, rows_of, NoFault, Traced, MakesBook, ReadWith, all_rows}
use Rattle.rows_handed_over.specs.Rows.{RowsHandedOver}

-- ---- numbers of refusals

-- what is judged before the plan has numbers below 13
asked_low : (plan list : List ℕ) (chosen : ℕ) (work : List ℕ) → asked_fault plan list chosen work < output_too_short
unfolding asked_fault sizes_fault
asked_low plan list chosen work =
    first_low (sizes_fault plan work) _ (when-low (sizes_bad plan work) bad_sizes (omega arith))
    (first_low (sizes_fault list work) _ (when-low (sizes_bad list work) bad_sizes (omega arith))
    (first_low (read_names list).number _ (fields_low standard name_list list)
    (when-low (leb (length (names_of list)) chosen) bad_row (omega arith))))

-- where what was asked, the plan, the rows and the output are judged in this order: a refusal from 14 on is the plan's, and 13 the output's
the_plans : (a b c : ℕ) (t : Bool) → a < output_too_short → c < output_too_short
    → bad_plan ≤ first_of (first_of a (first_of b c)) (when t output_too_short)
    → first_of (first_of a (first_of b c)) (when t output_too_short) ≡ b
the_plans zero zero zero true low c-low high = let z : ⊥ = omega arith in absurd z
the_plans zero zero zero false low c-low high = let z : ⊥ = omega arith in absurd z
the_plans zero zero (suc c) t low c-low high = let z : ⊥ = omega arith in absurd z
the_plans zero (suc b) c t low c-low high = refl
the_plans (suc a) b c t low c-low high = let z : ⊥ = omega arith in absurd z

the_outputs : (a b c : ℕ) (t : Bool) → a < output_too_short → (0 < b → bad_plan ≤ b) → c < output_too_short
    → first_of (first_of a (first_of b c)) (when t output_too_short) ≡ output_too_short → (c ≡ 0) × (t ≡ true)
the_outputs zero zero zero true low high c-low e = (refl, refl)
the_outputs zero zero zero false low high c-low e = let z : ⊥ = omega arith in absurd z
the_outputs zero zero (suc c) t low high c-low e = let z : ⊥ = omega arith in absurd z
the_outputs zero (suc b) c t low high c-low e =
    let far : bad_plan ≤ suc b = high (omega arith) in
    let z : ⊥ = omega arith in absurd z
the_outputs (suc a) b c t low high c-low e = let z : ⊥ = omega arith in absurd z

-- the first of two that is one
first_some : (a b : ℕ) → 0 < a → first_of a b ≡ a
first_some zero b h = let z : ⊥ = omega arith in absurd z
first_some (suc a) b h = refl

-- ---- rows that a book may have

-- numbers of names that are there are below their number
entries_below : (names row : List (List ℕ)) → ((n : List ℕ) → In n row → In n names)
    → all_below (length names) (map (name_number names) row) ≡ true
unfolding all_below
entries_below names [] all_in = refl
entries_below names (n ∷ row) all_in =
    ap₂ (λ (a b : Bool). a && b) (lt-ltb (name_number names n) (length names) (number_of-known names n (all_in n (here refl))).0)
    (entries_below names row (λ m i. all_in m (there i)))

-- rows that nothing refuses are short
short_row : (rows : List (List ℕ)) → rows_fault rows ≡ 0 → (row : List ℕ) → In row rows → leb (length row) row_limit ≡ true
unfolding rows_short
short_row rows none row m =
    (tells_all (λ (r : List ℕ). tells_itself (leb (length r) row_limit)) rows).fact (rows_passed rows none).1 row m

-- rows after an accepted list
rows_book :
    (list bytes : List ℕ) (rows : List (List ℕ)) → (read_names list).number ≡ 0 → RowsOk (names_of list) rows →
    bytes ≡ row_fields rows →
    (settings : Settings) → MakesBook list bytes rows settings
rows_book list bytes rows fine ok is settings =
    let books = rows_make_books settings in
    record {
      without_class = ap (λ (z : List ℕ). read_book settings (list ++ z)) is ∙ books.without_class list rows fine ok;
      with_class = λ class class_ok_fact.
          ap (λ (z : List ℕ). read_book settings (list ++ (class_field class ++ z))) is
          ∙ books.with_class list class rows fine class_ok_fact ok;
    }

module _ (c : RowsCall) where
  abbrev names : List (List ℕ)
  names = names_of c.list

  abbrev chosen : List ℕ
  chosen = chosen_name c.list c.chosen

  told : ReadingTells names chosen c.plan
  told = reading_tells names chosen c.plan

  abbrev fault : ℕ
  fault = fault_with (reading_rows c.plan c.list c.chosen c.work) (c.out ∷ [])

  refusal : c.result.refusal ≡ fault
  unfolding reading_rows
  refusal = refusal_is c.says.gives (λ (r : PlanRows). r.refusal) (λ k. refl) refl

  abbrev rows : List (List ℕ)
  rows = plan_rows c.plan c.list c.chosen

  -- ---- refusals of the plan

  abbrev number : ℕ
  number = (plan_reading c.plan c.list c.chosen).number

  abbrev place : ℕ
  place = (plan_reading c.plan c.list c.chosen).place

  -- a refusal from 14 on is the plan's
  plan-refuses : bad_plan ≤ c.result.refusal → c.result.refusal ≡ number
  unfolding reading_rows plan_fault
  plan-refuses high =
      let big : bad_plan ≤ fault = omega (arith, refusal) in
      refusal
      ∙ the_plans (asked_fault c.plan c.list c.chosen c.work) number (rows_fault rows)
      (too_short (row_fields rows ∷ []) (c.out ∷ [])) (asked_low c.plan c.list c.chosen c.work) (rows_low rows) big

  -- and comes with its place; other refusals come with 0
  place_is : c.result.at ≡ when (leb bad_plan c.result.refusal) place
  unfolding reading_rows
  place_is =
      answer_by c.says.gives (λ (r : PlanRows). r.at ≡ when (leb bad_plan r.refusal) place) (λ k. refl) (λ e. refl)

  is_first : bad_plan ≤ c.result.refusal → First names chosen c.plan c.result.refusal c.result.at
  unfolding plan_reading
  is_first high =
      let same_number = plan-refuses high in
      let at_place : c.result.at ≡ place = place_is ∙ ap (λ b. when b place) (le-leb bad_plan c.result.refusal high) in
      subst (λ z. First names chosen c.plan c.result.refusal z) (sym at_place)
      (subst (λ z. First names chosen c.plan z place) (sym same_number) (told.first (omega (arith, same_number, high))))

  no_place : c.result.refusal < bad_plan → c.result.at ≡ 0
  no_place low = place_is ∙ ap (λ b. when b place) (lt-leb bad_plan c.result.refusal low)

  -- ---- what was asked, and the rows

  -- the list is accepted, and the chosen number one of its names
  asked :
      asked_fault c.plan c.list c.chosen c.work ≡ 0 → ((read_names c.list).number ≡ 0) × (c.chosen < length names)
  unfolding asked_fault
  asked fine =
      let sizes = (first_of_lem (sizes_fault c.plan c.work) _ fine).1 in
      let fields = (first_of_lem (sizes_fault c.list c.work) _ sizes).1 in
      let list = first_of_lem (read_names c.list).number _ fields in
      (list.0, leb-false (length names) c.chosen (when-none (leb (length names) c.chosen) bad_row (omega arith) list.1))

  -- the rows of a plan that is read are its traces
  traces-read :
      asked_fault c.plan c.list c.chosen c.work ≡ 0 → number ≡ 0 → (plan : Plan) → plan_bytes plan ≡ c.plan →
      rows ≡ rows_of c plan
  unfolding plan_rows plan_reading
  traces-read fine read plan bytes =
      let list = asked fine in
      ap (λ ts. rows_in c.chosen (map (entry_of names) ts)) (told.tags_are read plan bytes)
      ∙ rows_are_traces names c.chosen chosen
      (number-only names (accepted_names c.list list.0).ascending c.chosen list.1) plan

  -- ---- nothing refused

  module _ (accepted : c.result.refusal ≡ 0) where
    none : fault ≡ 0
    none = sym refusal ∙ accepted

    parts :
        (asked_fault c.plan c.list c.chosen c.work ≡ 0) × (number ≡ 0) × (rows_fault rows ≡ 0)
    unfolding reading_rows plan_fault
    parts =
        let whole = (first_of_lem (plan_fault c.plan c.list c.chosen c.work) _ none).0 in
        let first = first_of_lem (asked_fault c.plan c.list c.chosen c.work) _ whole in
        let second = first_of_lem number (rows_fault rows) first.1 in
        (first.0, second.0, second.1)

    no_fault : NoFault c
    unfolding plan_reading
    no_fault = told.faultless parts.1

    is_plan : (plan : Plan) × (plan_bytes plan ≡ c.plan)
    unfolding plan_reading
    is_plan = told.is_plan parts.1

    answer_is : c.result ≡ plan_rows_of 0 (length (row_fields rows)) (length rows) 0
    unfolding reading_rows
    answer_is = answered c.says.gives none

    front : FrontOf (row_fields rows) c.out' c.result.length
    unfolding reading_rows
    front =
        let call = reading_rows c.plan c.list c.chosen c.work in
        let wrote = one_wrote call (row_fields rows) c.out refl c.out' c.result c.says.gives none in
        front_of_lem (row_fields rows) c.out c.out' c.result.length wrote (ap (λ (r : PlanRows). r.length) answer_is)

    short : c.result.length ≤ rows_bytes
    short =
        omega (arith, ap (λ (r : PlanRows). r.length) answer_is, rows_length rows parts.2)

    module _ (plan : Plan) (bytes : plan_bytes plan ≡ c.plan) where
      rows-traced : rows ≡ rows_of c plan
      rows-traced = traces-read parts.0 parts.1 plan bytes

      known : Known names (traces_in c plan)
      known = children-are_known names chosen plan (subst (λ z. Faultless names chosen z) (sym bytes) no_fault)

      traced : Traced c plan
      traced =
          record {
            bytes_are = front.bytes_are ∙ ap row_fields rows-traced;
            rows_are = ap (λ (r : PlanRows). r.rows) answer_is ∙ ap length rows-traced;
            known = known;
          }

      -- each row is one that a book may have
      row_fits : (row : List ℕ) → In row rows → row_ok (length names) row ≡ true
      row_fits row m =
          let from = map-in (map (name_number names)) (traces_in c plan) (subst (λ z. In row z) rows-traced m) in
          let below = entries_below names from.0 (known from.0 from.1) in
          ap₂ (λ (a b : Bool). a && b) (short_row rows parts.2 row m)
          (subst (λ z. all_below (length names) z ≡ true) (sym from.2) below)

      makes_book : 1 ≤ c.result.rows → (settings : Settings) → MakesBook c.list (rows_written c) (rows_of c plan) settings
      makes_book some settings =
          let counted = ap (λ (r : PlanRows). r.rows) answer_is in
          let rows_ok : RowsOk names rows = record { some = omega arith; few = (rows_passed rows parts.2).0; each = row_fits } in
          subst (λ z. MakesBook c.list (rows_written c) z settings) rows-traced
          (rows_book c.list (rows_written c) rows (asked parts.0).0 rows_ok front.bytes_are settings)

  -- ---- which refusal it is

  asked_first : 0 < asked_fault c.plan c.list c.chosen c.work
      → c.result.refusal ≡ asked_fault c.plan c.list c.chosen c.work
  unfolding reading_rows plan_fault
  asked_first some =
      let asked-fault = asked_fault c.plan c.list c.chosen c.work in
      let whole = first_some asked-fault (first_of number (rows_fault rows)) some in
      refusal ∙ ap (λ (k : ℕ). first_of k (when (too_short (row_fields rows ∷ []) (c.out ∷ [])) output_too_short)) whole
      ∙ first_some asked-fault _ some

  -- two first faults are one
  one_first : (n p : ℕ) → First names chosen c.plan n p → (m q : ℕ) → First names chosen c.plan m q
      → (n ≡ m) × (p ≡ q)
  one_first n p f m q g =
      go (f.first m q g.fault) (g.first n p f.fault)
    where
      go : (p < q) ⊎ ((p ≡ q) × (n ≤ m)) → (q < p) ⊎ ((q ≡ p) × (m ≤ n)) → (n ≡ m) × (p ≡ q)
      go (inl h) (inl k) = let z : ⊥ = omega arith in absurd z
      go (inl h) (inr k) = let z : ⊥ = omega (arith, k.0) in absurd z
      go (inr h) (inl k) = let z : ⊥ = omega (arith, h.0) in absurd z
      go (inr h) (inr k) = (omega (arith, h.1, k.1), h.0)

  told-as : asked_fault c.plan c.list c.chosen c.work ≡ 0 → (n p : ℕ) → First names chosen c.plan n p
      → (c.result.refusal ≡ n) × (c.result.at ≡ p)
  unfolding reading_rows plan_fault plan_reading
  told-as fine n p f =
      let some : 0 < number =
      ⊎_elim (λ (few : number ≤ 0). absurd (told.faultless (omega arith) n p f.fault))
      (λ (h : 0 < number). h) (le_or_lt number 0) in
      let same = one_first number place (told.first some) n p f in
      let high = (plan-refusal names chosen c.plan some).high in
      let short = too_short (row_fields rows ∷ []) (c.out ∷ []) in
      let is : c.result.refusal ≡ number =
      refusal ∙ ap (λ (k : ℕ). first_of (first_of k (first_of number (rows_fault rows))) (when short output_too_short)) fine
      ∙ ap (λ (k : ℕ). first_of k (when short output_too_short)) (first_some number (rows_fault rows) some)
      ∙ first_some number (when short output_too_short) some in
      let at_place : c.result.at ≡ place =
      place_is ∙ ap (λ (b : Bool). when b place) (le-leb bad_plan c.result.refusal (omega (arith, is, high))) in
      (is ∙ same.0, at_place ∙ same.1)

  judged : asked_fault c.plan c.list c.chosen c.work ≡ 0 → NoFault c → (plan : Plan) → plan_bytes plan ≡ c.plan
      → c.result.refusal
      ≡ first_of (rows_fault (rows_of c plan)) (when (ltb (length c.out) (length (row_fields (rows_of c plan)))) output_too_short)
  unfolding reading_rows plan_fault plan_reading
  judged fine free plan bytes =
      let none : number ≡ 0 = told.accepts free in
      let call = reading_rows c.plan c.list c.chosen c.work in
      let short = too_short (row_fields rows ∷ []) (c.out ∷ []) in
      refusal ∙ ap (λ (k : ℕ). first_of (first_of k (first_of number (rows_fault rows))) (when short output_too_short)) fine
      ∙ ap (λ (k : ℕ). first_of (first_of k (rows_fault rows)) (when short output_too_short)) none
      ∙ ap (λ (b : Bool). first_of (rows_fault rows) (when b output_too_short)) (short_is call (row_fields rows) c.out refl)
      ∙ ap (λ (l : List (List ℕ)). first_of (rows_fault l) (when (ltb (length c.out) (length (row_fields l))) output_too_short))
      (traces-read fine none plan bytes)

  enough : rows_bytes ≤ length c.out → c.result.refusal ≡ output_too_short → ⊥
  unfolding reading_rows plan_fault plan_reading
  enough room e =
      let call = reading_rows c.plan c.list c.chosen c.work in
      let outputs =
      the_outputs (asked_fault c.plan c.list c.chosen c.work) number (rows_fault rows)
      (too_short (row_fields rows ∷ []) (c.out ∷ [])) (asked_low c.plan c.list c.chosen c.work)
      (λ some. (plan-refusal names chosen c.plan some).high) (rows_low rows) (sym refusal ∙ e) in
      let short : length c.out < length (row_fields rows) =
      ltb-true (length c.out) (length (row_fields rows)) (sym (short_is call (row_fields rows) c.out refl) ∙ outputs.1) in
      omega (arith, rows_length rows outputs.0)

-- ---- several calls

-- the fields of two lists of rows
fields_parts : (rows more : List (List ℕ)) → row_fields (rows ++ more) ≡ row_fields rows ++ row_fields more
unfolding row_fields flat_map
fields_parts [] more = refl
fields_parts (row ∷ rows) more =
    ap (λ (z : List ℕ). field_bytes row_mark row ++ z) (fields_parts rows more)
    ∙ sym (append_assoc (field_bytes row_mark row) (row_fields rows) (row_fields more))

-- what they wrote are the fields of all their rows
all-written : (list : List ℕ) (calls : List RowsCall) → ReadWith list calls → flat_map rows_written calls ≡ row_fields (all_rows calls)
unfolding flat_map
all-written list [] read = sym row_fields-none
all-written list (c ∷ calls) read =
    ap₂ (λ (a b : List ℕ). a ++ b) (front c (read c (here refl)).1).bytes_are (all-written list calls (λ d m. read d (there m)))
    ∙ sym (fields_parts (rows c) (all_rows calls))

-- each of these rows is one that a book may have
all_fit : (list : List ℕ) (calls : List RowsCall) → ReadWith list calls → (row : List ℕ) → In row (all_rows calls)
    → row_ok (length (names_of list)) row ≡ true
all_fit list calls read row m =
    let from = flat_map-in (λ (c : RowsCall). rows c) calls m in
    let c = from.0 in
    let told-list = read c from.1 in
    let plan = is_plan c told-list.1 in
    subst (λ (z : List ℕ). row_ok (length (names_of z)) row ≡ true) told-list.0
    (row_fits c told-list.1 plan.0 plan.1 row from.2)

-- the list was accepted by any of them
list_read : (list : List ℕ) (calls : List RowsCall) → ReadWith list calls → 1 ≤ length (all_rows calls)
    → (read_names list).number ≡ 0
unfolding flat_map
list_read list [] read some = let z : ⊥ = omega arith in absurd z
list_read list (c ∷ calls) read some =
    let told-list = read c (here refl) in
    subst (λ (z : List ℕ). (read_names z).number ≡ 0) told-list.0 (asked c (parts c told-list.1).0).0

make_book : (list : List ℕ) (calls : List RowsCall) → ReadWith list calls → 1 ≤ length (all_rows calls)
    → length (all_rows calls) ≤ book_rows → (settings : Settings)
    → MakesBook list (flat_map rows_written calls) (all_rows calls) settings
make_book list calls read some few settings =
    rows_book list (flat_map rows_written calls) (all_rows calls) (list_read list calls read some)
    (record { some = some; few = few; each = all_fit list calls read }) (all-written list calls read) settings

-- ---- all of it

pub rows_handed_over : RowsHandedOver
rows_handed_over =
    record {
      first = is_first;
      no_place = no_place;
      is_plan = is_plan;
      no_fault = no_fault;
      traced = traced;
      short = short;
      makes_book = λ c accepted some plan bytes settings. makes_book c accepted plan bytes some settings;
      make_book = make_book;
      asked_first = asked_first;
      told = told-as;
      judged = judged;
      enough = enough;
    }

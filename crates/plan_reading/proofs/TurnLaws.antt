-- One turn of the reader and a whole plan: an element from the end of its name on, the answers to what stands next, and the plan's end.
-- Assumes nothing.
use mathlib.Core.Path.{◌≡◌, refl, sym, ap, ap₂, ◌∙◌, subst}
use mathlib.Core.Logic.{⊎_elim}
use mathlib.Core.Bool.{Bool, false, cond}
use mathlib.Core.List.{List, [], ◌∷◌, ◌++◌, map, map-append, append-nil, append_assoc}
use Prim.Native.Nat.{ℕ, zero, suc, ◌+◌, ◌≤◌, ◌<◌}
use native.Mathlib.Omega.{arith}
use lib.Dec.{eqb}
use lib.ListN.{length, drop, set, length-set}
use lib.Seq.{get_or-set_same}
use Rattle.base.specs.Limits.{plan_depth, bad_plan}
use Rattle.base.specs.Refusals.{number_of}
use Rattle.base.specs.declared.refusals.Refusal.{Refusal}
use Rattle.base.specs.declared.refusals.Refusal.TheVariants as refusal
use Rattle.base.proofs.Tests.{told-false, tells_eqb, le_or_lt}
use Rattle.model.specs.Fields.{name_number}
use Rattle.written_plans.specs.Written.{Tag, tag}
use Rattle.written_plans.specs.Reading.{Place, before, inside, named, after, leave, tag_fault, Reading, refused_at, ended, with_tags}
use Rattle.written_plans.specs.Reading.{read_plan, Entry, entry_of}
use Rattle.written_plans.specs.Logs.{entries_at}
use Rattle.plan_reading.specs.Scanning.{part}
use Rattle.plan_reading.specs.Pieces.{open_at, open_names, between, place_of, reads, ReadsOn, Stops, NameHere, Passed, Met}
use Rattle.plan_reading.specs.Turns.{Numbered, Standing, Begun, after_name_of, entry, ReadFurther, RefusedAs, Logged}
use Rattle.plan_reading.specs.declared.opens.Open.{Open}
use Rattle.plan_reading.specs.declared.opens.Stack.{Stack}
use Rattle.plan_reading.specs.declared.pieces.Reached.{Reached}
use Rattle.plan_reading.proofs.StepLaws.{reads_end, name-reads, name-refused}
use Rattle.plan_reading.proofs.PieceLaws.{leave-between}
use Rattle.plan_reading.proofs.StackLaws.{open_count, names_kept, pushed-below}

-- ---- an element from the end of its name on

-- what holds below a depth and at it holds up to it
by_depth : (P : ℕ → Type 0) (depth : ℕ) → ((d : ℕ) → d < depth → P d) → P depth → (d : ℕ) → d < depth + 1 → P d
by_depth P depth below top d h =
    ⊎_elim (λ (high : depth ≤ d). let is : depth ≡ d = omega arith in subst P is top)
    (λ (low : d < depth). below d low) (le_or_lt depth d)

module _ (names : List (List ℕ)) (s : List ℕ) (stack : Stack) (r : Reached) (element : Open) (at : ℕ)
    (here : NameHere s element.from element.end) (ahead : r.at < element.from)
    (stands : Standing names s stack.opens stack.depth r) (beyond : element.end < at) (within : at ≤ length s) where
  -- where reading stands after the element's tag
  abbrev after_tag : Reached
  after_tag = record { at = at; tags = r.tags + 1 }

  -- the place after the element's name
  abbrev after_name : Place
  after_name = after_name_of s stack element

  -- an empty-element tag: the elements that are open are the same
  pub element_empty : ReadsOn s after_name element.end (leave (open_names s stack.opens stack.depth)) at
      → Begun names s stack after_name element.end r after_tag
  element_empty on =
      let was = stands.stacked in
      record {
        reads_on = λ judge.
            on judge
            ∙ ap (λ (q : Place). reads judge s q at)
            (leave-between (open_names s stack.opens stack.depth) (r.tags + 1) (omega arith));
        standing =
            record {
              stacked =
                  record {
                    within = within;
                    shallow = was.shallow;
                    room = was.room;
                    forward = was.forward;
                    behind = λ d h. omega (arith, was.behind d h, here.some);
                    begun = omega (arith, was.begun);
                    few = omega (arith, was.few, here.some);
                  };
              numbered = stands.numbered;
            };
        further = beyond;
        one_tag = refl;
      }

  module _ (stack' : Stack) (opens_are : stack'.opens ≡ set stack.opens stack.depth element)
      (depth_is : stack'.depth ≡ stack.depth + 1) (shallow : stack.depth < plan_depth)
      (is_number : element.number ≡ name_number names (part s element.from element.end)) where
    -- it stands at its depth
    pushed_at : open_at stack'.opens stack.depth ≡ element
    pushed_at =
        ap (λ (os : List Open). open_at os stack.depth) opens_are
        ∙ get_or-set_same stack.opens stack.depth element _ (omega (arith, stands.stacked.room))

    -- the elements around it are what they were
    kept : (j : ℕ) → j < stack.depth → open_at stack'.opens j ≡ open_at stack.opens j
    kept j h = ap (λ (os : List Open). open_at os j) opens_are ∙ pushed-below stack.opens stack.depth element j h

    -- the names of all that are open
    new-names : open_names s stack'.opens stack'.depth ≡ part s element.from element.end ∷ open_names s stack.opens stack.depth
    unfolding open_names
    new-names =
        let one_more : stack'.depth ≡ suc stack.depth = omega arith in
        ap (open_names s stack'.opens) one_more
        ∙ ap₂ (λ (o : Open) (ns : List (List ℕ)). part s o.from o.end ∷ ns) pushed_at
        (names_kept s stack.opens stack'.opens stack.depth kept)

    -- what holds of each element around it, and of it
    of_each : (P : Open → Type 0) → ((d : ℕ) → d < stack.depth → P (open_at stack.opens d)) → P element
        → (d : ℕ) → d < stack'.depth → P (open_at stack'.opens d)
    of_each P below top d h =
        by_depth (λ (i : ℕ). P (open_at stack'.opens i)) stack.depth (λ i g. subst P (sym (kept i g)) (below i g))
        (subst P (sym pushed_at) top) d (omega arith)

    -- a start tag: the element is open
    pub element_opened :
        ReadsOn s after_name element.end (inside (part s element.from element.end) (open_names s stack.opens stack.depth)) at
        → Begun names s stack' after_name element.end r after_tag
    element_opened on =
        let was = stands.stacked in
        record {
          reads_on = λ judge.
              on judge ∙ ap (λ (ns : List (List ℕ)). reads judge s (between ns (r.tags + 1)) at) (sym new-names);
          standing =
              record {
                stacked =
                    record {
                      within = within;
                      shallow = omega arith;
                      room = ap length opens_are ∙ length-set stack.opens stack.depth element ∙ was.room;
                      forward = of_each (λ (o : Open). o.from ≤ o.end) was.forward (omega (arith, here.some));
                      behind = of_each (λ (o : Open). o.end ≤ at) (λ d h. omega (arith, was.behind d h, here.some)) (omega arith);
                      begun = omega (arith, was.begun);
                      few = omega (arith, was.few, here.some);
                    };
                numbered = of_each (λ (o : Open). o.number ≡ name_number names (part s o.from o.end)) stands.numbered is_number;
              };
          further = beyond;
          one_tag = refl;
        }

-- ---- one turn

-- reading that comes to a refusal, after the tags met
pub refused_as : (reading : Reading) (ts : List Tag) (k p : ℕ) → reading ≡ with_tags ts (refused_at k p) → 0 < k
    → RefusedAs reading k p
refused_as reading ts k p e some =
    record { number_is = ap (λ (r : Reading). r.number) e; place_is = ap (λ (r : Reading). r.place) e; some = some }

-- no refusal has number 0
pub some_number : (k : Refusal) → 0 < number_of k
some_number refusal.BadSizes = omega arith
some_number refusal.CutOff = omega arith
some_number refusal.Misplaced = omega arith
some_number refusal.Unfinished = omega arith
some_number refusal.BadName = omega arith
some_number refusal.NameOrder = omega arith
some_number refusal.TooMany = omega arith
some_number refusal.BadClass = omega arith
some_number refusal.BadRow = omega arith
some_number refusal.TreeTooLarge = omega arith
some_number refusal.BadState = omega arith
some_number refusal.BadNumbering = omega arith
some_number refusal.OutputTooShort = omega arith
some_number refusal.BadPlan = omega arith
some_number refusal.TooDeep = omega arith
some_number refusal.UnknownChild = omega arith

module _ (names : List (List ℕ)) (judge : Tag → ℕ) (s : List ℕ) (stack : Stack) (log : List ℕ) (r : Reached)
    (stands : Standing names s stack.opens stack.depth r) where
  -- where reading stands
  abbrev place : Place
  place = place_of s stack.opens stack.depth r

  -- what reading comes to from there
  abbrev reading : Reading
  reading = reads judge s place r.at

  -- an end tag, or what stands before a tag
  pub turn_past : (stack' : Stack) (at : ℕ) → stack'.opens ≡ stack.opens → stack'.depth ≤ stack.depth
      → Passed s stack'.opens stack'.depth place r.at (record { at = at; tags = r.tags })
      → ReadFurther names judge s stack stack' log log r (record { at = at; tags = r.tags })
  turn_past stack' at same not_deeper passed =
      record {
        met_tags = [];
        reads_on = passed.reads_on judge;
        logged = sym (append-nil (entries_at log 0 r.tags));
        standing =
            record {
              stacked = passed.sound;
              numbered = subst (λ (os : List Open). Numbered names s os stack'.depth) (sym same)
                  (λ d h. stands.numbered d (omega arith));
            };
        further = passed.further;
        same_room = refl;
      }

  module _ (from end : ℕ) (met : Met s stack.opens stack.depth place r.at from end) where
    -- the tag that is met
    abbrev new_tag : Tag
    new_tag = tag (open_names s stack.opens stack.depth) (part s from end) (drop end s)

    -- the tag is refused
    pub turn_fault : (k : ℕ) → judge new_tag ≡ k → 0 < k → RefusedAs reading k end
    turn_fault k fault some =
        refused_as reading [] k end
        (met.reads_on judge ∙ name-refused judge s from end (open_names s stack.opens stack.depth) met.here k fault some) some

    module _ (fine : judge new_tag ≡ 0) where
      -- the place after its name
      abbrev after_it : Place
      after_it = named (open_names s stack.opens stack.depth) (part s from end)

      -- reading goes on after its name
      goes_on : reading ≡ with_tags (new_tag ∷ []) (reads judge s after_it end)
      goes_on = met.reads_on judge ∙ name-reads judge s from end (open_names s stack.opens stack.depth) met.here fine

      -- and comes to a byte that no plan can have there
      pub turn_ended : (p : ℕ) → Stops s after_it end p → RefusedAs reading bad_plan p
      turn_ended p stops =
          refused_as reading (new_tag ∷ []) bad_plan p (goes_on ∙ ap (with_tags (new_tag ∷ [])) (stops judge)) (omega arith)

      -- or to the end of the tag, whose entry is in the log
      pub turn_begun :
          (stack' : Stack) (log' : List ℕ) (number : ℕ) (t : Reached) → number ≡ name_number names (part s from end)
          → entries_at log' 0 (r.tags + 1) ≡ entries_at log 0 r.tags ++ (entry number stack.depth ∷ [])
          → length log' ≡ length log
          → Begun names s stack' after_it end r t
          → ReadFurther names judge s stack stack' log log' r t
      turn_begun stack' log' number t is_number put same_room begun =
          record {
            met_tags = new_tag ∷ [];
            reads_on = goes_on ∙ ap (with_tags (new_tag ∷ [])) (begun.reads_on judge);
            logged = ap (entries_at log' 0) begun.one_tag
                ∙ put
                ∙ ap₂ (λ (n d : ℕ). entries_at log 0 r.tags ++ (entry n d ∷ [])) is_number
                (sym (open_count s stack.opens stack.depth));
            standing = begun.standing;
            further = omega (arith, met.further, met.here.some, begun.further);
            same_room = same_room;
          }

-- ---- a whole plan

-- the plan is read up to what is reached, and the tags met are in the log
pub record ReadSoFar (names : List (List ℕ)) (chosen s : List ℕ) (stack : Stack) (log : List ℕ) (r : Reached) : Type 0 where
  pub met_tags : List Tag
  pub reads_on : read_plan names chosen s
      ≡ with_tags met_tags (reads (tag_fault names chosen) s (place_of s stack.opens stack.depth r) r.at)
  pub logged : entries_at log 0 r.tags ≡ map (entry_of names) met_tags
  pub standing : Standing names s stack.opens stack.depth r

-- a plan that ends before its outermost element, or inside an element
ends-badly : (s : List ℕ) (opens : List Open) (depth tags p : ℕ) → (depth ≡ 0 → 0 < tags → ⊥)
    → ended (between (open_names s opens depth) tags) p ≡ refused_at bad_plan p
unfolding open_names ended
ends-badly s opens zero zero p elsewhere = refl
ends-badly s opens zero (suc tags) p elsewhere = absurd (elsewhere refl (omega arith))
ends-badly s opens (suc d) tags p elsewhere = refl

module _ (names : List (List ℕ)) (chosen s : List ℕ) where
  -- nothing is read yet
  pub plan_begins : (stack : Stack) (log : List ℕ) → length stack.opens ≡ plan_depth → stack.depth ≡ 0
      → ReadSoFar names chosen s stack log (record { at = 0; tags = 0 })
  unfolding read_plan open_names entries_at
  plan_begins stack log room none =
      record {
        met_tags = [];
        reads_on = sym (ap (λ (d : ℕ). reads (tag_fault names chosen) s (between (open_names s stack.opens d) 0) 0) none);
        logged = refl;
        standing =
            record {
              stacked =
                  record {
                    within = omega arith;
                    shallow = omega arith;
                    room = room;
                    forward = λ d h. absurd (omega arith);
                    behind = λ d h. absurd (omega arith);
                    begun = omega arith;
                    few = omega arith;
                  };
              numbered = λ d h. absurd (omega arith);
            };
      }

  module _ (stack : Stack) (log : List ℕ) (r : Reached) (so_far : ReadSoFar names chosen s stack log r) where
    -- one turn more
    pub plan_goes : (stack' : Stack) (log' : List ℕ) (t : Reached) → ReadFurther names (tag_fault names chosen) s stack stack' log log' r t
        → ReadSoFar names chosen s stack' log' t
    plan_goes stack' log' t turned =
        let onward = reads (tag_fault names chosen) s (place_of s stack'.opens stack'.depth t) t.at in
        record {
          met_tags = so_far.met_tags ++ turned.met_tags;
          reads_on = so_far.reads_on
              ∙ ap (with_tags so_far.met_tags) turned.reads_on
              ∙ ap (λ (ts : List Tag). record { number = onward.number; place = onward.place; met_tags = ts })
              (sym (append_assoc so_far.met_tags turned.met_tags onward.met_tags));
          logged = turned.logged
              ∙ ap (λ (es : List Entry). es ++ map (entry_of names) turned.met_tags) so_far.logged
              ∙ sym (map-append (entry_of names) so_far.met_tags turned.met_tags);
          standing = turned.standing;
        }

    -- a turn that is refused
    pub plan_refused : (k p : ℕ) → RefusedAs (reads (tag_fault names chosen) s (place_of s stack.opens stack.depth r) r.at) k p
        → RefusedAs (read_plan names chosen s) k p
    plan_refused k p refused =
        record {
          number_is = ap (λ (x : Reading). x.number) so_far.reads_on ∙ refused.number_is;
          place_is = ap (λ (x : Reading). x.place) so_far.reads_on ∙ refused.place_is;
          some = refused.some;
        }

    module _ (at_end_fact : length s ≤ r.at) where
      -- what reading comes to at the plan's end
      comes_to : read_plan names chosen s ≡ with_tags so_far.met_tags (ended (place_of s stack.opens stack.depth r) r.at)
      comes_to =
          so_far.reads_on
          ∙ ap (with_tags so_far.met_tags) (reads_end (tag_fault names chosen) s (place_of s stack.opens stack.depth r) r.at at_end_fact)

      -- after the outermost element
      pub plan_read : stack.depth ≡ 0 → 0 < r.tags → Logged names (read_plan names chosen s) s log r.tags
      unfolding open_names ended
      plan_read outer some =
          let none : eqb r.tags 0 ≡ false =
          told-false (tells_eqb r.tags 0) (λ (e : r.tags ≡ 0). let z : ⊥ = omega arith in z) in
          let is : ended (place_of s stack.opens stack.depth r) r.at ≡ refused_at 0 0 =
          ap (λ (d : ℕ). ended (between (open_names s stack.opens d) r.tags) r.at) outer
          ∙ ap (λ (b : Bool). ended (cond b before after) r.at) none in
          let reading : read_plan names chosen s ≡ with_tags so_far.met_tags (refused_at 0 0) =
          comes_to ∙ ap (with_tags so_far.met_tags) is in
          record {
            no_fault = ap (λ (x : Reading). x.number) reading;
            logged = so_far.logged
                ∙ sym (ap (map (entry_of names)) (ap (λ (x : Reading). x.met_tags) reading ∙ append-nil so_far.met_tags));
            few = omega (arith, so_far.standing.stacked.few, so_far.standing.stacked.within);
          }

      -- anywhere else
      pub plan_unfinished : (stack.depth ≡ 0 → 0 < r.tags → ⊥) → RefusedAs (read_plan names chosen s) bad_plan r.at
      plan_unfinished elsewhere =
          refused_as (read_plan names chosen s) so_far.met_tags bad_plan r.at
          (comes_to ∙ ap (with_tags so_far.met_tags) (ends-badly s stack.opens stack.depth r.tags r.at elsewhere)) (omega arith)

-- the answers of each function
pub ruleset elements = (element_opened, element_empty)

pub ruleset turns = (some_number, turn_past, turn_fault, turn_ended, turn_begun)

pub ruleset plans = (plan_begins, plan_goes, plan_read, plan_unfinished, plan_refused)

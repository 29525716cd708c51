-- Groups met: one target more, the targets of one group's arcs, and all groups in turn, from the root's on. Assumes nothing.
use mathlib.Core.Path.{◌≡◌, refl, sym, ap, ◌∙◌, subst}
use mathlib.Core.Logic.{◌⊎◌, ⊎_elim}
use mathlib.Core.Bool.{Bool, true, false, cond}
use mathlib.Core.List.Memᴰ.{head as here}
use mathlib.Core.List.{List, [], ◌∷◌, ◌++◌, Memᴰ as In}
use mathlib.Core.List.Memᴰ
use Prim.Native.Nat.{ℕ, zero, suc, ◌+◌, ◌<◌, ◌≤◌}
use native.Mathlib.Numerals.{add-one}
use native.Mathlib.Omega.{arith}
use lib.ListN.{length, get_or, set, take, replicate, length-append, length-set, length-replicate, get_or-replicate, get_or-append}
use lib.Seq.{take-suc-set, get_or-set_same, get_or-set_other, get_or-take}
use Rattle.base.specs.Limits.{name_limit, state_limit}
use Rattle.base.specs.Lists.{any, is_in, index_in}
use Rattle.model.specs.Classes.{Word}
use Rattle.model.specs.Tables.{Arc}
use Rattle.model.specs.Joinings.{Transition, tree_of, transitions_of}
use Rattle.model.specs.Quotients.{arcs_out_of, met_with, met_from, met_groups}
use Rattle.base.proofs.Tests.{tells_is_in, not_told}
use Rattle.base.proofs.Places.{nth_in, nth_of_index, index_after, index_front}
use Rattle.model.proofs.Trees.{tree_of-tree}
use Rattle.model.proofs.Meeting.{met_with-grown}
use Rattle.model.proofs.FirstMet.{met-few}
use Rattle.model.proofs.MetOrder.{met_from-appends, met_from-ends, met_from-step}
use Rattle.base.specs.Cells.{cell_at}
use Rattle.base.specs.Sets.{TakenLowest}
use Rattle.indexed.specs.ArcCells.{ArcsAt}
use Rattle.quotient.specs.Gathered.{Gathered}
use Rattle.quotient.specs.Numbered.{MetAs, MeetingOne, Meeting}
use Rattle.indexed.proofs.ArcSets.{arcs_more, arcs_done}
use Rattle.indexed.proofs.TreeArcs.{labels_fit, label_low, root_group, tree_some}

-- ---- one target

-- the i-th group met
pub met-nth :
    {n : ℕ} {met numbers : List ℕ} {count : ℕ} (seen : List ℕ) → MetAs n met numbers count seen → (i : ℕ) →
    i < count → get_or met i 0 ≡ get_or seen i 0
met-nth {n} {met} {numbers} {count} seen r i h =
    let counted : count ≡ length seen = r.counted in
    sym (get_or-take (length seen) met i 0 (omega arith)) ∙ ap (λ (l : List ℕ). get_or l i 0) r.listed

-- is a number of the groups
pub met-low :
    {n : ℕ} {met numbers : List ℕ} {count : ℕ} (seen : List ℕ) → MetAs n met numbers count seen → (i : ℕ) →
    i < count → get_or met i 0 < n
met-low {n} {met} {numbers} {count} seen r i h =
    let counted : count ≡ length seen = r.counted in
    subst (λ (g : ℕ). g < n) (sym (met-nth seen r i h)) (r.low (get_or seen i 0) (nth_in 0 seen i (omega arith)))

module _ {n : ℕ} {met numbers : List ℕ} {count target : ℕ} {after : List ℕ} (r : MeetingOne n met numbers count target after) where
  -- a target with a number is met
  old_is :
      (b : Bool) → is_in target r.seen ≡ b → (get_or numbers target 0 ≡ state_limit → ⊥) →
      after ≡ cond b r.seen (r.seen ++ (target ∷ [])) → after ≡ r.seen
  old_is true e d k = k
  old_is false e d k = absurd (d (r.so_far.unmet target r.target_low (not_told (tells_is_in target r.seen) e)))

  pub meet_old : (get_or numbers target 0 ≡ state_limit → ⊥) → MetAs n met numbers count after
  meet_old d =
      subst (λ (l : List ℕ). MetAs n met numbers count l)
      (sym (old_is (is_in target r.seen) refl d r.comes_to)) r.so_far

  -- a target without one is new
  new_is :
      (b : Bool) → is_in target r.seen ≡ b → get_or numbers target 0 ≡ state_limit →
      after ≡ cond b r.seen (r.seen ++ (target ∷ [])) →
      (after ≡ r.seen ++ (target ∷ [])) × (In target r.seen → ⊥)
  new_is true e h k =
      let m : In target r.seen = (tells_is_in target r.seen).fact e in
      let place = nth_of_index r.seen target m in
      let z : ⊥ = omega (arith, place.0, r.so_far.numbered target m, ap length k, r.fits, r.so_far.few) in
      absurd z
  new_is false e h k = (k, not_told (tells_is_in target r.seen) e)

  grown : get_or numbers target 0 ≡ state_limit → (after ≡ r.seen ++ (target ∷ [])) × (In target r.seen → ⊥)
  grown h = new_is (is_in target r.seen) refl h r.comes_to

  after-length : get_or numbers target 0 ≡ state_limit → length after ≡ suc count
  after-length h =
      omega (arith, ap length (grown h).0, length-append r.seen (target ∷ []), r.so_far.counted)

  pub meet_room : get_or numbers target 0 ≡ state_limit → count < n
  meet_room h = omega (arith, after-length h, r.fits)

  pub meet_new :
      get_or numbers target 0 ≡ state_limit → (t k : ℕ) → t ≡ target → k ≡ count →
      MetAs n (set met count t) (set numbers target k) (count + 1) after
  meet_new h t k te ke =
      let new = grown h in
      let room : count < n = meet_room h in
      let met_size : n ≤ length met = r.so_far.met_size in
      let numbers_size : n ≤ length numbers = r.so_far.numbers_size in
      let counted : count ≡ length r.seen = r.so_far.counted in
      let within : count < length met = omega arith in
      let long : length after ≡ suc count = after-length h in
      rw (te, ke)
      (record {
        few = r.so_far.few;
        met_size = simp length-set met_size;
        numbers_size = simp length-set numbers_size;
        counted = omega arith;
        listed =
            ap (λ (j : ℕ). take j (set met count target)) long
            ∙ take-suc-set met count target within
            ∙ ap (λ (j : ℕ). take j met ++ (target ∷ [])) counted
            ∙ ap (λ (l : List ℕ). l ++ (target ∷ [])) r.so_far.listed
            ∙ sym new.0;
        low = λ g m.
            ⊎_elim (λ p. r.so_far.low g p)
            (λ p. subst (λ (x : ℕ). x < n) (sym (Memᴰ.eq_of_singleton p)) r.target_low)
            (cases g m);
        numbered = λ g m.
            ⊎_elim
            (λ p.
            let other : g ≡ target → ⊥ = λ e. new.1 (subst (λ (x : ℕ). In x r.seen) e p) in
            get_or-set_other numbers target g count 0 other ∙ r.so_far.numbered g p
            ∙ sym (index_front g r.seen (target ∷ []) p)
            ∙ ap (index_in g) (sym new.0))
            (λ p.
            let same : g ≡ target = Memᴰ.eq_of_singleton p in
            ap (λ (x : ℕ). get_or (set numbers target count) x 0) same
            ∙ get_or-set_same numbers target count 0 (omega (arith, r.target_low))
            ∙ counted
            ∙ sym (index_after target r.seen [] new.1)
            ∙ ap (λ (x : ℕ). index_in x (r.seen ++ (target ∷ []))) (sym same)
            ∙ ap (index_in g) (sym new.0))
            (cases g m);
        unmet = λ g low out.
            let other : g ≡ target → ⊥ =
            λ e. out (subst (λ (l : List ℕ). In g l) (sym new.0) (Memᴰ.append_right r.seen (here e))) in
            get_or-set_other numbers target g count 0 other
            ∙ r.so_far.unmet g low
            (λ m. out (subst (λ (l : List ℕ). In g l) (sym new.0) (Memᴰ.append_left (target ∷ []) m)));
      })
    where
      cases : (g : ℕ) → In g after → In g r.seen ⊎ In g (target ∷ [])
      cases g m = Memᴰ.append_cases r.seen (subst (λ (l : List ℕ). In g l) (grown h).0 m)

-- ---- the targets of one group's arcs

-- there is a next target, and what is left after it
pub record MeetingMore
    (n : ℕ) (work : List ℕ) (row rest : ℕ) (met numbers : List ℕ) (count : ℕ) (after : List ℕ) (name target : ℕ) : Type 0 where
  pub one : List ℕ
  pub single : MeetingOne n met numbers count target one
  pub then :
      (met' numbers' : List ℕ) (reached : ℕ) → MetAs n met' numbers' reached one →
      Meeting n work row rest met' numbers' reached after

met_with-cons : (met : List ℕ) (a : Arc) (arcs : List Arc) →
    met_with met (a ∷ arcs) ≡ met_with (cond (is_in a.to met) met (met ++ (a.to ∷ []))) arcs
unfolding met_with
met_with-cons met a arcs = refl

met_with-none : (met : List ℕ) → met_with met [] ≡ met
unfolding met_with
met_with-none met = refl

-- meeting more makes no list shorter
met_with-length : (met : List ℕ) (arcs : List Arc) → length met ≤ length (met_with met arcs)
met_with-length met arcs =
    let grown = met_with-grown met arcs in
    omega (arith, ap length grown.begins, length-append met grown.more)

module _ {n : ℕ} {work : List ℕ} {row set : ℕ} {met numbers : List ℕ} {count : ℕ} {after : List ℕ} where
  pub meeting_name :
      (name rest : ℕ) → Meeting n work row set met numbers count after → TakenLowest set name rest → name < name_limit
  meeting_name name rest r taken = (arcs_more name r.arcs r.at_row taken.some taken.lowest).low

  pub meeting_more :
      (name target rest : ℕ) → Meeting n work row set met numbers count after → TakenLowest set name rest →
      target ≡ cell_at work row name → MeetingMore n work row rest met numbers count after name target
  meeting_more name target rest r taken f =
      let next = arcs_more name r.arcs r.at_row taken.some taken.lowest in
      let a = next.first in
      let seen = r.seen in
      let to_is : target ≡ a.to = f ∙ next.in_cell in
      let one = cond (is_in target seen) seen (seen ++ (target ∷ [])) in
      let goes_on : after ≡ met_with one next.rest =
      r.comes_to ∙ ap (met_with seen) next.is ∙ met_with-cons seen a next.rest
      ∙ ap (λ (t : ℕ). met_with (cond (is_in t seen) seen (seen ++ (t ∷ []))) next.rest) (sym to_is) in
      record {
        one = one;
        single =
            record {
              seen = seen;
              so_far = r.so_far;
              target_low = omega (arith, next.target_low);
              comes_to = refl;
              fits = omega (arith, r.fits, ap length goes_on, met_with-length one next.rest);
            };
        then = λ met' numbers' reached m.
            record {
              seen = one;
              arcs = next.rest;
              so_far = m;
              at_row = subst (λ (k : ℕ). ArcsAt n work row k next.rest) (sym taken.rest_is) next.after;
              comes_to = goes_on;
              fits = r.fits;
            };
      }

  pub meeting_done : Meeting n work row set met numbers count after → set ≡ 0 → MetAs n met numbers count after
  meeting_done r h =
      subst (λ (l : List ℕ). MetAs n met numbers count l)
      (sym (r.comes_to ∙ ap (met_with r.seen) (arcs_done r.arcs r.at_row (omega arith)) ∙ met_with-none r.seen))
      r.so_far

-- ---- all groups

-- the first i groups met are looked at, and some looks are left
pub record Numbering (rows : List Word) (groups met numbers : List ℕ) (i count : ℕ) : Type 0 where
  pub seen : List ℕ
  pub looks : ℕ
  pub so_far : MetAs (length (tree_of rows)) met numbers count seen
  pub enough : length (tree_of rows) ≤ looks + i
  pub comes_to : met_groups (tree_of rows) groups ≡ met_from looks i (transitions_of (tree_of rows) groups) seen

-- all looks together only add
met_from-adds : (n i : ℕ) (ts : List Transition) (met : List ℕ) → length met ≤ length (met_from n i ts met)
met_from-adds n i ts met =
    let more = met_from-appends n i ts met in
    omega (arith, ap length more.1, length-append met more.0)

root_new : (g : ℕ) → g ∷ [] ≡ cond (is_in g []) [] ([] ++ (g ∷ []))
unfolding is_in any
root_new g = refl

module _ (rows : List Word) (groups work next : List ℕ) (gathered : Gathered rows groups work next) where
  -- nothing met yet, and the root's group to be met
  pub root_meeting :
      (met numbers₀ numbers : List ℕ) (root : ℕ) → length groups ≤ length met → length groups ≤ length numbers₀ →
      numbers ≡ replicate (length numbers₀) state_limit → root ≡ get_or groups 0 0 →
      MeetingOne (length (tree_of rows)) met numbers 0 root (root ∷ [])
  root_meeting met numbers₀ numbers root met-fits numbers-fits e root_is =
      let size : length groups ≡ length (tree_of rows) = gathered.labels.size in
      let some : 0 < length (tree_of rows) = tree_some rows in
      record {
        seen = [];
        so_far =
            record {
              few = gathered.few;
              met_size = omega arith;
              numbers_size = omega (arith, ap length e, length-replicate {A = ℕ} (length numbers₀) state_limit);
              counted = refl;
              listed = refl;
              low = λ g m. absurd (Memᴰ.not-nil m);
              numbered = λ g m. absurd (Memᴰ.not-nil m);
              unmet = λ g low out.
                  ap (λ (l : List ℕ). get_or l g 0) e
                  ∙ get_or-replicate (length numbers₀) g state_limit 0 (omega arith);
            };
        target_low = omega (arith, label_low gathered.labels 0 some);
        comes_to = root_new root;
        fits = omega arith;
      }

  pub numbering_start :
      (met numbers : List ℕ) (root count : ℕ) → root ≡ get_or groups 0 0 →
      MetAs (length (tree_of rows)) met numbers count (root ∷ []) → Numbering rows groups met numbers 0 count
  unfolding met_groups
  numbering_start met numbers root count root_is r =
      record {
        seen = root ∷ [];
        looks = length (tree_of rows);
        so_far = r;
        enough = omega arith;
        comes_to =
            ap (λ (g : ℕ). met_from (length (tree_of rows)) 0 (transitions_of (tree_of rows) groups) (g ∷ []))
            (root_group rows groups gathered.labels (tree_some rows) ∙ sym root_is);
      }

  -- the next group met: its arcs' targets are to be met, and then it is looked at
  pub record Look (met numbers : List ℕ) (i count g set : ℕ) : Type 0 where
    pub after : List ℕ
    pub meeting : Meeting (length (tree_of rows)) work g set met numbers count after
    pub then :
        (met' numbers' : List ℕ) (reached : ℕ) → MetAs (length (tree_of rows)) met' numbers' reached after →
        Numbering rows groups met' numbers' (i + 1) reached

  every_few : length (met_groups (tree_of rows) groups) ≤ length (tree_of rows)
  every_few = met-few (tree_of rows) groups (tree_of-tree rows) (labels_fit rows groups gathered.labels)

  look_at :
      (met numbers : List ℕ) (i count g : ℕ) (r : Numbering rows groups met numbers i count) → i < count → g ≡ get_or met i 0 →
      (looks : ℕ) → r.looks ≡ looks → Look met numbers i count g (get_or next g 0)
  look_at met numbers i count g r h e zero k =
      let counted : count ≡ length r.seen = r.so_far.counted in
      let z : ⊥ =
      omega (
        arith,
        r.enough,
        every_few,
        ap length r.comes_to,
        met_from-adds r.looks i (transitions_of (tree_of rows) groups) r.seen,
      ) in
      absurd z
  look_at met numbers i count g r h e (suc looks) k =
      let ts = transitions_of (tree_of rows) groups in
      let seen = r.seen in
      let counted : count ≡ length seen = r.so_far.counted in
      let g-is : g ≡ get_or seen i 0 = e ∙ met-nth seen r.so_far i h in
      let g-low : g < length (tree_of rows) = omega (arith, met-low seen r.so_far i h) in
      let goes_on : met_groups (tree_of rows) groups ≡ met_from looks (suc i) ts (met_with seen (arcs_out_of g ts)) =
      r.comes_to ∙ ap (λ (n : ℕ). met_from n i ts seen) k ∙ met_from-step looks i ts seen (omega arith)
      ∙ ap (λ (x : ℕ). met_from looks (suc i) ts (met_with seen (arcs_out_of x ts))) (sym g-is) in
      record {
        after = met_with seen (arcs_out_of g ts);
        meeting =
            record {
              seen = seen;
              arcs = arcs_out_of g ts;
              so_far = r.so_far;
              at_row = gathered.arcs_at g g-low;
              comes_to = refl;
              fits = omega (arith, every_few, ap length goes_on, met_from-adds looks (suc i) ts (met_with seen (arcs_out_of g ts)));
            };
        then = λ met' numbers' reached m.
            record {
              seen = met_with seen (arcs_out_of g ts);
              looks = looks;
              so_far = m;
              enough = omega (arith, r.enough, k);
              comes_to = goes_on ∙ ap (λ (j : ℕ). met_from looks j ts (met_with seen (arcs_out_of g ts))) (sym (add-one i));
            };
      }

  -- no more are met than there are states
  pub numbering_few :
      (met numbers : List ℕ) (i count : ℕ) → Numbering rows groups met numbers i count → count ≤ length (tree_of rows)
  numbering_few met numbers i count r =
      omega (
        arith,
        every_few,
        ap length r.comes_to,
        met_from-adds r.looks i (transitions_of (tree_of rows) groups) r.seen,
        r.so_far.counted,
      )

  -- the i-th group met is the i-th of all
  pub numbering_nth :
      (met numbers : List ℕ) (i count g : ℕ) → Numbering rows groups met numbers i count → i < count → g ≡ get_or met i 0 →
      (i < length (met_groups (tree_of rows) groups)) × (g ≡ get_or (met_groups (tree_of rows) groups) i 0)
  numbering_nth met numbers i count g r h e =
      let more = met_from-appends r.looks i (transitions_of (tree_of rows) groups) r.seen in
      let every-is : met_groups (tree_of rows) groups ≡ r.seen ++ more.0 = r.comes_to ∙ more.1 in
      let early : i < length r.seen = omega (arith, r.so_far.counted) in (
        omega (arith, ap length every-is, length-append r.seen more.0),
        e ∙ met-nth r.seen r.so_far i h ∙ sym (get_or-append r.seen more.0 0 i early)
            ∙ ap (λ (l : List ℕ). get_or l i 0) (sym every-is),
      )

  pub numbering_more :
      (met numbers : List ℕ) (i count g set : ℕ) → Numbering rows groups met numbers i count → i < count → g ≡ get_or met i 0 →
      set ≡ get_or next g 0 → Look met numbers i count g set
  numbering_more met numbers i count g set r h e f =
      subst (λ (s : ℕ). Look met numbers i count g s) (sym f) (look_at met numbers i count g r h e r.looks refl)

  pub numbering_end :
      (met numbers : List ℕ) (i count : ℕ) → Numbering rows groups met numbers i count → count ≤ i →
      MetAs (length (tree_of rows)) met numbers count (met_groups (tree_of rows) groups)
  numbering_end met numbers i count r h =
      let counted : count ≡ length r.seen = r.so_far.counted in
      subst (λ (l : List ℕ). MetAs (length (tree_of rows)) met numbers count l)
      (sym (r.comes_to ∙ met_from-ends r.looks i (transitions_of (tree_of rows) groups) r.seen (omega arith)))
      r.so_far

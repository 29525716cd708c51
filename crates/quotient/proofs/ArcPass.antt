-- The pass that gathers the arcs: what holds when the tree arcs into the states before v are gathered, at the start, after one more, and
-- at the end. Assumes nothing.
use mathlib.Core.Path.{◌≡◌, sym, ap, ap₂, ◌∙◌, subst}
use mathlib.Core.Logic.{◌⊎◌, inl, inr, ⊎_elim, ◌↔◌}
use mathlib.Core.List.Memᴰ
use mathlib.Core.List.{List, Memᴰ as In}
use Prim.Native.Nat.{ℕ, ◌+◌, ◌^◌, ◌<◌, ◌≤◌}
use native.Mathlib.Omega.{arith}
use lib.Bits.{bit_or}
use lib.ListN.{length, get_or, set, replicate, length-set, length-replicate, get_or-replicate}
use lib.Seq.{get_or-set_same, get_or-set_other}
use Rattle.base.specs.Limits.{name_limit, state_limit, work_bytes}
use Rattle.model.specs.Classes.{Word}
use Rattle.model.specs.Tables.{Arc, arc, name_set}
use Rattle.model.specs.Joinings.{tree_of, transition, transitions_of}
use Rattle.model.specs.Quotients.{arcs_out_of}
use Rattle.model.proofs.Arcs.{arcs_out_of-ascending, arcs_out_of-in, in_arcs_out_of}
use Rattle.model.proofs.NameSets.{bit-name_set}
use Rattle.base.proofs.Tests.{eq_dec}
use Rattle.base.specs.Bits.{bit}
use Rattle.base.proofs.Bits.{bit-zero, bit-of_set, bits_told}
use Rattle.base.specs.Cells.{cell_at, with_cell}
use Rattle.base.proofs.CellLaws.{length-with_cell, cell_same, cell_other}
use Rattle.indexed.specs.Partitions.{Joined}
use Rattle.indexed.specs.ArcCells.{ArcsAt}
use Rattle.quotient.specs.Gathered.{Gathered}
use Rattle.indexed.proofs.TreeArcs.{TreeArc, label_low, transition-number, number-transition, one_target, from_low, name_low}

-- some tree arc into a state before v leaves group g by name a
pub record Leaves (v : ℕ) (parents names groups : List ℕ) (g a : ℕ) : Type 0 where
  pub by : ℕ
  pub not_root : 0 < by
  pub early : by < v
  pub low : by < length groups
  pub from_is : get_or groups (get_or parents by 0) 0 ≡ g
  pub name_is : get_or names by 0 ≡ a

-- the tree arcs into the states before v are gathered
pub record GatheredUpTo (v : ℕ) (parents names groups work next : List ℕ) : Type 0 where
  pub work_size : work_bytes ≤ length work
  pub next_size : length groups ≤ length next
  pub in_cells :
      (w : ℕ) → 0 < w → w < v → w < length groups →
      cell_at work (get_or groups (get_or parents w 0) 0) (get_or names w 0) ≡ get_or groups w 0
  pub in_sets : (g a : ℕ) → g < length groups → (bit a (get_or next g 0) ≡ 1) ↔ Leaves v parents names groups g a

-- nothing gathered yet
pub gather_start :
    (parents names groups work next₀ next : List ℕ) → work_bytes ≤ length work → length groups ≤ length next₀ →
    next ≡ replicate (length next₀) 0 → GatheredUpTo 1 parents names groups work next
gather_start parents names groups work next₀ next room fits e =
    record {
      work_size = room;
      next_size = omega (arith, ap length e, length-replicate {A = ℕ} (length next₀) 0);
      in_cells = λ w pos low h. let z : ⊥ = omega arith in absurd z;
      in_sets = λ g a h. (
        λ b. let z : ⊥ = omega (arith, off g a h) in absurd z,
        λ r. let z : ⊥ = omega (arith, r.not_root, r.early) in absurd z,
      );
    }
  where
    off : (g a : ℕ) → g < length groups → bit a (get_or next g 0) ≡ 0
    off g a h =
        let low : g < length next₀ = omega arith in
        ap (λ (l : List ℕ). bit a (get_or l g 0)) e ∙ ap (bit a) (get_or-replicate (length next₀) g 0 0 low) ∙ bit-zero a

module _ (rows : List Word) (parents names groups : List ℕ) (joined : Joined rows parents names groups) where
  -- one more tree arc
  module _ (v : ℕ) (work next : List ℕ) (pos : 0 < v) (inside : v < length groups)
      (before : GatheredUpTo v parents names groups work next) where
    from : ℕ
    from = get_or groups (get_or parents v 0) 0

    name : ℕ
    name = get_or names v 0

    cells-then :
        (w : ℕ) → 0 < w → w < v + 1 → w < length groups →
        cell_at (with_cell work from name (get_or groups v 0)) (get_or groups (get_or parents w 0) 0) (get_or names w 0) ≡ get_or groups w 0
    unfolding from name
    cells-then w pw hw lw = go (eq_dec (get_or groups (get_or parents w 0) 0) from) (eq_dec (get_or names w 0) name)
      where
        size : length groups ≡ length (tree_of rows)
        size = joined.labels.size

        now : List ℕ
        now = with_cell work from name (get_or groups v 0)

        kept :
            ((get_or groups (get_or parents w 0) 0 ≡ from) → (get_or names w 0 ≡ name) → ⊥) →
            cell_at now (get_or groups (get_or parents w 0) 0) (get_or names w 0) ≡ get_or groups w 0
        kept d =
            let other : w ≡ v → ⊥ =
            λ e. d (ap (λ (k : ℕ). get_or groups (get_or parents k 0) 0) e) (ap (λ (k : ℕ). get_or names k 0) e) in
            let early : w < v = omega (arith, other) in
            cell_other work from name (get_or groups v 0) (get_or groups (get_or parents w 0) 0) (get_or names w 0)
            (name_low rows parents names groups joined v pos inside) (name_low rows parents names groups joined w pw lw) d
            ∙ before.in_cells w pw early lw

        go :
            (get_or groups (get_or parents w 0) 0 ≡ from) ⊎ (get_or groups (get_or parents w 0) 0 ≡ from → ⊥) →
            (get_or names w 0 ≡ name) ⊎ (get_or names w 0 ≡ name → ⊥) →
            cell_at now (get_or groups (get_or parents w 0) 0) (get_or names w 0) ≡ get_or groups w 0
        go (inr d) k = kept (λ e f. d e)
        go (inl e) (inr d) = kept (λ f g. d g)
        go (inl e) (inl f) =
            let few : length (tree_of rows) ≤ state_limit = joined.few in
            let row_low : from < length groups = from_low rows parents names groups joined v pos inside in
            ap (λ (k : ℕ). cell_at now k (get_or names w 0)) e ∙ ap (cell_at now from) f
            ∙ cell_same work from name (get_or groups v 0) (omega arith) (name_low rows parents names groups joined v pos inside)
            before.work_size
            ∙ sym (joined.forks w v pw pos (omega arith) (omega arith) f e)

    sets_then :
        (g a : ℕ) → g < length groups →
        (bit a (get_or (set next from (bit_or (get_or next from 0) (2 ^ name))) g 0) ≡ 1) ↔ Leaves (v + 1) parents names groups g a
    unfolding from name
    sets_then g a low = go (eq_dec g from)
      where
        now : List ℕ
        now = set next from (bit_or (get_or next from 0) (2 ^ name))

        later : Leaves v parents names groups g a → Leaves (v + 1) parents names groups g a
        later r =
            record {
              by = r.by;
              not_root = r.not_root;
              early = omega (arith, r.early);
              low = r.low;
              from_is = r.from_is;
              name_is = r.name_is;
            }

        -- an arc that is not the new one was there
        earlier :
            (r : Leaves (v + 1) parents names groups g a) → (r.by ≡ v) ⊎ (r.by ≡ v → ⊥) →
            ((g ≡ from) × (a ≡ name)) ⊎ Leaves v parents names groups g a
        earlier r (inl e) =
            inl (
              sym r.from_is ∙ ap (λ (k : ℕ). get_or groups (get_or parents k 0) 0) e,
              sym r.name_is ∙ ap (λ (k : ℕ). get_or names k 0) e,
            )
        earlier r (inr d) =
            inr
            (record {
              by = r.by;
              not_root = r.not_root;
              early = omega (arith, r.early, d);
              low = r.low;
              from_is = r.from_is;
              name_is = r.name_is;
            })

        told : (bit a (get_or next g 0) ≡ 1) ↔ Leaves v parents names groups g a
        told = before.in_sets g a low

        go : (g ≡ from) ⊎ (g ≡ from → ⊥) → (bit a (get_or now g 0) ≡ 1) ↔ Leaves (v + 1) parents names groups g a
        go (inr d) =
            let same : get_or now g 0 ≡ get_or next g 0 = get_or-set_other next from g (bit_or (get_or next from 0) (2 ^ name)) 0 d in (
              λ h. later (told.0 (ap (bit a) (sym same) ∙ h)),
              λ r. ap (bit a) same
                  ∙ ⊎_elim (λ e. absurd (d e.0)) (λ s. told.1 s) (earlier r (eq_dec r.by v)),
            )
        go (inl e) =
            let fits : length groups ≤ length next = before.next_size in
            let row_low : from < length groups = from_low rows parents names groups joined v pos inside in
            let same : get_or now g 0 ≡ bit_or (get_or next g 0) (2 ^ name) =
            ap (λ (k : ℕ). get_or now k 0) e ∙ get_or-set_same next from (bit_or (get_or next from 0) (2 ^ name)) 0 (omega arith)
            ∙ ap (λ (k : ℕ). bit_or (get_or next k 0) (2 ^ name)) (sym e) in
            let with-bit = bit-of_set a (get_or next g 0) name in (
              λ h. ⊎_elim (λ b. later (told.0 b))
                  (λ k. record { by = v; not_root = pos; early = omega arith; low = inside; from_is = sym e; name_is = sym k })
                  (with-bit.0 (ap (bit a) (sym same) ∙ h)),
              λ r. ap (bit a) same
                  ∙ with-bit.1 (⊎_elim (λ k. inr k.1) (λ s. inl (told.1 s)) (earlier r (eq_dec r.by v))),
            )

    gather-more :
        GatheredUpTo (v + 1) parents names groups (with_cell work from name (get_or groups v 0))
        (set next from (bit_or (get_or next from 0) (2 ^ name)))
    gather-more =
        record {
          work_size = omega (arith, length-with_cell work from name (get_or groups v 0), before.work_size);
          next_size = omega (arith, length-set next from (bit_or (get_or next from 0) (2 ^ name)), before.next_size);
          in_cells = cells-then;
          in_sets = sets_then;
        }

    -- the same of what the pass has then
    pub gathered-more :
        (row column value : ℕ) (work' next' : List ℕ) → row ≡ get_or groups (get_or parents v 0) 0 → column ≡ get_or names v 0 →
        value ≡ get_or groups v 0 → work' ≡ with_cell work row column value →
        next' ≡ set next row (bit_or (get_or next row 0) (2 ^ get_or names v 0)) →
        GatheredUpTo (v + 1) parents names groups work' next'
    unfolding from name
    gathered-more row column value work' next' e f g h k = rw (h, k, e, f, g) gather-more

  -- all arcs are gathered
  pub gather_end :
      (v : ℕ) (work next : List ℕ) → length groups ≤ v → GatheredUpTo v parents names groups work next →
      Gathered rows groups work next
  gather_end v work next end r =
      record {
        few = joined.few;
        labels = joined.labels;
        deterministic = one_target rows parents names groups joined;
        work_size = r.work_size;
        next_size = omega (arith, r.next_size, joined.labels.size);
        arcs_at = at;
      }
    where
      size : length groups ≡ length (tree_of rows)
      size = joined.labels.size

      there-is :
          (g a : ℕ) (s : Leaves v parents names groups g a) →
          In (transition g a (get_or groups s.by 0)) (transitions_of (tree_of rows) groups)
      there-is g a s =
          Memᴰ.cast (ap₂ (λ (x k : ℕ). transition x k (get_or groups s.by 0)) (sym s.from_is) (sym s.name_is))
          (number-transition rows parents names groups joined s.by s.not_root (omega (arith, s.low)))

      at :
          (g : ℕ) → g < length (tree_of rows) →
          ArcsAt (length (tree_of rows)) work g (get_or next g 0) (arcs_out_of g (transitions_of (tree_of rows) groups))
      at g low =
          let ts = transitions_of (tree_of rows) groups in
          let arcs = arcs_out_of g ts in
          let ascends = arcs_out_of-ascending g ts in
          let tree-arc : (a : Arc) → In a arcs → TreeArc (length (tree_of rows)) parents names groups g a.name a.to =
          λ a m. transition-number rows parents names groups joined g a.name a.to (arcs_out_of-in g a.name a.to ts m) in
          record {
            from = 0;
            ascending = ascends;
            names_low = λ a m.
                let t = tree-arc a m in
                subst (λ (k : ℕ). k < name_limit) t.name_is
                (joined.tree.name_below t.number t.not_root t.low);
            set_is =
                bits_told (get_or next g 0) (name_set arcs) (λ a. (
                  λ h.
                      let s = (r.in_sets g a (omega arith)).0 h in
                      (bit-name_set 0 arcs ascends a).1 (
                        get_or groups s.by 0,
                        in_arcs_out_of g a (get_or groups s.by 0) ts (one_target rows parents names groups joined)
                            (there-is g a s),
                      ),
                  λ h.
                      let s = (bit-name_set 0 arcs ascends a).0 h in
                      let t = tree-arc (arc a s.0) s.1 in
                      (r.in_sets g a (omega arith)).1
                      (record {
                        by = t.number;
                        not_root = t.not_root;
                        early = omega (arith, t.low);
                        low = omega (arith, t.low);
                        from_is = t.from_is;
                        name_is = t.name_is;
                      }),
                ));
            in_cells = λ a m.
                let t = tree-arc a m in
                subst (λ (k : ℕ). cell_at work g k ≡ a.to) t.name_is
                (subst (λ (k : ℕ). cell_at work k (get_or names t.number 0) ≡ a.to) t.from_is
                (r.in_cells t.number t.not_root (omega (arith, t.low)) (omega (arith, t.low)) ∙ t.to_is));
            targets_low = λ a m.
                let t = tree-arc a m in
                subst (λ (k : ℕ). k < length (tree_of rows)) t.to_is (label_low joined.labels t.number t.low);
          }

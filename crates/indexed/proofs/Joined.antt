-- The joined partition of a book, by number: it is closed under forks and under the class's rule, so what the passes join lies
-- inside it. Assumes nothing.
use mathlib.Core.Path.{◌≡◌, refl, sym, ap, ◌∙◌, subst, subst₂}
use mathlib.Core.Logic.{◌↔◌}
use mathlib.Core.Bool.{true, false}
use mathlib.Core.List.Memᴰ
use mathlib.Core.List.{List, ◌++◌, Memᴰ as In}
use Prim.Native.Nat.{ℕ, ◌+◌, ◌-◌, ◌<◌, ◌≤◌}
use native.Mathlib.Omega.{arith}
use lib.Dec.{eqb}
use lib.ListN.{length, get_or, take, drop, length-drop, take-append-drop}
use Rattle.model.specs.Fields.{Class}
use Rattle.model.specs.Classes.{Word, f_of, last_names}
use Rattle.model.specs.Joinings.{tree_of, joined_groups}
use Rattle.model.proofs.Notions.{Fits, Ways, OneContext, Closed, Inside, Ker, ◌▸◌}
use Rattle.model.proofs.Trees.{tree_of-tree}
use Rattle.model.proofs.Transitions.{beginning_in, walks_down}
use Rattle.model.proofs.Sound.{walks_ways}
use Rattle.model.proofs.Joined.{joined_groups-joined, joined_closed, members_agree}
use Rattle.indexed.specs.Trees.{word_at, TreeArrays, EndsArray, SameSuffix}
use Rattle.indexed.specs.Partitions.{Refines, ForkClosed, Share, ContextClosed, EndsClosed, BackClosed}
use Rattle.indexed.proofs.Ends.{ended-row}
use Rattle.indexed.proofs.Words.{word_at-in, suffix_words}
use Rattle.indexed.proofs.Kernels.{parent_below, arc-into, number-ker, ker_number, share_ways}

-- equal classes are equal f
pub record ClassesOfF (c : Class) (rows : List Word) (classes : List ℕ) : Type 0 where
  pub told :
      (v w : ℕ) → v < length (tree_of rows) → w < length (tree_of rows) →
      (get_or classes v 0 ≡ get_or classes w 0) ↔ (f_of c (word_at rows v) ≡ f_of c (word_at rows w))

-- ---- ways into a state

length_last : (i : ℕ) (w : Word) → i ≤ length w → length (last_names i w) ≡ i
unfolding last_names
length_last i w h =
    let n = length w - i in
    let e : length (drop n w) ≡ length w - n = length-drop n w in
    omega arith

-- the last i names of a node lead into it, from a node
way_into :
    (rows : List Word) (groups : List ℕ) (i : ℕ) (w : Word) → In w (tree_of rows) →
    (s : Word) × In s (tree_of rows) × Ways (tree_of rows) (Ker (tree_of rows) groups) s (last_names i w) w
unfolding last_names
way_into rows groups i w m =
    let n = length w - i in
    let whole : take n w ++ drop n w ≡ w = take-append-drop n w in
    let node : In (take n w ++ drop n w) (tree_of rows) = Memᴰ.cast whole m in
    let from : In (take n w) (tree_of rows) = beginning_in (tree_of rows) (tree_of-tree rows) (take n w) (drop n w) node in
    let way : Ways (tree_of rows) (Ker (tree_of rows) groups) (take n w) (drop n w) (take n w ++ drop n w) =
    walks_ways (tree_of rows) groups (Ker (tree_of rows) groups) (tree_of-tree rows) own (drop n w) (take n w) (take n w ++ drop n w)
    from node (walks_down (tree_of rows) groups (tree_of-tree rows) (take n w) (drop n w) node) in
    (take n w, from, subst (λ (t : Word). Ways (tree_of rows) (Ker (tree_of rows) groups) (take n w) (drop n w) t) whole way)
  where
    own : Inside (tree_of rows) groups (Ker (tree_of rows) groups)
    own = record { related = λ u v a b e. record { left_node = a; right_node = b; one_group = e } }

-- ---- the joined partition

module _ (c : Class) (rows : List Word) (parents names : List ℕ) (tree : TreeArrays rows parents names) where
  joined_fits : Fits (tree_of rows) (joined_groups c rows)
  joined_fits = (joined_groups-joined c rows).fits

  closed : Closed c rows (tree_of rows) (Ker (tree_of rows) (joined_groups c rows))
  closed = joined_closed c rows (joined_groups c rows) (joined_groups-joined c rows)

  one :
      (v w : ℕ) → v < length (tree_of rows) → w < length (tree_of rows) →
      get_or (joined_groups c rows) v 0 ≡ get_or (joined_groups c rows) w 0 →
      Ker (tree_of rows) (joined_groups c rows) (word_at rows v) (word_at rows w)
  one = number-ker rows (joined_groups c rows) joined_fits

  told-one :
      (v w : ℕ) → v < length (tree_of rows) → w < length (tree_of rows) →
      Ker (tree_of rows) (joined_groups c rows) (word_at rows v) (word_at rows w) →
      get_or (joined_groups c rows) v 0 ≡ get_or (joined_groups c rows) w 0
  told-one = ker_number rows (joined_groups c rows) joined_fits

  pub joined_fork_closed : ForkClosed (length (tree_of rows)) parents names (joined_groups c rows)
  joined_fork_closed v w pos-v pos-w hv hw e g =
      let x = get_or parents v 0 in
      let y = get_or parents w 0 in
      let a = get_or names v 0 in
      let word-w : word_at rows w ≡ word_at rows y ▸ a = tree.word w pos-w hw ∙ ap (λ (b : ℕ). word_at rows y ▸ b) (sym e) in
      let below-v = parent_below rows parents names tree v pos-v hv in
      let below-w = parent_below rows parents names tree w pos-w hw in
      told-one v w hv hw
      (subst₂ (λ (s t : Word). Ker (tree_of rows) (joined_groups c rows) s t) (sym (tree.word v pos-v hv)) (sym word-w)
      (closed.fork (word_at rows x) (word_at rows y) a (one x y below-v below-w g)
      (arc-into rows parents names tree v pos-v hv) (Memᴰ.cast (sym word-w) (word_at-in rows w hw))))

  -- two states with the same last h names that share m names more are of one context
  one_context :
      (m v w : ℕ) → c.second + m ≡ c.first → v < length (tree_of rows) → w < length (tree_of rows) →
      SameSuffix parents names c.second v w →
      Share (length (tree_of rows)) parents names (joined_groups c rows) m v w →
      OneContext c (tree_of rows) (Ker (tree_of rows) (joined_groups c rows)) (word_at rows v) (word_at rows w)
  one_context m v w e hv hw s share =
      let h = c.second in
      let last = (suffix_words rows parents names tree h v w hv hw).0 s in
      let out = share_ways rows parents names (joined_groups c rows) tree joined_fits m v w hv hw share in
      let into-v = way_into rows (joined_groups c rows) h (word_at rows v) (word_at-in rows v hv) in
      let into_w = way_into rows (joined_groups c rows) h (word_at rows w) (word_at-in rows w hw) in
      let size : length (last_names h (word_at rows v)) ≡ h = length_last h (word_at rows v) last.0 in
      record {
        p = last_names h (word_at rows v);
        q = out.by;
        low = omega arith;
        size = omega (arith, out.size);
        from_u = into-v.0;
        from_w = into_w.0;
        to_u = out.to_v;
        to_w = out.to_w;
        from_u_node = into-v.1;
        from_w_node = into_w.1;
        u_node = word_at-in rows v hv;
        w_node = word_at-in rows w hw;
        to_u_node = out.to_v_node;
        to_w_node = out.to_w_node;
        into_u = into-v.2;
        into_w =
            subst (λ (p : Word). Ways (tree_of rows) (Ker (tree_of rows) (joined_groups c rows)) into_w.0 p (word_at rows w))
            (sym last.2) into_w.2;
        out_of_u = out.way_v;
        out_of_w = out.way_w;
      }

  pub joined_context_closed :
      eqb c.kind 0 ≡ true → (m : ℕ) → c.second + m ≡ c.first →
      ContextClosed (length (tree_of rows)) c.second m parents names (joined_groups c rows)
  joined_context_closed kind m e v w hv hw s share =
      told-one v w hv hw (closed.context kind (word_at rows v) (word_at rows w) (one_context m v w e hv hw s share))

  pub joined_ends_closed :
      eqb c.kind 0 ≡ false → (ends classes : List ℕ) → EndsArray rows ends → ClassesOfF c rows classes →
      EndsClosed (length (tree_of rows)) ends classes (joined_groups c rows)
  joined_ends_closed kind ends classes ended told v w hv hw av aw e =
      let u = word_at rows v in
      let z = word_at rows w in
      let node-u = word_at-in rows v hv in
      let node-z = word_at-in rows w hw in
      told-one v w hv hw
      (closed.ends kind u z u z ((told.told v w hv hw).0 e) node-u node-z node-u node-z (one v v hv hv refl) (one w w hw hw refl)
      ((ended-row rows ends ended v hv).0 av) ((ended-row rows ends ended w hw).0 aw))

  pub joined_back_closed :
      eqb c.kind 0 ≡ false → (classes : List ℕ) → ClassesOfF c rows classes →
      BackClosed (length (tree_of rows)) parents names classes (joined_groups c rows)
  joined_back_closed kind classes told v w pos-v pos-w hv hw e f g =
      let x = get_or parents v 0 in
      let y = get_or parents w 0 in
      let a = get_or names v 0 in
      let word-w : word_at rows w ≡ word_at rows y ▸ a = tree.word w pos-w hw ∙ ap (λ (b : ℕ). word_at rows y ▸ b) (sym e) in
      let hx = parent_below rows parents names tree v pos-v hv in
      let hy = parent_below rows parents names tree w pos-w hw in
      let node-x = word_at-in rows x hx in
      let node-y = word_at-in rows y hy in
      told-one x y hx hy
      (closed.back kind (word_at rows x) (word_at rows y) (word_at rows x) (word_at rows y) a ((told.told x y hx hy).0 f)
      node-x node-y node-x node-y (one x x hx hx refl) (one y y hy hy refl)
      (arc-into rows parents names tree v pos-v hv) (Memᴰ.cast (sym word-w) (word_at-in rows w hw))
      (subst₂ (λ (s t : Word). Ker (tree_of rows) (joined_groups c rows) s t) (tree.word v pos-v hv) word-w (one v w hv hw g)))

  -- members of a joined group have the same f
  pub joined_refines_classes :
      eqb c.kind 0 ≡ false → (classes : List ℕ) → ClassesOfF c rows classes →
      Refines (length (tree_of rows)) (joined_groups c rows) classes
  joined_refines_classes kind classes told v w hv hw e =
      let agree = members_agree c rows (joined_groups c rows) (joined_groups-joined c rows) kind in
      let k = one v w hv hw e in
      (told.told v w hv hw).1
      (agree.related (word_at rows v) (word_at rows w) k.left_node k.right_node k.one_group).same_f

-- A partition joined by the class's rule until none applies, whatever the passes and their order, has the states of the book:
-- it lies inside the joined one, and its kernel is closed. Assumes nothing.
use mathlib.Core.Path.{◌≡◌, sym, ap, ◌∙◌, subst, subst₂}
use mathlib.Core.Bool.{true, false, true≢false}
use mathlib.Core.List.Memᴰ
use mathlib.Core.List.{List, ◌++◌, Memᴰ as In}
use Prim.Native.Nat.{ℕ, ◌+◌, ◌-◌, ◌<◌, ◌≤◌}
use native.Mathlib.Omega.{arith}
use lib.Dec.{eqb}
use lib.ListN.{length, get_or, take, drop, length-append, length-drop, take-append-drop}
use lib.Seq.{length-take-le}
use Rattle.model.specs.Fields.{Class}
use Rattle.model.specs.Classes.{Word, f_of}
use Rattle.model.specs.Joinings.{tree_of, joined_groups}
use Rattle.model.specs.Quotients.{states_of}
use Rattle.model.proofs.Notions.{Fits, Ways, OneContext, Closed, Inside, Ker, SameF, ◌▸◌}
use Rattle.model.proofs.Trees.{tree_of-tree}
use Rattle.model.proofs.Joined.{joined_groups-joined, members_agree, joining_law}
use Rattle.indexed.specs.Trees.{word_at, TreeArrays, EndsArray, SameSuffix}
use Rattle.indexed.specs.Partitions.{Refines, ForkClosed, ContextClosed, EndsClosed, BackClosed}
use Rattle.indexed.specs.Passes.{ContextJoined, FJoined}
use Rattle.indexed.proofs.Ends.{ended-row}
use Rattle.indexed.proofs.Words.{number_of, refines_inside, suffix_words, SameLast}
use Rattle.indexed.proofs.Kernels.{arc-number, ker_numbers, numbers_ker, ways_share}
use Rattle.indexed.proofs.KernelWays.{ker_refl, ker_sym, ker_trans, ker_fork, ker_along}
use Rattle.indexed.proofs.KernelWays.{ways_append, ways_split, ways_wider}
use Rattle.indexed.proofs.Alike.{Alike, EndsIn, ways_end_in, joined_alike}
use Rattle.indexed.proofs.Joined.{ClassesOfF, joined_fork_closed, joined_context_closed, joined_ends_closed}
use Rattle.indexed.proofs.Joined.{joined_back_closed, joined_refines_classes}

-- a partition inside the joined one whose kernel is closed has the joined one's states
states_of-closed :
    (c : Class) (rows : List Word) (groups : List ℕ) → Fits (tree_of rows) groups →
    Refines (length (tree_of rows)) groups (joined_groups c rows) → Closed c rows (tree_of rows) (Ker (tree_of rows) groups) →
    states_of rows (tree_of rows) groups ≡ states_of rows (tree_of rows) (joined_groups c rows)
states_of-closed c rows groups fits refines closed =
    joining_law c rows (tree_of rows) groups (tree_of-tree rows) fits (λ w. (λ m. m, λ m. m))
    (refines_inside rows groups (joined_groups c rows) fits (joined_groups-joined c rows).fits refines) closed

-- what is related inside the joined partition is related inside a finer one
finer_related :
    (c : Class) (rows : List Word) (groups : List ℕ) (R : Word → Word → Type 0) → Fits (tree_of rows) groups →
    Refines (length (tree_of rows)) groups (joined_groups c rows) → Inside (tree_of rows) (joined_groups c rows) R →
    (u w : Word) → Ker (tree_of rows) groups u w → R u w
finer_related c rows groups R fits refines inside u w r =
    let joined : Ker (tree_of rows) (joined_groups c rows) u w =
    (refines_inside rows groups (joined_groups c rows) fits (joined_groups-joined c rows).fits refines
    ).related u w r.left_node r.right_node r.one_group in
    inside.related u w joined.left_node joined.right_node joined.one_group

-- ---- the context rule

module _ (c : Class) (rows : List Word) (parents names groups : List ℕ) (tree : TreeArrays rows parents names)
    (fits : Fits (tree_of rows) groups) (forks : ForkClosed (length (tree_of rows)) parents names groups) where
  -- states at the ends of two ways by the same h names have the same last h names
  same-suffix :
      ((u w : Word) → Ker (tree_of rows) groups u w → Alike c.second u w) →
      (p s t x y : Word) (v w : ℕ) → c.second ≤ length p → v < length (tree_of rows) → w < length (tree_of rows) →
      word_at rows v ≡ x → word_at rows w ≡ y → Ways (tree_of rows) (Ker (tree_of rows) groups) s p x →
      Ways (tree_of rows) (Ker (tree_of rows) groups) t p y → SameSuffix parents names c.second v w
  same-suffix alike p s t x y v w low hv hw e f into_x into_y =
      let wide = ways_wider (tree_of rows) (Ker (tree_of rows) groups) (Alike c.second) alike p in
      let in-x : EndsIn c.second p x = ways_end_in c.second (tree_of rows) p s x low (wide s x into_x) in
      let in-y : EndsIn c.second p y = ways_end_in c.second (tree_of rows) p t y low (wide t y into_y) in
      (suffix_words rows parents names tree c.second v w hv hw).1
      (subst₂ (λ (z z' : Word). SameLast c.second z z') (sym e) (sym f) (in-x.0, in-y.0, in-x.1 ∙ sym in-y.1))

  -- the ends of two ways of one context are in one group: so are the states after the first h names, and forks carry that further
  ker_context :
      ((u w : Word) → Ker (tree_of rows) groups u w → Alike c.second u w) →
      ((m : ℕ) → c.second + m ≡ c.first → ContextClosed (length (tree_of rows)) c.second m parents names groups) →
      (u w : Word) → OneContext c (tree_of rows) (Ker (tree_of rows) groups) u w → Ker (tree_of rows) groups u w
  ker_context alike closed u w one =
      let h = c.second in
      let nodes = tree_of rows in
      let R = Ker nodes groups in
      let p = take h one.p in
      let r = drop h one.p in
      let q = r ++ one.q in
      let whole : one.p ≡ p ++ r = sym (take-append-drop h one.p) in
      let size-p : length p ≡ h = length-take-le h one.p one.low in
      let size-r : length r ≡ length one.p - h = length-drop h one.p in
      let low : h ≤ length p = omega arith in
      let m-size : h + length q ≡ c.first = omega (arith, length-append r one.q, one.low, one.size) in
      let at-u = ways_split nodes groups p r one.from_u u one.from_u_node
      (subst (λ (z : Word). Ways nodes (Ker nodes groups) one.from_u z u) whole one.into_u) in
      let at-w = ways_split nodes groups p r one.from_w w one.from_w_node
      (subst (λ (z : Word). Ways nodes (Ker nodes groups) one.from_w z w) whole one.into_w) in
      let x = at-u.0 in
      let y = at-w.0 in
      let i = number_of rows x at-u.1 in
      let j = number_of rows y at-w.1 in
      let suffix = same-suffix alike p one.from_u one.from_w x y i.0 j.0 low i.1 j.1 i.2 j.2
      at-u.2 at-w.2 in
      let share = ways_share rows parents names groups tree fits q i.0 j.0 x y one.to_u one.to_w
      i.1 j.1 i.2 j.2
      (ways_append nodes groups r one.q x u one.to_u at-u.3 one.out_of_u)
      (ways_append nodes groups r one.q y w one.to_w at-w.3 one.out_of_w) in
      let met = numbers_ker rows groups fits i.0 j.0 x y i.1 j.1 i.2 j.2
      (closed (length q) m-size i.0 j.0 i.1 j.1 suffix share) in
      ker_along rows parents names groups tree fits forks r x y u w met at-u.3 at-w.3

pub context_states :
    (c : Class) (rows : List Word) (parents names groups : List ℕ) → TreeArrays rows parents names →
    eqb c.kind 0 ≡ true → 0 < c.second → c.second ≤ c.first →
    ContextJoined (length (tree_of rows)) c.first c.second parents names groups →
    states_of rows (tree_of rows) groups ≡ states_of rows (tree_of rows) (joined_groups c rows)
context_states c rows parents names groups tree kind pos low joined =
    states_of-closed c rows groups fits refines
    (record {
      reflexive = ker_refl (tree_of rows) groups;
      symmetric = ker_sym (tree_of rows) groups;
      transitive = ker_trans (tree_of rows) groups;
      fork = ker_fork rows parents names groups tree fits joined.fork_closed;
      context = λ k. ker_context c rows parents names groups tree fits joined.fork_closed alike joined.context_closed;
      ends = λ other u w r s e m n o q ur ws i j. absurd (true≢false (sym kind ∙ other));
      back = λ other u w r s a e m n o q ur ws i j after. absurd (true≢false (sym kind ∙ other));
    })
  where
    fits : Fits (tree_of rows) groups
    fits = record { lengths = joined.labelled.size }

    refines : Refines (length (tree_of rows)) groups (joined_groups c rows)
    refines =
        let m = c.first - c.second in
        let size : c.second + m ≡ c.first = omega arith in
        joined.sound m size (joined_groups c rows) (joined_fork_closed c rows parents names tree)
        (joined_context_closed c rows parents names tree kind m size)

    alike : (u w : Word) → Ker (tree_of rows) groups u w → Alike c.second u w
    alike = finer_related c rows groups (Alike c.second) fits refines (joined_alike c rows kind)

-- ---- the rule of f

module _ (c : Class) (rows : List Word) (parents names ends classes groups : List ℕ) (tree : TreeArrays rows parents names)
    (ended : EndsArray rows ends) (told : ClassesOfF c rows classes) (fits : Fits (tree_of rows) groups)
    (agree : (u w : Word) → Ker (tree_of rows) groups u w → SameF c u w) where
  -- nodes related to nodes with equal f have equal f
  same-f-beside :
      (u w r s : Word) → f_of c u ≡ f_of c w → Ker (tree_of rows) groups u r → Ker (tree_of rows) groups w s → f_of c r ≡ f_of c s
  same-f-beside u w r s e ur ws = sym (agree u r ur).same_f ∙ e ∙ (agree w s ws).same_f

  -- and are in one group if those are
  one_group_beside :
      (u w r s : Word) → Ker (tree_of rows) groups u r → Ker (tree_of rows) groups w s → Ker (tree_of rows) groups r s →
      Ker (tree_of rows) groups u w
  one_group_beside u w r s ur ws rs =
      ker_trans (tree_of rows) groups u r w ur
      (ker_trans (tree_of rows) groups r s w rs (ker_sym (tree_of rows) groups w s ws))

  -- words with equal f have numbers of one class
  one_class :
      (v w : ℕ) (x y : Word) → v < length (tree_of rows) → w < length (tree_of rows) → word_at rows v ≡ x → word_at rows w ≡ y →
      f_of c x ≡ f_of c y → get_or classes v 0 ≡ get_or classes w 0
  one_class v w x y hv hw e f g = (told.told v w hv hw).1 (ap (f_of c) e ∙ g ∙ sym (ap (f_of c) f))

  ker_ends :
      EndsClosed (length (tree_of rows)) ends classes groups → (u w r s : Word) → f_of c u ≡ f_of c w →
      In r (tree_of rows) → In s (tree_of rows) → Ker (tree_of rows) groups u r → Ker (tree_of rows) groups w s →
      In r rows → In s rows → Ker (tree_of rows) groups u w
  ker_ends closed u w r s e m n ur ws row-r row-s =
      let i = number_of rows r m in
      let j = number_of rows s n in
      one_group_beside u w r s ur ws
      (numbers_ker rows groups fits i.0 j.0 r s i.1 j.1 i.2 j.2
      (closed i.0 j.0 i.1 j.1
      ((ended-row rows ends ended i.0 i.1).1 (Memᴰ.cast i.2 row-r))
      ((ended-row rows ends ended j.0 j.1).1 (Memᴰ.cast j.2 row-s))
      (one_class i.0 j.0 r s i.1 j.1 i.2 j.2 (same-f-beside u w r s e ur ws))))

  ker_back :
      BackClosed (length (tree_of rows)) parents names classes groups → (u w r s : Word) (a : ℕ) → f_of c u ≡ f_of c w →
      Ker (tree_of rows) groups u r → Ker (tree_of rows) groups w s → In (r ▸ a) (tree_of rows) → In (s ▸ a) (tree_of rows) →
      Ker (tree_of rows) groups (r ▸ a) (s ▸ a) → Ker (tree_of rows) groups u w
  ker_back back u w r s a e ur ws m n after =
      let i = arc-number rows parents names tree r a m in
      let j = arc-number rows parents names tree s a n in
      let x = get_or parents i.number 0 in
      let y = get_or parents j.number 0 in
      one_group_beside u w r s ur ws
      (numbers_ker rows groups fits x y r s i.parent_low j.parent_low i.from_word j.from_word
      (back i.number j.number i.not_root j.not_root i.low j.low (i.by_name ∙ sym j.by_name)
      (one_class x y r s i.parent_low j.parent_low i.from_word j.from_word (same-f-beside u w r s e ur ws))
      (ker_numbers rows groups fits i.number j.number (r ▸ a) (s ▸ a) i.low j.low i.is_word j.is_word after)))

pub f_states :
    (c : Class) (rows : List Word) (parents names ends classes groups : List ℕ) → TreeArrays rows parents names →
    EndsArray rows ends → ClassesOfF c rows classes → eqb c.kind 0 ≡ false →
    FJoined (length (tree_of rows)) parents names ends classes groups →
    states_of rows (tree_of rows) groups ≡ states_of rows (tree_of rows) (joined_groups c rows)
f_states c rows parents names ends classes groups tree ended told kind joined =
    states_of-closed c rows groups fits refines
    (record {
      reflexive = ker_refl (tree_of rows) groups;
      symmetric = ker_sym (tree_of rows) groups;
      transitive = ker_trans (tree_of rows) groups;
      fork = ker_fork rows parents names groups tree fits joined.fork_closed;
      context = λ other u w one. absurd (true≢false (sym other ∙ kind));
      ends = λ k u w r s e m n o q ur ws i j.
          ker_ends c rows parents names ends classes groups tree ended told fits agree joined.ends_closed
          u w r s e o q ur ws i j;
      back = λ k u w r s a e m n o q ur ws i j after.
          ker_back c rows parents names ends classes groups tree ended told fits agree joined.back_closed
          u w r s a e ur ws i j after;
    })
  where
    fits : Fits (tree_of rows) groups
    fits = record { lengths = joined.labelled.size }

    refines : Refines (length (tree_of rows)) groups (joined_groups c rows)
    refines =
        joined.sound (joined_groups c rows) (joined_refines_classes c rows parents names tree kind classes told)
        (joined_fork_closed c rows parents names tree)
        (joined_ends_closed c rows parents names tree kind ends classes ended told)
        (joined_back_closed c rows parents names tree kind classes told)

    agree : (u w : Word) → Ker (tree_of rows) groups u w → SameF c u w
    agree =
        finer_related c rows groups (SameF c) fits refines
        (members_agree c rows (joined_groups c rows) (joined_groups-joined c rows) kind)

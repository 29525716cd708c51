-- Contextual sets of words by their automata (lemma 5.10 of document 002): a table that meets the condition admits a contextual
-- set; up to states with the same tails the two say the same; and the automaton of a full joining meets the condition, since
-- nothing is open. Assumes nothing.
use mathlib.Core.Path.{◌≡◌, sym, ap, ◌∙◌, subst}
use mathlib.Core.Bool.{true}
use mathlib.Core.List.{List, ◌++◌, Memᴰ as In}
use Prim.Native.Nat.{ℕ, ◌-◌, ◌≤◌, ◌<◌}
use native.Mathlib.Omega.{arith}
use lib.Dec.{eqb}
use lib.ListN.{length, get_or, take, drop, take-append-drop, length-drop}
use lib.Seq.{length-take-le}
use borrow.Author.Tests.{eq-eqb}
use Rattle.model.specs.Fields.{Class, File}
use Rattle.base.specs.Lists.{index_in}
use Rattle.model.specs.Classes.{Word, Contextual}
use Rattle.model.specs.Tables.{State, Walk, walk_from}
use Rattle.model.specs.Joinings.{Transition, transitions_of, tree_of, joined_groups}
use Rattle.model.specs.Quotients.{met_groups, states_of, book_states}
use Rattle.model.specs.Sources.{AdmittedBy, Reaches, AdmittedFrom, ContextualStates, ContextualTails}
use Rattle.model.specs.Sources.{AllReached, Canonical}
use Rattle.base.proofs.Places.{nth_in, index_of_nth}
use Rattle.model.proofs.Notions.{Walks}
use Rattle.model.proofs.Transitions.{walks_split, walks_unique}
use Rattle.model.proofs.Rules.{Ruled, full_equal}
use Rattle.model.proofs.Trees.{tree_of-tree}
use Rattle.model.proofs.FirstMet.{met-distinct, met-in, states-length}
use Rattle.model.proofs.Admits.{Walked, all_taken, stopped, walked}
use Rattle.model.proofs.TableWalks.{reaches_append, reaches_split, admitted-cut, admitted-after}
use Rattle.model.proofs.TableWalks.{admitted-in, tells_admitted, word_tails, equal_tails}
use Rattle.model.proofs.Joined.{Joined, joined_deterministic, joined_groups-joined}

-- ---- any table

module _ (k h : ℕ) (states : List State) where
  -- one state has the same tails
  pub states-tails : ContextualStates k h states → ContextualTails k h states
  states-tails one =
      record {
        same_tails = λ p q p-after q-after i a v w p-in q-in size low high from-p from-q f g.
            let x = admitted-cut states p a v from-p in
            let y = admitted-cut states q a w from-q in
            let same : p-after ≡ q-after =
            one.one_state p q x.0 y.0 p-after q-after i a p-in q-in size (omega arith) high x.1 y.1 f g in
            record {
              tails = λ z. (
                subst (λ (s : ℕ). AdmittedFrom states s z) same,
                subst (λ (s : ℕ). AdmittedFrom states s z) (sym same),
              );
            };
      }

  -- where the walk of an admitted word stands after u, and after i names more
  record Place (u a w : Word) (i : ℕ) : Type 0 where
    at-it : ℕ
    after-it : ℕ
    way-there : Reaches states 0 u at-it
    on-from-it : AdmittedFrom states at-it (a ++ w)
    way_on : Reaches states at-it (take i a) after-it

  -- each admitted word that has u and a in front has such places
  place : (u a w : Word) (i : ℕ) → AdmittedBy states (u ++ (a ++ w)) → Place u a w i
  place u a w i e =
      let there = admitted-cut states 0 u (a ++ w) ((tells_admitted states (u ++ (a ++ w))).fact e) in
      let on = admitted-cut states there.0 a w there.2 in
      let cut =
      reaches_split states there.0 on.0 (take i a) (drop i a)
      (subst (λ (b : Word). Reaches states there.0 b on.0) (sym (take-append-drop i a)) on.1) in
      record { at-it = there.0; after-it = cut.0; way-there = there.1; on-from-it = there.2; way_on = cut.1 }

  -- the same tails make the set of words contextual
  pub tails_contextual : ContextualTails k h states → Contextual k h (AdmittedBy states)
  tails_contextual same =
      record {
        equal_tails = λ u1 u2 a w1 w2 i size low high e1 e2.
            let x = place u1 a w1 i e1 in
            let y = place u2 a w2 i e2 in
            (equal_tails states (u1 ++ take i a) (u2 ++ take i a) x.after-it y.after-it
            (reaches_append states 0 x.at-it x.after-it u1 (take i a) x.way-there x.way_on)
            (reaches_append states 0 y.at-it y.after-it u2 (take i a) y.way-there y.way_on)).1
            (same.same_tails x.at-it y.at-it x.after-it y.after-it i a w1 w2
            (admitted-in states x.at-it (a ++ w1) x.on-from-it)
            (admitted-in states y.at-it (a ++ w2) y.on-from-it)
            size (omega arith) high x.on-from-it y.on-from-it x.way_on y.way_on);
      }

  -- and so do walks that meet
  pub states_contextual : ContextualStates k h states → Contextual k h (AdmittedBy states)
  states_contextual one = tails_contextual (states-tails one)

  -- a contextual set makes the tails the same, where every state is reached
  pub contextual_tails : AllReached states → Contextual k h (AdmittedBy states) → ContextualTails k h states
  contextual_tails reached l =
      record {
        same_tails = λ p q p-after q-after i a v w p-in q-in size low high from-p from-q f g.
            let x = reached p p-in in
            let y = reached q q-in in
            (equal_tails states (x.0 ++ take i a) (y.0 ++ take i a) p-after q-after
            (reaches_append states 0 p p-after x.0 (take i a) x.1 f)
            (reaches_append states 0 q q-after y.0 (take i a) y.1 g)).0
            (l.equal_tails x.0 y.0 a v w i size (omega arith) high
            ((word_tails states x.0 (a ++ v) p x.1).1 from-p)
            ((word_tails states y.0 (a ++ w) q y.1).1 from-q));
      }

  -- in a canonical automaton states with the same tails are one
  pub tails_states : Canonical states → ContextualTails k h states → ContextualStates k h states
  tails_states canonical same =
      record {
        one_state = λ p q p-end q-end p-after q-after i a p-in q-in size low high fp fq f g.
            let x = on p p-end a p-in fp in
            let y = on q q-end a q-in fq in
            canonical.one_each p-after q-after (in_table p p-after (take i a) p-in f) (in_table q q-after (take i a) q-in g)
            (same.same_tails p q p-after q-after i a x.0 y.0 p-in q-in size (omega arith) high x.1 y.1 f g);
      }
    where
      -- what is reached from a state is live
      goes_on : (p z : ℕ) (b : Word) → p < length states → Reaches states p b z → (v : Word) × AdmittedFrom states z v
      goes_on p z b p-in f =
          let x = canonical.reached p p-in in
          canonical.live (x.0 ++ b) z (reaches_append states 0 p z x.0 b x.1 f)

      on : (p z : ℕ) (b : Word) → p < length states → Reaches states p b z → (v : Word) × AdmittedFrom states p (b ++ v)
      on p z b p-in f =
          let r = goes_on p z b p-in f in
          (r.0, (admitted-after states p z b r.0 f).1 r.1)

      in_table : (p z : ℕ) (b : Word) → p < length states → Reaches states p b z → z < length states
      in_table p z b p-in f = let r = goes_on p z b p-in f in admitted-in states z r.0 r.1

-- ---- the automaton of a full joining

module _ (c : Class) (rows : List Word) (groups : List ℕ) (joined : Joined c rows groups) where
  -- where a walk of the table's goes between the groups
  record Between (p q : ℕ) (w : Word) : Type 0 where
    to : ℕ
    from_in : In (get_or (met_groups (tree_of rows) groups) p 0) groups
    to_in : In to groups
    way : Walks (transitions_of (tree_of rows) groups) (get_or (met_groups (tree_of rows) groups) p 0) w to
    number : q ≡ index_in to (met_groups (tree_of rows) groups)

  between :
      (p q : ℕ) (w : Word) → p < length (states_of rows (tree_of rows) groups) →
      Reaches (states_of rows (tree_of rows) groups) p w q → Between p q w
  between p q w p-in f =
      go (walked rows nodes groups (tree_of-tree rows) joined.fits (joined_deterministic c rows groups joined) w from 0 from_met)
    where
      nodes : List Word
      nodes = tree_of rows

      states : List State
      states = states_of rows nodes groups

      met : List ℕ
      met = met_groups nodes groups

      from : ℕ
      from = get_or met p 0

      low : p < length met
      low = omega (arith, states-length nodes groups (tree_of-tree rows) joined.fits rows)

      from_met : In from met
      from_met = nth_in 0 met p low

      place_is : index_in from met ≡ p
      place_is = index_of_nth met p (met-distinct nodes groups (tree_of-tree rows) joined.fits) low

      same-walk : walk_from states (index_in from met) 0 w ≡ walk_from states p 0 w
      same-walk = ap (λ (s : ℕ). walk_from states s 0 w) place_is

      go : Walked (transitions_of nodes groups) states met from 0 w → Between p q w
      go (all_taken y way y-met e) =
          record {
            to = y;
            from_in = met-in nodes groups (tree_of-tree rows) joined.fits from from_met;
            to_in = met-in nodes groups (tree_of-tree rows) joined.fits y y-met;
            way = way;
            number = ap (λ (x : Walk). x.at_state) (sym f.walked ∙ sym same-walk ∙ e);
          }
      go (stopped none few) =
          let taken : (walk_from states (index_in from met) 0 w).taken ≡ length w =
          ap (λ (x : Walk). x.taken) (same-walk ∙ f.walked) in
          let z : ⊥ = omega arith in
          absurd z

  -- kind 0: the table meets the condition
  pub joined_contextual : eqb c.kind 0 ≡ true → ContextualStates c.first c.second (states_of rows (tree_of rows) groups)
  joined_contextual kind =
      record {
        one_state = λ p q p-end q-end p-after q-after i a p-in q-in size low high fp fq f g.
            meet p q p-after q-after i a size (omega arith) high (between p p-after (take i a) p-in f)
            (between q q-after (take i a) q-in g) (between p p-end a p-in fp) (between q q-end a q-in fq);
      }
    where
      nodes : List Word
      nodes = tree_of rows

      ts : List Transition
      ts = transitions_of nodes groups

      -- the rest of the names can be walked from the group after the i-th
      onward :
          (from at to i : ℕ) (a : Word) → Walks ts from (take i a) at → Walks ts from a to → Walks ts at (drop i a) to
      onward from at to i a f g =
          let cut =
          walks_split ts from to (take i a) (drop i a)
          (subst (λ (b : Word). Walks ts from b to) (sym (take-append-drop i a)) g) in
          subst (λ (z : ℕ). Walks ts z (drop i a) to)
          (walks_unique ts (joined_deterministic c rows groups joined) from cut.0 at (take i a) cut.1 f) cut.2

      meet :
          (p q p-after q-after i : ℕ) (a : Word) → length a ≡ c.first → c.second ≤ i → i ≤ c.first →
          Between p p-after (take i a) → Between q q-after (take i a) → {p-end q-end : ℕ} → Between p p-end a →
          Between q q-end a → p-after ≡ q-after
      meet p q p-after q-after i a size low high x y x-end y-end =
          let fits_in : i ≤ length a = omega arith in
          let front : length (take i a) ≡ i = length-take-le i a fits_in in
          let rear : length (drop i a) ≡ length a - i = length-drop i a in
          let one : x.to ≡ y.to =
          full_equal c rows nodes groups joined.full x.to y.to x.to_in y.to_in
          (Ruled.by_context_fact kind
          (record {
            p = take i a;
            q = drop i a;
            low = omega arith;
            size = omega arith;
            from_x = get_or (met_groups nodes groups) p 0;
            from_y = get_or (met_groups nodes groups) q 0;
            to_x = x-end.to;
            to_y = y-end.to;
            from_x_in = x.from_in;
            from_y_in = y.from_in;
            into_x = x.way;
            into_y = y.way;
            out_of_x = onward (get_or (met_groups nodes groups) p 0) x.to x-end.to i a x.way x-end.way;
            out_of_y = onward (get_or (met_groups nodes groups) q 0) y.to y-end.to i a y.way y-end.way;
          })) in
          x.number ∙ ap (λ (z : ℕ). index_in z (met_groups nodes groups)) one ∙ sym y.number

-- the table of a book of kind 0 meets it
pub book_contextual :
    (f : File) → f.class_is.kind ≡ 0 → ContextualStates f.class_is.first f.class_is.second (book_states f)
unfolding book_states
book_contextual f kind =
    joined_contextual f.class_is f.items (joined_groups f.class_is f.items)
    (joined_groups-joined f.class_is f.items) (eq-eqb f.class_is.kind 0 kind)

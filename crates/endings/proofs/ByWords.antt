-- What a walk tells by words: the walk over the trimmed table comes as far as any beginning of the row that begins an admitted row. So
-- a walk tells what it shall, nothing else can be told, and where no row is admitted it stops. Assumes nothing.
use mathlib.Core.Path.{◌≡◌, refl, sym, ap, ◌∙◌, subst}
use mathlib.Core.Logic.{◌⊎◌, inl, inr}
use mathlib.Core.Bool.{Bool, true, false, cond, true≢false}
use mathlib.Core.List.{List, [], ◌∷◌, ◌++◌, append-nil}
use Prim.Native.Nat.{ℕ, suc, ◌+◌, ◌≤◌}
use native.Mathlib.Omega.{arith}
use lib.Count.{ones}
use lib.Dec.{ltb}
use lib.ListN.{length, get_or, length-append}
use borrow.Author.Tests.{lt-ltb, le-ltb}
use Rattle.base.specs.Limits.{admitted, on_the_way, stops}
use Rattle.base.proofs.Bits.{bit-zero}
use Rattle.base.proofs.Tests.{not_told, told-false}
use Rattle.model.specs.Tables.{State, empty_state, Told, plain_walk, admits}
use Rattle.model.specs.Classes.{Word}
use Rattle.model.specs.Sources.{Reaches}
use Rattle.model.proofs.NameSets.{ones_name_set}
use Rattle.model.proofs.TableWalks.{reaches_one, reaches_steps, steps_reaches}
use Rattle.model.proofs.TableWalks.{tells_admitted}
use Rattle.endings.specs.Words.{BeginsAdmitted, TellsByWords}
use Rattle.endings.specs.Live.{ArcsAscend, is_live, trimmed, nowhere, live_walk}
use Rattle.endings.proofs.Levels.{tells_live}
use Rattle.endings.proofs.Trimmed.{trimmed-accepts, trimmed-ascends, live-walked}
use Rattle.endings.proofs.Longest.{Comes, comes, told_of, plain_told}
use Rattle.endings.proofs.Outcomes.{Ends, is_admitted, is_on_the_way, is_stopped, ends-three, ends-admitted, ends-on_the_way}
use Rattle.endings.proofs.Outcomes.{ends-stops}
use Rattle.endings.proofs.Determined.{one_told}
use Rattle.endings.proofs.Begins.{begins_live, next_names, none-begins, begins_walked}

-- ---- where no row is admitted

module _ (states : List State) (none : (w : Word) → admits states w ≡ false) where
  -- a walk shall stop, with an empty beginning and no names
  nowhere-tells : (row : Word) → TellsByWords states row nowhere
  unfolding ones
  nowhere-tells row =
      let ends : Ends states row stops = is_stopped refl (none-begins states none row) in
      record {
        one_of_three = ends-three states row ends;
        admitted_where = ends-admitted states row ends;
        on_the_way_where = ends-on_the_way states row ends;
        stops_where = ends-stops states row ends;
        of_row = (row, refl);
        longest = λ u rest e begins. absurd (none-begins states none u begins);
        empty_where = λ h. refl;
        next_where = λ x. (
          λ h. let z : ⊥ = omega (arith, h, bit-zero x) in absurd z,
          λ begins. absurd (none-begins states none (x ∷ []) begins),
        );
        how_many_fact = refl;
      }

-- ---- where a row is admitted

module _
    (states : List State) (up : ArcsAscend states)
    (start : is_live states 0 ≡ true) (row : Word) (c : Comes (trimmed states) 0 0 row) where
  -- the state that the walk comes to
  abbrev reached : State
  reached = get_or (trimmed states) c.at empty_state

  -- the walk of the beginning
  front-way : Reaches (trimmed states) 0 c.front c.at
  front-way = steps_reaches (trimmed states) 0 c.at c.front c.way

  -- no beginning of the row that begins an admitted one is longer
  no_longer : (u rest : Word) → u ++ rest ≡ row → BeginsAdmitted states u → length u ≤ length c.front
  no_longer u rest e begins =
      let r = (begins_walked states up start u).0 begins in
      c.furthest u rest r.0 e (reaches_steps (trimmed states) 0 r.0 u r.1)

  -- the row is admitted exactly where the walk takes it all and comes to an accepting state
  whole_ends : c.front ≡ row → Ends states row (cond reached.accepts admitted on_the_way)
  whole_ends all = go reached.accepts refl
    where
      way : Reaches states 0 row c.at
      way =
          subst (λ (u : Word). Reaches states 0 u c.at) all
          ((live-walked states up start c.front c.at).0 front-way).0

      go : (b : Bool) → reached.accepts ≡ b → Ends states row (cond b admitted on_the_way)
      go true e =
          is_admitted refl ((tells_admitted states row).test
          (record { end = c.at; way = way; accepting = sym (trimmed-accepts states c.at) ∙ e }))
      go false e =
          is_on_the_way refl
          (told-false (tells_admitted states row) (λ h.
          true≢false
          (sym h.accepting
          ∙ ap (λ (q : ℕ). (get_or states q empty_state).accepts) (reaches_one states 0 h.end c.at row h.way way)
          ∙ sym (trimmed-accepts states c.at)
          ∙ e)))
          (subst (BeginsAdmitted states) all ((begins_walked states up start c.front).1 (c.at, front-way)))

  -- how the walk ends
  row_ends :
      (rest : Word) → c.front ++ rest ≡ row →
      Ends states row (cond (ltb (length c.front) (length row)) stops (cond reached.accepts admitted on_the_way))
  row_ends [] e =
      let all : c.front ≡ row = sym (append-nil c.front) ∙ e in
      let size : length c.front ≡ length row = ap length all in
      subst (λ (b : Bool). Ends states row (cond b stops (cond reached.accepts admitted on_the_way)))
      (sym (le-ltb (length c.front) (length row) (omega arith))) (whole_ends all)
  row_ends (x ∷ rest) e =
      let size : length c.front + suc (length rest) ≡ length row = sym (length-append c.front (x ∷ rest)) ∙ ap length e in
      subst (λ (b : Bool). Ends states row (cond b stops (cond reached.accepts admitted on_the_way)))
      (sym (lt-ltb (length c.front) (length row) (omega arith)))
      (is_stopped refl (λ begins.
      let all : length row ≤ length c.front = no_longer row [] (append-nil row) begins in
      let z : ⊥ = omega arith in
      z))

  -- so the walk over the trimmed table tells what it shall
  trimmed-tells : TellsByWords states row (told_of row (length c.front) c.front reached)
  trimmed-tells =
      let ends = row_ends c.rest c.whole in
      let begins = (begins_walked states up start c.front).1 (c.at, front-way) in
      record {
        one_of_three = ends-three states row ends;
        admitted_where = ends-admitted states row ends;
        on_the_way_where = ends-on_the_way states row ends;
        stops_where = ends-stops states row ends;
        of_row = (c.rest, c.whole);
        longest = λ u rest e b. (begins, no_longer u rest e b);
        empty_where = λ none. absurd (none-begins states none c.front begins);
        next_where = λ x.
            let names = next_names (trimmed states) (trimmed-ascends states up) c.front c.at front-way x in
            let walked = begins_walked states up start (c.front ++ (x ∷ [])) in
            (λ h. walked.1 (names.0 h), λ b. names.1 (walked.0 b));
        how_many_fact = sym (ones_name_set 0 reached.arcs (trimmed-ascends states up c.at));
      }

-- ---- any table

module _ (states : List State) (up : ArcsAscend states) where
  -- a start that leads to no end admits no row
  none-admitted : is_live states 0 ≡ false → (w : Word) → admits states w ≡ false
  none-admitted dead w = told-false (tells_admitted states w) (λ h. not_told (tells_live states up 0) dead (w, h))

  -- the empty row begins an admitted one, or no row is admitted
  some_or_none : BeginsAdmitted states [] ⊎ ((w : Word) → admits states w ≡ false)
  some_or_none = go (is_live states 0) refl
    where
      go : (b : Bool) → is_live states 0 ≡ b → BeginsAdmitted states [] ⊎ ((w : Word) → admits states w ≡ false)
      go true live = inl ((begins_live states []).1 (0, steps_reaches states 0 0 [] refl, (tells_live states up 0).fact live))
      go false dead = inr (none-admitted dead)

  -- a walk tells what it shall
  pub by_words : (row : Word) → TellsByWords states row (live_walk states row)
  unfolding live_walk
  by_words row = go (is_live states 0) refl
    where
      go : (b : Bool) → is_live states 0 ≡ b → TellsByWords states row (cond b (plain_walk (trimmed states) row) nowhere)
      go true live =
          let c = comes (trimmed states) row 0 0 in
          subst (TellsByWords states row) (sym (plain_told (trimmed states) row c)) (trimmed-tells states up live row c)
      go false dead = nowhere-tells states (none-admitted dead) row

  -- and this alone can be told
  pub determined : (row : Word) (tells : Told) → TellsByWords states row tells → tells ≡ live_walk states row
  determined row tells this = one_told states row tells (live_walk states row) this (by_words row) some_or_none

  -- so where no row is admitted every row stops, with an empty beginning, no names and a count of 0
  pub admits_nothing : ((w : Word) → admits states w ≡ false) → (row : Word) → live_walk states row ≡ nowhere
  admits_nothing none row = sym (determined row nowhere (nowhere-tells states none row))

-- Lines written piece by piece: the arcs of a state one after another, the states of a table from a number on; each
-- from its begin over one turn of a loop to its end; and a listing is its first line and its states' lines. Assumes nothing.
use mathlib.Core.Path.{◌≡◌, sym, ap, ap₂, ◌∙◌, subst}
use mathlib.Core.List.{List, [], ◌∷◌, ◌++◌, flat_map}
use Prim.Native.Nat.{ℕ, ◌+◌, ◌≤◌, ◌<◌}
use native.Mathlib.Numerals.{add-one}
use lib.ListN.{length, get_or, drop, drop_of_length-le, length-append}
use lib.Seq.{drop-cons}
use Rattle.model.specs.Tables.{Arc, State, empty_state}
use Rattle.model.specs.Listing.{arc_text, state_line, state_lines, first_line, listing}
use Rattle.writing.specs.Writing.{Fits, Put}
use Rattle.writing.proofs.WritingLaws.{put_append}
use Rattle.writing.proofs.TextLaws.{Writing, begins, finishes}

-- of these arcs some are left to write
abbrev pub ArcsWriting : List (List ℕ) → List Arc → List ℕ → ℕ → List ℕ → ℕ → List Arc → Type 0
ArcsWriting names arcs text₀ at text next left =
    Writing text₀ at (flat_map (arc_text names) arcs) text next (flat_map (arc_text names) left)

pub arcs_begin :
    (names : List (List ℕ)) (arcs left : List Arc) (text : List ℕ) (at : ℕ) → left ≡ arcs →
    Fits text at (flat_map (arc_text names) arcs) → ArcsWriting names arcs text at text at left
arcs_begin names arcs left text at e fits = rw e (begins text at (flat_map (arc_text names) arcs) fits)

module _ (names : List (List ℕ)) {text₀ : List ℕ} {at : ℕ} {whole text : List ℕ} {next : ℕ} {left : List Arc} where
  -- the next arc comes first of what is left
  pub arcs_next :
      (a : Arc) (more : List Arc) → left ≡ a ∷ more → Writing text₀ at whole text next (flat_map (arc_text names) left) →
      Writing text₀ at whole text next (arc_text names a ++ flat_map (arc_text names) more)
  unfolding flat_map
  arcs_next a more e w = subst (Writing text₀ at whole text next) (ap (flat_map (arc_text names)) e) w

  pub arcs_finish : left ≡ [] → Writing text₀ at whole text next (flat_map (arc_text names) left) → Put text₀ text at whole next
  unfolding flat_map
  arcs_finish e w = finishes (subst (Writing text₀ at whole text next) (ap (flat_map (arc_text names)) e) w)

-- of the states' lines those from state i on are left to write
abbrev pub StatesWriting : List (List ℕ) → List State → List ℕ → ℕ → List ℕ → ℕ → ℕ → Type 0
StatesWriting names states text₀ at text next i =
    Writing text₀ at (state_lines names 0 states) text next (state_lines names i (drop i states))

module _ (names : List (List ℕ)) (states : List State) (i : ℕ)
    {text₀ : List ℕ} {at : ℕ} {whole text : List ℕ} {next : ℕ} where
  -- the next state's line comes first of what is left
  pub states-next :
      (s : State) → i < length states → s ≡ get_or states i empty_state →
      Writing text₀ at whole text next (state_lines names i (drop i states)) →
      Writing text₀ at whole text next (state_line names i s ++ state_lines names (i + 1) (drop (i + 1) states))
  unfolding state_lines
  states-next s h e w =
      let rest = state_lines names (i + 1) (drop (i + 1) states) in
      subst (Writing text₀ at whole text next)
      (ap (state_lines names i) (drop-cons states i empty_state h)
      ∙ ap (λ (j : ℕ). state_line names i (get_or states i empty_state) ++ state_lines names j (drop j states)) (sym (add-one i))
      ∙ ap (λ (t : State). state_line names i t ++ rest) (sym e))
      w

  pub states-finish :
      length states ≤ i → Writing text₀ at whole text next (state_lines names i (drop i states)) → Put text₀ text at whole next
  unfolding state_lines
  states-finish h w =
      finishes (subst (Writing text₀ at whole text next) (ap (state_lines names i) (drop_of_length-le states h)) w)

-- a listing, with the names and the number of states that the code has at hand
pub listing-parts :
    (names names' : List (List ℕ)) (states : List State) (items joins distinct : ℕ) → names ≡ names' →
    length states ≡ items →
    first_line items joins distinct ++ state_lines names 0 states ≡ listing names' states joins distinct
unfolding listing
listing-parts names names' states items joins distinct d e =
    ap₂ (λ (n : ℕ) (l : List (List ℕ)). first_line n joins distinct ++ state_lines l 0 states) (sym e) d

-- pieces written one after the other, and how long they are together
pub ruleset pieces = (length-append, put_append)

-- What is said of walks holds: `walks_handed_over`. A walk that is not refused gives what `live_walk` tells. Assumes nothing.
use mathlib.Core.Path.{◌≡◌, refl, sym, ap, ◌∙◌, subst}
use mathlib.Core.List.{List, []}
use Prim.Native.Nat.{ℕ}
use lib.ListN.{length, take}
use lib.Seq.{take-append_seam}
use Rattle.model.specs.Tables.{State, Told, told, plain_walk}
use Rattle.model.specs.Classes.{Word}
use Rattle.model.specs.Quotients.{book_table}
use Rattle.model.specs.Calls.{fault_with, table_fault, walk_fault, table_states}
use Rattle.model.proofs.FieldLaws.{first_of_lem}
use Rattle.model.proofs.CallLaws.{refusal_is, answered}
use Rattle.endings.specs.Words.{TellsByWords}
use Rattle.endings.specs.Live.{live_walk}
use Rattle.endings.proofs.Claims.{endings_hold}
use Rattle.results.specs.declared.Walked.{Walked}
use Rattle.results.specs.Says.{walking}
use Rattle.handed_over.specs.Handed.{AcceptedBuild, book_in, written}
use Rattle.handed_over.specs.Walked.{AcceptedWalk, told_by, WalksHandedOver}
use Rattle.handed_over.proofs.Handed.{book_accepted, written_is}

module _ (w : AcceptedWalk) where
  -- the table's states
  abbrev states : List State
  states = table_states w.table

  -- nothing refuses it
  no_fault : fault_with (walking w.table w.row w.work) [] ≡ 0
  unfolding walking
  no_fault = sym (refusal_is w.says.gives (λ (r : Walked). r.refusal) (λ k. refl) refl) ∙ w.not_refused

  -- so its table is accepted
  table_passes : table_fault w.table w.work ≡ 0
  unfolding walking walk_fault
  table_passes = (first_of_lem (table_fault w.table w.work) _ (first_of_lem (walk_fault w.table w.row w.work) _ no_fault).0).0

  -- what shall be told of the row
  shall : TellsByWords states w.row (live_walk states w.row)
  shall = endings_hold.walks.by_words w.table w.work table_passes w.row

  -- the beginning by its length
  beginning_is :
      take (length (live_walk states w.row).beginning) w.row ≡ (live_walk states w.row).beginning
  beginning_is =
      let begins = (live_walk states w.row).beginning in
      ap (take (length begins)) (sym shall.of_row.1) ∙ take-append_seam begins shall.of_row.0

  -- what its caller is told
  told_is : told_by w ≡ live_walk states w.row
  unfolding walking
  told_is =
      let t = live_walk states w.row in
      ap (λ (r : Walked). told r.outcome (take r.walked w.row) r.next_names r.next_count)
      (answered w.says.gives no_fault)
      ∙ ap (λ (begins : Word). told t.outcome begins t.next_names t.next_count) beginning_is

-- all that is said of walks
pub walks_handed_over : WalksHandedOver
walks_handed_over =
    record {
      by_words = λ w. subst (TellsByWords (states w) w.row) (sym (told_is w)) (shall w);
      admits_nothing = λ w none.
          told_is w ∙ endings_hold.walks.admits_nothing w.table w.work (table_passes w) none w.row;
      as_before = λ b w over.
          told_is w
          ∙ subst (λ (bytes : List ℕ). live_walk (table_states bytes) w.row ≡ plain_walk (table_states bytes) w.row)
          (sym (over ∙ written_is b))
          ((endings_hold.built b.settings b.allowed).as_before b.book (book_accepted b) w.row);
    }

-- The first line, then the states' lines.
use mathlib.Core.Path.{◌≡◌, ap, subst}
use mathlib.Core.List.{List, ◌++◌}
use Prim.Native.Nat.{ℕ}
use native.Mathlib.Omega.{arith}
use lib.ListN.{length-append}
use Rattle.fields.specs.declared.Place.{Place}
use Rattle.model.specs.Fields.{File}
use Rattle.model.specs.Listing.{state_lines, first_line, listing}
use Rattle.model.specs.Calls.{table_of, table_states}
use Rattle.tables.specs.Accepting.{TableRead}
use Rattle.tables.proofs.TableLaws.{states-count}
use Rattle.listings.specs.Texts.{names_at}
use Rattle.writing.specs.Writing.{Fits, Put}
use Rattle.writing.proofs.WritingLaws.{put_append}
use Rattle.listings.proofs.LineLaws.{listing-parts}
use Rattle.listings.proofs.list_table.Goals as goal

module _ (s : List ℕ) (p : Place) (read : TableRead s p) (joins distinct : ℕ) where
  whole :
      first_line p.items joins distinct ++ state_lines (names_at s p) 0 (table_states s)
      ≡ listing (table_of s).names (table_states s) joins distinct
  whole =
      listing-parts (names_at s p) (table_of s).names (table_states s) p.items joins distinct
      (ap (λ (f : File). f.names) read.file_is) (states-count s p read)

  parts-fit :
      (text : List ℕ) → Fits text 0 (listing (table_of s).names (table_states s) joins distinct) →
      Fits text 0 (first_line p.items joins distinct ++ state_lines (names_at s p) 0 (table_states s))
  parts-fit text fits = rw whole fits

pub put_first_line-next-requires-clause-fits : goal.put_first_line-next-requires-clause-fits
put_first_line-next-requires-clause-fits c =
    let a = c.args in
    let fits = simp length-append at (parts-fit a.table.now a.place c.requires.table_read a.joins a.distinct a.text.now c.requires.fits) in
    omega arith

pub put_states-requires : goal.put_states-requires
put_states-requires c =
    let a = c.args in
    let fits = simp length-append at (parts-fit a.table.now a.place c.requires.table_read a.joins a.distinct a.text.now c.requires.fits) in
    omega arith

pub returns : goal.returns
returns c =
    let a = c.args in
    subst (λ (bytes : List ℕ). Put a.text.now c.put_states.new.text 0 bytes c.put_states.result)
    (whole a.table.now a.place c.requires.table_read a.joins a.distinct)
    (put_append c.put_first_line-next.ensures c.put_states.ensures (omega arith))

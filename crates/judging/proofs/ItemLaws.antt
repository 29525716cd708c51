-- Items, that is rows and states: what refuses one, by how many there may be and by the test of its bytes. Assumes nothing.
use mathlib.Core.Path.{◌≡◌, sym}
use mathlib.Core.Bool.{Bool, not}
use mathlib.Core.List.{List}
use Prim.Native.Nat.{ℕ}
use lib.Dec.{leb}
use lib.ListN.{length}
use Rattle.base.specs.Limits.{first_of, when, too_many}
use Rattle.model.specs.Fields.{File, item_fault}
use Rattle.judging.specs.Judged.{ItemJudged}

pub item_judged :
    (limit : ℕ) (ok : ℕ → List ℕ → Bool) (bad names count : ℕ) (item : List ℕ) (fault : ℕ) (allowed : Bool) →
    fault ≡ first_of (when (leb limit count) too_many) (when (not allowed) bad) → allowed ≡ ok names item →
    ItemJudged (item_fault limit ok bad) names count item fault
item_judged limit ok bad names count item fault allowed f a =
    record { is = λ (file : File) (e : length file.names ≡ names) (g : length file.items ≡ count). rw (g, e, ← a) (sym f) }

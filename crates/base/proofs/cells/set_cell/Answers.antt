use Rattle.std.proofs.Common.{◌≡◌, ap, ap₂, ℕ, List, ◌+◌, ◌*◌, ◌/◌, set, get_or, ◌∙◌, arith}
use Rattle.base.specs.Cells.{with_cell}
use Rattle.base.proofs.cells.set_cell.Goals as goal

pub returns : goal.returns
unfolding with_cell
returns c =
    let at = 128 * c.args.row + 2 * c.args.column in
    let high : get_or c.to_be_bytes.result 0 0 ≡ c.args.value / 256 =
    ap (λ (l : List ℕ). get_or l 0 0) c.to_be_bytes.ensures ∙ omega arith in
    ap₂ (λ (a b : ℕ). set (set c.args.work.now at a) (at + 1) b) high (ap (λ (l : List ℕ). get_or l 1 0) c.to_be_bytes.ensures)

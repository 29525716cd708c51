use Rattle.std.proofs.Common.{ℕ, get_or, arith, sym, ap, ◌∙◌}
use Rattle.base.proofs.Fills.{filled_none, filled_more}
use Rattle.suffixes.proofs.CodeLaws.{turn_room}
use Rattle.suffixes.proofs.AboveLaws.{IsAbove, up_root, turn_fits, turn_name}
use Rattle.suffixes.proofs.names_above.Goals as goal

-- the root has no name above it
pub loop-v-init : goal.loop-v-init
loop-v-init c =
    let tree = c.args.tree in
    let root = up_root _ tree.parents.now tree.names.now tree.arrays c.args.j in
    filled_more (IsAbove c.args.j tree.parents.now tree.names.now) 0 64 c.args.keys.now c.args.keys.now (omega arith)
    (sym (ap (λ (u : ℕ). get_or tree.names.now u 0) root ∙ tree.arrays.root_name)) (filled_none _ c.args.keys.now)

pub longer-code-requires-clause-code_bound : goal.longer-code-requires-clause-code_bound
longer-code-requires-clause-code_bound c =
    turn_room _ _ _ c.args.tree.arrays c.args.j c.loop-v.v c.args.values.now (omega arith) (omega arith)
    (λ w h. c.requires.coded.each w (omega arith)) c.requires.few

pub top_name-requires-clause-code_bound : goal.top_name-requires-clause-code_bound
top_name-requires-clause-code_bound c =
    let fits = turn_fits _ _ _ c.args.tree.arrays c.args.j c.loop-v.v c.args.values.now (omega arith) (omega arith)
    (λ w h. c.requires.coded.each w (omega arith)) in
    omega (arith, fits)

pub loop-v-preserved : goal.loop-v-preserved
loop-v-preserved c =
    let tree = c.args.tree in
    filled_more (IsAbove c.args.j tree.parents.now tree.names.now) c.loop-v.v _ _ _ (omega arith)
    (c.unwrap_or.ensures
    ∙ turn_name _ _ _ tree.arrays c.args.j c.loop-v.v c.args.values.now (omega arith) (omega arith)
    (λ w h. c.requires.coded.each w (omega arith)) _ _ c.longer-code.ensures c.top_name.ensures)
    c.loop-v.invariant

use mathlib.Core.Path.{◌≡◌, ◌∙◌, sym, ap}
use mathlib.Core.Bool.{Bool, cond}
use Rattle.std.proofs.Common.{◌<◌, length, slice_index_or, arith}
use Rattle.std.specs.Option.{is_some}
use Rattle.base.specs.Limits.{name_limit}
use Rattle.base.proofs.Fills.{filled_more}
use Rattle.functions.proofs.KeyLaws.{key_enlarging, key_other}
use Rattle.functions.proofs.keys.seen_keys.Goals as goal
use Rattle.functions.proofs.keys.seen_keys.Goals.{then-is_some, else-is_some}

pub loop-v-preserved : goal.loop-v-preserved
loop-v-preserved c =
    let v = c.loop-v.v in
    let seen = c.args.seen.now in
    let names = c.args.tree.names.now in
    let inside : v < length seen = omega arith in
    let below = c.args.tree.arrays.name_below v (omega arith) (omega arith) in
    let lowest = c.added-lowest.ensures _ below (c.requires.sets.arc_seen v (omega arith) inside) in
    let other = λ (b : Bool). cond b name_limit (slice_index_or names v 0) in
    let kept : c.if-is_some.others ≡ other (is_some c.added-lowest.result) = elim c.if-is_some.branch [
      | then-is_some w ↦ w.others-is ∙ ap other (sym w.if-is_some.true ∙ c.is_some.ensures)
      | else-is_some w ↦ w.others-is ∙ ap other (sym w.if-is_some.false ∙ c.is_some.ensures)
    ] in
    record {
      enlarging = filled_more _ v _ _ _ (omega arith) (key_enlarging _ _ seen v _ _ (omega arith) lowest c.unwrap_or.ensures)
          c.loop-v.invariant.enlarging;
      others = filled_more _ v _ _ _ (omega arith)
          (key_other _ _ seen v _ _ (omega arith) lowest kept) c.loop-v.invariant.others;
    }

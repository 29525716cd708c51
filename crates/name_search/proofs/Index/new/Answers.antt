use Rattle.std.proofs.Common.{◌≤◌, ◌<◌, ◌≡◌, ◌∙◌, ℕ, List, length, refl, sym, ap, subst, arith, length-set, add-one}
use Rattle.base.proofs.Fills.{fill_more}
use Rattle.judging.specs.Offsets.{next_at, offset_at}
use Rattle.judging.proofs.OffsetLaws.{offset_suc, field_within}
use Rattle.name_search.proofs.Index.new.Goals as goal

-- the field that a turn is about lies within the list
within :
    (list : List ℕ) (count at i : ℕ) → offset_at list 0 count ≤ length list → at ≡ offset_at list 0 i → i < count →
    next_at list at ≤ length list
within list count at i room is low =
    subst (λ (a : ℕ). next_at list a ≤ length list) (sym is) (omega (arith, field_within list 0 count i low))

pub loop-i-init : goal.loop-i-init
unfolding offset_at
loop-i-init c = record { room = omega arith; at_is = refl; begins = λ v h. absurd (omega arith) }

pub body-requires : goal.body-requires
body-requires c =
    within c.args.list.now c.args.count c.loop-i.at c.loop-i.i c.requires.count_in_bounds c.loop-i.invariant.at_is c.loop-i-test.true

pub next_field-at-requires : goal.next_field-at-requires
next_field-at-requires c =
    within c.args.list.now c.args.count c.loop-i.at c.loop-i.i c.requires.count_in_bounds c.loop-i.invariant.at_is c.loop-i-test.true

pub loop-i-preserved : goal.loop-i-preserved
loop-i-preserved c =
    let list = c.args.list.now in
    let i = c.loop-i.i in
    let so_far = c.loop-i.invariant in
    record {
      room = omega (arith, length-set c.loop-i.starts i c.loop-i.at);
      at_is =
          c.next_field-at.ensures ∙ ap (next_at list) so_far.at_is ∙ sym (offset_suc list 0 i)
          ∙ ap (offset_at list 0) (sym (add-one i));
      begins =
          fill_more (λ (v x : ℕ). x ≡ offset_at list 0 v) c.loop-i.starts i c.loop-i.at (omega (arith, so_far.room)) so_far.begins so_far.at_is;
    }

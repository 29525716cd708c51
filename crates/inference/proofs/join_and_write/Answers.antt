use Rattle.std.proofs.lemmas.Result.{err_from_is_err_and}
use mathlib.Core.Path.{◌≡◌, refl, sym, ◌∙◌, subst}
use mathlib.Core.List.{List, ◌++◌}
use Prim.Native.Nat.{ℕ, ◌+◌, ◌<◌, ◌≤◌}
use native.Mathlib.Omega.{arith}
use lib.ListN.{length, get_or, take, drop, replicate}
use lib.Seq.{length-take-le}
use Rattle.base.specs.Limits.{state_limit, class_bytes}
use Rattle.fields.specs.declared.Place.{Place}
use Rattle.writing.proofs.Pieces.{front_length}
use Rattle.inference.specs.Books.{BookAt, TreeIn, rows_at, class_at, names_end, JoinedBy, JoinedTree}
use Rattle.inference.proofs.BookLaws.{class_allowed, names-fit, rows_short}
use Rattle.inference.proofs.TableLaws.{prefix_again, joined_tree, back-room}
use Rattle.inference.proofs.TableLaws.{written-fits, front-too_long, table-too-long, table-written}
use Rattle.inference.proofs.join_and_write.Goals as goal

-- the partition as it is read again from the array's front
abbrev groups : ℕ → List ℕ → List ℕ
groups n joined = take n (joined ++ drop n (replicate state_limit 0))

joined_by :
    (book : List ℕ) (place : Place) (parents names joined : List ℕ) → length joined ≡ length parents →
    JoinedBy (class_at place) (rows_at book place) parents names joined →
    JoinedBy (class_at place) (rows_at book place) parents names (groups (length parents) joined)
joined_by book place parents names joined size by =
    subst (λ (l : List ℕ). JoinedBy (class_at place) (rows_at book place) parents names l)
    (sym (prefix_again (length parents) joined (drop (length parents) (replicate state_limit 0)) size)) by

joined_in :
    (book : List ℕ) (place : Place) (parents names ends joined : List ℕ) → BookAt book place →
    TreeIn (rows_at book place) parents names ends →
    JoinedBy (class_at place) (rows_at book place) parents names (groups (length parents) joined) →
    JoinedTree (rows_at book place) parents names ends (groups (length parents) joined)
joined_in book place parents names ends joined at tree by =
    record {
      ends_are = tree.ends_are;
      joined =
          joined_tree (rows_at book place) parents names ends (class_at place) (groups (length parents) joined) tree by;
      short = rows_short book place at;
    }

pub returns-then-out-front : goal.returns-then-out-front
returns-then-out-front c =
    let args = c.args in
    let bytes : (i : ℕ) → i < length args.book.now → get_or args.book.now i 0 < 256 =
    λ i h. omega (arith, c.type_inv.book i) in (
      refl,
      front-too_long args.book.now args.place c.requires.book_at.0 bytes args.wanted args.out.now args.counts.now
          c.if-out-front.true,
    )

pub join_by_class-requires-clause-class_ok : goal.join_by_class-requires-clause-class_ok
join_by_class-requires-clause-class_ok c =
    let args = c.args in
    let bytes : (i : ℕ) → i < length args.book.now → get_or args.book.now i 0 < 256 =
    λ i h. omega (arith, c.type_inv.book i) in
    class_allowed args.book.now args.place c.requires.book_at.0 bytes

pub write_joined-requires-clause-joined_tree : goal.write_joined-requires-clause-joined_tree
write_joined-requires-clause-joined_tree c =
    let args = c.args in
    let at = c.requires.book_at.0 in
    let tree = c.requires.tree_in in
    let parents_size = tree.tree.parents_size in
    let count : length args.tree.parents.now ≤ state_limit = omega (arith, tree.few) in
    let joined = c.join_by_class.new.groups in
    let size : length joined ≡ length args.tree.parents.now = c.join_by_class.auto.groups ∙ length-take-le _ _ count in (
      rows_at args.book.now args.place,
      joined_in args.book.now args.place args.tree.parents.now args.tree.names.now args.ends.now joined at tree
          (joined_by args.book.now args.place args.tree.parents.now args.tree.names.now joined size
          (c.join_by_class.ensures (rows_at args.book.now args.place) tree)),
    )

pub returns-in_err-written : goal.returns-in_err-written
returns-in_err-written c =
    let args = c.args in
    let at = c.requires.book_at.0 in
    let tree = c.requires.tree_in in
    let parents_size = tree.tree.parents_size in
    let count : length args.tree.parents.now ≤ state_limit = omega (arith, tree.few) in
    let bytes : (i : ℕ) → i < length args.book.now → get_or args.book.now i 0 < 256 =
    λ i h. omega (arith, c.type_inv.book i) in
    let joined = c.join_by_class.new.groups in
    let size : length joined ≡ length args.tree.parents.now = c.join_by_class.auto.groups ∙ length-take-le _ _ count in
    let by =
    joined_by args.book.now args.place args.tree.parents.now args.tree.names.now joined size
    (c.join_by_class.ensures (rows_at args.book.now args.place) tree) in
    let in_tree = joined_in args.book.now args.place args.tree.parents.now args.tree.names.now args.ends.now joined at tree by in
    let p = err_from_is_err_and c.from_residual.result c.from_residual.ensures.1 in
    let long = c.in_err-written.ensures (rows_at args.book.now args.place) in_tree in
    rw (p.1, p.2) (
      long.0,
      table-too-long args.book.now args.place at bytes args.wanted args.out.now args.counts.now args.tree.parents.now
          args.tree.names.now (groups (length args.tree.parents.now) joined) by c.if-out-front.false c.write_joined.new.out
          c.write_joined.new.counts long.1,
    )

pub put_front-requires-clause-fits : goal.put_front-requires-clause-fits
put_front-requires-clause-fits c =
    let args = c.args in
    let named = names-fit args.book.now args.place c.requires.book_at.0 in
    let room =
    back-room (names_end args.place + class_bytes) args.out.now c.write_joined.new.out c.if-out-front.false in
    omega (arith, front_length args.book.now (names_end args.place) (class_at args.place) named, room)

pub returns : goal.returns
returns c =
    let args = c.args in
    let at = c.requires.book_at.0 in
    let tree = c.requires.tree_in in
    let parents_size = tree.tree.parents_size in
    let count : length args.tree.parents.now ≤ state_limit = omega (arith, tree.few) in
    let bytes : (i : ℕ) → i < length args.book.now → get_or args.book.now i 0 < 256 =
    λ i h. omega (arith, c.type_inv.book i) in
    let joined = c.join_by_class.new.groups in
    let size : length joined ≡ length args.tree.parents.now = c.join_by_class.auto.groups ∙ length-take-le _ _ count in
    let front_size = front_length args.book.now (names_end args.place) (class_at args.place) (names-fit args.book.now args.place at) in
    let by =
    joined_by args.book.now args.place args.tree.parents.now args.tree.names.now joined size
    (c.join_by_class.ensures (rows_at args.book.now args.place) tree) in
    let in_tree = joined_in args.book.now args.place args.tree.parents.now args.tree.names.now args.ends.now joined at tree by in
    table-written args.book.now args.place at bytes args.wanted args.out.now args.counts.now args.tree.parents.now
    args.tree.names.now (groups (length args.tree.parents.now) joined) by c.if-out-front.false c.write_joined.new.out
    c.write_joined.new.counts _ _ _ _ _ (c.in_ok-written.ensures (rows_at args.book.now args.place) in_tree) front_size
    c.put_front.ensures

pub overflow_add-written : goal.overflow_add-written
overflow_add-written c = omega (arith, written-fits _ _ c.args.out.now _ _ _ _ _ _ (returns c))

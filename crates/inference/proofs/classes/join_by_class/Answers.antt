-- One law for each kind.
use mathlib.Core.Path.{sym, subst}
use Rattle.model.specs.Fields.{Class, ClassOk}
use Rattle.inference.specs.Books.{JoinedBy}
use Rattle.inference.proofs.ClassLaws.{context_settings, by_context_fact, by_seen, by_last}
use Rattle.inference.proofs.classes.join_by_class.Goals as goal

pub returns-in-Context : goal.returns-in-Context
returns-in-Context c =
    let args = c.args in
    let tree = args.tree in
    let groups = c.join_by_context.new.groups in
    let judged = rw c.in-Context.ensures at c.try_from.ensures in
    λ rows at.
    subst (λ (class : Class). JoinedBy class rows tree.parents.now tree.names.now groups) judged.1
    (by_context_fact _ rows tree.parents.now tree.names.now args.ends.now groups at (sym c.requires.size)
    c.in-Context.k c.in-Context.h (context_settings _ _ (subst ClassOk (sym judged.1) judged.0)) c.join_by_context.ensures)

pub returns-in-SeenSet : goal.returns-in-SeenSet
returns-in-SeenSet c =
    let args = c.args in
    let tree = args.tree in
    let groups = c.join_by_seen.new.groups in
    let judged = rw c.in-SeenSet.ensures at c.try_from.ensures in
    λ rows at.
    subst (λ (class : Class). JoinedBy class rows tree.parents.now tree.names.now groups) judged.1
    (by_seen _ rows tree.parents.now tree.names.now args.ends.now groups at (sym c.requires.size)
    c.join_by_seen.ensures)

pub returns-in-LastNames : goal.returns-in-LastNames
returns-in-LastNames c =
    let args = c.args in
    let tree = args.tree in
    let groups = c.join_by_last.new.groups in
    let judged = rw c.in-LastNames.ensures at c.try_from.ensures in
    λ rows at.
    subst (λ (class : Class). JoinedBy class rows tree.parents.now tree.names.now groups) judged.1
    (by_last _ rows tree.parents.now tree.names.now args.ends.now groups at (sym c.requires.size)
    c.in-LastNames.j c.join_by_last.ensures)

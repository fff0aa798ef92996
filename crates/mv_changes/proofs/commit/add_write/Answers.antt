use Rattle.std.proofs.Common.{List, None, Some, ap, sym, subst, ◌∙◌, length, arith}
use Rattle.std.specs.Prelude.{slice_set}
use Rattle.std.proofs.lemmas.List.{length-set}
use Rattle.mv_history.specs.declared.change.Change.{Change}
use Rattle.mv_history.specs.Changes.{place}
use Rattle.mv_history.proofs.Listing.{Ordered, ordered_from, in_order}
use Rattle.mv_table.specs.Entries.{item_of}
use Rattle.mv_changes.specs.Drafting.{by_place}
use Rattle.mv_changes.proofs.Drafting.{draft_put, draft_skips}
use Rattle.mv_changes.proofs.Placing.{none_there, one_there, there_within, at_place, under_inserted, under_set, inserted_in_order, set_in_order, set_again, placed_all}
use Rattle.mv_changes.proofs.commit.add_write.Goals as goal

pub replace-was-requires : goal.replace-was-requires
replace-was-requires g c = there_within c.args.write.now c.args.changes.now c.place_in-at.result (sym c.is_there.ensures ∙ c.if-is_there.true)

pub set-requires : goal.set-requires
set-requires g c =
    let lt = there_within c.args.write.now c.args.changes.now c.place_in-at.result (sym c.is_there.ensures ∙ c.if-is_there.true) in
    let same = ap length c.replace-was.ensures.items ∙ length-set c.args.changes.now c.place_in-at.result c.no_change.result in
    omega (arith, lt, same)

pub returns-then-is_there-clause-order : goal.returns-then-is_there-clause-order
returns-then-is_there-clause-order g c =
    let cs : List Change = c.args.changes.now in
    let at = c.place_in-at.result in
    let next : Change = c.in_ok-next.next in
    let is = c.set.ensures ∙ (ap (λ (l : List Change). slice_set l at next) c.replace-was.ensures.items ∙ set_again cs at c.no_change.result next) in
    in_order c.set.new.self (subst Ordered (sym is) (set_in_order cs at c.replace-was.result next c.replace-was.ensures.back (ap place c.in_ok-next.ensures) (ordered_from cs c.requires.order)))

pub returns-then-is_there-clause-ok : goal.returns-then-is_there-clause-ok
returns-then-is_there-clause-ok g c ws draft =
    let cs : List Change = c.args.changes.now in
    let at = c.place_in-at.result in
    let was : Change = c.replace-was.result in
    let next : Change = c.in_ok-next.next in
    let is = c.set.ensures ∙ (ap (λ (l : List Change). slice_set l at next) c.replace-was.ensures.items ∙ set_again cs at c.no_change.result next) in
    let here = at_place c.args.write.now cs at was (sym c.is_there.ensures ∙ c.if-is_there.true) c.replace-was.ensures.back in
    draft_put (by_place cs) (by_place c.set.new.self) ws c.args.write.now (g.V.View.sight c.args.view.now).database (Some was) next (omega (arith, c.requires.tables, c.if-write-tables.false)) c.requires.rising draft (placed_all c.set.new.self)
    (sym (one_there c.args.write.now cs at was c.place_in-at.ensures.cut c.replace-was.ensures.back here))
    (λ other. ap (λ (l : List Change). item_of (by_place l) other) is ∙ under_set c.args.write.now cs at was next c.replace-was.ensures.back here (ap place c.in_ok-next.ensures ∙ here) c.place_in-at.ensures.cut other)
    c.in_ok-next.ensures

pub returns-clause-order : goal.returns-clause-order
returns-clause-order g c =
    let cs : List Change = c.args.changes.now in
    in_order c.insert.new.self
    (subst Ordered (sym c.in_ok-insert.ensures.ok)
    (inserted_in_order c.args.write.now cs c.place_in-at.result c.in_ok-first.first (ap place c.in_ok-first.ensures.change) c.place_in-at.ensures.within c.place_in-at.ensures.cut (sym c.is_there.ensures ∙ c.if-is_there.false) (ordered_from cs c.requires.order)))

pub returns-clause-ok : goal.returns-clause-ok
returns-clause-ok g c ws draft =
    let cs : List Change = c.args.changes.now in
    let at = c.place_in-at.result in
    let first : Change = c.in_ok-first.first in
    draft_put (by_place cs) (by_place c.insert.new.self) ws c.args.write.now (g.V.View.sight c.args.view.now).database None first (omega (arith, c.requires.tables, c.if-write-tables.false)) c.requires.rising draft (placed_all c.insert.new.self)
    (sym (none_there c.args.write.now cs at (ordered_from cs c.requires.order) c.place_in-at.ensures.within c.place_in-at.ensures.cut (sym c.is_there.ensures ∙ c.if-is_there.false)))
    (λ other. ap (λ (l : List Change). item_of (by_place l) other) c.in_ok-insert.ensures.ok ∙ under_inserted c.args.write.now cs at first (ap place c.in_ok-first.ensures.change) c.place_in-at.ensures.within c.place_in-at.ensures.cut other)
    c.in_ok-first.ensures.change

pub returns-then-write-tables-clause-ok : goal.returns-then-write-tables-clause-ok
returns-then-write-tables-clause-ok g c ws draft =
    draft_skips (by_place c.args.changes.now) ws c.args.write.now (g.V.View.sight c.args.view.now).database (omega (arith, c.requires.tables, c.if-write-tables.true)) c.requires.rising draft

use Rattle.std.proofs.Common.{sym, ap, ◌++◌, ◌∷◌, [], ◌∙◌}
use Rattle.indexmap.proofs.CallerLemmas.{insert_entry-new}
use Rattle.mv_names.proofs.Indexing.{pushed_new, pushed_known, none_copied, some_copied}
use Rattle.mv_names.proofs.nested.Scope.push.Goals as goal

pub invariant_of-self-then-is_none : goal.invariant_of-self-then-is_none
invariant_of-self-then-is_none g c =
    let none = sym c.get.ensures.value ∙ none_copied c.get.result c.if-is_none.ensures in
    let last = ap (λ p. c.reserve.new.self.entries ++ (c.args.name, p) ∷ []) c.len-place.ensures in
    let made = (rw c.unwrap.ensures at c.insert.ensures.entries) ∙ (insert_entry-new _ c.reserve.new.self c.args.name c.len-place.result none ∙ last) in
    let before = rw (sym c.in_ok-reserve.ensures.entries) at c.self.invariant in
    rw c.in_ok-push.ensures.ok (pushed_new g.T.Named.name_of c.self.inside.items c.args.item c.args.name c.reserve.new.self.entries c.insert.new.self.entries c.requires made before)

pub invariant_of-self-else-is_none : goal.invariant_of-self-else-is_none
invariant_of-self-else-is_none g c =
    let some = some_copied c.get.result c.if-is_none.ensures in
    let there = rw c.requires at (sym c.get.ensures.value ∙ some.1) in
    let before = rw (sym c.in_ok-reserve.ensures.entries) at c.self.invariant in
    rw c.in_ok-push.ensures.ok (pushed_known g.T.Named.name_of c.self.inside.items c.args.item some.0 c.reserve.new.self.entries there before)

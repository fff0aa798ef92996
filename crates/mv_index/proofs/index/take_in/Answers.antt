use Rattle.std.proofs.Common.{◌≡◌, ◌<◌, List, Some, None, length, sym, ap, subst, ◌∙◌}
use Rattle.std.specs.List.{position}
use Rattle.std.proofs.lemmas.List.{get_or_default}
use Rattle.mv_index.specs.Indexing.{Column, is_of, Shrinks}
use Rattle.mv_index.proofs.Parts.{is_first, no_first, loses_at, loses_nothing}
use Rattle.mv_index.proofs.index.take_in.Goals as goal

pub returns-in_default : goal.returns-in_default
returns-in_default c lens =
    let t = c.args.table in
    let n = c.args.column in
    let items = c.args.columns.now.items in
    let none : position (is_of t n) items ≡ None = sym (ap (position (is_of t n)) c.as_slice.ensures.value) ∙ (sym c.place_of.ensures.place ∙ c.in_default.is) in
    loses_nothing t n c.args.value.now c.args.key.now lens items (no_first items t n none)

pub returns : goal.returns
returns c lens =
    let t = c.args.table in
    let n = c.args.column in
    let items = c.args.columns.now.items in
    let new = c.take.new.self in
    let lt : c.in-Some.at < length items = subst (λ (l : List Column). c.in-Some.at < length l) c.as_slice.ensures.value (rw c.in-Some.is at c.place_of.ensures.within) in
    let found : position (is_of t n) items ≡ Some c.in-Some.at = sym (ap (position (is_of t n)) c.as_slice.ensures.value) ∙ (sym c.place_of.ensures.place ∙ c.in-Some.is) in
    loses_at t n c.args.value.now c.args.key.now lens items c.in-Some.at new (is_first items t n c.in-Some.at lt found)
    (subst (λ (p : Column). Shrinks c.args.value.now c.args.key.now p new) (c.index_mut.ensures.value ∙ get_or_default items c.in-Some.at c.index_mut.result.now new lt) c.take.ensures)

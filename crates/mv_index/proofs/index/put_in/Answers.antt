use Rattle.std.proofs.Common.{◌≡◌, ◌<◌, List, Some, None, length, sym, ap, subst, ◌∙◌}
use Rattle.std.specs.List.{position}
use Rattle.std.proofs.lemmas.List.{get_or_default}
use Rattle.std.proofs.lemmas.Result.{on_ok_weaker, on_err_weaker}
use Rattle.mv_index.specs.Indexing.{Column, is_of, is_pair, no_pair, IsFirst, Gains}
use Rattle.mv_index.proofs.Parts.{is_first, no_first, adds_at, adds_nowhere}
use Rattle.mv_index.proofs.index.put_in.Goals as goal

pub returns-in_default-clause-ok : goal.returns-in_default-clause-ok
returns-in_default-clause-ok c lens =
    let t = c.args.table in
    let n = c.args.column in
    let items = c.args.columns.now.items in
    let none : position (is_of t n) items ≡ None = sym (ap (position (is_of t n)) c.as_slice.ensures.value) ∙ (sym c.place_of.ensures.place ∙ c.in_default.is) in
    adds_nowhere t n (is_pair c.args.value.now c.args.key.now) lens items (no_first items t n none)

first : (c : goal.After-columns-1) → IsFirst c.args.columns.now.items c.args.table c.args.column c.in-Some.at
first c =
    let t = c.args.table in
    let n = c.args.column in
    let items = c.args.columns.now.items in
    let lt : c.in-Some.at < length items = subst (λ (l : List Column). c.in-Some.at < length l) c.as_slice.ensures.value (rw c.in-Some.is at c.place_of.ensures.within) in
    let found : position (is_of t n) items ≡ Some c.in-Some.at = sym (ap (position (is_of t n)) c.as_slice.ensures.value) ∙ (sym c.place_of.ensures.place ∙ c.in-Some.is) in
    is_first items t n c.in-Some.at lt found

pub returns-clause-ok : goal.returns-clause-ok
returns-clause-ok c =
    let items = c.args.columns.now.items in
    let new = c.put_value.new.self in
    on_ok_weaker c.put_value.result (λ gains lens.
    adds_at c.args.table c.args.column (is_pair c.args.value.now c.args.key.now) lens items c.in-Some.at new (first c)
    (subst (λ (p : Column). Gains (is_pair c.args.value.now c.args.key.now) p new) (c.index_mut.ensures.value ∙ get_or_default items c.in-Some.at c.index_mut.result.now new (first c).0) gains)) c.put_value.ensures.ok

pub returns-clause-err : goal.returns-clause-err
returns-clause-err c =
    let items = c.args.columns.now.items in
    let new = c.put_value.new.self in
    on_err_weaker c.put_value.result (λ gains lens.
    adds_at c.args.table c.args.column no_pair lens items c.in-Some.at new (first c)
    (subst (λ (p : Column). Gains no_pair p new) (c.index_mut.ensures.value ∙ get_or_default items c.in-Some.at c.index_mut.result.now new (first c).0) gains)) c.put_value.ensures.err

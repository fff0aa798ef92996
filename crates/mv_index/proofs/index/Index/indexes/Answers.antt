use Rattle.std.proofs.Common.{◌≡◌, ◌<◌, ◌∙◌, ap, subst, List, length}
use Rattle.std.specs.Prelude.{IfSome}
use Rattle.std.specs.List.{position}
use Rattle.mv_index.specs.Indexing.{Column, is_of, is_indexed}
use Rattle.mv_index.proofs.Parts.{placed}
use Rattle.mv_index.proofs.index.Index.indexes.Goals as goal

pub returns : goal.returns
returns c =
    let t = c.args.table in
    let n = c.args.column in
    let items = c.self.inside.columns.items in
    let is : c.place_of.result ≡ position (is_of t n) items = c.place_of.ensures.place ∙ ap (position (is_of t n)) c.as_slice.ensures.value in
    let within : IfSome c.place_of.result (λ at. at < length items) = subst (λ (l : List Column). IfSome c.place_of.result (λ at. at < length l)) c.as_slice.ensures.value c.place_of.ensures.within in
    c.is_some.ensures ∙ (placed items t n c.place_of.result is within ∙ ap (λ i. is_indexed i t n) c.self.view_is)

use Rattle.std.proofs.Common.{rules, ◌≡◌, true, List, subst}
use Rattle.std.specs.Option.{is_some}
use Rattle.mv_index.specs.Indexing.{Column, part_of}
use Rattle.mv_index.proofs.Adding.{empty_more, empty_again}
use Rattle.mv_index.proofs.Parts.{is_placed}
use Rattle.mv_index.proofs.index.add_column.Goals as goal

pub returns-then-is_some : goal.returns-then-is_some
returns-then-is_some c = λ columns empty.
    let t = c.args.tested.table in
    let n = c.args.tested.column in
    let some : is_some (part_of c.args.parts.now.items t n) ≡ true =
    subst (λ (ps : List Column). is_some (part_of ps t n) ≡ true) c.as_slice.ensures.value (is_placed c.as_slice.result.now t n c.place_of.result c.place_of.ensures.place c.place_of.ensures.within (search rules)) in
    empty_again columns c.args.tested c.args.parts.now.items some empty

pub returns : goal.returns
returns c = λ columns empty. rw c.in_ok-push.ensures.items (empty_more columns c.args.tested c.args.parts.now.items c.new.result c.new.ensures.table c.new.ensures.column c.new.ensures.entries empty)

use Rattle.std.proofs.Common.{rules, ap, ◌∙◌, subst, sym, ◌<◌, ◌≡◌, false, length}
use Rattle.std.specs.List.{list_any}
use lib.Dec.{eqb}
use mathlib.Core.Option.{none}
use Rattle.atomic_table.specs.Table.{step}
use Rattle.mv_seats.specs.Scripts.{BoardScript}
use Rattle.mv_seats.specs.Knowing.{Knows}
use Rattle.mv_seats.proofs.Steps.{appends}
use Rattle.mv_seats.proofs.pass.Pass.append_named.Goals as goal

pub fetch_add-requires : goal.fetch_add-requires
fetch_add-requires g c =
    let call = c.args.call in
    let gate = ap (λ (k : Knows). k.role) c.self.view_is ∙ c.requires.role in
    let less = subst (λ (s : BoardScript). call < length s.calls) (sym c.self.invariant.of_script) c.requires.call in
    let fresh = subst (λ (k : Knows). list_any (eqb call) k.seen ≡ false) (sym c.self.view_is) c.requires.fresh in
    (search rules, search rules, rw c.requires.named (appends _ _ _ call _ (step c.args.board.now.table.shared.table_id.slots 0 1 0 none) gate less fresh))

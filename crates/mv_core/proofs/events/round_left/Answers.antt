use Rattle.std.proofs.Common.{rules, sym, ◌∙◌}
use Rattle.mv_core.proofs.Changed.{idle_told, stale_round, round_told, some_rounds}
use Rattle.mv_core.proofs.events.round_left.Goals as goal

pub returns-in-Free : goal.returns-in-Free
returns-in-Free c = some_rounds c.rounds.result c.rounds.ensures.live (search (rules, c.is_none.ensures, c.if-is_none.false)) (λ rounds h.
    idle_told c.args.core.now.book c.validate.new.self.book c.args.call c.in_ok-validate.field-0 h.live c.validate.ensures.same (sym c.is_read_only.ensures ∙ c.if-is_read_only.false) h.is_live c.in_ok-validate.ensures.answer c.in-Free.is)

pub returns-in-Stale : goal.returns-in-Stale
returns-in-Stale c = some_rounds c.rounds.result c.rounds.ensures.live (search (rules, c.is_none.ensures, c.if-is_none.false)) (λ rounds h.
    stale_round c.args.core.now.book c.validate.new.self.book c.args.call c.in-Stale.start c.in-Stale.low c.in_ok-validate.field-0 h.live c.validate.ensures.same (sym c.is_read_only.ensures ∙ c.if-is_read_only.false) h.is_live c.in_ok-validate.ensures.answer c.in-Stale.is)

pub returns : goal.returns
returns c = some_rounds c.rounds.result c.rounds.ensures.live (search (rules, c.is_none.ensures, c.if-is_none.false)) (λ rounds h.
    round_told c.args.core.now.book c.validate.new.self.book c.args.call c.in-Hit.number c.in-Hit.commit c.in_ok-validate.field-0 h.live c.has_round.result c.validate.ensures.same (sym c.is_read_only.ensures ∙ c.if-is_read_only.false) h.is_live c.in_ok-validate.ensures.answer c.in-Hit.is c.has_round.ensures)

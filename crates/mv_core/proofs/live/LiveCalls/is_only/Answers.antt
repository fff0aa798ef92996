use Rattle.std.proofs.Common.{rules, ◌≡◌, length, sym, ap, ◌∙◌}
use Rattle.std.specs.List.{list_any}
use Rattle.std.specs.Ordering.{is_eq, nat_cmp}
use Rattle.mv_core.proofs.Lives.{only_from, only_has}
use Rattle.mv_core.proofs.live.LiveCalls.is_only.Goals as goal

pub returns-then-len-eq1 : goal.returns-then-len-eq1
returns-then-len-eq1 c =
    let long : length c.args.self.now ≡ 1 = ap length (sym c.self.view_is) ∙ (sym c.len.ensures.len ∙ c.if-len-eq1.true) in
    let has : c.contains.result ≡ list_any (λ d. is_eq (nat_cmp c.args.call d)) c.args.self.now = c.contains.ensures ∙ ap (list_any (λ d. is_eq (nat_cmp c.args.call d))) c.self.view_is in
    (λ e. only_from c.args.call c.args.self.now long (sym has ∙ e), λ is. has ∙ (only_has c.args.call c.args.self.now is).1)

pub returns-else-len-eq1 : goal.returns-else-len-eq1
returns-else-len-eq1 c = (
  λ e. absurd (search (rules, e, c.if-len-eq1.false)),
  λ is.
      let one : c.len.result ≡ 1 = c.len.ensures.len ∙ (ap length c.self.view_is ∙ (only_has c.args.call c.args.self.now is).0) in
      absurd (search (rules, one, c.if-len-eq1.false)),
)

use Rattle.std.proofs.Common.{rules, ◌≡◌, length, sym}
use Rattle.mv_exec.proofs.Restoring.{begun_again}
use Rattle.mv_exec.proofs.variables.Variables.begin_again.Goals as goal

pub returns : goal.returns
returns c =
    let len : c.len.result ≡ length c.set_all_back.new.kept.items = search rules in
    begun_again c.args.self.now c.self.inside.kept.items c.set_all_back.new.kept.items c.self.inside.env c.set_all_back.new.held c.truncate.new.self c.len.result (sym c.self.view_is) c.self.invariant
    c.set_all_back.ensures.kept c.set_all_back.ensures.len c.set_all_back.ensures.held c.set_all_back.ensures.room len c.truncate.ensures

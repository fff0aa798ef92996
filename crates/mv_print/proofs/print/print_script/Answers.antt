use Rattle.mv_print.proofs.Law.{printed_back}
use Rattle.mv_print.proofs.print.print_script.Goals as goal

pub returns-clause-read_back : goal.returns-clause-read_back
returns-clause-read_back c tokens a g = printed_back c.args.bytes.now tokens c.args.script.now c.write_script.result a g c.write_script.ensures

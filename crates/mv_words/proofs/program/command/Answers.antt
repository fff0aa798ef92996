use Rattle.std.proofs.Common.{◌≡◌, rules, codes}
use Rattle.std.proofs.lemmas.Result.{IfOk-weaker}
use Rattle.clap.specs.Words.{rule_of}
use Rattle.mv_words.specs.Program.{flag, valued}
use Rattle.mv_words.proofs.Building.{with_option}
use Rattle.mv_words.proofs.program.command.Goals as goal

pub returns : goal.returns
returns c =
    let threads : rule_of c.valued.result ≡ valued (codes "threads") = search rules in
    let rounds : rule_of c.valued-2.result ≡ valued (codes "rounds") = search rules in
    let horizon : rule_of c.valued-3.result ≡ valued (codes "horizon") = search rules in
    let warehouses : rule_of c.valued-4.result ≡ valued (codes "warehouses") = search rules in
    let calls : rule_of c.valued-5.result ≡ valued (codes "calls") = search rules in
    let seed : rule_of c.valued-6.result ≡ valued (codes "seed") = search rules in
    let script : rule_of c.flag.result ≡ flag (codes "script") = search rules in
    let one = with_option _ _ _ _ _ (record { app_is = c.new.ensures.app; local = c.new.ensures.local }) threads c.valued.ensures.local c.in_ok-arg.ensures in
    let two = with_option _ _ _ _ _ one rounds c.valued-2.ensures.local c.in_ok-arg-2.ensures in
    let three = with_option _ _ _ _ _ two horizon c.valued-3.ensures.local c.in_ok-arg-3.ensures in
    let four = with_option _ _ _ _ _ three warehouses c.valued-4.ensures.local c.in_ok-arg-4.ensures in
    let five = with_option _ _ _ _ _ four calls c.valued-5.ensures.local c.in_ok-arg-5.ensures in
    let six = with_option _ _ _ _ _ five seed c.valued-6.ensures.local c.in_ok-arg-6.ensures in
    IfOk-weaker c.arg-7.result _ _ (λ made adds. let seven = with_option _ _ _ made _ six script c.flag.ensures.local adds in record { app_is = seven.app_is; local = seven.local }) c.arg-7.ensures

use Rattle.std.proofs.Common.{◌≡◌, rules, codes}
use Rattle.std.proofs.lemmas.Result.{IfOk-weaker}
use Rattle.clap.specs.Simple.{app_of, new_app}
use Rattle.mv_words.specs.Program.{IsCommand, command}
use Rattle.mv_words.proofs.Building.{is_nameless, is_without_help, is_without_help_flag, with_command}
use Rattle.mv_words.proofs.program.program.Goals as goal

pub returns : goal.returns
returns c =
    let new : app_of c.new.result ≡ new_app (codes "mv3c") = search rules in
    let nameless = is_nameless _ _ c.no_binary_name.result (record { app_is = new; local = c.new.ensures.local }) c.no_binary_name.ensures in
    let flagless = is_without_help_flag _ _ c.disable_help_flag.result nameless c.disable_help_flag.ensures in
    let bare = is_without_help _ _ c.disable_help_subcommand.result flagless c.disable_help_subcommand.ensures in
    let run : IsCommand (command (codes "run")) c.in_ok-command.field-0 = c.in_ok-command.ensures in
    let replay : IsCommand (command (codes "replay")) c.in_ok-command-2.field-0 = c.in_ok-command-2.ensures in
    let serial : IsCommand (command (codes "serial")) c.in_ok-command-3.field-0 = c.in_ok-command-3.ensures in
    let graph : IsCommand (command (codes "graph")) c.in_ok-command-4.field-0 = c.in_ok-command-4.ensures in
    let tpcc : IsCommand (command (codes "tpcc")) c.in_ok-command-5.field-0 = c.in_ok-command-5.ensures in
    let audit : IsCommand (command (codes "audit")) c.in_ok-command-6.field-0 = c.in_ok-command-6.ensures in
    let why : IsCommand (command (codes "why")) c.in_ok-command-7.field-0 = c.in_ok-command-7.ensures in
    let one = with_command _ _ _ _ _ bare run c.in_ok-subcommand.ensures in
    let two = with_command _ _ _ _ _ one replay c.in_ok-subcommand-2.ensures in
    let three = with_command _ _ _ _ _ two serial c.in_ok-subcommand-3.ensures in
    let four = with_command _ _ _ _ _ three graph c.in_ok-subcommand-4.ensures in
    let five = with_command _ _ _ _ _ four tpcc c.in_ok-subcommand-5.ensures in
    let six = with_command _ _ _ _ _ five audit c.in_ok-subcommand-6.ensures in
    IfOk-weaker c.subcommand-7.result _ _ (λ made adds. (with_command _ _ _ made _ six why adds).app_is) c.subcommand-7.ensures

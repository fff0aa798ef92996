use Rattle.std.proofs.Common.{◌∙◌, ap, sym}
use Rattle.std.specs.Prelude.{option_and_then}
use Rattle.clap.specs.Words.{found_of, rows_of}
use Rattle.mv_words.specs.Words.{command_with}
use Rattle.mv_words.specs.Program.{command_in}
use Rattle.mv_words.proofs.Found.{command_found}
use Rattle.mv_words.proofs.reading.command_in.Goals as goal

pub returns : goal.returns
returns c =
    let name = c.in_ok-name.name.now in
    let found = command_found c.args.found.now name (rows_of (found_of c.in_ok-name.options.now)) c.in_ok-name.ensures.name c.in_ok-name.ensures.rows in
    c.command_with.ensures ∙ sym (ap command_in found ∙ ap (option_and_then (command_with name)) (sym c.given_in.ensures ∙ c.in_ok-given_in.was))

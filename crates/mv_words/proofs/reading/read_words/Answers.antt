use Rattle.std.proofs.Common.{◌≡◌, ◌∙◌, ap, sym, true, false}
use Rattle.clap.specs.Faults.{is_simple_and_free}
use Rattle.clap.specs.Words.{app_of}
use Rattle.mv_words.specs.Words.{command_of, words_of}
use Rattle.mv_words.specs.Program.{has_escape, program}
use Rattle.mv_words.proofs.Loads.{load_read}
use Rattle.mv_words.proofs.Told.{escaped, fault_said, found_said, program_is_simple, told}
use Rattle.mv_words.proofs.reading.read_words.Goals as goal

pub returns-then-has_escape-clause-said : goal.returns-then-has_escape-clause-said
returns-then-has_escape-clause-said c = escaped (words_of c.args.words.now) (sym c.has_escape.ensures ∙ c.if-has_escape.true)

pub returns-in-Ok-clause-said : goal.returns-in-Ok-clause-said
returns-in-Ok-clause-said c =
    let words = words_of c.args.words.now in
    let plain : has_escape words ≡ false = sym c.has_escape.ensures ∙ c.if-has_escape.false in
    let is : app_of c.in_ok-program.field-0 ≡ program = c.in_ok-program.ensures in
    let free : is_simple_and_free (app_of c.in_ok-program.field-0) ≡ true = ap is_simple_and_free is ∙ program_is_simple in
    let said = found_said words (app_of c.in_ok-program.field-0) c.in-Ok.found plain is c.in-Ok.ensures.matches (c.in-Ok.ensures.kinds free) in
    told (command_of words) c.command_in.result c.ok_or.result (c.command_in.ensures ∙ said) c.ok_or.ensures.value

pub returns-in-Err-clause-said : goal.returns-in-Err-clause-said
returns-in-Err-clause-said c =
    let words = words_of c.args.words.now in
    let plain : has_escape words ≡ false = sym c.has_escape.ensures ∙ c.if-has_escape.false in
    let is : app_of c.in_ok-program.field-0 ≡ program = c.in_ok-program.ensures in
    let free : is_simple_and_free (app_of c.in_ok-program.field-0) ≡ true = ap is_simple_and_free is ∙ program_is_simple in
    fault_said words (app_of c.in_ok-program.field-0) c.in-Err.error c.fault_by.result plain is (c.in-Err.ensures.kinds free) (λ out. c.fault_by.ensures.memory (c.kind.ensures ∙ out))

pub returns-in-Ok-clause-load : goal.returns-in-Ok-clause-load
returns-in-Ok-clause-load c = load_read (words_of c.args.words.now) c.ok_or.result (returns-in-Ok-clause-said c)

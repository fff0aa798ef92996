use Rattle.std.proofs.Common.{rules, subst, sym, ◌≡◌, ◌∙◌, List, ℕ}
use Rattle.std.specs.Option.{ForSome}
use Rattle.mv_values.specs.Texts.{line}
use Rattle.mv_words.specs.declared.command.Command.{Command}
use Rattle.mv_top.specs.Refusals.{line_of}
use Rattle.mv_top.specs.declared.status.Status.TheVariants.{Done, Refused, Usage}
use Rattle.mv_top.specs.Inputs.{input_of, IsTaken}
use Rattle.mv_top.specs.Answers.{IsAnswered, IsTextOf, TakesBytes, IsRefusedBy, Puts, usage, words_of, usage_line}
use Rattle.mv_top.proofs.Answering.{wrote_by, put_by, answer_of_input, all_taken, cause_of_taken, same_command, no_command}
use Rattle.mv_top.proofs.Headlines.{wrote_serializable}
use Rattle.mv_top.proofs.Auditing.{wrote_audit}
use Rattle.mv_top.proofs.Whys.{wrote_why}
use Rattle.mv_top.proofs.top.top.Goals as goal

pub returns-in-Err-Usage-clause-wrote : goal.returns-in-Err-Usage-clause-wrote
returns-in-Err-Usage-clause-wrote g c =
    wrote_by (words_of c.args.words.now) (g.S.Source.left c.args.source.now) (g.K.Sink.written c.args.sink.now) (g.K.Sink.written c.put.new.sink)
    (g.K.Sink.faults c.args.sink.now) (g.K.Sink.faults c.put.new.sink) Usage (line usage_line) c.put.result (usage (no_command (words_of c.args.words.now) c.in-Err-Usage.field-0 (search rules) c.in-Err-Usage.ensures.said)) c.put.ensures

pub returns-in-Ok-answered-clause-wrote : goal.returns-in-Ok-answered-clause-wrote
returns-in-Ok-answered-clause-wrote g c =
    wrote_by (words_of c.args.words.now) (g.S.Source.left c.args.source.now) (g.K.Sink.written c.args.sink.now) (g.K.Sink.written c.put-in-Ok-answered.new.sink)
    (g.K.Sink.faults c.args.sink.now) (g.K.Sink.faults c.put-in-Ok-answered.new.sink) c.in-Ok-answered.status c.in-Ok-answered.text c.put-in-Ok-answered.result
    (answer_of_input (words_of c.args.words.now) (g.S.Source.left c.args.source.now) c.in-Ok.command c.in-Ok-take_input.bytes c.in-Ok-answered.status c.in-Ok-answered.text
    c.in-Ok.ensures.said c.in-Ok-take_input.ensures.taken
    (subst (λ (bytes : List ℕ). IsAnswered c.in-Ok.command bytes c.in-Ok-answered.status c.in-Ok-answered.text) c.as_slice.ensures c.in-Ok-answered.ensures.found))
    (subst (λ (text : List ℕ). Puts (g.K.Sink.written c.args.sink.now) (g.K.Sink.written c.put-in-Ok-answered.new.sink) (g.K.Sink.faults c.args.sink.now) (g.K.Sink.faults c.put-in-Ok-answered.new.sink) c.in-Ok-answered.status text c.put-in-Ok-answered.result)
    c.as_slice-in-Ok-answered.ensures c.put-in-Ok-answered.ensures)

pub returns-in-Ok-answered-clause-complete : goal.returns-in-Ok-answered-clause-complete
returns-in-Ok-answered-clause-complete g c =
    λ command all program words input takes no_read no_write.
    (let same : c.in-Ok.command ≡ command = same_command (words_of c.args.words.now) c.in-Ok.command command c.in-Ok.ensures.said words in
    let bytes : List ℕ = c.as_slice.result.now in
    let taken : ForSome (input_of command (g.S.Source.left c.args.source.now)) (λ xs. IsTaken xs c.in-Ok-take_input.bytes)
    = subst (λ (k : Command). ForSome (input_of k (g.S.Source.left c.args.source.now)) (λ xs. IsTaken xs c.in-Ok-take_input.bytes)) same c.in-Ok-take_input.ensures.taken in
    let read : bytes ≡ all = c.as_slice.ensures ∙ all_taken command all c.in-Ok-take_input.bytes program (taken all input) takes.0 in
    let here : TakesBytes c.in-Ok.command bytes program = subst (λ (k : Command). TakesBytes k bytes program) (sym same) (subst (λ (xs : List ℕ). TakesBytes command xs program) (sym read) takes) in
    let told = c.in-Ok-answered.ensures.only program here in
    put_by (g.K.Sink.written c.args.sink.now) (g.K.Sink.written c.put-in-Ok-answered.new.sink) (g.K.Sink.faults c.args.sink.now) (g.K.Sink.faults c.put-in-Ok-answered.new.sink)
    c.in-Ok-answered.status Done c.in-Ok-answered.text (IsTextOf command all program) c.put-in-Ok-answered.result told.0
    (subst (λ (k : Command). IsTextOf k all program c.in-Ok-answered.text) same (subst (λ (xs : List ℕ). IsTextOf c.in-Ok.command xs program c.in-Ok-answered.text) read told.1)) no_write
    (subst (λ (text : List ℕ). Puts (g.K.Sink.written c.args.sink.now) (g.K.Sink.written c.put-in-Ok-answered.new.sink) (g.K.Sink.faults c.args.sink.now) (g.K.Sink.faults c.put-in-Ok-answered.new.sink) c.in-Ok-answered.status text c.put-in-Ok-answered.result)
    c.as_slice-in-Ok-answered.ensures c.put-in-Ok-answered.ensures))

pub returns-in-Ok-answered-clause-refuses : goal.returns-in-Ok-answered-clause-refuses
returns-in-Ok-answered-clause-refuses g c =
    λ command all refusal words input cause no_read no_write.
    (let same : c.in-Ok.command ≡ command = same_command (words_of c.args.words.now) c.in-Ok.command command c.in-Ok.ensures.said words in
    let bytes : List ℕ = c.as_slice.result.now in
    let taken : ForSome (input_of command (g.S.Source.left c.args.source.now)) (λ xs. IsTaken xs c.in-Ok-take_input.bytes)
    = subst (λ (k : Command). ForSome (input_of k (g.S.Source.left c.args.source.now)) (λ xs. IsTaken xs c.in-Ok-take_input.bytes)) same c.in-Ok-take_input.ensures.taken in
    let read : IsRefusedBy command bytes refusal = subst (λ (xs : List ℕ). IsRefusedBy command xs refusal) (sym c.as_slice.ensures) (cause_of_taken command all c.in-Ok-take_input.bytes refusal (taken all input) cause) in
    let told = c.in-Ok-answered.ensures.told refusal (subst (λ (k : Command). IsRefusedBy k bytes refusal) (sym same) read) in
    put_by (g.K.Sink.written c.args.sink.now) (g.K.Sink.written c.put-in-Ok-answered.new.sink) (g.K.Sink.faults c.args.sink.now) (g.K.Sink.faults c.put-in-Ok-answered.new.sink)
    c.in-Ok-answered.status Refused c.in-Ok-answered.text (λ (answer : List ℕ). answer ≡ line (line_of refusal)) c.put-in-Ok-answered.result told.0 told.1 no_write
    (subst (λ (text : List ℕ). Puts (g.K.Sink.written c.args.sink.now) (g.K.Sink.written c.put-in-Ok-answered.new.sink) (g.K.Sink.faults c.args.sink.now) (g.K.Sink.faults c.put-in-Ok-answered.new.sink) c.in-Ok-answered.status text c.put-in-Ok-answered.result)
    c.as_slice-in-Ok-answered.ensures c.put-in-Ok-answered.ensures))

pub returns-in-Err-Usage-clause-rest : goal.returns-in-Err-Usage-clause-rest
returns-in-Err-Usage-clause-rest g c = λ command words reads not_read not_starved. absurd (let e = sym words ∙ (no_command (words_of c.args.words.now) c.in-Err-Usage.field-0 (search rules) c.in-Err-Usage.ensures.said) in cc)

pub returns-in-Err-Usage-clause-serializable : goal.returns-in-Err-Usage-clause-serializable
returns-in-Err-Usage-clause-serializable g c =
    wrote_serializable (words_of c.args.words.now) (g.S.Source.left c.args.source.now) (g.K.Sink.written c.args.sink.now) (g.K.Sink.written c.put.new.sink) c.put.result (returns-in-Err-Usage-clause-wrote g c)

pub returns-in-Ok-answered-clause-serializable : goal.returns-in-Ok-answered-clause-serializable
returns-in-Ok-answered-clause-serializable g c =
    wrote_serializable (words_of c.args.words.now) (g.S.Source.left c.args.source.now) (g.K.Sink.written c.args.sink.now) (g.K.Sink.written c.put-in-Ok-answered.new.sink) c.put-in-Ok-answered.result (returns-in-Ok-answered-clause-wrote g c)

pub returns-in-Err-Usage-clause-audited : goal.returns-in-Err-Usage-clause-audited
returns-in-Err-Usage-clause-audited g c =
    wrote_audit (words_of c.args.words.now) (g.S.Source.left c.args.source.now) (g.K.Sink.written c.args.sink.now) (g.K.Sink.written c.put.new.sink) c.put.result (returns-in-Err-Usage-clause-wrote g c)

pub returns-in-Ok-answered-clause-audited : goal.returns-in-Ok-answered-clause-audited
returns-in-Ok-answered-clause-audited g c =
    wrote_audit (words_of c.args.words.now) (g.S.Source.left c.args.source.now) (g.K.Sink.written c.args.sink.now) (g.K.Sink.written c.put-in-Ok-answered.new.sink) c.put-in-Ok-answered.result (returns-in-Ok-answered-clause-wrote g c)

pub returns-in-Err-Usage-clause-explained : goal.returns-in-Err-Usage-clause-explained
returns-in-Err-Usage-clause-explained g c =
    wrote_why (words_of c.args.words.now) (g.S.Source.left c.args.source.now) (g.K.Sink.written c.args.sink.now) (g.K.Sink.written c.put.new.sink) c.put.result (returns-in-Err-Usage-clause-wrote g c)

pub returns-in-Ok-answered-clause-explained : goal.returns-in-Ok-answered-clause-explained
returns-in-Ok-answered-clause-explained g c =
    wrote_why (words_of c.args.words.now) (g.S.Source.left c.args.source.now) (g.K.Sink.written c.args.sink.now) (g.K.Sink.written c.put-in-Ok-answered.new.sink) c.put-in-Ok-answered.result (returns-in-Ok-answered-clause-wrote g c)

use Rattle.std.proofs.Common.{ap, ◌∙◌}
use Rattle.mv_core.specs.Books.{Booked}
use Rattle.mv_gate.proofs.Pins.{readers_first}
use Rattle.mv_gate.proofs.gate.Gate.new.Goals as goal

pub new-state-requires : goal.new-state-requires
new-state-requires g c =
    readers_first g.N.Making.script g.N.Naming.word c.new-reader_pins.result.readers c.new-reader_pins.result.pins.items c.pass_for-pass.new.self.schedule c.new-reader_pins.ensures.readers c.new-reader_pins.ensures.pins
    (ap (λ (b : Booked). b.schedule) c.pass_for-pass.ensures.same ∙ c.in_ok-scheduler.ensures.schedule)

pub invariant_of-result : goal.invariant_of-result
invariant_of-result g c = record { named = c.in_ok-script.ensures ∙ c.requires.script }

use Rattle.std.proofs.Common.{◌≡◌, ◌≤◌, ℕ, List, length, sym, ap, ◌∙◌, arith}
use Rattle.std.specs.Prelude.{Result, Ok, Err, IfOk}
use mathlib.Core.List.{IsPrefix}
use Rattle.mv_values.specs.declared.memory.NoMemory.{NoMemory}
use Rattle.mv_seats.proofs.Prefixes.{prefix_length}
use Rattle.mv_shards.specs.Reads.{Started}
use Rattle.mv_gate.proofs.gate.Gate.snapshot.Goals as goal

-- a start after all of these commits
abbrev IsLast : List ℕ → Started → Type 0
IsLast order start = (start.number ≡ length order) × (start.knows.seen ≡ order)

number : (order : List ℕ) (r : Result Started NoMemory) → IfOk r (IsLast order) → IfOk r (λ start. start.number ≡ length start.knows.seen)
number order (Ok start) last = last.0 ∙ ap length (sym last.1)
number order (Err e) last = tt

past : (order seen : List ℕ) (r : Result Started NoMemory) → IfOk r (IsLast order) → IfOk r (λ start. IsPrefix seen start.knows.seen) → IfOk r (λ start. length seen ≤ start.number)
past order seen (Ok start) last p =
    let longer = prefix_length seen start.knows.seen p in
    let all = last.0 in
    let long = ap length last.1 in
    omega (arith, longer, all, long)
past order seen (Err e) last p = tt

pub returns-clause-number : goal.returns-clause-number
returns-clause-number g c = number _ c.snapshot.result c.snapshot.ensures.last

pub returns-clause-past : goal.returns-clause-past
returns-clause-past g c = past _ c.args.pass.now.seen c.snapshot.result c.snapshot.ensures.last c.snapshot.ensures.seen

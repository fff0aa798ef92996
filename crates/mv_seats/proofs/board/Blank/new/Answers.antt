use Rattle.std.proofs.Common.{◌≤◌, ◌+◌, ℕ, sym, ap, subst, arith, length, replicate, length-take}
use Rattle.mv_seats.specs.Scripts.{BoardScript}
use Rattle.mv_seats.proofs.Words.{first_zeros}
use Rattle.mv_seats.proofs.Rules.{starts}
use Rattle.mv_seats.proofs.board.Blank.new.Goals as goal

pub of_words-requires : goal.of_words-requires
of_words-requires c =
    let few = subst (λ (s : BoardScript). length s.calls ≤ 1000000) (sym c.new-script.ensures) c.requires.calls in
    let shards = ap (λ (s : BoardScript). s.shards) c.new-script.ensures in
    starts _ _ few (omega (arith, shards, length-take {A = ℕ} (c.args.shards + 1) (replicate 65 0))) (first_zeros (c.args.shards + 1) 65)

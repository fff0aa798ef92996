use Rattle.std.proofs.Common.{ℕ, drop, sym, subst, arith}
use Rattle.mv_lex.specs.Tokens.{stop, IsBadByte}
use Rattle.mv_lex.proofs.Answers.{bad_from_run, allowed_from_run}
use Rattle.mv_lex.proofs.Whole.{gap_so_far, token_so_far, nothing_there, still_within}
use Rattle.mv_lex.proofs.lexer.read.Goals as goal

pub returns-then-allowed-bytes : goal.returns-then-allowed-bytes
returns-then-allowed-bytes c =
    subst (λ (k : ℕ). IsBadByte c.args.bytes.now k) (sym c.allowed_run-allowed.ensures) (bad_from_run c.args.bytes.now (omega arith))

pub loop-at-init : goal.loop-at-init
loop-at-init c = record {
  within = omega arith;
  allowed = allowed_from_run c.args.bytes.now (omega arith);
  so_far = rw c.new-tokens.ensures stop;
}

pub loop-at-preserved-in-Gap : goal.loop-at-preserved-in-Gap
loop-at-preserved-in-Gap c = record {
  within = still_within c.args.bytes.now c.loop-at.at c.in-Gap.len c.loop-at.invariant.within c.in-Gap.ensures.within.1;
  allowed = c.loop-at.invariant.allowed;
  so_far = gap_so_far c.args.bytes.now c.loop-at.at c.in-Gap.len c.loop-at.tokens c.loop-at.invariant.so_far c.in-Gap.ensures.piece;
}

pub loop-at-preserved : goal.loop-at-preserved
loop-at-preserved c = record {
  within = still_within c.args.bytes.now c.loop-at.at c.in-Found.len c.loop-at.invariant.within c.in-Found.ensures.within.1;
  allowed = c.loop-at.invariant.allowed;
  so_far = rw c.in_ok-push-in-Found.ensures.ok
      (token_so_far c.args.bytes.now c.loop-at.at c.in-Found.len c.in-Found.kind c.loop-at.tokens c.loop-at.invariant.so_far c.in-Found.ensures.piece);
}

pub returns-in-Nothing : goal.returns-in-Nothing
returns-in-Nothing c = (
  c.loop-at.invariant.allowed,
  (
    c.loop-at.tokens,
    drop c.loop-at.at c.args.bytes.now,
    c.loop-at.invariant.so_far,
    nothing_there c.args.bytes.now c.loop-at.at (omega arith) c.in-Nothing.ensures.piece,
  ),
)

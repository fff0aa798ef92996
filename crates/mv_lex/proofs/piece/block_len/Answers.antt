use Rattle.std.proofs.Common.{◌∙◌, sym, arith}
use Rattle.std.proofs.lemmas.List.{take_rest}
use Rattle.mv_lex.proofs.Steps.{block_next_at, block_ends_at, block_none_at}
use Rattle.mv_lex.proofs.piece.block_len.Goals as goal

pub returns-in-Some-clause-len : goal.returns-in-Some-clause-len
returns-in-Some-clause-len c =
    let h = c.in-Some.ensures.len in
    sym (block_ends_at c.args.bytes.now c.loop-i.i c.in-Some.len c.loop-i.fresh (omega arith) (sym (rw (take_rest c.args.bytes.now c.loop-i.i) at h))) ∙ c.loop-i.invariant

pub loop-i-preserved : goal.loop-i-preserved
loop-i-preserved c =
    let h = c.in_default.ensures.len in
    sym (block_next_at c.args.bytes.now c.loop-i.i c.loop-i.fresh (omega arith) (sym (rw (take_rest c.args.bytes.now c.loop-i.i) at h))) ∙ c.loop-i.invariant

pub returns-clause-len : goal.returns-clause-len
returns-clause-len c = sym (block_none_at c.args.bytes.now c.loop-i.i c.loop-i.fresh (omega arith)) ∙ c.loop-i.invariant

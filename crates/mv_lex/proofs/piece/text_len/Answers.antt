use Rattle.std.proofs.Common.{◌∙◌, sym, arith}
use Rattle.mv_lex.proofs.Steps.{text_opens_at, text_closes_at, text_next_at, text_ends_at, text_none_at, later}
use Rattle.mv_lex.proofs.piece.text_len.Goals as goal
use Rattle.mv_lex.proofs.piece.text_len.Goals.{then-closed-2-via-then-closed-2, then-closed-2-via-else-closed-2+then-not-is_printable}
use Rattle.mv_lex.proofs.piece.text_len.Goals.{then-byte-eq39+then-closed, then-byte-eq39+else-closed, else-byte-eq39+else-closed-2+else-not-is_printable}

pub returns-then-closed-2-clause-len : goal.returns-then-closed-2-clause-len
returns-then-closed-2-clause-len c =
    elim c.then-closed-2.branch [
      | then-closed-2-via-then-closed-2 w ↦
          sym (text_ends_at c.args.bytes.now c.loop-i.i c.loop-i.closed c.loop-i.end (omega arith) c.if-byte-eq39.false (λ f. cc)) ∙ c.loop-i.invariant.rest
      | then-closed-2-via-else-closed-2+then-not-is_printable w ↦
          sym (text_ends_at c.args.bytes.now c.loop-i.i c.loop-i.closed c.loop-i.end (omega arith) c.if-byte-eq39.false (λ f. sym w.if-not-is_printable.ensures)) ∙ c.loop-i.invariant.rest
    ]

pub loop-i-preserved : goal.loop-i-preserved
loop-i-preserved c =
    elim c.if-byte-eq39.branch [
      | then-byte-eq39+then-closed w ↦ record {
        rest =
            let s = text_closes_at c.args.bytes.now c.loop-i.i c.loop-i.end (omega arith) w.if-byte-eq39.true in
            let e = c.loop-i.invariant.rest in
            rw (w.closed-is, w.end-is, w.if-closed.true) (sym s ∙ rw w.if-closed.true at e);
        within = rw w.end-is (omega arith);
      }
      | then-byte-eq39+else-closed w ↦ record {
        rest =
            let s = text_opens_at c.args.bytes.now c.loop-i.i c.loop-i.end (omega arith) w.if-byte-eq39.true in
            let e = c.loop-i.invariant.rest in
            rw (w.closed-is, w.end-is, w.if-closed.false) (sym s ∙ rw w.if-closed.false at e);
        within = rw w.end-is (later c.loop-i.i c.loop-i.end c.loop-i.invariant.within);
      }
      | else-byte-eq39+else-closed-2+else-not-is_printable w ↦ record {
        rest =
            let s = text_next_at c.args.bytes.now c.loop-i.i c.loop-i.end (omega arith) w.if-byte-eq39.false (sym w.if-not-is_printable.ensures) in
            let e = c.loop-i.invariant.rest in
            rw (w.closed-is, w.end-is, w.if-closed-2.false) (sym s ∙ rw w.if-closed-2.false at e);
        within = rw w.end-is (later c.loop-i.i c.loop-i.end c.loop-i.invariant.within);
      }
    ]

pub returns-clause-len : goal.returns-clause-len
returns-clause-len c = sym (text_none_at c.args.bytes.now c.loop-i.i c.loop-i.closed c.loop-i.end (omega arith)) ∙ c.loop-i.invariant.rest

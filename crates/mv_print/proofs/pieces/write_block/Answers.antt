use Rattle.std.proofs.Common.{◌≡◌, ◌++◌, ℕ, Bool, false, List, sym, ap, ◌∙◌, codes, append_assoc, append-nil}
use Rattle.mv_print.specs.Printing.{put, block_piece}
use Rattle.mv_print.proofs.pieces.write_block.Goals as goal

open_put : (content : List ℕ) (closed : Bool) (old mid new : List ℕ) → closed ≡ false → mid ≡ old ++ codes "<<\n" → new ≡ mid ++ content → new ≡ put old (block_piece content closed)
unfolding put
open_put content closed old mid new is e f =
    rw is (f ∙ (ap (λ (r : List ℕ). r ++ content) e ∙ (append_assoc old (codes "<<\n") content ∙ ap (λ (r : List ℕ). old ++ r) (sym (append-nil (codes "<<\n" ++ content))))))

pub returns-then-not-closed : goal.returns-then-not-closed
returns-then-not-closed c =
    open_put c.args.content.now c.args.closed c.args.text.now c.append.new.self c.append-2.new.self c.if-not-closed.true c.in_ok-append.ensures.ok c.in_ok-append-2.ensures.ok

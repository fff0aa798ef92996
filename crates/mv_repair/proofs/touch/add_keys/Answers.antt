use Rattle.std.proofs.Common.{◌≡◌, ◌+◌, ◌++◌, ◌∷◌, [], true, List, sym, ap, subst, ◌∙◌, take, append-nil, append_assoc}
use Rattle.std.proofs.lemmas.List.{take_more}
use Rattle.mv_values.specs.declared.value.Value.{Value}
use Rattle.mv_values.specs.declared.patch.Write.{Write}
use Rattle.mv_repair.specs.Keys.{has_key}
use Rattle.mv_repair.specs.Walking.{AreKnown}
use Rattle.mv_repair.proofs.Knowing.{known_more}
use Rattle.mv_repair.proofs.touch.add_keys.Goals as goal

pub loop-write-init : goal.loop-write-init
loop-write-init c vs h = subst (AreKnown c.args.keys.now) (sym (append-nil vs)) h

pub loop-write-preserved : goal.loop-write-preserved
loop-write-preserved c vs h =
    let w : Write = c.write-item.result in
    let i = c.loop-write.write-index in
    let ws : List Write = c.args.writes.now in
    let there : has_key c.add.new.self w.table w.key ≡ true = subst (λ (key : List Value). has_key c.add.new.self w.table key ≡ true) c.in_ok-copy.ensures c.in_ok-add.ensures.added in
    let more : take i ws ++ w ∷ [] ≡ take (i + 1) ws = ap (λ (x : Write). take i ws ++ x ∷ []) c.write-item.is ∙ sym (take_more ws i w c.loop-write-test.true) in
    subst (AreKnown c.add.new.self) (append_assoc vs (take i ws) (w ∷ []) ∙ ap (λ (l : List Write). vs ++ l) more)
    (known_more c.loop-write.keys c.add.new.self w (vs ++ take i ws) c.in_ok-add.ensures.still there (c.loop-write.invariant vs h))

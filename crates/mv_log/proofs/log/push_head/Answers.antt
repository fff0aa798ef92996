-- A head is added, and the writes of its record.
use Rattle.std.proofs.Common.{◌≡◌, ◌<◌, ◌++◌, ◌∷◌, [], ℕ, All, length, take, drop, sym, ap, subst, ◌∙◌, arith}
use Rattle.std.proofs.lemmas.List.{take_all, take-append-le}
use Rattle.mv_undo.specs.declared.place.Place.{Place}
use Rattle.mv_undo.specs.Owned.{owned_by}
use Rattle.mv_undo.specs.Owning.{undo_of}
use Rattle.mv_log.proofs.log.push_head.Goals as goal

pub push_all-requires-clause-last : goal.push_all-requires-clause-last
push_all-requires-clause-last c = subst (λ (n : ℕ). All (λ (p : Place). p.number < n) c.args.own.now.places) (sym c.len-number.ensures) c.requires.last

pub returns-in-Err-clause-err : goal.returns-in-Err-clause-err
returns-in-Err-clause-err c =
    let hs = c.args.heads.now in
    let front : take (length hs) (hs ++ c.args.head ∷ []) ≡ hs = take-append-le (length hs) hs (c.args.head ∷ []) (omega arith) ∙ take_all (length hs) hs (omega arith) in
    (c.truncate.ensures ∙ (ap (λ n. take n c.push.new.self) c.len-number.ensures ∙ (ap (take (length hs)) c.in_ok-push.ensures.ok ∙ front)), c.in-Err.ensures.err)

pub returns-clause-own : goal.returns-clause-own
returns-clause-own c =
    let ws = c.args.writes.now in
    c.in_default.ensures.ok ∙ ap (λ (n : ℕ). owned_by c.args.own.now.places ws ++ undo_of n (drop c.args.part.from (take c.args.part.to ws))) c.len-number.ensures

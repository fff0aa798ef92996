use Rattle.std.proofs.Common.{◌<◌, ◌++◌, ◌∷◌, [], List, Bool, length, refl, sym, ap, subst, ◌∙◌, take, arith}
use Rattle.mv_record.specs.declared.record.Record.{Record}
use Rattle.mv_undo.specs.Owning.{earlier}
use Rattle.mv_changes.specs.Admitting.{AreAdmitted}
use Rattle.mv_changes.proofs.Admitting.{all_got}
use Rattle.mv_repair.specs.Repairing.{changes_since}
use Rattle.mv_repair.specs.Walking.{hits_in}
use Rattle.mv_repair.proofs.Admitting.{commits_admitted}
use Rattle.mv_repair.proofs.Hitting.{flag_more}
use Rattle.mv_repair.proofs.Lists.{got_there}
use Rattle.mv_repair.proofs.hits.hits_of.Goals as goal

pub is_hit-requires : goal.is_hit-requires
is_hit-requires c =
    let rs = c.args.records.now in
    let lt : c.loop-number.number < length rs = subst (λ end. c.loop-number.number < end) c.len-number-end.ensures c.loop-number-test.true in
    commits_admitted c.args.since.now c.get.result (all_got (AreAdmitted (changes_since c.args.since.now)) rs c.loop-number.number c.get.result lt c.get.ensures c.requires.admitted)

pub loop-number-preserved : goal.loop-number-preserved
loop-number-preserved c =
    let r : Record = c.get.result in
    let n = c.loop-number.number in
    let rs = c.args.records.now in
    let lt : n < length rs = subst (λ end. n < end) c.len-number-end.ensures c.loop-number-test.true in
    c.in_ok-push.ensures.ok
    ∙ (ap (λ (l : List Bool). l ++ c.is_hit.result ∷ []) c.loop-number.invariant
    ∙ (flag_more (changes_since c.args.since.now) (take n rs) r (earlier n c.args.undo.now) c.args.since.now c.is_hit.result refl c.is_hit.ensures (c.requires.writes n (omega (arith, lt)))
    ∙ ap (hits_in (changes_since c.args.since.now) []) (sym (got_there rs n r c.get.ensures))))

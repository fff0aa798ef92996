use Rattle.std.proofs.Common.{rules, ◌≤◌, ◌<◌, ◌+◌, ◌++◌, All, List, refl, sym, ap, subst, ◌∙◌, drop, take, arith}
use Rattle.std.proofs.lemmas.List.Elements.{All-push, All-weaker}
use Rattle.mv_undo.specs.declared.place.Place.{Place}
use Rattle.mv_undo.specs.Owned.{owned_by, places_before}
use Rattle.mv_undo.specs.Owning.{undo_of}
use Rattle.mv_undo.specs.Indexed.{Indexed}
use Rattle.mv_undo.proofs.Adding.{all_before, before_push, part_more, part_done}
use Rattle.mv_undo.proofs.own_index.OwnIndex.push_all.Goals as goal

pub loop-at-init : goal.loop-at-init
loop-at-init c = record {
  index = c.requires.index;
  last = All-weaker (λ (p : Place). p.number < c.args.number) (λ (p : Place). p.number ≤ c.args.number) (λ p lt. omega (arith, lt)) c.args.self.now.places c.requires.last;
  before = all_before c.args.number c.args.self.now.places c.requires.last;
  all = refl;
}

pub loop-at-preserved : goal.loop-at-preserved
loop-at-preserved c =
    let n = c.args.number in
    let ws = c.args.writes.now in
    let at = c.loop-at.at in
    let ps = c.loop-at.self.places in
    let p : Place = record { number = n; at = at } in
    let lt : at < c.args.to = search rules in
    record {
      index = c.in_default.ensures.index;
      last = subst (All (λ (q : Place). q.number ≤ n)) (sym c.in_default.ensures.places) (All-push (λ (q : Place). q.number ≤ n) ps p c.loop-at.invariant.last (omega arith));
      before = ap (places_before n) c.in_default.ensures.places ∙ (before_push n at ps ∙ c.loop-at.invariant.before);
      all =
          ap (λ (qs : List Place). owned_by qs ws ++ undo_of n (drop (at + 1) (take c.args.to ws))) c.in_default.ensures.places
          ∙ part_more n at c.args.to ps ws (owned_by c.args.self.now.places ws ++ undo_of n (drop c.args.from (take c.args.to ws))) lt c.requires.within c.loop-at.invariant.all;
    }

pub returns-in-Err-clause-err : goal.returns-in-Err-clause-err
returns-in-Err-clause-err c = c.drop_from.ensures.places ∙ (ap (λ (i : Indexed). places_before c.args.number i.places) c.in-Err.ensures.err ∙ c.loop-at.invariant.before)

pub returns-clause-ok : goal.returns-clause-ok
returns-clause-ok c =
    let ws = c.args.writes.now in
    let le : c.args.to ≤ c.loop-at.at = search rules in
    part_done c.args.number c.loop-at.at c.args.to c.loop-at.self.places ws (owned_by c.args.self.now.places ws ++ undo_of c.args.number (drop c.args.from (take c.args.to ws))) le c.loop-at.invariant.all

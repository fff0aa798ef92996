use Rattle.std.proofs.Common.{inl, ◌∙◌, refl}
use Rattle.mv_index.proofs.Adding.{keeps_itself}
use Rattle.mv_index.proofs.Covering.{keeps_then, covers_none, even_more, covers_more, only_more, only_all, others_same, covers_all}
use Rattle.mv_index.proofs.cover.add_rows.Goals as goal

pub loop-item-init : goal.loop-item-init
loop-item-init c = record {
  keeps = keeps_itself c.args.index.now;
  others = λ t other. refl;
  even = λ len even h. h;
  only = λ u x v k h. inl h;
  covers = covers_none c.args.index.now c.args.table;
}

pub loop-item-preserved : goal.loop-item-preserved
loop-item-preserved c =
    let a = c.loop-item.index in
    let b = c.add.new.self in
    let t = c.args.table in
    let item = c.item-item.result in
    record {
      keeps = keeps_then c.args.index.now a b c.loop-item.invariant.keeps c.in_ok-add.ensures.keeps;
      others = λ u other. others_same a b t u item.key item.row other c.in_ok-add.ensures.only ∙ c.loop-item.invariant.others u other;
      even = λ len even h. even_more a b t c.args.rows.now c.loop-item.item-index item c.loop-item-test.true c.item-item.is c.in_ok-add.ensures.only len even (c.loop-item.invariant.even len even h);
      only = only_more c.args.index.now a b t c.args.rows.now c.loop-item.item-index item c.loop-item-test.true c.item-item.is c.loop-item.invariant.only c.in_ok-add.ensures.only;
      covers = covers_more a b t c.args.rows.now c.loop-item.item-index item c.loop-item-test.true c.item-item.is c.loop-item.invariant.covers c.in_ok-add.ensures.keeps c.in_ok-add.ensures.has;
    }

pub returns-clause-covers : goal.returns-clause-covers
returns-clause-covers c = covers_all c.loop-item.index c.args.table c.args.rows.now c.loop-item.item-index c.loop-item-test.false c.loop-item.invariant.covers

pub returns-clause-only : goal.returns-clause-only
returns-clause-only c = λ u x v k h. only_all c.args.table c.args.rows.now c.loop-item.item-index c.loop-item-test.false x v k u (c.loop-item.invariant.only u x v k h)

pub returns-in_err-add-clause-keeps : goal.returns-in_err-add-clause-keeps
returns-in_err-add-clause-keeps c = keeps_then c.args.index.now c.loop-item.index c.add.new.self c.loop-item.invariant.keeps c.in_err-add.ensures.keeps

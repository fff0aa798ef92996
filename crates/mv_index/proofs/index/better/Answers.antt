use Rattle.std.proofs.Common.{inl, inr, refl, sym, ◌∙◌, length}
use Rattle.mv_index.proofs.Choosing.{no_worse_by, worse_by, no_worse_itself}
use Rattle.mv_index.proofs.index.better.Goals as goal

pub returns-in_default-clause-one : goal.returns-in_default-clause-one
returns-in_default-clause-one c = inl refl

pub returns-in_default-clause-no_worse : goal.returns-in_default-clause-no_worse
returns-in_default-clause-no_worse c = no_worse_itself (length c.args.candidate.keys.now) c.args.candidate.column

pub returns-then-is_no_worse-clause-one : goal.returns-then-is_no_worse-clause-one
returns-then-is_no_worse-clause-one c = inr c.in-Some.is

pub returns-then-is_no_worse-clause-no_worse : goal.returns-then-is_no_worse-clause-no_worse
returns-then-is_no_worse-clause-no_worse c =
    no_worse_by (length c.in-Some.best.keys.now) c.in-Some.best.column (length c.args.candidate.keys.now) c.args.candidate.column (sym c.is_no_worse.ensures ∙ c.if-is_no_worse.true)

pub returns-then-is_no_worse-clause-no_worse_before : goal.returns-then-is_no_worse-clause-no_worse_before
returns-then-is_no_worse-clause-no_worse_before c =
    rw c.in-Some.is (no_worse_itself (length c.in-Some.best.keys.now) c.in-Some.best.column)

pub returns-else-is_no_worse-clause-one : goal.returns-else-is_no_worse-clause-one
returns-else-is_no_worse-clause-one c = inl refl

pub returns-else-is_no_worse-clause-no_worse : goal.returns-else-is_no_worse-clause-no_worse
returns-else-is_no_worse-clause-no_worse c = no_worse_itself (length c.args.candidate.keys.now) c.args.candidate.column

pub returns-else-is_no_worse-clause-no_worse_before : goal.returns-else-is_no_worse-clause-no_worse_before
returns-else-is_no_worse-clause-no_worse_before c =
    rw c.in-Some.is
    (worse_by (length c.in-Some.best.keys.now) c.in-Some.best.column (length c.args.candidate.keys.now) c.args.candidate.column (sym c.is_no_worse.ensures ∙ c.if-is_no_worse.false))

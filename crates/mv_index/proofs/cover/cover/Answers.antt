use Rattle.std.specs.Option.{is_some}
use Rattle.std.proofs.lemmas.Bool.{false≢true}
use Rattle.mv_table.specs.Entries.{item_of}
use Rattle.std.proofs.Common.{◌≡◌, ◌≢◌, ◌⊎◌, ℕ, true, inl, inr, sym, ap, subst, ◌∙◌, arith}
use Rattle.mv_values.specs.Tables.{rows_at}
use Rattle.mv_index.specs.Indexing.{stands, has_row, CoversRows, HaveLen, AreOf, lens_of}
use Rattle.mv_index.proofs.Covering.{tables_more, evens_more, past_even}
use Rattle.mv_index.proofs.cover.cover.Goals as goal

pub loop-table-init : goal.loop-table-init
loop-table-init c = record { indexed = c.in_ok-index.ensures.indexed; only = λ t x v k h. absurd (false≢true (sym (ap (λ keys. is_some (item_of keys k)) (c.in_ok-index.ensures.empty t x v)) ∙ h)); covers = λ t lt. absurd (omega (arith, lt)); fresh = λ t le. c.in_ok-index.ensures.lens t; even = λ t len lt. absurd (omega (arith, lt)) }

pub loop-table-preserved : goal.loop-table-preserved
loop-table-preserved c =
    let a = c.loop-table.index in
    let b = c.add_rows.new.index in
    let t = c.loop-table.table in
    let here : CoversRows b t (rows_at c.args.database.now t) = subst (CoversRows b t) c.rows_in.ensures c.in_ok-add_rows.ensures.covers in
    let even : (len : ℕ) → HaveLen len (rows_at c.args.database.now t) → AreOf len (lens_of a t) → AreOf len (lens_of b t) =
    subst (λ rows. (len : ℕ) → HaveLen len rows → AreOf len (lens_of a t) → AreOf len (lens_of b t)) c.rows_in.ensures c.in_ok-add_rows.ensures.even in
    record {
      indexed = λ u x. c.in_ok-add_rows.ensures.keeps.indexed u x ∙ c.loop-table.invariant.indexed u x;
      covers = tables_more a b c.args.database.now c.loop-table.table c.loop-table.invariant.covers c.in_ok-add_rows.ensures.keeps here;
      only = λ u x v k h. elim (subst (λ rows. (stands a u x v k ≡ true) ⊎ ((u ≡ t) × (has_row rows x v k ≡ true))) c.rows_in.ensures (c.in_ok-add_rows.ensures.only u x v k h)) [
        | inl was ↦ c.loop-table.invariant.only u x v k was
        | inr new ↦ subst (λ n. has_row (rows_at c.args.database.now n) x v k ≡ true) (sym new.0) new.1
      ];
      fresh = λ u le. c.in_ok-add_rows.ensures.others u (λ same. omega (arith, same, le)) ∙ c.loop-table.invariant.fresh u (omega (arith, le));
      even = evens_more a b c.args.database.now c.loop-table.table c.loop-table.invariant.even c.in_ok-add_rows.ensures.others
          (λ len h. even len h (subst (AreOf len) (sym (c.loop-table.invariant.fresh c.loop-table.table (omega arith))) tt));
    }

pub returns-clause-covers : goal.returns-clause-covers
returns-clause-covers c = λ t small. c.loop-table.invariant.covers t (omega (arith, small, c.loop-table-test.false))

pub returns-clause-even : goal.returns-clause-even
returns-clause-even c = past_even c.loop-table.index c.loop-table.table c.args.database.now c.loop-table.invariant.fresh c.loop-table.invariant.even

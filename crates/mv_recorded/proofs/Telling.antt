-- The records of a full run have the lines and the end of the machine that runs the call alone.
use Rattle.std.proofs.Common.{◌≡◌, ℕ, Bool, true, false, if◌then◌else◌, List, [], ◌∷◌, ◌++◌, Option, Some, None, Result, Ok, Err, option_to_list, length, refl, sym, ap, ◌∙◌, append-nil, append_assoc}
use Rattle.std.proofs.lemmas.Grind.{flat_map-append}
use Rattle.std.specs.Option.{option_or}
use Rattle.std.specs.Result.{result_ok, result_err}
use Rattle.mv_values.specs.declared.value.Value.{Value}
use Rattle.mv_values.specs.declared.schema.TableInfo.{TableInfo}
use Rattle.mv_values.specs.declared.calls.Call.{Call}
use Rattle.mv_values.specs.declared.calls.End.{End}
use Rattle.mv_values.specs.Tables.{key_columns, columns_at, rows_at, Tables}
use Rattle.mv_catalog.specs.declared.resolved.ProcInfo.{ProcInfo}
use Rattle.mv_catalog.specs.declared.resolved.RStmt.{RStmt}
use Rattle.mv_catalog.specs.declared.resolved.RStmt.TheOpen.{RStmt-F, Assign, Select, Total, ForSelect, ForRows, Branch, Insert, Update, Delete, Print, Rollback}
use Rattle.mv_values.specs.References.{references, references_to}
use Rattle.mv_values.specs.declared.calls.End.TheVariants.{MissingParent, HasChildren}
use Rattle.mv_eval.specs.References.{has_parents, has_children, fit_in}
use Rattle.mv_eval.specs.declared.state.Env.{Env}
use Rattle.mv_eval.specs.declared.state.State.{State}
use Rattle.mv_eval.specs.Results.{then_do}
use Rattle.mv_eval.specs.Value.{value_of, values_of}
use Rattle.mv_eval.specs.Rows.{tests_of, aggregate, is_some_row}
use Rattle.mv_eval.specs.Changes.{new_row, put_row, keyed, updated, set_row_by, without}
use Rattle.mv_eval.specs.Line.{line_of}
use Rattle.mv_eval.specs.Alone.{alone, matching_in, offset_of, fixed, with_rows}
use Rattle.mv_eval.specs.TableAfter.{begun}
use Rattle.mv_record.specs.declared.record.Record.{Record}
use Rattle.mv_record.specs.Runs.{lines_in, end_in, StopsWith}
use Rattle.mv_recorded.specs.Doing.{itself}
use Rattle.mv_recorded.specs.Recorded.{Recorder, Site, own_record, recorded, outside}
use Rattle.mv_recorded.proofs.Following.{IsLaw, told_follows}

-- from a state on: no record ends the call, and their lines are those that were added; or the last one has the end that stopped it
abbrev pub TellsOf : State → List Record → Result State End → Type 0
TellsOf st rs (Ok next) = (end_in rs ≡ None) × (next.lines ≡ st.lines ++ lines_in rs)
TellsOf st rs (Err e) = StopsWith rs e

none_both : (a b : Option End) → option_or a b ≡ None → (a ≡ None) × (b ≡ None)
none_both None b h = (refl, h)
none_both (Some x) b h = cc

end_behind : (rs ss : List Record) → end_in rs ≡ None → end_in (rs ++ ss) ≡ end_in ss
end_behind [] ss h = refl
end_behind (r ∷ rs) ss h =
    let both = none_both r.end (end_in rs) h in
    ap (λ e. option_or e (end_in (rs ++ ss))) both.0 ∙ end_behind rs ss both.1

lines_together : (rs ss : List Record) → lines_in (rs ++ ss) ≡ lines_in rs ++ lines_in ss
lines_together rs ss = flat_map-append (λ r. option_to_list r.line) rs ss

tells_more : (st next : State) (rs ss : List Record) (out : Result State End) → TellsOf st rs (Ok next) → TellsOf next ss out → TellsOf st (rs ++ ss) out
tells_more st next rs ss (Ok last) h k = (
  end_behind rs ss h.0 ∙ k.0,
  k.1 ∙ (ap (λ l. l ++ lines_in ss) h.1 ∙ (append_assoc st.lines (lines_in rs) (lines_in ss) ∙ ap (λ l. st.lines ++ l) (sym (lines_together rs ss)))),
)
tells_more st next rs ss (Err e) h k = record {
  front = rs ++ k.front;
  last = k.last;
  are = ap (λ l. rs ++ l) k.are ∙ sym (append_assoc rs k.front (k.last ∷ []));
  goes_on = end_behind rs k.front h.0 ∙ k.goes_on;
  ends = k.ends;
}

tells_inside : (st : State) (env : Env) (rs : List Record) (out : Result State End) → TellsOf (record st { env = env }) rs out → TellsOf st rs out
tells_inside st env rs (Ok next) h = h
tells_inside st env rs (Err e) h = h

-- a statement that adds no line
abbrev KeepsLines : Result State End → State → Type 0
KeepsLines (Ok next) st = next.lines ≡ st.lines
KeepsLines (Err e) st = Unit {0}

then_keeps : {A : Type 0} (r : Result A End) (go : A → Result State End) (st : State) → ((x : A) → KeepsLines (go x) st) → KeepsLines (then_do r go) st
then_keeps (Ok x) go st h = h x
then_keeps (Err e) go st h = tt

unless_keeps : (b : Bool) (e : End) (next st : State) → next.lines ≡ st.lines → KeepsLines (if b then Err e else Ok next) st
unless_keeps true e next st h = tt
unless_keeps false e next st h = h

whether_keeps : (b : Bool) (e : End) (next st : State) → next.lines ≡ st.lines → KeepsLines (if b then Ok next else Err e) st
whether_keeps true e next st h = h
whether_keeps false e next st h = tt

quiet : (out : Result State End) (r : Record) (st : State) → r.end ≡ result_err out → r.line ≡ None → KeepsLines out st → TellsOf st (r ∷ []) out
quiet (Ok next) r st e l k =
    (ap (λ o. option_or o None) e, k ∙ (sym (append-nil st.lines) ∙ sym (ap (λ o. st.lines ++ (option_to_list o ++ [])) l)))
quiet (Err f) r st e l k = record { front = []; last = r; are = refl; goes_on = refl; ends = e }

prints : (values : Result (List Value) End) (r : Record) (st : State) → r.end ≡ result_err (then_do values (λ vs. Ok (record st { lines = st.lines ++ line_of vs ∷ [] })))
    → r.line ≡ result_ok (then_do values (λ vs. Ok (line_of vs))) → TellsOf st (r ∷ []) (then_do values (λ vs. Ok (record st { lines = st.lines ++ line_of vs ∷ [] })))
prints (Ok vs) r st e l = (ap (λ o. option_or o None) e, sym (ap (λ o. st.lines ++ (option_to_list o ++ [])) l))
prints (Err f) r st e l = record { front = []; last = r; are = refl; goes_on = refl; ends = e }

pub tells_own : {X : Type 0} (tables : List TableInfo) (params : ℕ) (y : RStmt-F X) (n : ℕ) (site : Site) (before : List Record) (st : State)
    → TellsOf st (own_record tables params y n site before st ∷ []) (itself tables y st)
tells_own {X} tables params (Assign x e) n site before st =
    quiet (itself {X = X} tables (Assign x e) st) (own_record {X = X} tables params (Assign x e) n site before st) st refl refl
    (then_keeps (value_of e st.env []) _ st (λ v. refl))
tells_own {X} tables params (Select cs xs t conds sorts offset) n site before st =
    quiet (itself {X = X} tables (Select cs xs t conds sorts offset) st) (own_record {X = X} tables params (Select cs xs t conds sorts offset) n site before st) st refl refl
    (then_keeps (tests_of (key_columns tables t) conds st.env) _ st (λ tests. then_keeps (offset_of offset st.env) _ st (λ at. refl)))
tells_own {X} tables params (Total agg x t conds) n site before st =
    quiet (itself {X = X} tables (Total agg x t conds) st) (own_record {X = X} tables params (Total agg x t conds) n site before st) st refl refl
    (then_keeps (tests_of (key_columns tables t) conds st.env) _ st (λ tests. then_keeps (aggregate agg (matching_in t tests st)) _ st (λ v. refl)))
tells_own {X} tables params (ForSelect x once cs t conds sorts body) n site before st =
    quiet (itself {X = X} tables (ForSelect x once cs t conds sorts body) st) (own_record {X = X} tables params (ForSelect x once cs t conds sorts body) n site before st) st refl refl
    (then_keeps (then_do (tests_of (key_columns tables t) conds st.env) (λ tests. Ok (fixed once cs sorts (matching_in t tests st)))) _ st (λ rows. refl))
tells_own {X} tables params (ForRows x y body) n site before st =
    quiet (itself {X = X} tables (ForRows x y body) st) (own_record {X = X} tables params (ForRows x y body) n site before st) st refl refl refl
tells_own {X} tables params (Branch e ys ns) n site before st =
    quiet (itself {X = X} tables (Branch e ys ns) st) (own_record {X = X} tables params (Branch e ys ns) n site before st) st refl refl
    (then_keeps (value_of e st.env []) _ st (λ v. refl))
tells_own {X} tables params (Insert t es) n site before st =
    quiet (itself {X = X} tables (Insert t es) st) (own_record {X = X} tables params (Insert t es) n site before st) st refl refl
    (then_keeps (new_row (columns_at tables t) es st.env) _ st (λ row. then_keeps (put_row (keyed (key_columns tables t) row) (rows_at st.tables t)) _ st (λ rows.
    whether_keeps (has_parents (references tables t) (keyed (key_columns tables t) row) st.tables) MissingParent (with_rows t rows true st) st refl)))
tells_own {X} tables params (Update t items conds) n site before st =
    quiet (itself {X = X} tables (Update t items conds) st) (own_record {X = X} tables params (Update t items conds) n site before st) st refl refl
    (then_keeps (tests_of (key_columns tables t) conds st.env) _ st (λ tests.
    then_keeps (updated (λ row. set_row_by (fit_in tables t st.tables) (key_columns tables t) st.env row items row) tests (rows_at st.tables t)) _ st (λ rows. refl)))
tells_own {X} tables params (Delete t conds) n site before st =
    quiet (itself {X = X} tables (Delete t conds) st) (own_record {X = X} tables params (Delete t conds) n site before st) st refl refl
    (then_keeps (tests_of (key_columns tables t) conds st.env) _ st (λ tests.
    unless_keeps (has_children (references_to tables t) t tests st.tables (matching_in t tests st)) HasChildren (with_rows t (without tests (rows_at st.tables t)) (is_some_row (matching_in t tests st)) st) st refl))
tells_own {X} tables params (Print es) n site before st = prints (values_of es st.env) (own_record {X = X} tables params (Print es) n site before st) st refl refl
tells_own {X} tables params (Rollback reason) n site before st =
    record { front = []; last = own_record {X = X} tables params (Rollback reason) n site before st; are = refl; goes_on = refl; ends = refl }

tells_law : IsLaw TellsOf
tells_law = record {
  none = λ st. (refl, sym (append-nil st.lines));
  more = tells_more;
  enters = tells_inside;
  own = tells_own {X = RStmt × Recorder};
}

-- the lines and the end of a full run are the machine's
pub recorded_tells : (tables : List TableInfo) (proc : ProcInfo) (call : Call) (db : Tables)
    → TellsOf (begun proc call db) (recorded tables proc call db) (alone tables proc.body (begun proc call db))
recorded_tells tables proc call db = told_follows TellsOf tells_law tables (length call.arguments) proc.body 1 outside [] (begun proc call db)

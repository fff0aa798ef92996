-- A statement leaves each row under its own values of the key columns.
use Rattle.std.proofs.Common.{◌≡◌, List, [], Result, Ok, Err, refl, sym, subst}
use Rattle.mv_values.specs.declared.calls.End.{End}
use Rattle.mv_values.specs.declared.schema.TableInfo.{TableInfo}
use Rattle.mv_values.specs.Tables.{KeysStand, key_columns}
use Rattle.mv_catalog.specs.declared.resolved.RStmt.TheOpen.{RStmt-F, Assign, Select, Total, ForSelect, ForRows, Branch, Insert, Update, Delete, Print, Rollback}
use Rattle.mv_eval.specs.declared.state.State.{State}
use Rattle.mv_eval.specs.Results.{then_do}
use Rattle.mv_eval.specs.Value.{value_of, values_of}
use Rattle.mv_eval.specs.Rows.{tests_of, aggregate}
use Rattle.mv_eval.specs.Alone.{matching_in, offset_of, fixed}
use Rattle.mv_eval.proofs.Standing.{insert_keeps, update_keeps, delete_keeps}
use Rattle.mv_recorded.specs.Doing.{itself}
use Rattle.mv_recorded.proofs.Leading.{KeepsTables, then_keeps}

-- rows stand under their keys, unless the call ends
abbrev StandsBehind : List TableInfo → Result State End → Type 0
StandsBehind tables (Ok next) = KeysStand tables next.tables
StandsBehind tables (Err e) = Unit {0}

kept : (tables : List TableInfo) (out : Result State End) (st : State) → KeysStand tables st.tables → KeepsTables out st → StandsBehind tables out
kept tables (Ok next) st h k = subst (KeysStand tables) (sym k) h
kept tables (Err e) st h k = tt

made : (tables : List TableInfo) (out : Result State End) → ((next : State) → out ≡ Ok next → KeysStand tables next.tables) → StandsBehind tables out
made tables (Ok next) h = h next refl
made tables (Err e) h = tt

stands_behind : {X : Type 0} (tables : List TableInfo) (y : RStmt-F X) (st : State) → KeysStand tables st.tables → StandsBehind tables (itself tables y st)
stands_behind {X} tables (Assign x e) st h = kept tables (itself {X = X} tables (Assign x e) st) st h (then_keeps (value_of e st.env []) _ st (λ v. refl))
stands_behind {X} tables (Select cs xs t conds sorts offset) st h =
    kept tables (itself {X = X} tables (Select cs xs t conds sorts offset) st) st h (then_keeps (tests_of (key_columns tables t) conds st.env) _ st (λ tests. then_keeps (offset_of offset st.env) _ st (λ at. refl)))
stands_behind {X} tables (Total agg x t conds) st h =
    kept tables (itself {X = X} tables (Total agg x t conds) st) st h (then_keeps (tests_of (key_columns tables t) conds st.env) _ st (λ tests. then_keeps (aggregate agg (matching_in t tests st)) _ st (λ v. refl)))
stands_behind {X} tables (ForSelect x once cs t conds sorts body) st h =
    kept tables (itself {X = X} tables (ForSelect x once cs t conds sorts body) st) st h (then_keeps (then_do (tests_of (key_columns tables t) conds st.env) (λ tests. Ok (fixed once cs sorts (matching_in t tests st)))) _ st (λ rows. refl))
stands_behind {X} tables (ForRows x y body) st h = kept tables (itself {X = X} tables (ForRows x y body) st) st h refl
stands_behind {X} tables (Branch e ys ns) st h = kept tables (itself {X = X} tables (Branch e ys ns) st) st h (then_keeps (value_of e st.env []) _ st (λ v. refl))
stands_behind {X} tables (Insert t es) st h = made tables (itself {X = X} tables (Insert t es) st) (λ next is. insert_keeps tables t es st next h is)
stands_behind {X} tables (Update t items conds) st h = made tables (itself {X = X} tables (Update t items conds) st) (λ next is. update_keeps tables t items conds st next h is)
stands_behind {X} tables (Delete t conds) st h = made tables (itself {X = X} tables (Delete t conds) st) (λ next is. delete_keeps tables t conds st next h is)
stands_behind {X} tables (Print es) st h = kept tables (itself {X = X} tables (Print es) st) st h (then_keeps (values_of es st.env) _ st (λ vs. refl))
stands_behind {X} tables (Rollback reason) st h = kept tables (itself {X = X} tables (Rollback reason) st) st h tt

pub itself_stands : {X : Type 0} (tables : List TableInfo) (y : RStmt-F X) (st next : State) → KeysStand tables st.tables → itself tables y st ≡ Ok next → KeysStand tables next.tables
itself_stands tables y st next h is = subst (StandsBehind tables) is (stands_behind tables y st h)

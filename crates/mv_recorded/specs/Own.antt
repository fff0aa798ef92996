-- What a record of a full run determines of its statement: which one it is, and the state after the records before it.
use Rattle.std.specs.Prelude.{◌≡◌, ◌<◌, ◌≤◌, ◌⊎◌, ⊤, ℕ, ◌+◌, ◌-◌, ◌==◌, false, List, [], ◌∷◌, ◌++◌, Option, Some, None, map, length, slice_get, slice_index_or}
use Rattle.std.specs.List.{flat_map, list_any}
use Rattle.mv_values.specs.declared.value.Value.{Value}
use Rattle.mv_values.specs.declared.schema.TableInfo.{TableInfo}
use Rattle.mv_values.specs.Patching.{applied}
use Rattle.mv_values.specs.Tables.{columns_at, key_columns, Tables}
use Rattle.mv_values.specs.declared.calls.Call.{Call}
use Rattle.mv_catalog.specs.declared.resolved.ProcInfo.{ProcInfo}
use Rattle.mv_catalog.specs.declared.resolved.RSetItem.{RSetItem}
use Rattle.mv_catalog.specs.declared.resolved.RStmt.{RStmt}
use Rattle.mv_catalog.specs.declared.resolved.RStmt.TheOpen.{RStmt-F, Assign, Select, Total, ForSelect, ForRows, Branch, Update}
use Rattle.mv_catalog.specs.declared.resolved.RStmt.TheFolds.{fold-RStmt, map-RStmt}
use Rattle.mv_eval.specs.declared.state.Env.{Env}
use Rattle.mv_eval.specs.declared.state.Content.TheVariants.{Turn}
use Rattle.mv_eval.specs.declared.state.State.{State}
use Rattle.mv_eval.specs.Env.{held_at}
use Rattle.mv_eval.specs.TableAfter.{entered}
use Rattle.mv_record.specs.Writes.{AreRising}
use Rattle.mv_record.specs.declared.record.Slot.{Slot}
use Rattle.mv_record.specs.declared.record.Record.{Record}
use Rattle.mv_record.specs.Runs.{writes_in}
use Rattle.mv_recorded.specs.Effect.{with_slots, HasColumns}
use Rattle.mv_recorded.specs.Reading.{Loop, variables, expressions}
use Rattle.mv_recorded.specs.Recorded.{Site, own_record}

-- The text

-- a statement without the statements it contains
abbrev pub Bare : Type 0
Bare = RStmt-F (Unit {0})

-- a statement with the rows of the enclosing loops, innermost first
pub record Stated : Type 0 where
  pub it : Bare
  pub rows : List ℕ

abbrev pub Flat : Type 0
Flat = List ℕ → List Stated

abbrev pub flat_list : List Flat → Flat
flat_list [] rows = []
flat_list (f ∷ fs) rows = f rows ++ flat_list fs rows

abbrev pub flat_inner : RStmt-F Flat → Flat
flat_inner (ForSelect x once cs t conds sorts body) rows = flat_list body (x ∷ rows)
flat_inner (ForRows x y body) rows = flat_list body (x ∷ rows)
flat_inner (Branch e ys ns) rows = flat_list ys rows ++ flat_list ns rows
flat_inner s rows = []

abbrev pub bare : {X : Type 0} → RStmt-F X → Bare
bare {X} s = map-RStmt X (Unit {0}) (λ x. tt) s

abbrev pub flat_step : RStmt-F Flat → Flat
flat_step s rows = record { it = bare s; rows = rows } ∷ flat_inner s rows

-- a statement and those it contains, in the order of the text
abbrev pub flat : RStmt → Flat
flat = fold-RStmt Flat flat_step

abbrev pub flat_all : List RStmt → Flat
flat_all ss = flat_list (map flat ss)

-- Statements that suit a procedure

-- each item has the property
abbrev pub Each : {A : Type 0} → (A → Type 0) → List A → Type 0
Each P [] = ⊤
Each P (x ∷ xs) = P x × Each P xs

abbrev pub Within : ℕ → List ℕ → Type 0
Within x [] = ⊥
Within x (y ∷ ys) = (x ≡ y) ⊎ Within x ys

-- the targets of a statement
abbrev pub targets : Bare → List ℕ
targets (Assign x e) = x ∷ []
targets (Select cs xs t conds sorts offset) = xs
targets (Total agg x t conds) = x ∷ []
targets s = []

-- a loop's row has a number of its own
abbrev pub LoopSuits : ℕ → List ℕ → Bare → Type 0
LoopSuits base rows (ForSelect x once cs t conds sorts body) = (base ≤ x) × (Within x rows → ⊥)
LoopSuits base rows (ForRows x y body) = (base ≤ x) × (Within x rows → ⊥)
LoopSuits base rows s = ⊤

abbrev pub OverSuits : ℕ → Bare → Type 0
OverSuits params (ForRows x y body) = y < params
OverSuits params s = ⊤

-- SET assigns columns of the table that are outside its key
abbrev pub SetSuits : List TableInfo → Bare → Type 0
SetSuits tables (Update t items conds) = Each (λ (i : RSetItem). (i.column < length (columns_at tables t)) × (list_any (λ k. k == i.column) (key_columns tables t) ≡ false)) items
SetSuits tables s = ⊤

-- `base` is the first number after those of parameters, declared variables and `:found`
pub record IsStatedWell (tables : List TableInfo) (params base : ℕ) (s : Stated) : Type 0 where
  pub columns : HasColumns s.it
  pub targets : Each (λ x. (params ≤ x) × (x < base)) (targets s.it)
  pub loop : LoopSuits base s.rows s.it
  pub over : OverSuits params s.it
  pub items : SetSuits tables s.it
  pub reads : Each (λ x. (x < base) ⊎ Within x s.rows) (flat_map variables (expressions s.it))

-- A run

-- the context of a run
pub record Ground : Type 0 where
  pub tables : List TableInfo
  pub params : ℕ
  pub base : ℕ
  pub first : Env
  pub db : Tables
  pub text : List Stated

-- the variables set by records, in order
abbrev pub sets_in : List Record → List Slot
sets_in rs = flat_map (λ r. r.sets) rs

-- the state is one after these records
pub record LeadsTo (g : Ground) (before : List Record) (st : State) : Type 0 where
  pub tables : st.tables ≡ applied (writes_in before) g.db
  pub held : (x : ℕ) → x < g.base → held_at st.env x ≡ held_at (with_slots (sets_in before) g.first) x
  pub found : st.env.found ≡ g.first.found
  pub slots : Each (λ (s : Slot). (g.params ≤ s.slot) × (s.slot < g.base)) (sets_in before)
  pub rising : AreRising st.tables

abbrev pub rows_of : Option Record → List (List Value)
rows_of None = []
rows_of (Some r) = r.rows

-- the row of iteration `k` of the loop whose FOR has the record with this number
abbrev pub row_in : List Record → ℕ → ℕ → List Value
row_in rs number k = slice_index_or (rows_of (slice_get rs number)) (k - 1) []

-- each loop has the row of its iteration
abbrev pub LoopsHold : List Record → Env → List Loop → List ℕ → Type 0
LoopsHold rs env [] turns = turns ≡ []
LoopsHold rs env (l ∷ ls) turns =
    (outer : List ℕ) × (k : ℕ) × (turns ≡ outer ++ k ∷ []) × (l.number < length rs) × (held_at env l.row ≡ Turn (row_in rs l.number k)) × LoopsHold rs env ls outer

-- the iterations are these, or these and one more
abbrev pub Continues : List ℕ → List ℕ → Type 0
Continues outer turns = (turns ≡ outer) ⊎ ((k : ℕ) × (turns ≡ outer ++ k ∷ []))

-- the iterations of a site extend those of its controller
abbrev pub ParentHolds : List Record → Option ℕ → List ℕ → Type 0
ParentHolds before None turns = turns ≡ []
ParentHolds before (Some p) turns = (r : Record) × (slice_get before p ≡ Some r) × Continues r.spot.turns turns

-- the state is one at the site, after these records
pub record IsAtSite (g : Ground) (site : Site) (rows : List ℕ) (before : List Record) (st : State) : Type 0 where
  pub told : LeadsTo g before st
  pub around : map (λ l. l.row) site.loops ≡ rows
  pub high : Each (λ x. g.base ≤ x) rows
  pub loops : LoopsHold before st.env site.loops site.turns
  pub parent : ParentHolds before site.parent site.turns

-- these statements occur in the text from this number on; numbers start at 1
abbrev pub HasStatements : List Stated → ℕ → List Stated → Type 0
HasStatements text n these = (front : List Stated) × (back : List Stated) × (text ≡ front ++ (these ++ back)) × (n ≡ length front + 1)

-- the record is the own record of a statement of the text, in the state after the records before it
pub record IsOwn (g : Ground) (before : List Record) (r : Record) : Type 0 where
  pub n : ℕ
  pub s : Stated
  pub site : Site
  pub st : State
  pub stands : HasStatements g.text n (s ∷ [])
  pub suits : IsStatedWell g.tables g.params g.base s
  pub here : IsAtSite g site s.rows before st
  pub is : r ≡ own_record g.tables g.params s.it n site before st

abbrev pub AllOwn : Ground → List Record → List Record → Type 0
AllOwn g before [] = ⊤
AllOwn g before (r ∷ rs) = IsOwn g before r × AllOwn g (before ++ r ∷ []) rs

-- A full run

-- the context of a run of a call of a procedure on a database
abbrev pub ground_of : List TableInfo → ProcInfo → Call → Tables → Ground
ground_of tables proc call db = record {
  tables = tables;
  params = length call.arguments;
  base = length call.arguments + length proc.defaults + 1;
  first = entered proc call;
  db = db;
  text = flat_all proc.body [];
}

-- each statement of the procedure fits its variables and tables
abbrev pub AllSuit : List TableInfo → ProcInfo → Call → Type 0
AllSuit tables proc call = Each (IsStatedWell tables (length call.arguments) (length call.arguments + length proc.defaults + 1)) (flat_all proc.body [])

-- The statements at frames of a procedure of a program are well formed.
use Rattle.std.specs.Prelude.{⊤}
use Rattle.std.proofs.Common.{◌≡◌, ℕ, zero, suc, ◌-◌, Bool, true, false, List, [], ◌∷◌, Option, Some, None, slice_get, subst}
use Rattle.mv_values.specs.declared.schema.TableInfo.{TableInfo}
use Rattle.mv_catalog.specs.Statements.{all_well, stmt_step, IsWell, with_turn}
use Rattle.mv_catalog.specs.Text.{IsProcedure, vars_of}
use Rattle.mv_catalog.specs.Types.{Vars}
use Rattle.mv_catalog.specs.declared.resolved.ProcInfo.{ProcInfo}
use Rattle.mv_catalog.specs.declared.resolved.RStmt.{RStmt, out-RStmt, roll-out-RStmt}
use Rattle.mv_catalog.specs.declared.resolved.RStmt.TheOpen.{RStmt-F, ForSelect, ForRows, Branch}
use Rattle.mv_catalog.proofs.Typed.{well_by}
use Rattle.mv_recorded.specs.Effect.{HasColumns}
use Rattle.mv_recorded.proofs.Effects.{columns_there}
use Rattle.mv_exec.specs.declared.frames.Holder.{Holder}
use Rattle.mv_exec.specs.declared.frames.Holder.TheVariants as by
use Rattle.mv_exec.specs.declared.frames.Frame.{Frame}
use Rattle.mv_exec.specs.Frames.{body_in, branch_in, block_in, block_of, statement_before, holder_of, IsFrameAt}

-- for some variables
abbrev AllWell : List TableInfo → List RStmt → Type 0
AllWell tables ss = (vars : Vars) × all_well (IsWell tables) ss vars

abbrev pub SomeWell : List TableInfo → Option RStmt → Type 0
SomeWell tables None = ⊤
SomeWell tables (Some s) = (vars : Vars) × IsWell tables s vars

-- what a well formed statement holds
branch_well : (tables : List TableInfo) (b : Bool) (y : RStmt-F RStmt) (vars : Vars) → stmt_step tables RStmt (λ s. s) (IsWell tables) y vars → AllWell tables (branch_in b y)
branch_well tables true (Branch e ys ns) vars h = (vars, h.1)
branch_well tables true y vars h = (vars, tt)
branch_well tables false (Branch e ys ns) vars h = (vars, h.2)
branch_well tables false y vars h = (vars, tt)

body_well : (tables : List TableInfo) (y : RStmt-F RStmt) (vars : Vars) → stmt_step tables RStmt (λ s. s) (IsWell tables) y vars → AllWell tables (body_in y)
body_well tables (ForSelect x once cs t conds sorts body) vars h = (with_turn vars x h.2.3.0, h.2.3.2)
body_well tables (ForRows x y body) vars h = (with_turn vars x h.0, h.3)
body_well tables y vars h = (vars, tt)

held_well : (tables : List TableInfo) (proc : ProcInfo) (h : Holder) (o : Option RStmt) → AllWell tables proc.body → SomeWell tables o → AllWell tables (block_in proc h o)
held_well tables proc by.Procedure o w k = w
held_well tables proc (by.Branch number b) None w k = (λ x. None, tt)
held_well tables proc (by.Branch number b) (Some s) w k = branch_well tables b (out-RStmt s) k.0 (well_by tables (out-RStmt s) s k.0 (roll-out-RStmt s) k.1)
held_well tables proc (by.Loop number x t) None w k = (λ x. None, tt)
held_well tables proc (by.Loop number x t) (Some s) w k = body_well tables (out-RStmt s) k.0 (well_by tables (out-RStmt s) s k.0 (roll-out-RStmt s) k.1)

get_well : (tables : List TableInfo) (ss : List RStmt) (n : ℕ) (vars : Vars) → all_well (IsWell tables) ss vars → SomeWell tables (slice_get ss n)
get_well tables [] n vars h = tt
get_well tables (s ∷ ss) zero vars h = (vars, h.0)
get_well tables (s ∷ ss) (suc n) vars h = get_well tables ss n vars h.1

holding_well : (tables : List TableInfo) (proc : ProcInfo) (o : Option RStmt) (ps : List Frame) → AllWell tables proc.body → SomeWell tables o → SomeWell tables (holder_of proc o ps)
holding_well tables proc o [] w k = k
holding_well tables proc o (p ∷ ps) w k =
    let block : AllWell tables (block_of proc o p) = held_well tables proc p.holder o w k in
    holding_well tables proc (statement_before proc o p) ps w (get_well tables (block_of proc o p) (p.at - 1) block.0 block.1)

-- the statement at a frame
pub well_at : (tables : List TableInfo) (proc : ProcInfo) (outer : List Frame) (p : Frame) (s : RStmt) → IsProcedure tables proc
    → slice_get (block_of proc (holder_of proc None outer) p) p.at ≡ Some s → (vars : Vars) × IsWell tables s vars
well_at tables proc outer p s is stands =
    let w : AllWell tables proc.body = (vars_of proc, is.body) in
    let block : AllWell tables (block_of proc (holder_of proc None outer) p) = held_well tables proc p.holder (holder_of proc None outer) w (holding_well tables proc None outer w tt) in
    subst (SomeWell tables) stands (get_well tables (block_of proc (holder_of proc None outer) p) p.at block.0 block.1)

-- it has a column for each target
pub columns_at : (tables : List TableInfo) (proc : ProcInfo) (ps : List Frame) (p : Frame) (s : RStmt) → IsProcedure tables proc → IsFrameAt proc ps p s → HasColumns (out-RStmt s)
columns_at tables proc ps p s is at =
    let well : (vars : Vars) × IsWell tables s vars = well_at tables proc at.0 p s is at.1.stands in
    columns_there tables (λ s. s) (IsWell tables) (out-RStmt s) well.0 (well_by tables (out-RStmt s) s well.0 (roll-out-RStmt s) well.1)

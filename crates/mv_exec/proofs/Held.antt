-- What a step tells of its statement: what the statement does by itself, and the frame inside it.
use Rattle.std.proofs.Common.{◌≡◌, ℕ, zero, suc, ◌+◌, ◌-◌, ◌<◌, ◌≤◌, Bool, true, false, nat_lt, List, [], ◌∷◌, refl, sym, ap, subst, ◌∙◌, arith}
use Rattle.std.proofs.lemmas.Bool.{lt-ltb, le-ltb}
use Rattle.mv_values.specs.declared.schema.TableInfo.{TableInfo}
use Rattle.mv_values.specs.declared.rows.Keyed.{Keyed}
use Rattle.mv_values.specs.declared.patch.Write.{Write}
use Rattle.mv_values.specs.declared.value.Value.{Value}
use Rattle.mv_catalog.specs.Statements.{size, size_step, size_of}
use Rattle.mv_catalog.specs.declared.resolved.ProcInfo.{ProcInfo}
use Rattle.mv_catalog.specs.declared.resolved.RStmt.{RStmt, out-RStmt, out-roll-RStmt, roll-out-RStmt}
use Rattle.mv_catalog.specs.declared.resolved.RStmt.TheFolds.{fold-roll-RStmt, map-RStmt}
use Rattle.mv_catalog.specs.declared.resolved.RStmt.TheOpen.{RStmt-F, Assign, Select, Total, ForSelect, ForRows, Branch, Insert, Update, Delete, Print, Rollback}
use Rattle.mv_eval.specs.declared.state.Env.{Env}
use Rattle.mv_record.specs.declared.effect.Effect.{Effect}
use Rattle.mv_recorded.specs.Effects.{IsEffect}
use Rattle.mv_view.specs.Viewing.{Sight}
use Rattle.mv_effect.specs.Choosing.{Chooses}
use Rattle.mv_effect.specs.Looking.{AskedBy}
use Rattle.mv_recorded.specs.Naming.{NamesColumns}
use Rattle.mv_graph.specs.declared.graph.Step.{Step}
use Rattle.mv_graph.specs.Steps.{own_part, skip_by, TellsOf}
use Rattle.mv_graph.proofs.Sizes.{some_size}
use Rattle.mv_exec.specs.declared.moves.Holds.{Holds}
use Rattle.mv_exec.specs.declared.moves.Holds.TheVariants as holds
use Rattle.mv_exec.specs.declared.frames.Holder.TheVariants as by
use Rattle.mv_exec.specs.declared.frames.Frame.{Frame}
use Rattle.mv_exec.specs.Holding.{holds_in, some_branch, some_loop}
use Rattle.mv_exec.specs.Moves.{branch_frame, loop_frame, inner_frames, after_turns, after_empty_body, after_empty_loop}

-- The statement by itself

pub out_own : (proc : ProcInfo) (s : RStmt) (step : Step) → TellsOf proc s step → out-RStmt step.statement ≡ own_part (out-RStmt s)
out_own proc s step tells = ap out-RStmt tells.statement ∙ out-roll-RStmt (own_part (out-RStmt s))

own_effect : (tables : List TableInfo) (y : RStmt-F RStmt) (env : Env) (db : List (List Keyed)) (e : Effect) → IsEffect tables (own_part y) env db e → IsEffect tables y env db e
own_effect tables (Assign x e) env db f h = h
own_effect tables (Select cs xs t conds sorts offset) env db f h = h
own_effect tables (Total agg x t conds) env db f h = h
own_effect tables (ForSelect x once cs t conds sorts body) env db f h = h
own_effect tables (ForRows x y body) env db f h = h
own_effect tables (Branch e ys ns) env db f h = h
own_effect tables (Insert t es) env db f h = h
own_effect tables (Update t items conds) env db f h = h
own_effect tables (Delete t conds) env db f h = h
own_effect tables (Print es) env db f h = h
own_effect tables (Rollback reason) env db f h = h

own_asked : (tables : List TableInfo) (y : RStmt-F RStmt) (env : Env) (ws : List Write) (before after : Sight) → AskedBy tables (own_part y) env ws before after → AskedBy tables y env ws before after
own_asked tables (Assign x e) env ws before after h = h
own_asked tables (Select cs xs t conds sorts offset) env ws before after h = h
own_asked tables (Total agg x t conds) env ws before after h = h
own_asked tables (ForSelect x once cs t conds sorts body) env ws before after h = h
own_asked tables (ForRows x y body) env ws before after h = h
own_asked tables (Branch e ys ns) env ws before after h = h
own_asked tables (Insert t es) env ws before after h = h
own_asked tables (Update t items conds) env ws before after h = h
own_asked tables (Delete t conds) env ws before after h = h
own_asked tables (Print es) env ws before after h = h
own_asked tables (Rollback reason) env ws before after h = h

own_chooses : (env : Env) (b : Bool) (y : RStmt-F RStmt) → Chooses env b (own_part y) → Chooses env b y
own_chooses env b (Branch e ys ns) h = h
own_chooses env b (Assign x e) h = h
own_chooses env b (Select cs xs t conds sorts offset) h = h
own_chooses env b (Total agg x t conds) h = h
own_chooses env b (ForSelect x once cs t conds sorts body) h = h
own_chooses env b (ForRows x y body) h = h
own_chooses env b (Insert t es) h = h
own_chooses env b (Update t items conds) h = h
own_chooses env b (Delete t conds) h = h
own_chooses env b (Print es) h = h
own_chooses env b (Rollback reason) h = h

own_names : (tables : List TableInfo) (y : RStmt-F RStmt) → NamesColumns tables y → NamesColumns tables (own_part y)
own_names tables (Assign x e) h = h
own_names tables (Select cs xs t conds sorts offset) h = h
own_names tables (Total agg x t conds) h = h
own_names tables (ForSelect x once cs t conds sorts body) h = h
own_names tables (ForRows x y body) h = h
own_names tables (Branch e ys ns) h = h
own_names tables (Insert t es) h = h
own_names tables (Update t items conds) h = h
own_names tables (Delete t conds) h = h
own_names tables (Print es) h = h
own_names tables (Rollback reason) h = h

pub effect_told : (tables : List TableInfo) (proc : ProcInfo) (s : RStmt) (step : Step) (env : Env) (db : List (List Keyed)) (e : Effect) → TellsOf proc s step
    → IsEffect tables (out-RStmt step.statement) env db e → IsEffect tables (out-RStmt s) env db e
effect_told tables proc s step env db e tells h = own_effect tables (out-RStmt s) env db e (subst (λ y. IsEffect tables y env db e) (out_own proc s step tells) h)

pub asked_told : (tables : List TableInfo) (proc : ProcInfo) (s : RStmt) (step : Step) (env : Env) (ws : List Write) (before after : Sight) → TellsOf proc s step
    → AskedBy tables (out-RStmt step.statement) env ws before after → AskedBy tables (out-RStmt s) env ws before after
asked_told tables proc s step env ws before after tells h = own_asked tables (out-RStmt s) env ws before after (subst (λ y. AskedBy tables y env ws before after) (out_own proc s step tells) h)

pub chooses_told : (proc : ProcInfo) (s : RStmt) (step : Step) (env : Env) (b : Bool) → TellsOf proc s step → Chooses env b (out-RStmt step.statement) → Chooses env b (out-RStmt s)
chooses_told proc s step env b tells h = own_chooses env b (out-RStmt s) (subst (Chooses env b) (out_own proc s step tells) h)

pub names_told : (tables : List TableInfo) (proc : ProcInfo) (s : RStmt) (step : Step) → TellsOf proc s step → NamesColumns tables (out-RStmt s) → NamesColumns tables (out-RStmt step.statement)
names_told tables proc s step tells h = subst (NamesColumns tables) (sym (out_own proc s step tells)) (own_names tables (out-RStmt s) h)

-- The frame inside

own_holds : (y : RStmt-F RStmt) → holds_in (own_part y) ≡ holds_in y
own_holds (Assign x e) = refl
own_holds (Select cs xs t conds sorts offset) = refl
own_holds (Total agg x t conds) = refl
own_holds (ForSelect x once cs t conds sorts body) = refl
own_holds (ForRows x y body) = refl
own_holds (Branch e ys ns) = refl
own_holds (Insert t es) = refl
own_holds (Update t items conds) = refl
own_holds (Delete t conds) = refl
own_holds (Print es) = refl
own_holds (Rollback reason) = refl

pub holds_told : (proc : ProcInfo) (s : RStmt) (step : Step) (h : Holds) → TellsOf proc s step → h ≡ holds_in (out-RStmt step.statement) → holds_in (out-RStmt s) ≡ h
holds_told proc s step h tells is = sym (is ∙ (ap holds_in (out_own proc s step tells) ∙ own_holds (out-RStmt s)))

size_out : (s : RStmt) → size s ≡ size_step (map-RStmt RStmt ℕ size (out-RStmt s))
size_out s = ap size (sym (roll-out-RStmt s)) ∙ fold-roll-RStmt ℕ size_step (out-RStmt s)

-- nothing is inside
nothing_by : (y : RStmt-F RStmt) (number n : ℕ) (b : Bool) → holds_in y ≡ holds.Nothing → inner_frames number n b y ≡ []
nothing_by (Assign x e) number n b h = refl
nothing_by (Select cs xs t conds sorts offset) number n b h = refl
nothing_by (Total agg x t conds) number n b h = refl
nothing_by (ForSelect x once cs t conds sorts body) number n b h = cc
nothing_by (ForRows x y body) number n b h = cc
nothing_by (Branch e ys ns) number n b h = cc
nothing_by (Insert t es) number n b h = refl
nothing_by (Update t items conds) number n b h = refl
nothing_by (Delete t conds) number n b h = refl
nothing_by (Print es) number n b h = refl
nothing_by (Rollback reason) number n b h = refl

pub nothing_inside : (proc : ProcInfo) (s : RStmt) (step : Step) (number n : ℕ) (b : Bool) → TellsOf proc s step → holds.Nothing ≡ holds_in (out-RStmt step.statement) → [] ≡ inner_frames number n b (out-RStmt s)
nothing_inside proc s step number n b tells is = sym (nothing_by (out-RStmt s) number n b (holds_told proc s step holds.Nothing tells is))

-- a loop's turns are
abbrev one_loop : ℕ → ℕ → ℕ → ℕ → List Frame
one_loop number x first n = record { holder = by.Loop number x 0; first = first; at = n; number = first + n } ∷ []

loop_by_size : (number x first : ℕ) (body : List RStmt) (n : ℕ) → n ≡ size_of body → some_loop number x first n ≡ loop_frame number x first body
loop_by_size number x first [] n e = ap (some_loop number x first) e
loop_by_size number x first (s ∷ ss) zero e = absurd (omega (arith, e, some_size s))
loop_by_size number x first (s ∷ ss) (suc n) e = ap (one_loop number x first) e

same_row : (x y : ℕ) → holds.Body x ≡ holds.Body y → x ≡ y
same_row x y h = cc

body_by : (y : RStmt-F RStmt) (number n x whole : ℕ) (b : Bool) → holds_in y ≡ holds.Body x → whole ≡ size_step (map-RStmt RStmt ℕ size y) → some_loop number x (n + 1) (whole - 1) ≡ inner_frames number n b y
body_by (ForSelect x once cs t conds sorts body) number n z whole b h e =
    ap (λ k. some_loop number k (n + 1) (whole - 1)) (sym (same_row x z h)) ∙ loop_by_size number x (n + 1) body (whole - 1) (omega (arith, e))
body_by (ForRows x y body) number n z whole b h e =
    ap (λ k. some_loop number k (n + 1) (whole - 1)) (sym (same_row x z h)) ∙ loop_by_size number x (n + 1) body (whole - 1) (omega (arith, e))
body_by (Assign x e) number n z whole b h k = cc
body_by (Select cs xs t conds sorts offset) number n z whole b h k = cc
body_by (Total agg x t conds) number n z whole b h k = cc
body_by (Branch e ys ns) number n z whole b h k = cc
body_by (Insert t es) number n z whole b h k = cc
body_by (Update t items conds) number n z whole b h k = cc
body_by (Delete t conds) number n z whole b h k = cc
body_by (Print es) number n z whole b h k = cc
body_by (Rollback reason) number n z whole b h k = cc

pub body_inside : (proc : ProcInfo) (s : RStmt) (step : Step) (number n x : ℕ) (b : Bool) → TellsOf proc s step → holds.Body x ≡ holds_in (out-RStmt step.statement)
    → some_loop number x (n + 1) (step.size - 1) ≡ inner_frames number n b (out-RStmt s)
body_inside proc s step number n x b tells is = body_by (out-RStmt s) number n x step.size b (holds_told proc s step (holds.Body x) tells is) (tells.size ∙ size_out s)

-- a branch is
branch_by_size : (number : ℕ) (b : Bool) (first : ℕ) (block : List RStmt) (some : Bool) → some ≡ nat_lt 0 (size_of block) → some_branch number b first some ≡ branch_frame (by.Branch number b) first block
branch_by_size number b first [] some e = ap (some_branch number b first) e
branch_by_size number b first (s ∷ ss) some e = ap (some_branch number b first) (e ∙ lt-ltb 0 (size_of (s ∷ ss)) (omega (arith, some_size s)))

by_difference : (a b n : ℕ) → b ≡ a + n → nat_lt a b ≡ nat_lt 0 n
by_difference a b zero e = le-ltb a b (omega (arith, e)) ∙ sym (le-ltb 0 0 (omega arith))
by_difference a b (suc n) e = lt-ltb a b (omega (arith, e)) ∙ sym (lt-ltb 0 (suc n) (omega arith))

yes_by : (y : RStmt-F RStmt) (number n skip : ℕ) → holds_in y ≡ holds.Branches → skip ≡ skip_by size_of y → some_branch number true (n + 1) (nat_lt 1 skip) ≡ inner_frames number n true y
yes_by (Branch e ys ns) number n skip h k = branch_by_size number true (n + 1) ys (nat_lt 1 skip) (by_difference 1 skip (size_of ys) k)
yes_by (Assign x e) number n skip h k = cc
yes_by (Select cs xs t conds sorts offset) number n skip h k = cc
yes_by (Total agg x t conds) number n skip h k = cc
yes_by (ForSelect x once cs t conds sorts body) number n skip h k = cc
yes_by (ForRows x y body) number n skip h k = cc
yes_by (Insert t es) number n skip h k = cc
yes_by (Update t items conds) number n skip h k = cc
yes_by (Delete t conds) number n skip h k = cc
yes_by (Print es) number n skip h k = cc
yes_by (Rollback reason) number n skip h k = cc

no_by : (y : RStmt-F RStmt) (number n skip whole : ℕ) → holds_in y ≡ holds.Branches → skip ≡ skip_by size_of y → whole ≡ size_step (map-RStmt RStmt ℕ size y)
    → some_branch number false (n + skip) (nat_lt skip whole) ≡ inner_frames number n false y
no_by (Branch e ys ns) number n skip whole h k w =
    ap (λ m. some_branch number false m (nat_lt skip whole)) (let at : n + skip ≡ n + 1 + size_of ys = omega (arith, k) in at)
    ∙ branch_by_size number false (n + 1 + size_of ys) ns (nat_lt skip whole) (by_difference skip whole (size_of ns) (omega (arith, k, w)))
no_by (Assign x e) number n skip whole h k w = cc
no_by (Select cs xs t conds sorts offset) number n skip whole h k w = cc
no_by (Total agg x t conds) number n skip whole h k w = cc
no_by (ForSelect x once cs t conds sorts body) number n skip whole h k w = cc
no_by (ForRows x y body) number n skip whole h k w = cc
no_by (Insert t es) number n skip whole h k w = cc
no_by (Update t items conds) number n skip whole h k w = cc
no_by (Delete t conds) number n skip whole h k w = cc
no_by (Print es) number n skip whole h k w = cc
no_by (Rollback reason) number n skip whole h k w = cc

pub yes_inside : (proc : ProcInfo) (s : RStmt) (step : Step) (number n : ℕ) → TellsOf proc s step → holds.Branches ≡ holds_in (out-RStmt step.statement)
    → some_branch number true (n + 1) (nat_lt 1 step.skip) ≡ inner_frames number n true (out-RStmt s)
yes_inside proc s step number n tells is = yes_by (out-RStmt s) number n step.skip (holds_told proc s step holds.Branches tells is) tells.skip

pub no_inside : (proc : ProcInfo) (s : RStmt) (step : Step) (number n : ℕ) → TellsOf proc s step → holds.Branches ≡ holds_in (out-RStmt step.statement)
    → some_branch number false (n + step.skip) (nat_lt step.skip step.size) ≡ inner_frames number n false (out-RStmt s)
no_inside proc s step number n tells is = no_by (out-RStmt s) number n step.skip step.size (holds_told proc s step holds.Branches tells is) tells.skip (tells.size ∙ size_out s)

-- A loop with an empty body

stays_by : (y : RStmt-F RStmt) (rows : List (List Value)) (env : Env) → ((x : ℕ) → holds_in y ≡ holds.Body x → ⊥) → after_empty_loop y rows env ≡ env
stays_by (ForSelect x once cs t conds sorts body) rows env h = absurd (h x refl)
stays_by (ForRows x y body) rows env h = absurd (h x refl)
stays_by (Assign x e) rows env h = refl
stays_by (Select cs xs t conds sorts offset) rows env h = refl
stays_by (Total agg x t conds) rows env h = refl
stays_by (Branch e ys ns) rows env h = refl
stays_by (Insert t es) rows env h = refl
stays_by (Update t items conds) rows env h = refl
stays_by (Delete t conds) rows env h = refl
stays_by (Print es) rows env h = refl
stays_by (Rollback reason) rows env h = refl

some_body : (x : ℕ) (body : List RStmt) (rows : List (List Value)) (env : Env) → 0 < size_of body → after_empty_body x body rows env ≡ env
some_body x [] rows env h = absurd (omega (arith, h))
some_body x (s ∷ ss) rows env h = refl

no_body : (x : ℕ) (body : List RStmt) (rows : List (List Value)) (env : Env) → size_of body ≤ 0 → after_empty_body x body rows env ≡ after_turns x rows env
no_body x [] rows env h = refl
no_body x (s ∷ ss) rows env h = absurd (omega (arith, h, some_size s))

large_by : (y : RStmt-F RStmt) (x : ℕ) (rows : List (List Value)) (env : Env) → holds_in y ≡ holds.Body x → 1 < size_step (map-RStmt RStmt ℕ size y) → after_empty_loop y rows env ≡ env
large_by (ForSelect x once cs t conds sorts body) z rows env h w = some_body x body rows env (omega (arith, w))
large_by (ForRows x y body) z rows env h w = some_body x body rows env (omega (arith, w))
large_by (Assign x e) z rows env h w = refl
large_by (Select cs xs t conds sorts offset) z rows env h w = refl
large_by (Total agg x t conds) z rows env h w = refl
large_by (Branch e ys ns) z rows env h w = refl
large_by (Insert t es) z rows env h w = refl
large_by (Update t items conds) z rows env h w = refl
large_by (Delete t conds) z rows env h w = refl
large_by (Print es) z rows env h w = refl
large_by (Rollback reason) z rows env h w = refl

small_by : (y : RStmt-F RStmt) (x : ℕ) (rows : List (List Value)) (env : Env) → holds_in y ≡ holds.Body x → size_step (map-RStmt RStmt ℕ size y) ≤ 1 → after_empty_loop y rows env ≡ after_turns x rows env
small_by (ForSelect x once cs t conds sorts body) z rows env h w = no_body x body rows env (omega (arith, w)) ∙ ap (λ k. after_turns k rows env) (same_row x z h)
small_by (ForRows x y body) z rows env h w = no_body x body rows env (omega (arith, w)) ∙ ap (λ k. after_turns k rows env) (same_row x z h)
small_by (Assign x e) z rows env h w = cc
small_by (Select cs xs t conds sorts offset) z rows env h w = cc
small_by (Total agg x t conds) z rows env h w = cc
small_by (Branch e ys ns) z rows env h w = cc
small_by (Insert t es) z rows env h w = cc
small_by (Update t items conds) z rows env h w = cc
small_by (Delete t conds) z rows env h w = cc
small_by (Print es) z rows env h w = cc
small_by (Rollback reason) z rows env h w = cc

pub no_loop : (proc : ProcInfo) (s : RStmt) (step : Step) (h : Holds) → TellsOf proc s step → h ≡ holds_in (out-RStmt step.statement) → ((x : ℕ) → h ≡ holds.Body x → ⊥)
    → (rows : List (List Value)) (env : Env) → after_empty_loop (out-RStmt s) rows env ≡ env
no_loop proc s step h tells is not rows env = stays_by (out-RStmt s) rows env (λ x e. not x (sym (holds_told proc s step h tells is) ∙ e))

pub large_loop : (proc : ProcInfo) (s : RStmt) (step : Step) (x : ℕ) → TellsOf proc s step → holds.Body x ≡ holds_in (out-RStmt step.statement) → 1 < step.size
    → (rows : List (List Value)) (env : Env) → after_empty_loop (out-RStmt s) rows env ≡ env
large_loop proc s step x tells is w rows env =
    large_by (out-RStmt s) x rows env (holds_told proc s step (holds.Body x) tells is) (let e : step.size ≡ size_step (map-RStmt RStmt ℕ size (out-RStmt s)) = tells.size ∙ size_out s in omega (arith, w, e))

pub small_loop : (proc : ProcInfo) (s : RStmt) (step : Step) (x : ℕ) → TellsOf proc s step → holds.Body x ≡ holds_in (out-RStmt step.statement) → step.size ≤ 1
    → (rows : List (List Value)) (env : Env) → after_empty_loop (out-RStmt s) rows env ≡ after_turns x rows env
small_loop proc s step x tells is w rows env =
    small_by (out-RStmt s) x rows env (holds_told proc s step (holds.Body x) tells is) (let e : step.size ≡ size_step (map-RStmt RStmt ℕ size (out-RStmt s)) = tells.size ∙ size_out s in omega (arith, w, e))

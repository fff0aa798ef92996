-- The paths of the records of a full run rise.
use Rattle.std.proofs.Common.{◌≡◌, ℕ, ◌+◌, ◌≤◌, Bool, true, false, List, [], ◌∷◌, ◌++◌, Result, Ok, Err, map, length, nat_lt, if◌then◌else◌, refl, sym, ap, subst, ◌∙◌, arith, append-nil, append_assoc}
use Rattle.std.proofs.lemmas.Bool.Decides.{nat_tests}
use Rattle.mv_values.specs.declared.value.Value.{Value}
use Rattle.mv_values.specs.declared.schema.TableInfo.{TableInfo}
use Rattle.mv_values.specs.declared.calls.Call.{Call}
use Rattle.mv_values.specs.declared.calls.End.{End}
use Rattle.mv_values.specs.Tables.{Tables}
use Rattle.mv_catalog.specs.declared.resolved.ProcInfo.{ProcInfo}
use Rattle.mv_catalog.specs.declared.resolved.RStmt.{RStmt, roll-RStmt, map-RStmt, ind-RStmt, para-roll-RStmt, fold-roll-RStmt}
use Rattle.mv_catalog.specs.declared.resolved.RStmt.TheOpen.{RStmt-F, Assign, Select, Total, ForSelect, ForRows, Branch, Insert, Update, Delete, Print, Rollback}
use Rattle.mv_eval.specs.declared.state.State.{State}
use Rattle.mv_eval.specs.declared.state.Content.TheVariants.{Turn}
use Rattle.mv_eval.specs.Env.{with_held, with_found}
use Rattle.mv_eval.specs.Value.{value_of, is_so}
use Rattle.mv_eval.specs.Alone.{Does, does, is_turn}
use Rattle.mv_eval.specs.TableAfter.{begun}
use Rattle.mv_record.specs.declared.record.Record.{Record}
use Rattle.mv_record.specs.Paths.{Nest, path, nest_of, nests_behind, paths, IsEarlierPath, PathsRise}
use Rattle.mv_recorded.specs.Asking.{on}
use Rattle.mv_recorded.specs.Doing.{fixed_rows}
use Rattle.mv_catalog.specs.Statements.{size, size_step, total_size}
use Rattle.mv_recorded.specs.Recorded.{Recorder, Site, tell, tell_step, tell_turns, own_record, in_turn, within, within_loop, size_of, body_of, tell_statements, outside, recorded}
use Rattle.mv_recorded.proofs.Nesting.{paths_behind, paths_join, AsMany, more_as_many, IsNested, stands_on, StandsInTurns, stands_here, stands_within, stands_in_turns}
use Rattle.mv_recorded.proofs.Climbing.{front_earlier, less_earlier, behind_same, NotLater, earlier_not_later, number_not_later, Climb, climb_on, climb_from, climb_join, climb_to, climb_pairs}

-- Runs

-- the paths of these many statements rise, behind what stands around them
abbrev Rises : Recorder → ℕ → Type 0
Rises tells many = (n : ℕ) (site : Site) (before : List Record) (st : State) (nests : List Nest) (around : List ℕ) → AsMany nests before → IsNested nests site around
    → Climb (around ++ n ∷ []) (paths_behind nests (tells n site before st)) (around ++ (n + many) ∷ [])

-- what follows on these records
follow_rises : {A : Type 0} (nests : List Nest) (these : List Record) (r : Result A End) (go : A → List Record) (low middle high : List ℕ)
    → Climb low (paths_behind nests these) middle → NotLater middle high → ((x : A) → Climb middle (paths_behind (nests ++ nests_behind nests these) (go x)) high)
    → Climb low (paths_behind nests (these ++ on r go)) high
follow_rises nests these (Ok x) go low middle high h le k =
    subst (λ ps. Climb low ps high) (sym (paths_join nests these (go x)))
    (climb_join low (paths_behind nests these) middle (paths_behind (nests ++ nests_behind nests these) (go x)) high h (k x))
follow_rises nests these (Err e) go low middle high h le k =
    subst (λ rs. Climb low (paths_behind nests rs) high) (sym (append-nil these)) (climb_to low (paths_behind nests these) middle high h le)

turn_earlier : (around : List ℕ) (m k : ℕ) (ks : List ℕ) → IsEarlierPath (around ++ m ∷ k ∷ ks) (around ++ m ∷ (k + 1) ∷ [])
turn_earlier around m k ks =
    behind_same around (m ∷ k ∷ ks) (m ∷ (k + 1) ∷ []) (behind_same (m ∷ []) (k ∷ ks) ((k + 1) ∷ []) (less_earlier k (k + 1) ks [] (omega arith)))

turns_rise : (x : ℕ) (body : Does) (tells : Recorder) (many : ℕ) → Rises tells many → (rows : List (List Value)) (k n : ℕ) (site : Site) (before : List Record) (st : State)
    (nests : List Nest) (around : List ℕ) (m : ℕ) (high : List ℕ) → ((j : ℕ) → IsEarlierPath (around ++ m ∷ j ∷ []) high) → AsMany nests before → StandsInTurns nests site around m
    → Climb (around ++ m ∷ k ∷ []) (paths_behind nests (tell_turns x body tells rows k n site before st)) high
turns_rise x body tells many h [] k n site before st nests around m high top as_many stands = earlier_not_later (around ++ m ∷ k ∷ []) high (top k)
turns_rise x body tells many h (row ∷ rows) k n site before st nests around m high top as_many stands =
    let next : State = record st { env = with_held st.env x (Turn row) } in
    let these : List Record = tells n (in_turn k site) before next in
    let low : List ℕ = around ++ m ∷ k ∷ [] in
    let middle : List ℕ = around ++ m ∷ (k + 1) ∷ [] in
    let nested : (j : ℕ) → (around ++ m ∷ k ∷ []) ++ j ∷ [] ≡ around ++ m ∷ k ∷ j ∷ [] = λ j. append_assoc around (m ∷ k ∷ []) (j ∷ []) in
    follow_rises nests these (body next) (tell_turns x body tells rows (k + 1) n site (before ++ these)) low middle high
    (climb_from low (low ++ n ∷ []) (paths_behind nests these) middle
    (earlier_not_later low (low ++ n ∷ []) (subst (IsEarlierPath low) (sym (nested n)) (behind_same around (m ∷ k ∷ []) (m ∷ k ∷ n ∷ []) (behind_same (m ∷ k ∷ []) [] (n ∷ []) (front_earlier n [])))))
    (climb_to (low ++ n ∷ []) (paths_behind nests these) (low ++ (n + many) ∷ []) middle (h n (in_turn k site) before next nests low as_many (stands k))
    (earlier_not_later (low ++ (n + many) ∷ []) middle (subst (λ p. IsEarlierPath p middle) (sym (nested (n + many))) (turn_earlier around m k ((n + many) ∷ []))))))
    (earlier_not_later middle high (top (k + 1)))
    (λ last. turns_rise x body tells many h rows (k + 1) n site (before ++ these) last (nests ++ nests_behind nests these) around m high top (more_as_many nests before these as_many)
    (λ j. stands_on nests (nests_behind nests these) (in_turn j site) (around ++ m ∷ j ∷ []) (stands j)))

first_size : (n : ℕ) (ns : List ℕ) → total_size (n ∷ ns) ≡ n + total_size ns
first_size n ns = refl

-- a statement whose paths rise
abbrev Known : List TableInfo → ℕ → Type 0
Known tables params = (s : RStmt) × Rises (tell tables params s) (size s)

abbrev plain : (tables : List TableInfo) (params : ℕ) → List (Known tables params) → List RStmt
plain tables params ks = map (λ k. k.0) ks

number_same : (around : List ℕ) (m n : ℕ) → m ≡ n → NotLater (around ++ m ∷ []) (around ++ n ∷ [])
number_same around m n h o lt = subst (λ l. IsEarlierPath o (around ++ l ∷ [])) h lt

at_most : (around : List ℕ) (m n : ℕ) → m ≤ n → NotLater (around ++ m ∷ []) (around ++ n ∷ [])
at_most around m n le = by_test (nat_lt m n) refl
  where
    by_test : (b : Bool) → nat_lt m n ≡ b → NotLater (around ++ m ∷ []) (around ++ n ∷ [])
    by_test true is = number_not_later around m n (grind (arith, nat_tests))
    by_test false is = number_same around m n (grind (arith, nat_tests))

all_rise : (tables : List TableInfo) (params : ℕ) (known : List (Known tables params)) → Rises (tell_statements tables params (plain tables params known)) (total_size (map size (plain tables params known)))
all_rise tables params [] n site before st nests around as_many stands = at_most around n (n + 0) (omega arith)
all_rise tables params (k ∷ ks) n site before st nests around as_many stands =
    let these : List Record = tell tables params k.0 n site before st in
    let rest : ℕ = total_size (map size (plain tables params ks)) in
    let one_more = first_size (size k.0) (map size (plain tables params ks)) in
    let same : n + size k.0 + rest ≡ n + total_size (map size (plain tables params (k ∷ ks))) = omega (arith, one_more) in
    subst (λ m. Climb (around ++ n ∷ []) (paths_behind nests (tell_statements tables params (plain tables params (k ∷ ks)) n site before st)) (around ++ m ∷ [])) same
    (follow_rises nests these (does tables k.0 st) (tell_statements tables params (plain tables params ks) (n + size k.0) site (before ++ these)) (around ++ n ∷ []) (around ++ (n + size k.0) ∷ []) (around ++ (n + size k.0 + rest) ∷ [])
    (k.1 n site before st nests around as_many stands) (at_most around (n + size k.0) (n + size k.0 + rest) (omega arith))
    (λ next. all_rise tables params ks (n + size k.0) site (before ++ these) next (nests ++ nests_behind nests these) around (more_as_many nests before these as_many)
    (stands_on nests (nests_behind nests these) site around stands)))

-- a statement, with what those that it holds leave
abbrev telling : (tables : List TableInfo) (params : ℕ) → RStmt-F (Known tables params) → RStmt-F (RStmt × Recorder)
telling tables params y = map-RStmt RStmt (RStmt × Recorder) (λ s. (s, tell tables params s)) (map-RStmt (Known tables params) RStmt (λ k. k.0) y)

-- a record and what is behind it
own_rises : (nests : List Nest) (own : Record) (rs : List Record) (around : List ℕ) (n : ℕ) (middle high : List ℕ) → path (nest_of nests own) ≡ around ++ n ∷ []
    → IsEarlierPath (around ++ n ∷ []) middle → Climb middle (paths_behind (nests ++ nest_of nests own ∷ []) rs) high → Climb (around ++ n ∷ []) (paths_behind nests (own ∷ rs)) high
own_rises nests own rs around n middle high is lt h =
    let it : List ℕ = path (nest_of nests own) in
    (λ o less. subst (IsEarlierPath o) (sym is) less, climb_on it middle (paths_behind (nests ++ nest_of nests own ∷ []) rs) high (subst (λ p. IsEarlierPath p middle) (sym is) lt) h)

next_number : (around : List ℕ) (n : ℕ) → IsEarlierPath (around ++ n ∷ []) (around ++ (n + 1) ∷ [])
next_number around n = behind_same around (n ∷ []) ((n + 1) ∷ []) (less_earlier n (n + 1) [] [] (omega arith))

first_turn : (around : List ℕ) (n k : ℕ) → IsEarlierPath (around ++ n ∷ []) (around ++ n ∷ k ∷ [])
first_turn around n k = behind_same around (n ∷ []) (n ∷ k ∷ []) (behind_same (n ∷ []) [] (k ∷ []) (front_earlier k []))

one_rises : (nests : List Nest) (own : Record) (around : List ℕ) (n : ℕ) → path (nest_of nests own) ≡ around ++ n ∷ []
    → Climb (around ++ n ∷ []) (paths_behind nests (own ∷ [])) (around ++ (n + 1) ∷ [])
one_rises nests own around n is = own_rises nests own [] around n (around ++ (n + 1) ∷ []) (around ++ (n + 1) ∷ []) is (next_number around n) (λ o lt. lt)

on_rises : {A : Type 0} (nests : List Nest) (r : Result A End) (go : A → List Record) (low high : List ℕ) → NotLater low high
    → ((x : A) → Climb low (paths_behind nests (go x)) high) → Climb low (paths_behind nests (on r go)) high
on_rises nests (Ok x) go low high le h = h x
on_rises nests (Err e) go low high le h = le

either_rises : (nests : List Nest) (b : Bool) (rs ss : List Record) (low high : List ℕ) → Climb low (paths_behind nests rs) high → Climb low (paths_behind nests ss) high
    → Climb low (paths_behind nests (if b then rs else ss)) high
either_rises nests true rs ss low high h k = h
either_rises nests false rs ss low high h k = k

sizes : (f : RStmt → Recorder) (ss : List RStmt) → size_of (map (λ s. (s, f s)) ss) ≡ total_size (map size ss)
sizes f [] = refl
sizes f (s ∷ ss) =
    first_size (size s) (map (λ p. size p.0) (map (λ s. (s, f s)) ss)) ∙ (ap (λ n. size s + n) (sizes f ss) ∙ sym (first_size (size s) (map size ss)))

turn_before : (around : List ℕ) (n j many : ℕ) → IsEarlierPath (around ++ n ∷ j ∷ []) (around ++ (n + (1 + many)) ∷ [])
turn_before around n j many = behind_same around (n ∷ j ∷ []) ((n + (1 + many)) ∷ []) (less_earlier n (n + (1 + many)) (j ∷ []) [] (omega arith))

-- the turns of a FOR behind its own record
loop_rises : (x : ℕ) (body : Does) (tells : Recorder) (many : ℕ) → Rises tells many → (rows : List (List Value)) (own : Record) (n : ℕ) (site : Site) (before : List Record) (st : State)
    (nests : List Nest) (around : List ℕ) → AsMany nests before → (nest_of nests own).around ≡ around → own.spot.statement ≡ n → own.spot.turns ≡ site.turns
    → Climb (around ++ n ∷ 1 ∷ []) (paths_behind (nests ++ nest_of nests own ∷ []) (tell_turns x body tells rows 1 (n + 1) (within_loop x (length before) site) (before ++ own ∷ []) st)) (around ++ (n + (1 + many)) ∷ [])
loop_rises x body tells many h rows own n site before st nests around as_many stands is same =
    turns_rise x body tells many h rows 1 (n + 1) (within_loop x (length before) site) (before ++ own ∷ []) st (nests ++ nest_of nests own ∷ []) around n (around ++ (n + (1 + many)) ∷ [])
    (λ j. turn_before around n j many)
    (more_as_many nests before (own ∷ []) as_many)
    (λ k more. stands_in_turns nests (nest_of nests own) x site (length before) (sym as_many) same k more ∙ (ap (λ a. a ++ own.spot.statement ∷ k ∷ []) stands ∙ ap (λ m. around ++ m ∷ k ∷ []) is))

-- the branch of an IF behind its own record
branch_rises : (tables : List TableInfo) (params : ℕ) (known : List (Known tables params)) (m : ℕ) (own : Record) (site : Site) (before : List Record) (st : State)
    (nests : List Nest) (around : List ℕ) → AsMany nests before → (nest_of nests own).around ≡ around → own.spot.turns ≡ site.turns
    → Climb (around ++ m ∷ []) (paths_behind (nests ++ nest_of nests own ∷ []) (tell_statements tables params (plain tables params known) m (within (length before) site) (before ++ own ∷ []) st))
    (around ++ (m + total_size (map size (plain tables params known))) ∷ [])
branch_rises tables params known m own site before st nests around as_many stands same =
    all_rise tables params known m (within (length before) site) (before ++ own ∷ []) st (nests ++ nest_of nests own ∷ []) around (more_as_many nests before (own ∷ []) as_many)
    (λ others. stands_within nests (nest_of nests own) site (length before) (sym as_many) same others ∙ stands)

step_rises : (tables : List TableInfo) (params : ℕ) (y : RStmt-F (Known tables params))
    → Rises (tell_step tables params (telling tables params y)) (size_step (map-RStmt RStmt ℕ size (map-RStmt (Known tables params) RStmt (λ k. k.0) y)))
step_rises tables params (Assign x e) n site before st nests around as_many stands =
    one_rises nests (own_record tables params (telling tables params (Assign x e)) n site before st) around n (ap (λ a. a ++ n ∷ []) (stands_here nests site around stands))
step_rises tables params (Select cs xs t conds sorts offset) n site before st nests around as_many stands =
    one_rises nests (own_record tables params (telling tables params (Select cs xs t conds sorts offset)) n site before st) around n (ap (λ a. a ++ n ∷ []) (stands_here nests site around stands))
step_rises tables params (Total agg x t conds) n site before st nests around as_many stands =
    one_rises nests (own_record tables params (telling tables params (Total agg x t conds)) n site before st) around n (ap (λ a. a ++ n ∷ []) (stands_here nests site around stands))
step_rises tables params (ForSelect x once cs t conds sorts body) n site before st nests around as_many stands =
    let own : Record = own_record tables params (telling tables params (ForSelect x once cs t conds sorts body)) n site before st in
    let here = stands_here nests site around stands in
    let many : ℕ = total_size (map size (plain tables params body)) in
    own_rises nests own _ around n (around ++ n ∷ 1 ∷ []) (around ++ (n + (1 + many)) ∷ []) (ap (λ a. a ++ n ∷ []) here) (first_turn around n 1)
    (on_rises (nests ++ nest_of nests own ∷ []) (fixed_rows tables (telling tables params (ForSelect x once cs t conds sorts body)) st) _ (around ++ n ∷ 1 ∷ []) (around ++ (n + (1 + many)) ∷ [])
    (earlier_not_later (around ++ n ∷ 1 ∷ []) (around ++ (n + (1 + many)) ∷ []) (turn_before around n 1 many))
    (λ rows. loop_rises x (body_of tables (map (λ s. (s, tell tables params s)) (plain tables params body))) (tell_statements tables params (plain tables params body)) many (all_rise tables params body) rows own n site before
    (record st { env = with_found st.env (is_turn rows) }) nests around as_many here refl refl))
step_rises tables params (ForRows x y body) n site before st nests around as_many stands =
    let own : Record = own_record tables params (telling tables params (ForRows x y body)) n site before st in
    let here = stands_here nests site around stands in
    let many : ℕ = total_size (map size (plain tables params body)) in
    own_rises nests own _ around n (around ++ n ∷ 1 ∷ []) (around ++ (n + (1 + many)) ∷ []) (ap (λ a. a ++ n ∷ []) here) (first_turn around n 1)
    (on_rises (nests ++ nest_of nests own ∷ []) (fixed_rows tables (telling tables params (ForRows x y body)) st) _ (around ++ n ∷ 1 ∷ []) (around ++ (n + (1 + many)) ∷ [])
    (earlier_not_later (around ++ n ∷ 1 ∷ []) (around ++ (n + (1 + many)) ∷ []) (turn_before around n 1 many))
    (λ rows. loop_rises x (body_of tables (map (λ s. (s, tell tables params s)) (plain tables params body))) (tell_statements tables params (plain tables params body)) many (all_rise tables params body) rows own n site before
    (record st { env = with_found st.env (is_turn rows) }) nests around as_many here refl refl))
step_rises tables params (Branch e ys ns) n site before st nests around as_many stands =
    let own : Record = own_record tables params (telling tables params (Branch e ys ns)) n site before st in
    let here = stands_here nests site around stands in
    let all : List Nest = nests ++ nest_of nests own ∷ [] in
    let low : List ℕ = around ++ (n + 1) ∷ [] in
    let yes_many : ℕ = total_size (map size (plain tables params ys)) in
    let no_many : ℕ = total_size (map size (plain tables params ns)) in
    let passed : ℕ = n + 1 + size_of (map (λ s. (s, tell tables params s)) (plain tables params ys)) in
    let skips = sizes (tell tables params) (plain tables params ys) in
    let high : List ℕ = around ++ (n + (1 + (yes_many + no_many))) ∷ [] in
    own_rises nests own _ around n low high (ap (λ a. a ++ n ∷ []) here) (next_number around n)
    (on_rises all (value_of e st.env []) _ low high (at_most around (n + 1) (n + (1 + (yes_many + no_many))) (omega arith))
    (λ v. either_rises all (is_so v) _ _ low high
    (climb_to low _ (around ++ (n + 1 + yes_many) ∷ []) high (branch_rises tables params ys (n + 1) own site before st nests around as_many here refl)
    (at_most around (n + 1 + yes_many) (n + (1 + (yes_many + no_many))) (omega arith)))
    (climb_from low (around ++ passed ∷ []) _ high (at_most around (n + 1) passed (omega arith))
    (climb_to (around ++ passed ∷ []) _ (around ++ (passed + no_many) ∷ []) high (branch_rises tables params ns passed own site before st nests around as_many here refl)
    (at_most around (passed + no_many) (n + (1 + (yes_many + no_many))) (omega (arith, skips)))))))
step_rises tables params (Insert t es) n site before st nests around as_many stands =
    one_rises nests (own_record tables params (telling tables params (Insert t es)) n site before st) around n (ap (λ a. a ++ n ∷ []) (stands_here nests site around stands))
step_rises tables params (Update t items conds) n site before st nests around as_many stands =
    one_rises nests (own_record tables params (telling tables params (Update t items conds)) n site before st) around n (ap (λ a. a ++ n ∷ []) (stands_here nests site around stands))
step_rises tables params (Delete t conds) n site before st nests around as_many stands =
    one_rises nests (own_record tables params (telling tables params (Delete t conds)) n site before st) around n (ap (λ a. a ++ n ∷ []) (stands_here nests site around stands))
step_rises tables params (Print es) n site before st nests around as_many stands =
    one_rises nests (own_record tables params (telling tables params (Print es)) n site before st) around n (ap (λ a. a ++ n ∷ []) (stands_here nests site around stands))
step_rises tables params (Rollback reason) n site before st nests around as_many stands =
    one_rises nests (own_record tables params (telling tables params (Rollback reason)) n site before st) around n (ap (λ a. a ++ n ∷ []) (stands_here nests site around stands))

pub statement_rises : (tables : List TableInfo) (params : ℕ) (s : RStmt) → Rises (tell tables params s) (size s)
statement_rises tables params = ind-RStmt (λ s. Rises (tell tables params s) (size s)) (λ x y is.
    subst (λ z. Rises (tell tables params (roll-RStmt z)) (size (roll-RStmt z))) is (λ n site before st nests around as_many stands.
    let z : RStmt-F RStmt = map-RStmt (Known tables params) RStmt (λ k. k.0) y in
    subst (λ rs. Climb (around ++ n ∷ []) (paths_behind nests rs) (around ++ (n + size (roll-RStmt z)) ∷ [])) (sym (ap (λ f. f n site before st) (para-roll-RStmt Recorder (tell_step tables params) z)))
    (subst (λ m. Climb (around ++ n ∷ []) (paths_behind nests (tell_step tables params (telling tables params y) n site before st)) (around ++ (n + m) ∷ [])) (sym (fold-roll-RStmt ℕ size_step z))
    (step_rises tables params y n site before st nests around as_many stands))))

known_firsts : (tables : List TableInfo) (params : ℕ) (ss : List RStmt) → map (λ (k : Known tables params). k.0) (map (λ s. (s, statement_rises tables params s)) ss) ≡ ss
known_firsts tables params [] = refl
known_firsts tables params (s ∷ ss) = ap (λ l. s ∷ l) (known_firsts tables params ss)

pub told_rises : (tables : List TableInfo) (params : ℕ) (ss : List RStmt) → Rises (tell_statements tables params ss) (total_size (map size ss))
told_rises tables params ss =
    subst (λ ts. Rises (tell_statements tables params ts) (total_size (map size ts))) (known_firsts tables params ss) (all_rise tables params (map (λ s. (s, statement_rises tables params s)) ss))

-- each record's path comes before those of the records behind it
pub recorded_rises : (tables : List TableInfo) (proc : ProcInfo) (call : Call) (db : Tables) → PathsRise (recorded tables proc call db)
recorded_rises tables proc call db =
    climb_pairs (1 ∷ []) (paths (recorded tables proc call db)) ((1 + total_size (map size proc.body)) ∷ [])
    (told_rises tables (length call.arguments) proc.body 1 outside [] (begun proc call db) [] [] refl (λ more. refl))

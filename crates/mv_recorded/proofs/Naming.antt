-- Each record of a full run names earlier records alone.
use Rattle.std.proofs.Common.{◌≡◌, ℕ, ◌+◌, ◌==◌, ◌<◌, ◌≤◌, Bool, true, false, List, [], ◌∷◌, ◌++◌, Option, Some, None, Result, Ok, Err, map, length, if◌then◌else◌, refl, sym, ap, subst, arith, length-append}
use Rattle.std.specs.Option.{option_or}
use Rattle.mv_values.specs.declared.value.Value.{Value}
use Rattle.mv_values.specs.declared.schema.TableInfo.{TableInfo}
use Rattle.mv_values.specs.declared.calls.Call.{Call}
use Rattle.mv_values.specs.declared.calls.End.{End}
use Rattle.mv_values.specs.Tables.{Tables}
use Rattle.mv_catalog.specs.declared.resolved.ProcInfo.{ProcInfo}
use Rattle.mv_catalog.specs.declared.resolved.RExpr.{RExpr}
use Rattle.mv_catalog.specs.declared.resolved.RStmt.{RStmt, roll-RStmt, map-RStmt, ind-RStmt, para-roll-RStmt}
use Rattle.mv_catalog.specs.declared.resolved.RStmt.TheOpen.{RStmt-F, Assign, Select, Total, ForSelect, ForRows, Branch, Insert, Update, Delete, Print, Rollback}
use Rattle.mv_eval.specs.declared.state.State.{State}
use Rattle.mv_eval.specs.declared.state.Content.TheVariants.{Turn}
use Rattle.mv_eval.specs.Env.{with_found, with_held}
use Rattle.mv_eval.specs.Value.{value_of, is_so}
use Rattle.mv_eval.specs.Alone.{Does, does, is_turn}
use Rattle.mv_eval.specs.TableAfter.{begun}
use Rattle.mv_record.specs.declared.record.Record.{Record}
use Rattle.mv_record.specs.Runs.{IsEarlier, ReadsEarlier, NamesEarlier}
use Rattle.mv_recorded.specs.Asking.{on}
use Rattle.mv_recorded.specs.Doing.{fixed_rows}
use Rattle.mv_recorded.specs.Reading.{Loop, loop_of, last_place, sets_variable, definer, read_variables, reads_of, expressions}
use Rattle.mv_catalog.specs.Statements.{size}
use Rattle.mv_recorded.specs.Recorded.{Recorder, Site, tell, tell_inner, tell_step, tell_turns, own_record, in_turn, within, within_loop, body_of, tell_statements, outside, recorded}

-- the loops around began earlier
abbrev LoopsEarlier : ℕ → List Loop → Type 0
LoopsEarlier n [] = Unit {0}
LoopsEarlier n (l ∷ ls) = (l.number < n) × LoopsEarlier n ls

abbrev SiteEarlier : ℕ → Site → Type 0
SiteEarlier n site = IsEarlier n site.parent × LoopsEarlier n site.loops

later_too : (m n : ℕ) → m ≤ n → (o : Option ℕ) → IsEarlier m o → IsEarlier n o
later_too m n le None h = tt
later_too m n le (Some k) h = omega (arith, le, h)

loops_later : (m n : ℕ) → m ≤ n → (ls : List Loop) → LoopsEarlier m ls → LoopsEarlier n ls
loops_later m n le [] h = tt
loops_later m n le (l ∷ ls) h = (omega (arith, le, h.0), loops_later m n le ls h.1)

site_later : (m n : ℕ) → m ≤ n → (site : Site) → SiteEarlier m site → SiteEarlier n site
site_later m n le site h = (later_too m n le site.parent h.0, loops_later m n le site.loops h.1)

-- Definers

loop_earlier : (n x : ℕ) (ls : List Loop) → LoopsEarlier n ls → IsEarlier n (loop_of x ls)
loop_earlier n x [] h = tt
loop_earlier n x (l ∷ ls) h = either (l.row == x) (loop_earlier n x ls h.1)
  where
    either : (b : Bool) → IsEarlier n (loop_of x ls) → IsEarlier n (if b then Some l.number else loop_of x ls)
    either true rest = h.0
    either false rest = rest

or_earlier : (n : ℕ) (a b : Option ℕ) → IsEarlier n a → IsEarlier n b → IsEarlier n (option_or a b)
or_earlier n None b h k = k
or_earlier n (Some m) b h k = h

place_earlier : {A : Type 0} (test : A → Bool) (n : ℕ) (xs : List A) → IsEarlier (n + length xs) (last_place test n xs)
place_earlier test n [] = tt
place_earlier test n (x ∷ xs) =
    or_earlier (n + length (x ∷ xs)) (last_place test (n + 1) xs) (if test x then Some n else None)
    (later_too (n + 1 + length xs) (n + length (x ∷ xs)) (omega arith) (last_place test (n + 1) xs) (place_earlier test (n + 1) xs)) (either (test x))
  where
    either : (b : Bool) → IsEarlier (n + length (x ∷ xs)) (if b then Some n else None)
    either true = omega arith
    either false = tt

reads_earlier : (n : ℕ) (go : ℕ → Option ℕ) → ((x : ℕ) → IsEarlier n (go x)) → (xs : List ℕ) → ReadsEarlier n (map (λ x. record { slot = x; definer = go x }) xs)
reads_earlier n go h [] = tt
reads_earlier n go h (x ∷ xs) = (h x, reads_earlier n go h xs)

definers_earlier : (params : ℕ) (loops : List Loop) (before : List Record) (es : List RExpr) → LoopsEarlier (length before) loops → ReadsEarlier (length before) (reads_of params loops before es)
definers_earlier params loops before es h =
    reads_earlier (length before) (definer loops before) (λ x. or_earlier (length before) (loop_of x loops) (last_place (sets_variable x) 0 before) (loop_earlier (length before) x loops h)
    (later_too (0 + length before) (length before) (omega arith) (last_place (sets_variable x) 0 before) (place_earlier (sets_variable x) 0 before))) (read_variables params es)

-- Runs

abbrev Names : Recorder → Type 0
Names tells = (n : ℕ) (site : Site) (before : List Record) (st : State) → SiteEarlier (length before) site → NamesEarlier (length before) (tells n site before st)

both_earlier : (n : ℕ) (rs ss : List Record) → NamesEarlier n rs → NamesEarlier (n + length rs) ss → NamesEarlier n (rs ++ ss)
both_earlier n [] ss h k = let same : n + 0 ≡ n = omega arith in subst (λ m. NamesEarlier m ss) same k
both_earlier n (r ∷ rs) ss h k =
    let same : n + length (r ∷ rs) ≡ n + 1 + length rs = omega arith in
    (h.0, h.1, both_earlier (n + 1) rs ss h.2 (subst (λ m. NamesEarlier m ss) same k))

-- what follows on these records
follows_earlier : {A : Type 0} (before these : List Record) (r : Result A End) (go : A → List Record) → NamesEarlier (length before) these
    → ((x : A) → NamesEarlier (length (before ++ these)) (go x)) → NamesEarlier (length before) (these ++ on r go)
follows_earlier before these (Ok x) go h k = both_earlier (length before) these (go x) h (subst (λ m. NamesEarlier m (go x)) (length-append before these) (k x))
follows_earlier before these (Err e) go h k = both_earlier (length before) these [] h tt

turns_earlier : (x : ℕ) (body : Does) (tells : Recorder) → Names tells → (rows : List (List Value)) (k : ℕ) → Names (tell_turns x body tells rows k)
turns_earlier x body tells h [] k n site before st s = tt
turns_earlier x body tells h (row ∷ rows) k n site before st s =
    let next : State = record st { env = with_held st.env x (Turn row) } in
    let these : List Record = tells n (in_turn k site) before next in
    follows_earlier before these (body next) (tell_turns x body tells rows (k + 1) n site (before ++ these)) (h n (in_turn k site) before next s)
    (λ last. turns_earlier x body tells h rows (k + 1) n site (before ++ these) last (site_later (length before) (length (before ++ these)) (longer before these) site s))
  where
    longer : (xs ys : List Record) → length xs ≤ length (xs ++ ys)
    longer xs ys = omega (arith, length-append xs ys)

abbrev Known : List TableInfo → ℕ → Type 0
Known tables params = (s : RStmt) × Names (tell tables params s)

all_earlier : (tables : List TableInfo) (params : ℕ) (known : List (Known tables params)) → Names (tell_statements tables params (map (λ k. k.0) known))
all_earlier tables params [] n site before st s = tt
all_earlier tables params (k ∷ ks) n site before st s =
    let these : List Record = tell tables params k.0 n site before st in
    follows_earlier before these (does tables k.0 st) (tell_statements tables params (map (λ k. k.0) ks) (n + size k.0) site (before ++ these)) (k.1 n site before st s)
    (λ next. all_earlier tables params ks (n + size k.0) site (before ++ these) next (site_later (length before) (length (before ++ these)) (longer before these) site s))
  where
    longer : (xs ys : List Record) → length xs ≤ length (xs ++ ys)
    longer xs ys = omega (arith, length-append xs ys)

-- what stands behind a statement's own record
inner_earlier : (own : Record) (before rs : List Record) → IsEarlier (length before) own.parent → ReadsEarlier (length before) own.reads → NamesEarlier (length (before ++ own ∷ [])) rs
    → NamesEarlier (length before) (own ∷ rs)
inner_earlier own before rs p q h = (p, q, subst (λ m. NamesEarlier m rs) (length-append before (own ∷ [])) h)

nothing_earlier : {A : Type 0} (n : ℕ) (r : Result A End) (go : A → List Record) → ((x : A) → NamesEarlier n (go x)) → NamesEarlier n (on r go)
nothing_earlier n (Ok x) go h = h x
nothing_earlier n (Err e) go h = tt

either_earlier : (n : ℕ) (b : Bool) (rs ss : List Record) → NamesEarlier n rs → NamesEarlier n ss → NamesEarlier n (if b then rs else ss)
either_earlier n true rs ss h k = h
either_earlier n false rs ss h k = k

-- a statement, with what those that it holds leave
abbrev telling : (tables : List TableInfo) (params : ℕ) → RStmt-F (Known tables params) → RStmt-F (RStmt × Recorder)
telling tables params y = map-RStmt RStmt (RStmt × Recorder) (λ s. (s, tell tables params s)) (map-RStmt (Known tables params) RStmt (λ k. k.0) y)

-- inside the statement whose record comes next
inside_earlier : (before : List Record) (own : Record) (site : Site) → SiteEarlier (length before) site → SiteEarlier (length (before ++ own ∷ [])) (within (length before) site)
inside_earlier before own site s = (omega (arith, length-append before (own ∷ [])), loops_later (length before) (length (before ++ own ∷ [])) (omega (arith, length-append before (own ∷ []))) site.loops s.1)

loop_inside_earlier : (x : ℕ) (before : List Record) (own : Record) (site : Site) → SiteEarlier (length before) site → SiteEarlier (length (before ++ own ∷ [])) (within_loop x (length before) site)
loop_inside_earlier x before own site s = (
  omega (arith, length-append before (own ∷ [])),
  (omega (arith, length-append before (own ∷ [])), loops_later (length before) (length (before ++ own ∷ [])) (omega (arith, length-append before (own ∷ []))) site.loops s.1),
)

inner_names : (tables : List TableInfo) (params : ℕ) (y : RStmt-F (Known tables params)) (n : ℕ) (site : Site) (before : List Record) (own : Record) (st : State) → SiteEarlier (length before) site
    → NamesEarlier (length (before ++ own ∷ [])) (tell_inner tables (telling tables params y) (length before) n site (before ++ own ∷ []) st)
inner_names tables params (Assign x e) n site before own st s = tt
inner_names tables params (Select cs xs t conds sorts offset) n site before own st s = tt
inner_names tables params (Total agg x t conds) n site before own st s = tt
inner_names tables params (ForSelect x once cs t conds sorts body) n site before own st s =
    nothing_earlier (length (before ++ own ∷ [])) (fixed_rows tables (telling tables params (ForSelect x once cs t conds sorts body)) st) _
    (λ rows. turns_earlier x (body_of tables (map (λ s. (s, tell tables params s)) (map (λ k. k.0) body))) (tell_statements tables params (map (λ k. k.0) body)) (all_earlier tables params body) rows 1 n (within_loop x (length before) site) (before ++ own ∷ []) (record st { env = with_found st.env (is_turn rows) })
    (loop_inside_earlier x before own site s))
inner_names tables params (ForRows x y body) n site before own st s =
    nothing_earlier (length (before ++ own ∷ [])) (fixed_rows tables (telling tables params (ForRows x y body)) st) _
    (λ rows. turns_earlier x (body_of tables (map (λ s. (s, tell tables params s)) (map (λ k. k.0) body))) (tell_statements tables params (map (λ k. k.0) body)) (all_earlier tables params body) rows 1 n (within_loop x (length before) site) (before ++ own ∷ []) (record st { env = with_found st.env (is_turn rows) })
    (loop_inside_earlier x before own site s))
inner_names tables params (Branch e ys ns) n site before own st s =
    nothing_earlier (length (before ++ own ∷ [])) (value_of e st.env []) _ (λ v. either_earlier (length (before ++ own ∷ [])) (is_so v) _ _
    (all_earlier tables params ys n (within (length before) site) (before ++ own ∷ []) st (inside_earlier before own site s))
    (all_earlier tables params ns _ (within (length before) site) (before ++ own ∷ []) st (inside_earlier before own site s)))
inner_names tables params (Insert t es) n site before own st s = tt
inner_names tables params (Update t items conds) n site before own st s = tt
inner_names tables params (Delete t conds) n site before own st s = tt
inner_names tables params (Print es) n site before own st s = tt
inner_names tables params (Rollback reason) n site before own st s = tt

step_names : (tables : List TableInfo) (params : ℕ) (y : RStmt-F (Known tables params)) → Names (tell_step tables params (telling tables params y))
step_names tables params y n site before st s =
    let own : Record = own_record tables params (telling tables params y) n site before st in
    inner_earlier own before (tell_inner tables (telling tables params y) (length before) (n + 1) site (before ++ own ∷ []) st) s.0
    (definers_earlier params site.loops before (expressions (telling tables params y)) s.1) (inner_names tables params y (n + 1) site before own st s)

pub statement_names : (tables : List TableInfo) (params : ℕ) (s : RStmt) → Names (tell tables params s)
statement_names tables params = ind-RStmt (λ s. Names (tell tables params s)) (λ x y is.
    subst (λ z. Names (tell tables params (roll-RStmt z))) is (λ n site before st s.
    subst (NamesEarlier (length before)) (sym (ap (λ f. f n site before st) (para-roll-RStmt Recorder (tell_step tables params) (map-RStmt (Known tables params) RStmt (λ k. k.0) y))))
    (step_names tables params y n site before st s)))

known_firsts : (tables : List TableInfo) (params : ℕ) (ss : List RStmt) → map (λ (k : Known tables params). k.0) (map (λ s. (s, statement_names tables params s)) ss) ≡ ss
known_firsts tables params [] = refl
known_firsts tables params (s ∷ ss) = ap (λ l. s ∷ l) (known_firsts tables params ss)

pub told_names : (tables : List TableInfo) (params : ℕ) (ss : List RStmt) → Names (tell_statements tables params ss)
told_names tables params ss = subst (λ ts. Names (tell_statements tables params ts)) (known_firsts tables params ss) (all_earlier tables params (map (λ s. (s, statement_names tables params s)) ss))

-- the controller and the definers of each record are earlier records
pub recorded_names : (tables : List TableInfo) (proc : ProcInfo) (call : Call) (db : Tables) → NamesEarlier 0 (recorded tables proc call db)
recorded_names tables proc call db = told_names tables (length call.arguments) proc.body 1 outside [] (begun proc call db) (tt, tt)

-- Where no change hits a record of a run, the run on the later database is the same.
use Rattle.std.proofs.Common.{◌≡◌, ℕ, ◌+◌, Bool, true, false, not, List, [], ◌∷◌, ◌++◌, Some, None, Result, Ok, Err, map, length, if◌then◌else◌, refl, sym, ap, subst, ◌∙◌, append_assoc, append-nil}
use Rattle.std.specs.Prelude.{⊤, ◌&&◌}
use Rattle.std.specs.List.{list_any, flat_map}
use Rattle.std.specs.Result.{result_err}
use Rattle.std.proofs.lemmas.Grind.{flat_map-append}
use Rattle.std.proofs.lemmas.Slice.Zip.{AllZip-long}
use Rattle.std.proofs.lemmas.Bool.{and_parts, not-true}
use Rattle.mv_record.proofs.Patching.{applied_append}
use Rattle.mv_catalog.specs.Text as text
use Rattle.mv_values.specs.Tables.{key_columns}
use Rattle.mv_values.specs.declared.pred.Test.{Test}
use Rattle.mv_values.specs.declared.value.Value.{Value}
use Rattle.mv_values.specs.declared.pred.Pred.{Pred}
use Rattle.mv_values.specs.declared.patch.Write.{Write}
use Rattle.mv_values.specs.declared.schema.TableInfo.{TableInfo}
use Rattle.mv_values.specs.declared.calls.Call.{Call}
use Rattle.mv_values.specs.declared.calls.End.{End}
use Rattle.mv_values.specs.declared.calls.End.TheVariants.{Own}
use Rattle.mv_values.specs.Patching.{applied}
use Rattle.mv_values.specs.Tables.{Tables}
use Rattle.mv_catalog.specs.Statements.{size, total_size}
use Rattle.mv_catalog.specs.declared.resolved.ProcInfo.{ProcInfo}
use Rattle.mv_catalog.specs.declared.resolved.RStmt.{RStmt, roll-RStmt, map-RStmt, ind-RStmt, para-roll-RStmt, fold-roll-RStmt}
use Rattle.mv_catalog.specs.declared.resolved.RStmt.TheOpen.{RStmt-F, Assign, Select, Total, ForSelect, ForRows, Branch, Insert, Update, Delete, Print, Rollback}
use Rattle.mv_eval.specs.declared.state.Env.{Env}
use Rattle.mv_eval.specs.declared.state.State.{State}
use Rattle.mv_eval.specs.declared.state.Content.TheVariants.{Turn}
use Rattle.mv_eval.specs.Results.{then_do}
use Rattle.mv_eval.specs.Env.{held_at, with_found, with_held, turns_at}
use Rattle.mv_eval.specs.Value.{value_of, is_so}
use Rattle.mv_eval.specs.Rows.{tests_of}
use Rattle.mv_eval.specs.Alone.{Does, alone, does, stmt_step, each_turn, loop_over, fixed, matching_in, is_turn}
use Rattle.mv_eval.specs.TableAfter.{begun}
use Rattle.mv_record.specs.declared.record.Record.{Record}
use Rattle.mv_record.specs.Runs.{writes_in}
use Rattle.mv_recorded.specs.Asking.{on, preds_of}
use Rattle.mv_recorded.specs.Doing.{itself, before_turns}
use Rattle.mv_recorded.specs.Effect.{with_slots, behind, TellsEffect}
use Rattle.mv_recorded.specs.Reading.{variables, expressions}
use Rattle.mv_recorded.specs.Recorded.{Recorder, Site, tell, tell_step, tell_turns, tell_loop, own_record, in_turn, within, within_loop, tell_statements, outside, recorded}
use Rattle.mv_recorded.specs.Alike.{Agree, OverAgrees, SeenAlike}
use Rattle.mv_recorded.specs.Own.{Bare, bare, Flat, flat, flat_step, flat_all, Each, IsStatedWell, AllSuit}
use Rattle.mv_recorded.proofs.Congruent.{congruent}
use Rattle.mv_recorded.proofs.Effects.{effect_known}
use Rattle.mv_recorded.proofs.Following.{firsts}
use Rattle.mv_recorded.proofs.Fronts.{fronts_are}
use Rattle.mv_recorded.proofs.Inverting.{each_both, each_map}
use Rattle.mv_recorded.proofs.Wellness.{procedure_suits}
use Rattle.mv_record.specs.Databases.{IsDatabaseOf}
use Rattle.mv_record.specs.Effects.{effect_in, record_of}
use Rattle.mv_history.specs.declared.change.Change.{Change}
use Rattle.mv_history.specs.Changes.{Covers}
use Rattle.mv_history.specs.Hits.{hits, hits_predicate, is_unhit}
use Rattle.mv_soundness.specs.Laws.{AreRuns}
use Rattle.mv_soundness.proofs.Seeing.{hits_by, merged_itself}
use Rattle.mv_soundness.proofs.Finding.{Places, seen_alike}
use Rattle.mv_soundness.proofs.Lasting.{Lasting, places_preds, none_of, swap}

-- the calls' ground
pub record Pair : Type 0 where
  pub tables : List TableInfo
  pub params : ℕ
  pub base : ℕ
  pub db : Tables
  pub new : Tables
  pub changes : List Change

pub record IsPair (g : Pair) : Type 0 where
  pub covers : Covers g.changes g.db g.new
  pub old : IsDatabaseOf g.tables g.db
  pub new : IsDatabaseOf g.tables g.new

-- two states behind the same records
pub record Twin (g : Pair) (before : List Record) (st nst : State) : Type 0 where
  pub env : st.env ≡ nst.env
  pub old : st.tables ≡ applied (writes_in before) g.db
  pub new : nst.tables ≡ applied (writes_in before) g.new

-- records of the old run that no change hits, and those of the new run beside them; each front of both leads to a database
pub record Sound (g : Pair) (before rs ns : List Record) : Type 0 where
  pub unhit : is_unhit g.changes before rs ≡ true
  pub lasts : Lasting g.tables g.db before rs
  pub nlasts : Lasting g.tables g.new before ns

abbrev Ends : Pair → List Record → List Record → Result State End → Result State End → Type 0
Ends g before rs (Ok a) (Ok b) = Twin g (before ++ rs) a b
Ends g before rs (Err e) (Err f) = ⊤
Ends g before rs (Ok a) (Err f) = ⊥
Ends g before rs (Err e) (Ok b) = ⊥

abbrev Steps : Pair → Flat → Recorder → Does → Type 0
Steps g F tells body =
    (rows : List ℕ) (n : ℕ) (site : Site) (before : List Record) (st nst : State) → Each (IsStatedWell g.tables g.params g.base) (F rows) → Twin g before st nst → Sound g before (tells n site before st) (tells n site before nst)
    → (tells n site before nst ≡ tells n site before st) × Ends g before (tells n site before st) (body st) (body nst)

unhit_parts : (cs : List Change) (before rs ss : List Record) → is_unhit cs before (rs ++ ss) ≡ true → (is_unhit cs before rs ≡ true) × (is_unhit cs (before ++ rs) ss ≡ true)
unhit_parts cs before [] ss h = (refl, subst (λ b. is_unhit cs b ss ≡ true) (sym (append-nil before)) h)
unhit_parts cs before (r ∷ rs) ss h =
    let a = and_parts (not (list_any (hits before r) cs)) (is_unhit cs (before ++ r ∷ []) (rs ++ ss)) h in
    let b = unhit_parts cs (before ++ r ∷ []) rs ss a.1 in
    (ap (λ t. t && is_unhit cs (before ++ r ∷ []) rs) a.0 ∙ b.0, subst (λ l. is_unhit cs l ss ≡ true) (append_assoc before (r ∷ []) rs) b.1)

sound_first : (g : Pair) (before rs ss ns ms : List Record) → Sound g before (rs ++ ss) (ns ++ ms) → Sound g before rs ns
sound_first g before rs ss ns ms h = record {
  unhit = (unhit_parts g.changes before rs ss h.unhit).0;
  lasts = λ front rest is. h.lasts front (rest ++ ss) (ap (λ l. l ++ ss) is ∙ append_assoc front rest ss);
  nlasts = λ front rest is. h.nlasts front (rest ++ ms) (ap (λ l. l ++ ms) is ∙ append_assoc front rest ms);
}

sound_rest : (g : Pair) (before rs ss ns ms : List Record) → ns ≡ rs → Sound g before (rs ++ ss) (ns ++ ms) → Sound g (before ++ rs) ss ms
sound_rest g before rs ss ns ms same h = record {
  unhit = (unhit_parts g.changes before rs ss h.unhit).1;
  lasts = λ front rest is. at g.db front (h.lasts (rs ++ front) rest (ap (λ l. rs ++ l) is ∙ sym (append_assoc rs front rest)));
  nlasts = λ front rest is. at g.new front (h.nlasts (rs ++ front) rest (ap (λ l. ns ++ l) is ∙ (ap (λ l. l ++ (front ++ rest)) same ∙ sym (append_assoc rs front rest))));
}
  where
    at : (db : Tables) (front : List Record) → IsDatabaseOf g.tables (applied (writes_in (before ++ (rs ++ front))) db) → IsDatabaseOf g.tables (applied (writes_in ((before ++ rs) ++ front)) db)
    at db front = subst (λ l. IsDatabaseOf g.tables (applied (writes_in l) db)) (sym (append_assoc before rs front))

ends_join : (g : Pair) (before rs ss : List Record) (a b : Result State End) → Ends g (before ++ rs) ss a b → Ends g before (rs ++ ss) a b
ends_join g before rs ss (Ok a) (Ok b) h = subst (λ l. Twin g l a b) (append_assoc before rs ss) h
ends_join g before rs ss (Err e) (Err f) h = tt
ends_join g before rs ss (Ok a) (Err f) h = h
ends_join g before rs ss (Err e) (Ok b) h = h

then_locked : (g : Pair) (before these others : List Record) (out other : Result State End) (go : List Record → State → List Record) (next : Does) → others ≡ these → Ends g before these out other
    → Sound g before (these ++ on out (go these)) (others ++ on other (go others))
    → ((a b : State) → Twin g (before ++ these) a b → Sound g (before ++ these) (go these a) (go these b) → (go these b ≡ go these a) × Ends g (before ++ these) (go these a) (next a) (next b))
    → (others ++ on other (go others) ≡ these ++ on out (go these)) × Ends g before (these ++ on out (go these)) (then_do out next) (then_do other next)
then_locked g before these others (Ok a) (Ok b) go next same e h k =
    let r = k a b e (subst (λ t. Sound g (before ++ these) (go these a) (go t b)) same (sound_rest g before these (go these a) others (go others b) same h)) in
    (subst (λ t. t ++ go t b ≡ these ++ go these a) (sym same) (ap (λ l. these ++ l) r.0), ends_join g before these (go these a) (next a) (next b) r.1)
then_locked g before these others (Err e) (Err f) go next same e' h k = (ap (λ t. t ++ []) same, tt)
then_locked g before these others (Ok a) (Err f) go next same e h k = absurd e
then_locked g before these others (Err e) (Ok b) go next same e' h k = absurd e'

-- A statement's own record

agree_itself : (e f : Env) (xs : List ℕ) → e ≡ f → Agree e f xs
agree_itself e f [] h = tt
agree_itself e f (x ∷ xs) h = (ap (λ v. held_at v x) h, agree_itself e f xs h)

over_itself : (y : Bare) (e f : Env) → e ≡ f → OverAgrees y e f
over_itself (ForRows x y body) e f h = ap (λ v. held_at v y) h
over_itself (Assign x e') e f h = tt
over_itself (Select cs xs t conds sorts offset) e f h = tt
over_itself (Total agg x t conds) e f h = tt
over_itself (ForSelect x once cs t conds sorts body) e f h = tt
over_itself (Branch e' ys ns) e f h = tt
over_itself (Insert t es) e f h = tt
over_itself (Update t items conds) e f h = tt
over_itself (Delete t conds) e f h = tt
over_itself (Print es) e f h = tt
over_itself (Rollback reason) e f h = tt

seen_itself : (g : Pair) (ws : List Write) (st nst : State) (ps : List Pred) → IsPair g → st.tables ≡ applied ws g.db → nst.tables ≡ applied ws g.new → IsDatabaseOf g.tables st.tables → IsDatabaseOf g.tables nst.tables → Each (Places g.tables) ps
    → Each (λ p. Each (λ c. hits_by ws c p ≡ false) g.changes) ps → Each (λ p. SeenAlike p st.tables nst.tables) ps
seen_itself g ws st nst [] pair a b f k places h = tt
seen_itself g ws st nst (p ∷ ps) pair a b f k places h = (
  subst (λ t. SeenAlike p t nst.tables) (sym a) (subst (λ t. SeenAlike p (applied ws g.db) t) (sym b)
      (seen_alike g.tables p g.db g.new ws ws g.changes places.0 pair.old pair.new (subst (IsDatabaseOf g.tables) a f) (subst (IsDatabaseOf g.tables) b k) pair.covers (merged_itself p ws) h.0)),
  seen_itself g ws st nst ps pair a b f k places.1 h.1,
)

own_locked : (g : Pair) (z : Bare) (n : ℕ) (site : Site) (rows : List ℕ) (before : List Record) (st nst : State) → IsPair g → IsStatedWell g.tables g.params g.base (record { it = z; rows = rows }) → Twin g before st nst
    → Sound g before (own_record g.tables g.params z n site before st ∷ []) (own_record g.tables g.params z n site before nst ∷ [])
    → (own_record g.tables g.params z n site before nst ≡ own_record g.tables g.params z n site before st)
    × Ends g before (own_record g.tables g.params z n site before st ∷ []) (itself g.tables z st) (itself g.tables z nst)
own_locked g z n site rows before st nst pair suits twin h =
    (same, by (itself g.tables z st) (itself g.tables z nst) (effect_known g.tables g.params z n site before st suits.columns old.rising) (effect_known g.tables g.params z n site before nst suits.columns new.rising))
  where
    base : (db : Tables) → IsDatabaseOf g.tables (applied (writes_in (before ++ [])) db) → IsDatabaseOf g.tables (applied (writes_in before) db)
    base db = subst (λ l. IsDatabaseOf g.tables (applied (writes_in l) db)) (append-nil before)

    old : IsDatabaseOf g.tables st.tables
    old = subst (IsDatabaseOf g.tables) (sym twin.old) (base g.db (h.lasts [] (own_record g.tables g.params z n site before st ∷ []) refl))

    new : IsDatabaseOf g.tables nst.tables
    new = subst (IsDatabaseOf g.tables) (sym twin.new) (base g.new (h.nlasts [] (own_record g.tables g.params z n site before nst ∷ []) refl))

    own : Record
    own = own_record g.tables g.params z n site before st

    other : Record
    other = own_record g.tables g.params z n site before nst

    free : Each (λ p. Each (λ c. hits_by (writes_in before) c p ≡ false) g.changes) own.preds
    free =
        let none = not-true (list_any (hits before own) g.changes) (and_parts (not (list_any (hits before own) g.changes)) true h.unhit).0 in
        swap (λ c p. hits_by (writes_in before) c p ≡ false) g.changes own.preds (each_map (λ c. hits before own c ≡ false) (λ c. Each (λ p. hits_by (writes_in before) c p ≡ false) own.preds) g.changes
        (λ c e. none_of (hits_predicate before c) own.preds e) (none_of (hits before own) g.changes none))

    effect : effect_in own ≡ effect_in other
    effect = congruent g.tables z st nst suits.columns suits.items (record {
      reads = agree_itself st.env nst.env read_here twin.env;
      found = ap (λ (e : Env). e.found) twin.env;
      over = over_itself z st.env nst.env twin.env;
      seen = seen_itself g (writes_in before) st nst (preds_of g.tables z st) pair twin.old twin.new old new (places_preds g.tables z st) free;
      databases = (old, new);
    })
      where
        read_here : List ℕ
        read_here = flat_map variables (expressions z)

    same : other ≡ own
    same = ap (record_of own.spot own.parent own.reads) (sym effect)

    tables_are : (next s : State) (r : Record) (db : Tables) → next ≡ behind r s → s.tables ≡ applied (writes_in before) db → r.writes ≡ own.writes → next.tables ≡ applied (writes_in (before ++ own ∷ [])) db
    tables_are next s r db t at w =
        ap (λ (x : State). x.tables) t ∙ (ap (applied r.writes) at ∙ (ap (λ ws. applied ws (applied (writes_in before) db)) w ∙ (sym (applied_append (writes_in before) own.writes db)
        ∙ ap (λ ws. applied ws db) (ap (λ l. writes_in before ++ l) (sym (append-nil own.writes)) ∙ sym (flat_map-append (λ (r : Record). r.writes) before (own ∷ []))))))

    by : (a b : Result State End) → TellsEffect own st a → TellsEffect other nst b → Ends g before (own ∷ []) a b
    by (Ok a) (Ok b) t u = record {
      env = ap (λ (s : State). s.env) t.1 ∙ (ap (λ e. with_slots own.sets e) twin.env ∙ (ap (λ (r : Record). with_slots r.sets nst.env) (sym same) ∙ sym (ap (λ (s : State). s.env) u.1)));
      old = tables_are a st own g.db t.1 twin.old refl;
      new = tables_are b nst other g.new u.1 twin.new (ap (λ (r : Record). r.writes) same);
    }
    by (Err e) (Err f) t u = tt
    by (Ok a) (Err f) t u = let clash : None ≡ Some f = sym t.0 ∙ (sym (ap (λ (r : Record). r.end) same) ∙ u.end) in cc
    by (Err e) (Ok b) t u = let clash : None ≡ Some e = sym u.0 ∙ (ap (λ (r : Record). r.end) same ∙ t.end) in cc

-- What a statement holds

turn_twin : (g : Pair) (before : List Record) (st nst : State) (x : ℕ) (row : List Value) → Twin g before st nst → Twin g before (record st { env = with_held st.env x (Turn row) }) (record nst { env = with_held nst.env x (Turn row) })
turn_twin g before st nst x row t = record { env = ap (λ e. with_held e x (Turn row)) t.env; old = t.old; new = t.new }

turns_locked : (g : Pair) (x : ℕ) (F : Flat) (body : Does) (tells : Recorder) → Steps g F tells body → (all : List (List Value)) (k n : ℕ) (site : Site) (os : List ℕ) (before : List Record) (st nst : State) → Each (IsStatedWell g.tables g.params g.base) (F os)
    → Twin g before st nst → Sound g before (tell_turns x body tells all k n site before st) (tell_turns x body tells all k n site before nst)
    → (tell_turns x body tells all k n site before nst ≡ tell_turns x body tells all k n site before st) × Ends g before (tell_turns x body tells all k n site before st) (each_turn x body all st) (each_turn x body all nst)
turns_locked g x F body tells h [] k n site os before st nst suits twin u = (refl, subst (λ b. Twin g b st nst) (sym (append-nil before)) twin)
turns_locked g x F body tells h (row ∷ all) k n site os before st nst suits twin u =
    let next : State = record st { env = with_held st.env x (Turn row) } in
    let other : State = record nst { env = with_held nst.env x (Turn row) } in
    let these : List Record = tells n (in_turn k site) before next in
    let others : List Record = tells n (in_turn k site) before other in
    let first = h os n (in_turn k site) before next other suits (turn_twin g before st nst x row twin)
    (sound_first g before these (on (body next) (tell_turns x body tells all (k + 1) n site (before ++ these))) others (on (body other) (tell_turns x body tells all (k + 1) n site (before ++ others))) u) in
    then_locked g before these others (body next) (body other) (λ t. tell_turns x body tells all (k + 1) n site (before ++ t)) (each_turn x body all) first.0 first.1 u
    (λ a b t v. turns_locked g x F body tells h all (k + 1) n site os (before ++ these) a b suits t v)

-- behind a statement's own record
own_then : (g : Pair) (before : List Record) (own other : Record) (rs os : List Record) (a b : Result State End) → other ≡ own → (os ≡ rs) × Ends g (before ++ own ∷ []) rs a b → (other ∷ os ≡ own ∷ rs) × Ends g before (own ∷ rs) a b
own_then g before own other rs os a b same h = (ap (λ o. o ∷ os) same ∙ ap (λ l. own ∷ l) h.0, ends_join g before (own ∷ []) rs a b h.1)

loop_locked : (g : Pair) (x : ℕ) (F : Flat) (body : Does) (tells : Recorder) → Steps g F tells body → (r : Result (List (List Value)) End) (own other : Record) (n : ℕ) (site : Site) (os : List ℕ) (before : List Record) (st nst : State)
    → Each (IsStatedWell g.tables g.params g.base) (F os) → other ≡ own → Ends g before (own ∷ []) (before_turns r st) (before_turns r nst)
    → Sound g before (own ∷ on r (λ all. tell_loop x body tells all n site (before ++ own ∷ []) st)) (other ∷ on r (λ all. tell_loop x body tells all n site (before ++ other ∷ []) nst))
    → (other ∷ on r (λ all. tell_loop x body tells all n site (before ++ other ∷ []) nst) ≡ own ∷ on r (λ all. tell_loop x body tells all n site (before ++ own ∷ []) st))
    × Ends g before (own ∷ on r (λ all. tell_loop x body tells all n site (before ++ own ∷ []) st)) (then_do r (λ all. loop_over x body all st)) (then_do r (λ all. loop_over x body all nst))
loop_locked g x F body tells h (Err e) own other n site os before st nst suits same k u = (ap (λ o. o ∷ []) same, tt)
loop_locked g x F body tells h (Ok all) own other n site os before st nst suits same k u =
    let mid : State = record st { env = with_found st.env (is_turn all) } in
    let nmid : State = record nst { env = with_found nst.env (is_turn all) } in
    let rest : Sound g (before ++ own ∷ []) (tell_turns x body tells all 1 n site (before ++ own ∷ []) mid) (tell_turns x body tells all 1 n site (before ++ own ∷ []) nmid) =
    subst (λ o. Sound g (before ++ own ∷ []) (tell_turns x body tells all 1 n site (before ++ own ∷ []) mid) (tell_turns x body tells all 1 n site (before ++ o ∷ []) nmid)) same
    (sound_rest g before (own ∷ []) (tell_turns x body tells all 1 n site (before ++ own ∷ []) mid) (other ∷ []) (tell_turns x body tells all 1 n site (before ++ other ∷ []) nmid) (ap (λ o. o ∷ []) same) u) in
    subst (λ o. (o ∷ tell_loop x body tells all n site (before ++ o ∷ []) nst ≡ own ∷ tell_loop x body tells all n site (before ++ own ∷ []) st)
    × Ends g before (own ∷ tell_loop x body tells all n site (before ++ own ∷ []) st) (loop_over x body all st) (loop_over x body all nst)) (sym same)
    (own_then g before own own (tell_turns x body tells all 1 n site (before ++ own ∷ []) mid) (tell_turns x body tells all 1 n site (before ++ own ∷ []) nmid) (each_turn x body all mid) (each_turn x body all nmid) refl
    (turns_locked g x F body tells h all 1 n site os (before ++ own ∷ []) mid nmid suits k rest))

-- the rows of a loop are the same where its records are
rows_of_same : (r q : Result (List (List Value)) End) (st nst : State) → on r (λ l. l) ≡ on q (λ l. l) → result_err (before_turns r st) ≡ result_err (before_turns q nst) → r ≡ q
rows_of_same (Ok a) (Ok b) st nst h k = ap Ok h
rows_of_same (Err e) (Err f) st nst h k = let same : e ≡ f = cc in ap Err same
rows_of_same (Ok a) (Err f) st nst h k = cc
rows_of_same (Err e) (Ok b) st nst h k = cc

then_loops : (r : Result (List Test) End) (rows : List Test → List (List Value)) (d : List (List Value) → Result State End) → then_do (then_do r (λ a. Ok (rows a))) d ≡ then_do r (λ a. d (rows a))
then_loops (Ok a) rows d = refl
then_loops (Err e) rows d = refl

either_locked : (g : Pair) (t : Bool) (before rs ss os ps : List Record) (a b c d : Result State End) → Sound g before (if t then rs else ss) (if t then os else ps)
    → (Sound g before rs os → (os ≡ rs) × Ends g before rs a b) → (Sound g before ss ps → (ps ≡ ss) × Ends g before ss c d)
    → ((if t then os else ps) ≡ (if t then rs else ss)) × Ends g before (if t then rs else ss) (if t then a else c) (if t then b else d)
either_locked g true before rs ss os ps a b c d u h k = h u
either_locked g false before rs ss os ps a b c d u h k = k u

if_locked : (g : Pair) (test : Result Value End) (own other : Record) (before : List Record) (st nst : State) (ys ns : List Record → State → List Record) (a c : Does) → other ≡ own → Ends g before (own ∷ []) (then_do test (λ v. Ok st)) (then_do test (λ v. Ok nst))
    → Sound g before (own ∷ on test (λ v. if is_so v then ys (before ++ own ∷ []) st else ns (before ++ own ∷ []) st)) (other ∷ on test (λ v. if is_so v then ys (before ++ other ∷ []) nst else ns (before ++ other ∷ []) nst))
    → (Twin g (before ++ own ∷ []) st nst → Sound g (before ++ own ∷ []) (ys (before ++ own ∷ []) st) (ys (before ++ own ∷ []) nst) → (ys (before ++ own ∷ []) nst ≡ ys (before ++ own ∷ []) st) × Ends g (before ++ own ∷ []) (ys (before ++ own ∷ []) st) (a st) (a nst))
    → (Twin g (before ++ own ∷ []) st nst → Sound g (before ++ own ∷ []) (ns (before ++ own ∷ []) st) (ns (before ++ own ∷ []) nst) → (ns (before ++ own ∷ []) nst ≡ ns (before ++ own ∷ []) st) × Ends g (before ++ own ∷ []) (ns (before ++ own ∷ []) st) (c st) (c nst))
    → (other ∷ on test (λ v. if is_so v then ys (before ++ other ∷ []) nst else ns (before ++ other ∷ []) nst) ≡ own ∷ on test (λ v. if is_so v then ys (before ++ own ∷ []) st else ns (before ++ own ∷ []) st))
    × Ends g before (own ∷ on test (λ v. if is_so v then ys (before ++ own ∷ []) st else ns (before ++ own ∷ []) st)) (then_do test (λ v. if is_so v then a st else c st)) (then_do test (λ v. if is_so v then a nst else c nst))
if_locked g (Err e) own other before st nst ys ns a c same k u h i = (ap (λ o. o ∷ []) same, tt)
if_locked g (Ok v) own other before st nst ys ns a c same k u h i =
    let behind' : List Record = before ++ own ∷ [] in
    subst (λ o. (o ∷ (if is_so v then ys (before ++ o ∷ []) nst else ns (before ++ o ∷ []) nst) ≡ own ∷ (if is_so v then ys behind' st else ns behind' st))
    × Ends g before (own ∷ (if is_so v then ys behind' st else ns behind' st)) (if is_so v then a st else c st) (if is_so v then a nst else c nst)) (sym same)
    (own_then g before own own (if is_so v then ys behind' st else ns behind' st) (if is_so v then ys behind' nst else ns behind' nst) (if is_so v then a st else c st) (if is_so v then a nst else c nst) refl
    (either_locked g (is_so v) behind' (ys behind' st) (ns behind' st) (ys behind' nst) (ns behind' nst) (a st) (a nst) (c st) (c nst)
    (subst (λ o. Sound g behind' (if is_so v then ys behind' st else ns behind' st) (if is_so v then ys (before ++ o ∷ []) nst else ns (before ++ o ∷ []) nst)) same
    (sound_rest g before (own ∷ []) (if is_so v then ys behind' st else ns behind' st) (other ∷ []) (if is_so v then ys (before ++ other ∷ []) nst else ns (before ++ other ∷ []) nst) (ap (λ o. o ∷ []) same) u)) (h k) (i k)))

-- Statements

abbrev Known : Pair → Type 0
Known g = (s : RStmt) × Steps g (flat s) (tell g.tables g.params s) (does g.tables s)

abbrev plain : (g : Pair) → List (Known g) → List RStmt
plain g known = map (λ k. k.0) known

all_locked : (g : Pair) (known : List (Known g)) → Steps g (flat_all (plain g known)) (tell_statements g.tables g.params (plain g known)) (alone g.tables (plain g known))
all_locked g [] rows n site before st nst suits twin u = (refl, subst (λ b. Twin g b st nst) (sym (append-nil before)) twin)
all_locked g (k ∷ ks) rows n site before st nst suits twin u =
    let these : List Record = tell g.tables g.params k.0 n site before st in
    let split = each_both (IsStatedWell g.tables g.params g.base) (flat k.0 rows) (flat_all (plain g ks) rows) suits in
    let others : List Record = tell g.tables g.params k.0 n site before nst in
    let rest : List Record → State → List Record = λ t. tell_statements g.tables g.params (plain g ks) (n + size k.0) site (before ++ t) in
    let first = k.1 rows n site before st nst split.0 twin (sound_first g before these (on (does g.tables k.0 st) (rest these)) others (on (does g.tables k.0 nst) (rest others)) u) in
    then_locked g before these others (does g.tables k.0 st) (does g.tables k.0 nst) rest (alone g.tables (plain g ks)) first.0 first.1 u
    (λ a b t v. all_locked g ks rows (n + size k.0) site (before ++ these) a b split.1 t v)

abbrev unknown : (g : Pair) → RStmt-F (Known g) → RStmt-F RStmt
unknown g y = map-RStmt (Known g) RStmt (λ k. k.0) y

abbrev telling : (g : Pair) → RStmt-F (Known g) → RStmt-F (RStmt × Recorder)
telling g y = map-RStmt RStmt (RStmt × Recorder) (λ s. (s, tell g.tables g.params s)) (unknown g y)

again : (g : Pair) (ss : List RStmt) → alone g.tables (map (λ (s : RStmt × Recorder). s.0) (map (λ s. (s, tell g.tables g.params s)) ss)) ≡ alone g.tables ss
again g ss = ap (alone g.tables) (firsts (tell g.tables g.params) ss)

leaf_locked : (g : Pair) (own other : Record) (before : List Record) (a b : Result State End) → (other ≡ own) × Ends g before (own ∷ []) a b → (other ∷ [] ≡ own ∷ []) × Ends g before (own ∷ []) a b
leaf_locked g own other before a b h = (ap (λ o. o ∷ []) h.0, h.1)

step_locked : (g : Pair) → IsPair g → (y : RStmt-F (Known g))
    → Steps g (flat_step (map-RStmt RStmt Flat flat (unknown g y))) (tell_step g.tables g.params (telling g y)) (stmt_step g.tables (map-RStmt RStmt Does (does g.tables) (unknown g y)))
step_locked g pair (Assign x e) rows n site before st nst suits twin u =
    leaf_locked g _ _ before _ _ (own_locked g (Assign x e) n site rows before st nst pair suits.0 twin u)
step_locked g pair (Select cs xs t conds sorts offset) rows n site before st nst suits twin u =
    leaf_locked g _ _ before _ _ (own_locked g (Select cs xs t conds sorts offset) n site rows before st nst pair suits.0 twin u)
step_locked g pair (Total agg x t conds) rows n site before st nst suits twin u =
    leaf_locked g _ _ before _ _ (own_locked g (Total agg x t conds) n site rows before st nst pair suits.0 twin u)
step_locked g pair (ForSelect x once cs t conds sorts body) rows n site before st nst suits twin u =
    let y : RStmt-F (RStmt × Recorder) = telling g (ForSelect x once cs t conds sorts body) in
    let z : Bare = bare (map-RStmt RStmt Flat flat (unknown g (ForSelect x once cs t conds sorts body))) in
    let ss : List RStmt = plain g body in
    let own : Record = own_record g.tables g.params y n site before st in
    let other : Record = own_record g.tables g.params y n site before nst in
    let fix : State → Result (List (List Value)) End = λ s. then_do (tests_of (key_columns g.tables t) conds s.env) (λ tests. Ok (fixed once cs sorts (matching_in t tests s))) in
    let inner : Does → Record → State → List Record = λ b o s. on (fix s) (λ all. tell_loop x b (tell_statements g.tables g.params ss) all (n + 1) (within_loop x (length before) site) (before ++ o ∷ []) s) in
    let out : State → Result State End = λ s. then_do (tests_of (key_columns g.tables t) conds s.env) (λ tests. loop_over x (alone g.tables ss) (fixed once cs sorts (matching_in t tests s)) s) in
    subst (λ b. Sound g before (own ∷ inner b own st) (other ∷ inner b other nst) → (other ∷ inner b other nst ≡ own ∷ inner b own st) × Ends g before (own ∷ inner b own st) (out st) (out nst)) (sym (again g ss))
    (λ v. let first = own_locked g z n site rows before st nst pair suits.0 twin (sound_first g before (own ∷ []) (inner (alone g.tables ss) own st) (other ∷ []) (inner (alone g.tables ss) other nst) v) in
    let same : fix st ≡ fix nst = rows_of_same (fix st) (fix nst) st nst (sym (ap (λ (r : Record). r.rows) first.0)) (sym (ap (λ (r : Record). r.end) first.0)) in
    subst (λ o. (other ∷ inner (alone g.tables ss) other nst ≡ own ∷ inner (alone g.tables ss) own st) × Ends g before (own ∷ inner (alone g.tables ss) own st) o (out nst)) (then_loops (tests_of (key_columns g.tables t) conds st.env) (λ tests. fixed once cs sorts (matching_in t tests st)) (λ all. loop_over x (alone g.tables ss) all st))
    (subst (λ o. (other ∷ inner (alone g.tables ss) other nst ≡ own ∷ inner (alone g.tables ss) own st) × Ends g before (own ∷ inner (alone g.tables ss) own st) (then_do (fix st) (λ all. loop_over x (alone g.tables ss) all st)) o)
    (then_loops (tests_of (key_columns g.tables t) conds nst.env) (λ tests. fixed once cs sorts (matching_in t tests nst)) (λ all. loop_over x (alone g.tables ss) all nst))
    (subst (λ r. (other ∷ on r (λ all. tell_loop x (alone g.tables ss) (tell_statements g.tables g.params ss) all (n + 1) (within_loop x (length before) site) (before ++ other ∷ []) nst) ≡ own ∷ inner (alone g.tables ss) own st)
    × Ends g before (own ∷ inner (alone g.tables ss) own st) (then_do (fix st) (λ all. loop_over x (alone g.tables ss) all st)) (then_do r (λ all. loop_over x (alone g.tables ss) all nst))) same
    (loop_locked g x (flat_all ss) (alone g.tables ss) (tell_statements g.tables g.params ss) (all_locked g body) (fix st) own other (n + 1) (within_loop x (length before) site) (x ∷ rows) before st nst suits.1 first.0
    (subst (λ r. Ends g before (own ∷ []) (before_turns (fix st) st) (before_turns r nst)) (sym same) first.1)
    (subst (λ r. Sound g before (own ∷ inner (alone g.tables ss) own st) (other ∷ on r (λ all. tell_loop x (alone g.tables ss) (tell_statements g.tables g.params ss) all (n + 1) (within_loop x (length before) site) (before ++ other ∷ []) nst))) (sym same) v))))) u
step_locked g pair (ForRows x y body) rows n site before st nst suits twin u =
    let w : RStmt-F (RStmt × Recorder) = telling g (ForRows x y body) in
    let z : Bare = bare (map-RStmt RStmt Flat flat (unknown g (ForRows x y body))) in
    let ss : List RStmt = plain g body in
    let own : Record = own_record g.tables g.params w n site before st in
    let other : Record = own_record g.tables g.params w n site before nst in
    let inner : Does → Record → State → List Record = λ b o s. tell_loop x b (tell_statements g.tables g.params ss) (turns_at s.env y) (n + 1) (within_loop x (length before) site) (before ++ o ∷ []) s in
    let out : State → Result State End = λ s. loop_over x (alone g.tables ss) (turns_at s.env y) s in
    subst (λ b. Sound g before (own ∷ inner b own st) (other ∷ inner b other nst) → (other ∷ inner b other nst ≡ own ∷ inner b own st) × Ends g before (own ∷ inner b own st) (out st) (out nst)) (sym (again g ss))
    (λ v. let first = own_locked g z n site rows before st nst pair suits.0 twin (sound_first g before (own ∷ []) (inner (alone g.tables ss) own st) (other ∷ []) (inner (alone g.tables ss) other nst) v) in
    let same : turns_at st.env y ≡ turns_at nst.env y = ap (λ e. turns_at e y) twin.env in
    subst (λ l. (other ∷ tell_loop x (alone g.tables ss) (tell_statements g.tables g.params ss) l (n + 1) (within_loop x (length before) site) (before ++ other ∷ []) nst ≡ own ∷ inner (alone g.tables ss) own st)
    × Ends g before (own ∷ inner (alone g.tables ss) own st) (out st) (loop_over x (alone g.tables ss) l nst)) same
    (loop_locked g x (flat_all ss) (alone g.tables ss) (tell_statements g.tables g.params ss) (all_locked g body) (Ok (turns_at st.env y)) own other (n + 1) (within_loop x (length before) site) (x ∷ rows) before st nst suits.1 first.0
    (subst (λ l. Ends g before (own ∷ []) (before_turns (Ok (turns_at st.env y)) st) (before_turns (Ok l) nst)) (sym same) first.1)
    (subst (λ l. Sound g before (own ∷ inner (alone g.tables ss) own st) (other ∷ tell_loop x (alone g.tables ss) (tell_statements g.tables g.params ss) l (n + 1) (within_loop x (length before) site) (before ++ other ∷ []) nst)) (sym same) v))) u
step_locked g pair (Branch e ys ns) rows n site before st nst suits twin u =
    let y : RStmt-F (RStmt × Recorder) = telling g (Branch e ys ns) in
    let z : Bare = bare (map-RStmt RStmt Flat flat (unknown g (Branch e ys ns))) in
    let own : Record = own_record g.tables g.params y n site before st in
    let other : Record = own_record g.tables g.params y n site before nst in
    let m : ℕ = total_size (map (λ (s : RStmt × Recorder). size s.0) (map (λ s. (s, tell g.tables g.params s)) (plain g ys))) in
    let yes : List Record → State → List Record = tell_statements g.tables g.params (plain g ys) (n + 1) (within (length before) site) in
    let not' : List Record → State → List Record = tell_statements g.tables g.params (plain g ns) (n + 1 + m) (within (length before) site) in
    let split = each_both (IsStatedWell g.tables g.params g.base) (flat_all (plain g ys) rows) (flat_all (plain g ns) rows) suits.1 in
    let same : value_of e st.env [] ≡ value_of e nst.env [] = ap (λ v. value_of e v []) twin.env in
    let either : Record → State → Value → List Record = λ o s v. if is_so v then yes (before ++ o ∷ []) s else not' (before ++ o ∷ []) s in
    let first = own_locked g z n site rows before st nst pair suits.0 twin (sound_first g before (own ∷ []) (on (value_of e st.env []) (either own st)) (other ∷ []) (on (value_of e nst.env []) (either other nst)) u) in
    subst (λ r. (other ∷ on r (λ v. if is_so v then yes (before ++ other ∷ []) nst else not' (before ++ other ∷ []) nst) ≡ own ∷ on (value_of e st.env []) (λ v. if is_so v then yes (before ++ own ∷ []) st else not' (before ++ own ∷ []) st))
    × Ends g before (own ∷ on (value_of e st.env []) (λ v. if is_so v then yes (before ++ own ∷ []) st else not' (before ++ own ∷ []) st)) (then_do (value_of e st.env []) (λ v. if is_so v then alone g.tables (plain g ys) st else alone g.tables (plain g ns) st))
    (then_do r (λ v. if is_so v then alone g.tables (plain g ys) nst else alone g.tables (plain g ns) nst))) same
    (if_locked g (value_of e st.env []) own other before st nst yes not' (alone g.tables (plain g ys)) (alone g.tables (plain g ns)) first.0
    (subst (λ r. Ends g before (own ∷ []) (then_do (value_of e st.env []) (λ v. Ok st)) (then_do r (λ v. Ok nst))) (sym same) first.1)
    (subst (λ r. Sound g before (own ∷ on (value_of e st.env []) (either own st)) (other ∷ on r (either other nst))) (sym same) u)
    (λ t v. all_locked g ys rows (n + 1) (within (length before) site) (before ++ own ∷ []) st nst split.0 t v)
    (λ t v. all_locked g ns rows (n + 1 + m) (within (length before) site) (before ++ own ∷ []) st nst split.1 t v))
step_locked g pair (Insert t es) rows n site before st nst suits twin u =
    leaf_locked g _ _ before _ _ (own_locked g (Insert t es) n site rows before st nst pair suits.0 twin u)
step_locked g pair (Update t items conds) rows n site before st nst suits twin u =
    leaf_locked g _ _ before _ _ (own_locked g (Update t items conds) n site rows before st nst pair suits.0 twin u)
step_locked g pair (Delete t conds) rows n site before st nst suits twin u =
    leaf_locked g _ _ before _ _ (own_locked g (Delete t conds) n site rows before st nst pair suits.0 twin u)
step_locked g pair (Print es) rows n site before st nst suits twin u =
    leaf_locked g _ _ before _ _ (own_locked g (Print es) n site rows before st nst pair suits.0 twin u)
step_locked g pair (Rollback reason) rows n site before st nst suits twin u =
    leaf_locked g _ _ before (Err (Own reason)) (Err (Own reason)) (own_locked g (Rollback reason) n site rows before st nst pair suits.0 twin u)

pub statement_locked : (g : Pair) → IsPair g → (s : RStmt) → Steps g (flat s) (tell g.tables g.params s) (does g.tables s)
statement_locked g pair = ind-RStmt (λ s. Steps g (flat s) (tell g.tables g.params s) (does g.tables s)) (λ x y is.
    subst (λ z. Steps g (flat (roll-RStmt z)) (tell g.tables g.params (roll-RStmt z)) (does g.tables (roll-RStmt z))) is
    (let z : RStmt-F RStmt = unknown g y in
    subst (λ F. Steps g F (tell g.tables g.params (roll-RStmt z)) (does g.tables (roll-RStmt z))) (sym (fold-roll-RStmt Flat flat_step z))
    (subst (λ t. Steps g (flat_step (map-RStmt RStmt Flat flat z)) t (does g.tables (roll-RStmt z))) (sym (para-roll-RStmt Recorder (tell_step g.tables g.params) z))
    (subst (λ d. Steps g (flat_step (map-RStmt RStmt Flat flat z)) (tell_step g.tables g.params (telling g y)) d) (sym (fold-roll-RStmt Does (stmt_step g.tables) z))
    (step_locked g pair y)))))

known_firsts : (g : Pair) (pair : IsPair g) (ss : List RStmt) → map (λ (k : Known g). k.0) (map (λ s. (s, statement_locked g pair s)) ss) ≡ ss
known_firsts g pair [] = refl
known_firsts g pair (s ∷ ss) = ap (λ l. s ∷ l) (known_firsts g pair ss)

told_locked : (g : Pair) → IsPair g → (ss : List RStmt) → Steps g (flat_all ss) (tell_statements g.tables g.params ss) (alone g.tables ss)
told_locked g pair ss = subst (λ ts. Steps g (flat_all ts) (tell_statements g.tables g.params ts) (alone g.tables ts)) (known_firsts g pair ss) (all_locked g (map (λ s. (s, statement_locked g pair s)) ss))

pub unhit_same : (tables : List TableInfo) (proc : ProcInfo) (call : Call) (db new : Tables) (changes : List Change) → AreRuns tables proc call db new changes
    → is_unhit changes [] (recorded tables proc call db) ≡ true → recorded tables proc call new ≡ recorded tables proc call db
unhit_same tables proc call db new changes r u =
    let g : Pair = record { tables = tables; params = length call.arguments; base = length call.arguments + length proc.defaults + 1; db = db; new = new; changes = changes } in
    let suits : AllSuit tables proc call = procedure_suits tables proc call r.procedure (AllZip-long text.Suits proc.params call.arguments r.arguments) in
    (told_locked g (record { covers = r.covers; old = r.old_is; new = r.new_is }) proc.body [] 1 outside [] (begun proc call db) (begun proc call new) suits (record { env = refl; old = refl; new = refl })
    (record { unhit = u; lasts = fronts_are tables proc call db r.procedure r.arguments r.old_is; nlasts = fronts_are tables proc call new r.procedure r.arguments r.new_is })).0

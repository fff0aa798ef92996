-- Each record of a full run is the own record of a statement of the text, in a state that the records before it lead to.
use Rattle.std.proofs.Common.{◌≡◌, inl, inr, ℕ, suc, ◌+◌, ◌-◌, ◌<◌, ◌≤◌, Bool, true, false, List, [], ◌∷◌, ◌++◌, Option, Some, None, Result, Ok, Err, map, length, slice_index_or, if◌then◌else◌, refl, sym, ap, subst, ◌∙◌, arith, length-append, append_assoc, append-nil}
use Rattle.std.specs.Prelude.{⊤, slice_get}
use Rattle.std.proofs.lemmas.Option.{slice_get_within}
use Rattle.std.proofs.lemmas.Grind.{flat_map-append}
use Rattle.mv_values.specs.declared.pred.Test.{Test}
use Rattle.mv_values.specs.declared.value.Value.{Value}
use Rattle.mv_values.specs.declared.schema.TableInfo.{TableInfo}
use Rattle.mv_values.specs.declared.calls.End.{End}
use Rattle.mv_values.specs.Keys.{IsRising}
use Rattle.mv_values.specs.Tables.{rows_at, Tables, key_columns}
use Rattle.mv_values.specs.Patching.{applied}
use Rattle.mv_catalog.specs.Statements.{size, size_step, total_size}
use Rattle.mv_catalog.specs.declared.resolved.RStmt.{RStmt, roll-RStmt, map-RStmt, ind-RStmt, para-roll-RStmt, fold-roll-RStmt}
use Rattle.mv_catalog.specs.declared.resolved.RStmt.TheOpen.{RStmt-F, Assign, Select, Total, ForSelect, ForRows, Branch, Insert, Update, Delete, Print, Rollback}
use Rattle.mv_eval.specs.declared.state.Env.{Env}
use Rattle.mv_eval.specs.declared.state.State.{State}
use Rattle.mv_eval.specs.declared.state.Content.TheVariants.{Turn}
use Rattle.mv_eval.specs.Results.{then_do}
use Rattle.mv_eval.specs.Env.{held_at, with_found, with_held, turns_at}
use Rattle.mv_eval.specs.Value.{value_of, is_so}
use Rattle.mv_eval.specs.Rows.{tests_of}
use Rattle.mv_eval.specs.Alone.{Does, alone, does, stmt_step, each_turn, loop_over, fixed, matching_in, is_turn}
use Rattle.mv_eval.specs.TableAfter.{entered}
use Rattle.mv_values.specs.declared.calls.Call.{Call}
use Rattle.mv_catalog.specs.declared.resolved.ProcInfo.{ProcInfo}
use Rattle.mv_record.specs.Runs.{writes_in}
use Rattle.mv_record.specs.declared.record.Slot.{Slot}
use Rattle.mv_record.specs.declared.record.Record.{Record}
use Rattle.mv_record.specs.Writes.{AreRising}
use Rattle.mv_record.proofs.Patching.{rising_applied, applied_append}
use Rattle.mv_recorded.specs.Asking.{on}
use Rattle.mv_recorded.specs.Doing.{itself, before_turns, sets_of}
use Rattle.mv_recorded.specs.Effect.{with_slots, TellsEffect}
use Rattle.mv_recorded.specs.Reading.{Loop}
use Rattle.mv_recorded.specs.Recorded.{Recorder, Site, tell, tell_step, tell_turns, tell_loop, own_record, in_turn, within, within_loop, tell_statements, outside, recorded}
use Rattle.mv_recorded.proofs.Effects.{effect_known}
use Rattle.mv_recorded.proofs.Following.{firsts}
use Rattle.mv_recorded.specs.Own.{Bare, bare, Stated, Flat, flat, flat_step, flat_all, Each, Within, IsStatedWell, Ground, LeadsTo, sets_in, rows_of, row_in, LoopsHold, ParentHolds, IsAtSite, HasStatements, AllOwn, AllSuit, ground_of}
use Rattle.mv_recorded.proofs.Slots.{get_same, get_other}
use Rattle.mv_recorded.proofs.Held.{slots_alike, slots_both, slots_found, slots_high, own_slots, OwnSlots, get_front, get_last}

-- what a ground must be
pub record IsGround (g : Ground) : Type 0 where
  pub found : (g.params ≤ g.first.found) × (g.first.found < g.base)
  pub rising : AreRising g.db

-- Lists

pub each_map : {A : Type 0} (P Q : A → Type 0) (xs : List A) → ((x : A) → P x → Q x) → Each P xs → Each Q xs
each_map P Q [] f h = tt
each_map P Q (x ∷ xs) f h = (f x h.0, each_map P Q xs f h.1)

-- what is so of each of the numbers is so of one within them
pub each_within : (P : ℕ → Type 0) (xs : List ℕ) → Each P xs → (x : ℕ) → Within x xs → P x
each_within P [] h x w = absurd w
each_within P (z ∷ zs) h x (inl e) = subst P (sym e) h.0
each_within P (z ∷ zs) h x (inr w) = each_within P zs h.1 x w

pub each_join : {A : Type 0} (P : A → Type 0) (xs ys : List A) → Each P xs → Each P ys → Each P (xs ++ ys)
each_join P [] ys h k = k
each_join P (x ∷ xs) ys h k = (h.0, each_join P xs ys h.1 k)

pub each_both : {A : Type 0} (P : A → Type 0) (xs ys : List A) → Each P (xs ++ ys) → Each P xs × Each P ys
each_both P [] ys h = (tt, h)
each_both P (x ∷ xs) ys h = let rest = each_both P xs ys h.1 in ((h.0, rest.0), rest.1)

-- where two lists stand, one behind the other
stands_first : (text : List Stated) (n : ℕ) (xs ys : List Stated) → HasStatements text n (xs ++ ys) → HasStatements text n xs
stands_first text n xs ys h = (h.0, ys ++ h.1, h.2 ∙ ap (λ l. h.0 ++ l) (append_assoc xs ys h.1), h.3)

stands_second : (text : List Stated) (n m : ℕ) (xs ys : List Stated) → length xs ≡ m → HasStatements text n (xs ++ ys) → HasStatements text (n + m) ys
stands_second text n m xs ys long h =
    (h.0 ++ xs, h.1, h.2 ∙ (ap (λ l. h.0 ++ l) (append_assoc xs ys h.1) ∙ sym (append_assoc h.0 xs (ys ++ h.1))), omega (arith, h.3, length-append h.0 xs, long))

-- States

-- the loops' rows stay
abbrev Keeps : List ℕ → State → State → Type 0
Keeps rows st next = (x : ℕ) → Within x rows → held_at next.env x ≡ held_at st.env x

abbrev Exits : Ground → List Record → List Record → List ℕ → State → Result State End → Type 0
Exits g before these rows st (Ok next) = LeadsTo g (before ++ these) next × Keeps rows st next
Exits g before these rows st (Err e) = ⊤

row_later : (before these : List Record) (number k : ℕ) → number < length before → row_in (before ++ these) number k ≡ row_in before number k
row_later before these number k lt = ap (λ o. slice_index_or (rows_of o) (k - 1) []) (get_front before these number lt)

loops_later : (before these : List Record) (e f : Env) (loops : List Loop) (turns : List ℕ) → ((x : ℕ) → Within x (map (λ l. l.row) loops) → held_at f x ≡ held_at e x)
    → LoopsHold before e loops turns → LoopsHold (before ++ these) f loops turns
loops_later before these e f [] turns same h = h
loops_later before these e f (l ∷ ls) turns same h =
    let lt : l.number < length before = h.3 in (
      h.0,
      h.1,
      h.2,
      omega (arith, h.3, length-append before these),
      same l.row (inl refl) ∙ (h.4 ∙ ap Turn (sym (row_later before these l.number h.1 h.3))),
      loops_later before these e f ls h.0 (λ x w. same x (inr w)) h.5,
    )

parent_later : (before these : List Record) (parent : Option ℕ) (turns : List ℕ) → ParentHolds before parent turns → ParentHolds (before ++ these) parent turns
parent_later before these None turns h = h
parent_later before these (Some p) turns h = (h.0, get_front before these p (slice_get_within before p h.0 h.1) ∙ h.1, h.2)

here_later : (g : Ground) (site : Site) (rows : List ℕ) (before these : List Record) (st next : State) → IsAtSite g site rows before st → LeadsTo g (before ++ these) next → Keeps rows st next
    → IsAtSite g site rows (before ++ these) next
here_later g site rows before these st next here told keeps = record {
  told = told;
  around = here.around;
  high = here.high;
  loops = loops_later before these st.env next.env site.loops site.turns (λ x w. keeps x (subst (Within x) here.around w)) here.loops;
  parent = parent_later before these site.parent site.turns here.parent;
}

-- Runs

abbrev Traces : Ground → Flat → Recorder → Does → Type 0
Traces g flat tells body =
    (rows : List ℕ) (n : ℕ) (site : Site) (before : List Record) (st : State) → HasStatements g.text n (flat rows) → Each (IsStatedWell g.tables g.params g.base) (flat rows) → IsAtSite g site rows before st
    → AllOwn g before (tells n site before st) × Exits g before (tells n site before st) rows st (body st)

all_join : (g : Ground) (before rs ss : List Record) → AllOwn g before rs → AllOwn g (before ++ rs) ss → AllOwn g before (rs ++ ss)
all_join g before [] ss h k = subst (λ b. AllOwn g b ss) (append-nil before) k
all_join g before (r ∷ rs) ss h k = (h.0, all_join g (before ++ r ∷ []) rs ss h.1 (subst (λ b. AllOwn g b ss) (sym (append_assoc before (r ∷ []) rs)) k))

exits_join : (g : Ground) (before rs ss : List Record) (rows : List ℕ) (st mid : State) (out : Result State End) → Exits g before rs rows st (Ok mid) → Exits g (before ++ rs) ss rows mid out
    → Exits g before (rs ++ ss) rows st out
exits_join g before rs ss rows st mid (Ok next) h k = (subst (λ b. LeadsTo g b next) (append_assoc before rs ss) k.0, λ x w. k.1 x w ∙ h.1 x w)
exits_join g before rs ss rows st mid (Err e) h k = tt

-- one run after another
abbrev Traced : Ground → List Record → List Record → List ℕ → State → Result State End → Type 0
Traced g before rs rows st out = AllOwn g before rs × Exits g before rs rows st out

then_traced : (g : Ground) (before rs : List Record) (rows : List ℕ) (st : State) (out : Result State End) (go : State → List Record) (next : Does) → Traced g before rs rows st out
    → ((mid : State) → LeadsTo g (before ++ rs) mid → Keeps rows st mid → Traced g (before ++ rs) (go mid) rows mid (next mid))
    → Traced g before (rs ++ on out go) rows st (then_do out next)
then_traced g before rs rows st (Ok mid) go next h k =
    let rest = k mid h.1.0 h.1.1 in
    (all_join g before rs (go mid) h.0 rest.0, exits_join g before rs (go mid) rows st mid (next mid) h.1 rest.1)
then_traced g before rs rows st (Err e) go next h k = (all_join g before rs [] h.0 tt, tt)

-- Turns

turns_trace : (g : Ground) (x : ℕ) (F : Flat) (body : Does) (tells : Recorder) → Traces g F tells body → (rows : List (List Value)) (passed : List (List Value)) (k : ℕ) (os : List ℕ) (n : ℕ) (site : Site) (number : ℕ)
    (before : List Record) (st : State) → HasStatements g.text n (F (x ∷ os)) → Each (IsStatedWell g.tables g.params g.base) (F (x ∷ os)) → g.base ≤ x → (Within x os → ⊥) → IsAtSite g site os before st → number < length before
    → (own : Record) → slice_get before number ≡ Some own → own.spot.turns ≡ site.turns → own.rows ≡ passed ++ rows → k ≡ length passed + 1
    → Traced g before (tell_turns x body tells rows k n (within_loop x number site) before st) os st (each_turn x body rows st)
turns_trace g x F body tells h [] passed k os n site number before st stands suits high apart here lt own found same are at = (tt, (subst (λ b. LeadsTo g b st) (sym (append-nil before)) here.told, λ y w. refl))
turns_trace g x F body tells h (row ∷ rows) passed k os n site number before st stands suits high apart here lt own found same are at =
    let next : State = record st { env = with_held st.env x (Turn row) } in
    let inner : Site = in_turn k (within_loop x number site) in
    let these : List Record = tells n inner before next in
    let others : (y : ℕ) → Within y os → held_at next.env y ≡ held_at st.env y = λ y w. get_other st.env.held x y (Turn row) (λ same. apart (subst (λ z. Within z os) (sym same) w)) in
    let there : row_in before number k ≡ row =
    ap (λ o. slice_index_or (rows_of o) (k - 1) []) found ∙ (ap (λ l. slice_index_or l (k - 1) []) are ∙ (ap (λ i. slice_index_or (passed ++ row ∷ rows) i []) (let e : k - 1 ≡ length passed = omega (arith, at) in e) ∙ seam passed)) in
    let loops : LoopsHold (before ++ []) next.env site.loops site.turns = loops_later before [] st.env next.env site.loops site.turns (λ y w. others y (subst (Within y) here.around w)) here.loops in
    let inside : IsAtSite g inner (x ∷ os) before next = record {
      told = record {
        tables = here.told.tables;
        held = λ y ly. get_other st.env.held x y (Turn row) (λ same. omega (arith, same, ly, high)) ∙ here.told.held y ly;
        found = here.told.found;
        slots = here.told.slots;
        rising = here.told.rising;
      };
      around = ap (λ l. x ∷ l) here.around;
      high = (high, here.high);
      loops = (site.turns, k, refl, lt, get_same st.env.held x (Turn row) ∙ ap Turn (sym there), subst (λ b. LoopsHold b next.env site.loops site.turns) (append-nil before) loops);
      parent = (own, found, inr (k, ap (λ l. l ++ k ∷ []) (sym same)));
    } in
    let first = h (x ∷ os) n inner before next stands suits inside in
    let outer : Traced g before these os st (body next) = (first.0, weaker these next (body next) others first.1) in
    then_traced g before these os st (body next) (tell_turns x body tells rows (k + 1) n (within_loop x number site) (before ++ these)) (each_turn x body rows) outer
    (λ mid told keeps. turns_trace g x F body tells h rows (passed ++ row ∷ []) (k + 1) os n site number (before ++ these) mid stands suits high apart (here_later g site os before these st mid here told keeps)
    (omega (arith, lt, length-append before these)) own (get_front before these number lt ∙ found) same (are ∙ sym (append_assoc passed (row ∷ []) rows)) (omega (arith, at, length-append passed (row ∷ []))))
  where
    seam : (ps : List (List Value)) → slice_index_or (ps ++ row ∷ rows) (length ps) [] ≡ row
    seam [] = refl
    seam (p ∷ ps) = seam ps

    weaker : (these : List Record) (next : State) (out : Result State End) → ((y : ℕ) → Within y os → held_at next.env y ≡ held_at st.env y) → Exits g before these (x ∷ os) next out → Exits g before these os st out
    weaker these next (Ok mid) others e = (e.0, λ y w. e.1 y (inr w) ∙ others y w)
    weaker these next (Err f) others e = tt

-- A statement's own record

own_step : {X : Type 0} (g : Ground) (z : Bare) (y : RStmt-F X) (n : ℕ) (site : Site) (rows : List ℕ) (before : List Record) (st : State) → IsGround g → IsStatedWell g.tables g.params g.base (record { it = z; rows = rows }) → IsAtSite g site rows before st
    → own_record g.tables g.params z n site before st ≡ own_record g.tables g.params y n site before st → itself g.tables z st ≡ itself g.tables y st
    → Exits g before (own_record g.tables g.params y n site before st ∷ []) rows st (itself g.tables y st)
own_step g z y n site rows before st ground suits here same does' =
    subst (λ own. Exits g before (own ∷ []) rows st (itself g.tables y st)) same
    (subst (Exits g before (own ∷ []) rows st) does' (by (itself g.tables z st) refl (effect_known g.tables g.params z n site before st suits.columns rising)))
  where
    own : Record
    own = own_record g.tables g.params z n site before st

    rising : (t : ℕ) → IsRising (rows_at st.tables t)
    rising = here.told.rising

    by : (out : Result State End) → itself g.tables z st ≡ out → TellsEffect own st out → Exits g before (own ∷ []) rows st out
    by (Err e) is tells = tt
    by (Ok next) is tells =
        let same_found : next.env.found ≡ st.env.found = ap (λ (s : State). s.env.found) tells.1 ∙ slots_found own.sets st.env in
        let at : next.env.found ≡ g.first.found = same_found ∙ here.told.found in
        let sets : own.sets ≡ sets_of z next = ap (λ o. on o (λ s. sets_of z s)) is in
        let slots : OwnSlots g.params g.base own.sets =
        subst (OwnSlots g.params g.base) (sym sets) (own_slots g.params g.base z next suits.targets (subst (λ f. (g.params ≤ f) × (f < g.base)) (sym at) ground.found)) in (
          record {
            tables = ap (λ (s : State). s.tables) tells.1 ∙ (ap (applied own.writes) here.told.tables ∙ (sym (applied_append (writes_in before) own.writes g.db)
                ∙ ap (λ ws. applied ws g.db) (ap (λ l. writes_in before ++ l) (sym (append-nil own.writes)) ∙ sym (flat_map-append (λ (r : Record). r.writes) before (own ∷ [])))));
            held = λ x lt. ap (λ (s : State). held_at s.env x) tells.1 ∙ (slots_alike own.sets st.env (with_slots (sets_in before) g.first) x (here.told.held x lt)
                ∙ (ap (λ e. held_at e x) (sym (slots_both (sets_in before) own.sets g.first))
                ∙ ap (λ ss. held_at (with_slots ss g.first) x) (ap (λ l. sets_in before ++ l) (sym (append-nil own.sets)) ∙ sym (flat_map-append (λ (r : Record). r.sets) before (own ∷ [])))));
            found = at;
            slots = subst (OwnSlots g.params g.base) (ap (λ l. sets_in before ++ l) (sym (append-nil own.sets)) ∙ sym (flat_map-append (λ (r : Record). r.sets) before (own ∷ []))) (each_join (λ (s : Slot). (g.params ≤ s.slot) × (s.slot < g.base)) (sets_in before) own.sets here.told.slots slots);
            rising = subst AreRising (sym (ap (λ (s : State). s.tables) tells.1)) (rising_applied own.writes st.tables here.told.rising);
          },
          λ x w. ap (λ (s : State). held_at s.env x) tells.1 ∙ slots_high g.params g.base own.sets st.env x slots (each_within (λ i. g.base ≤ i) rows here.high x w),
        )

leaf_trace : {X : Type 0} (g : Ground) (z : Bare) (y : RStmt-F X) (n : ℕ) (site : Site) (rows : List ℕ) (before : List Record) (st : State) → IsGround g → HasStatements g.text n (record { it = z; rows = rows } ∷ [])
    → IsStatedWell g.tables g.params g.base (record { it = z; rows = rows }) → IsAtSite g site rows before st
    → own_record g.tables g.params z n site before st ≡ own_record g.tables g.params y n site before st → itself g.tables z st ≡ itself g.tables y st
    → Traced g before (own_record g.tables g.params y n site before st ∷ []) rows st (itself g.tables y st)
leaf_trace g z y n site rows before st ground stands suits here same does' = (
  (record { n = n; s = record { it = z; rows = rows }; site = site; st = st; stands = stands; suits = suits; here = here; is = sym same }, tt),
  own_step g z y n site rows before st ground suits here same does',
)

own_then : (g : Ground) (before : List Record) (own : Record) (rs : List Record) (rows : List ℕ) (st mid : State) (out : Result State End) → Traced g before (own ∷ []) rows st (Ok mid)
    → Traced g (before ++ own ∷ []) rs rows mid out → Traced g before (own ∷ rs) rows st out
own_then g before own rs rows st mid out h k = ((h.0.0, k.0), exits_join g before (own ∷ []) rs rows st mid out h.1 k.1)

-- What a statement holds

loop_trace : (g : Ground) (x : ℕ) (F : Flat) (body : Does) (tells : Recorder) → Traces g F tells body → (all : List (List Value)) (own : Record) (n : ℕ) (site : Site) (os : List ℕ) (before : List Record) (st : State)
    → HasStatements g.text n (F (x ∷ os)) → Each (IsStatedWell g.tables g.params g.base) (F (x ∷ os)) → g.base ≤ x → (Within x os → ⊥) → IsAtSite g site os before st → own.rows ≡ all → own.spot.turns ≡ site.turns
    → Traced g before (own ∷ []) os st (Ok (record st { env = with_found st.env (is_turn all) }))
    → Traced g before (own ∷ tell_loop x body tells all n (within_loop x (length before) site) (before ++ own ∷ []) st) os st (loop_over x body all st)
loop_trace g x F body tells h all own n site os before st stands suits high apart here are same k =
    let mid : State = record st { env = with_found st.env (is_turn all) } in
    own_then g before own (tell_turns x body tells all 1 n (within_loop x (length before) site) (before ++ own ∷ []) mid) os st mid (each_turn x body all mid) k
    (turns_trace g x F body tells h all [] 1 os n site (length before) (before ++ own ∷ []) mid stands suits high apart (here_later g site os before (own ∷ []) st mid here k.1.0 k.1.1)
    (omega (arith, length-append before (own ∷ []))) own (get_last before own []) same are (omega arith))

fixed_trace : (g : Ground) (x : ℕ) (F : Flat) (body : Does) (tells : Recorder) → Traces g F tells body → (tests : Result (List Test) End) (rows : List Test → List (List Value)) (own : Record) (n : ℕ) (site : Site)
    (os : List ℕ) (before : List Record) (st : State)
    → HasStatements g.text n (F (x ∷ os)) → Each (IsStatedWell g.tables g.params g.base) (F (x ∷ os)) → g.base ≤ x → (Within x os → ⊥) → IsAtSite g site os before st → own.rows ≡ on (then_do tests (λ c. Ok (rows c))) (λ all. all) → own.spot.turns ≡ site.turns
    → Traced g before (own ∷ []) os st (before_turns (then_do tests (λ c. Ok (rows c))) st)
    → Traced g before (own ∷ on (then_do tests (λ c. Ok (rows c))) (λ all. tell_loop x body tells all n (within_loop x (length before) site) (before ++ own ∷ []) st)) os st (then_do tests (λ c. loop_over x body (rows c) st))
fixed_trace g x F body tells h (Ok c) rows own n site os before st stands suits high apart here are same k =
    loop_trace g x F body tells h (rows c) own n site os before st stands suits high apart here are same k
fixed_trace g x F body tells h (Err e) rows own n site os before st stands suits high apart here are same k = k

either_traced : (g : Ground) (b : Bool) (before rs ss : List Record) (rows : List ℕ) (st : State) (a c : Result State End) → Traced g before rs rows st a → Traced g before ss rows st c
    → Traced g before (if b then rs else ss) rows st (if b then a else c)
either_traced g true before rs ss rows st a c h k = h
either_traced g false before rs ss rows st a c h k = k

if_trace : (g : Ground) (test : Result Value End) (own : Record) (before : List Record) (rows : List ℕ) (st : State) (ys ns : List Record) (a c : Result State End)
    → (LeadsTo g (before ++ own ∷ []) st → Traced g (before ++ own ∷ []) ys rows st a × Traced g (before ++ own ∷ []) ns rows st c)
    → Traced g before (own ∷ []) rows st (then_do test (λ v. Ok st))
    → Traced g before (own ∷ on test (λ v. if is_so v then ys else ns)) rows st (then_do test (λ v. if is_so v then a else c))
if_trace g (Ok v) own before rows st ys ns a c h k =
    let both = h k.1.0 in
    own_then g before own (if is_so v then ys else ns) rows st st (if is_so v then a else c) k (either_traced g (is_so v) (before ++ own ∷ []) ys ns rows st a c both.0 both.1)
if_trace g (Err e) own before rows st ys ns a c h k = k

here_within : (g : Ground) (number : ℕ) (site : Site) (rows : List ℕ) (before : List Record) (st : State) → ParentHolds before (Some number) site.turns → IsAtSite g site rows before st → IsAtSite g (within number site) rows before st
here_within g number site rows before st parent here = record { told = here.told; around = here.around; high = here.high; loops = here.loops; parent = parent }

-- Numbers

abbrev Sized : Type 0
Sized = (s : RStmt) × ((rows : List ℕ) → length (flat s rows) ≡ size s)

sized_list : (known : List Sized) (rows : List ℕ) → length (flat_all (map (λ k. k.0) known) rows) ≡ total_size (map size (map (λ k. k.0) known))
sized_list [] rows = refl
sized_list (k ∷ ks) rows =
    let rest = sized_list ks rows in
    let one = k.1 rows in
    length-append (flat k.0 rows) (flat_all (map (λ k. k.0) ks) rows) ∙ (ap (λ n. n + length (flat_all (map (λ k. k.0) ks) rows)) one ∙ ap (λ n. size k.0 + n) rest)

abbrev unsized : RStmt-F Sized → RStmt-F RStmt
unsized y = map-RStmt Sized RStmt (λ k. k.0) y

sized_step : (y : RStmt-F Sized) (rows : List ℕ) → length (flat_step (map-RStmt RStmt Flat flat (unsized y)) rows) ≡ size_step (map-RStmt RStmt ℕ size (unsized y))
sized_step (Assign x e) rows = refl
sized_step (Select cs xs t conds sorts offset) rows = refl
sized_step (Total agg x t conds) rows = refl
sized_step (ForSelect x once cs t conds sorts body) rows = ap suc (sized_list body (x ∷ rows)) ∙ (let e : (n : ℕ) → suc n ≡ 1 + n = λ n. omega arith in e _)
sized_step (ForRows x y body) rows = ap suc (sized_list body (x ∷ rows)) ∙ (let e : (n : ℕ) → suc n ≡ 1 + n = λ n. omega arith in e _)
sized_step (Branch e ys ns) rows =
    ap suc (length-append (flat_all (map (λ k. k.0) ys) rows) (flat_all (map (λ k. k.0) ns) rows) ∙ (ap (λ n. n + length (flat_all (map (λ k. k.0) ns) rows)) (sized_list ys rows)
    ∙ ap (λ n. total_size (map size (map (λ k. k.0) ys)) + n) (sized_list ns rows))) ∙ (let e : (n : ℕ) → suc n ≡ 1 + n = λ n. omega arith in e _)
sized_step (Insert t es) rows = refl
sized_step (Update t items conds) rows = refl
sized_step (Delete t conds) rows = refl
sized_step (Print es) rows = refl
sized_step (Rollback reason) rows = refl

pub flat_sized : (s : RStmt) (rows : List ℕ) → length (flat s rows) ≡ size s
flat_sized = ind-RStmt (λ s. (rows : List ℕ) → length (flat s rows) ≡ size s) (λ x y is rows.
    subst (λ z. length (flat (roll-RStmt z) rows) ≡ size (roll-RStmt z)) is
    (ap (λ f. length (f rows)) (fold-roll-RStmt Flat flat_step (unsized y)) ∙ (sized_step y rows ∙ sym (fold-roll-RStmt ℕ size_step (unsized y)))))

pub all_sized : (ss : List RStmt) (rows : List ℕ) → length (flat_all ss rows) ≡ total_size (map size ss)
all_sized [] rows = refl
all_sized (s ∷ ss) rows =
    length-append (flat s rows) (flat_all ss rows) ∙ (ap (λ n. n + length (flat_all ss rows)) (flat_sized s rows) ∙ ap (λ n. size s + n) (all_sized ss rows))

-- Statements

abbrev Known : Ground → Type 0
Known g = (s : RStmt) × Traces g (flat s) (tell g.tables g.params s) (does g.tables s)

abbrev plain : (g : Ground) → List (Known g) → List RStmt
plain g known = map (λ k. k.0) known

all_trace : (g : Ground) (known : List (Known g)) → Traces g (flat_all (plain g known)) (tell_statements g.tables g.params (plain g known)) (alone g.tables (plain g known))
all_trace g [] rows n site before st stands suits here = (tt, (subst (λ b. LeadsTo g b st) (sym (append-nil before)) here.told, λ x w. refl))
all_trace g (k ∷ ks) rows n site before st stands suits here =
    let these : List Record = tell g.tables g.params k.0 n site before st in
    let split = each_both (IsStatedWell g.tables g.params g.base) (flat k.0 rows) (flat_all (plain g ks) rows) suits in
    then_traced g before these rows st (does g.tables k.0 st) (tell_statements g.tables g.params (plain g ks) (n + size k.0) site (before ++ these)) (alone g.tables (plain g ks))
    (k.1 rows n site before st (stands_first g.text n (flat k.0 rows) (flat_all (plain g ks) rows) stands) split.0 here)
    (λ mid told keeps. all_trace g ks rows (n + size k.0) site (before ++ these) mid
    (stands_second g.text n (size k.0) (flat k.0 rows) (flat_all (plain g ks) rows) (flat_sized k.0 rows) stands) split.1 (here_later g site rows before these st mid here told keeps))

abbrev unknown : (g : Ground) → RStmt-F (Known g) → RStmt-F RStmt
unknown g y = map-RStmt (Known g) RStmt (λ k. k.0) y

abbrev telling : (g : Ground) → RStmt-F (Known g) → RStmt-F (RStmt × Recorder)
telling g y = map-RStmt RStmt (RStmt × Recorder) (λ s. (s, tell g.tables g.params s)) (unknown g y)

again : (g : Ground) (ss : List RStmt) → alone g.tables (map (λ (s : RStmt × Recorder). s.0) (map (λ s. (s, tell g.tables g.params s)) ss)) ≡ alone g.tables ss
again g ss = ap (alone g.tables) (firsts (tell g.tables g.params) ss)

sizes_of : (g : Ground) (ss : List RStmt) → total_size (map (λ (s : RStmt × Recorder). size s.0) (map (λ s. (s, tell g.tables g.params s)) ss)) ≡ total_size (map size ss)
sizes_of g [] = refl
sizes_of g (s ∷ ss) = ap (λ n. size s + n) (sizes_of g ss)

step_trace : (g : Ground) → IsGround g → (y : RStmt-F (Known g))
    → Traces g (flat_step (map-RStmt RStmt Flat flat (unknown g y))) (tell_step g.tables g.params (telling g y)) (stmt_step g.tables (map-RStmt RStmt Does (does g.tables) (unknown g y)))
step_trace g ground (Assign x e) rows n site before st stands suits here =
    leaf_trace {X = RStmt × Recorder} g (Assign x e) (Assign x e) n site rows before st ground stands suits.0 here refl refl
step_trace g ground (Select cs xs t conds sorts offset) rows n site before st stands suits here =
    leaf_trace {X = RStmt × Recorder} g (Select cs xs t conds sorts offset) (Select cs xs t conds sorts offset) n site rows before st ground stands suits.0 here refl refl
step_trace g ground (Total agg x t conds) rows n site before st stands suits here =
    leaf_trace {X = RStmt × Recorder} g (Total agg x t conds) (Total agg x t conds) n site rows before st ground stands suits.0 here refl refl
step_trace g ground (ForSelect x once cs t conds sorts body) rows n site before st stands suits here =
    let y : RStmt-F (RStmt × Recorder) = telling g (ForSelect x once cs t conds sorts body) in
    let z : Bare = bare (map-RStmt RStmt Flat flat (unknown g (ForSelect x once cs t conds sorts body))) in
    let ss : List RStmt = plain g body in
    let own : Record = own_record g.tables g.params y n site before st in
    let here' : List Stated = record { it = z; rows = rows } ∷ [] in
    subst (λ b. Traced g before (own ∷ on (then_do (tests_of (key_columns g.tables t) conds st.env) (λ tests. Ok (fixed once cs sorts (matching_in t tests st)))) (λ all. tell_loop x b (tell_statements g.tables g.params ss) all (n + 1) (within_loop x (length before) site) (before ++ own ∷ []) st)) rows st
    (then_do (tests_of (key_columns g.tables t) conds st.env) (λ tests. loop_over x (alone g.tables ss) (fixed once cs sorts (matching_in t tests st)) st))) (sym (again g ss))
    (fixed_trace g x (flat_all ss) (alone g.tables ss) (tell_statements g.tables g.params ss) (all_trace g body) (tests_of (key_columns g.tables t) conds st.env) (λ tests. fixed once cs sorts (matching_in t tests st)) own (n + 1) site rows before st
    (stands_second g.text n 1 here' (flat_all ss (x ∷ rows)) refl stands) suits.1 suits.0.loop.0 suits.0.loop.1 here refl refl
    (leaf_trace g z y n site rows before st ground (stands_first g.text n here' (flat_all ss (x ∷ rows)) stands) suits.0 here refl refl))
step_trace g ground (ForRows x y body) rows n site before st stands suits here =
    let w : RStmt-F (RStmt × Recorder) = telling g (ForRows x y body) in
    let z : Bare = bare (map-RStmt RStmt Flat flat (unknown g (ForRows x y body))) in
    let ss : List RStmt = plain g body in
    let own : Record = own_record g.tables g.params w n site before st in
    let here' : List Stated = record { it = z; rows = rows } ∷ [] in
    subst (λ b. Traced g before (own ∷ tell_loop x b (tell_statements g.tables g.params ss) (turns_at st.env y) (n + 1) (within_loop x (length before) site) (before ++ own ∷ []) st) rows st
    (loop_over x (alone g.tables ss) (turns_at st.env y) st)) (sym (again g ss))
    (loop_trace g x (flat_all ss) (alone g.tables ss) (tell_statements g.tables g.params ss) (all_trace g body) (turns_at st.env y) own (n + 1) site rows before st
    (stands_second g.text n 1 here' (flat_all ss (x ∷ rows)) refl stands) suits.1 suits.0.loop.0 suits.0.loop.1 here refl refl
    (leaf_trace g z w n site rows before st ground (stands_first g.text n here' (flat_all ss (x ∷ rows)) stands) suits.0 here refl refl))
step_trace g ground (Branch e ys ns) rows n site before st stands suits here =
    let y : RStmt-F (RStmt × Recorder) = telling g (Branch e ys ns) in
    let z : Bare = bare (map-RStmt RStmt Flat flat (unknown g (Branch e ys ns))) in
    let own : Record = own_record g.tables g.params y n site before st in
    let here' : List Stated = record { it = z; rows = rows } ∷ [] in
    let yes : List Stated = flat_all (plain g ys) rows in
    let not : List Stated = flat_all (plain g ns) rows in
    let behind = stands_second g.text n 1 here' (yes ++ not) refl stands in
    let split = each_both (IsStatedWell g.tables g.params g.base) yes not suits.1 in
    let long : length yes ≡ total_size (map (λ (s : RStmt × Recorder). size s.0) (map (λ s. (s, tell g.tables g.params s)) (plain g ys))) = all_sized (plain g ys) rows ∙ sym (sizes_of g (plain g ys)) in
    if_trace g (value_of e st.env []) own before rows st _ _ _ _
    (λ told. let at : IsAtSite g (within (length before) site) rows (before ++ own ∷ []) st = here_within g (length before) site rows (before ++ own ∷ []) st (own, get_last before own [], inl refl) (here_later g site rows before (own ∷ []) st st here told (λ x w. refl)) in (
      all_trace g ys rows (n + 1) (within (length before) site) (before ++ own ∷ []) st (stands_first g.text (n + 1) yes not behind) split.0 at,
      all_trace g ns rows _ (within (length before) site) (before ++ own ∷ []) st (stands_second g.text (n + 1) _ yes not long behind) split.1 at,
    ))
    (leaf_trace g z y n site rows before st ground (stands_first g.text n here' (yes ++ not) stands) suits.0 here refl refl)
step_trace g ground (Insert t es) rows n site before st stands suits here =
    leaf_trace {X = RStmt × Recorder} g (Insert t es) (Insert t es) n site rows before st ground stands suits.0 here refl refl
step_trace g ground (Update t items conds) rows n site before st stands suits here =
    leaf_trace {X = RStmt × Recorder} g (Update t items conds) (Update t items conds) n site rows before st ground stands suits.0 here refl refl
step_trace g ground (Delete t conds) rows n site before st stands suits here =
    leaf_trace {X = RStmt × Recorder} g (Delete t conds) (Delete t conds) n site rows before st ground stands suits.0 here refl refl
step_trace g ground (Print es) rows n site before st stands suits here =
    leaf_trace {X = RStmt × Recorder} g (Print es) (Print es) n site rows before st ground stands suits.0 here refl refl
step_trace g ground (Rollback reason) rows n site before st stands suits here =
    leaf_trace {X = RStmt × Recorder} g (Rollback reason) (Rollback reason) n site rows before st ground stands suits.0 here refl refl

pub statement_trace : (g : Ground) → IsGround g → (s : RStmt) → Traces g (flat s) (tell g.tables g.params s) (does g.tables s)
statement_trace g ground = ind-RStmt (λ s. Traces g (flat s) (tell g.tables g.params s) (does g.tables s)) (λ x y is.
    subst (λ z. Traces g (flat (roll-RStmt z)) (tell g.tables g.params (roll-RStmt z)) (does g.tables (roll-RStmt z))) is
    (let z : RStmt-F RStmt = unknown g y in
    subst (λ F. Traces g F (tell g.tables g.params (roll-RStmt z)) (does g.tables (roll-RStmt z))) (sym (fold-roll-RStmt Flat flat_step z))
    (subst (λ t. Traces g (flat_step (map-RStmt RStmt Flat flat z)) t (does g.tables (roll-RStmt z))) (sym (para-roll-RStmt Recorder (tell_step g.tables g.params) z))
    (subst (λ d. Traces g (flat_step (map-RStmt RStmt Flat flat z)) (tell_step g.tables g.params (telling g y)) d) (sym (fold-roll-RStmt Does (stmt_step g.tables) z))
    (step_trace g ground y)))))

known_firsts : (g : Ground) (ground : IsGround g) (ss : List RStmt) → map (λ (k : Known g). k.0) (map (λ s. (s, statement_trace g ground s)) ss) ≡ ss
known_firsts g ground [] = refl
known_firsts g ground (s ∷ ss) = ap (λ l. s ∷ l) (known_firsts g ground ss)

pub told_trace : (g : Ground) → IsGround g → (ss : List RStmt) → Traces g (flat_all ss) (tell_statements g.tables g.params ss) (alone g.tables ss)
told_trace g ground ss = subst (λ ts. Traces g (flat_all ts) (tell_statements g.tables g.params ts) (alone g.tables ts)) (known_firsts g ground ss) (all_trace g (map (λ s. (s, statement_trace g ground s)) ss))

-- Full runs

pub all_own : (g : Ground) → IsGround g → (ss : List RStmt) → g.text ≡ flat_all ss [] → Each (IsStatedWell g.tables g.params g.base) (flat_all ss []) → (env : Env) → g.first ≡ env
    → AllOwn g [] (tell_statements g.tables g.params ss 1 outside [] (record { env = env; tables = g.db; lines = [] }))
all_own g ground ss text suits env first =
    (told_trace g ground ss [] 1 outside [] (record { env = env; tables = g.db; lines = [] })
    ([], [], text ∙ sym (append-nil (flat_all ss [])), refl) suits
    (record {
      told = record { tables = refl; held = λ x lt. ap (λ e. held_at e x) (sym first); found = ap (λ (e : Env). e.found) (sym first); slots = tt; rising = ground.rising };
      around = refl;
      high = tt;
      loops = refl;
      parent = refl;
    })).0

pub inverted : (tables : List TableInfo) (proc : ProcInfo) (call : Call) (db : Tables) → AreRising db → AllSuit tables proc call → AllOwn (ground_of tables proc call db) [] (recorded tables proc call db)
inverted tables proc call db rising suits =
    all_own (ground_of tables proc call db) (record { found = (omega arith, omega arith); rising = rising }) proc.body refl suits (entered proc call) refl

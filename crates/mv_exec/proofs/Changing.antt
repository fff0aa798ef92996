-- Changes of variables.
use Rattle.std.proofs.Common.{◌≡◌, ℕ, zero, suc, ◌+◌, ◌<◌, ◌≤◌, max, List, [], ◌∷◌, map, length, slice_set, refl, sym, ap, subst, ◌∙◌, arith}
use Rattle.mv_eval.specs.declared.state.Content.{Content}
use Rattle.mv_eval.specs.declared.state.Env.{Env}
use Rattle.mv_eval.specs.Env.{put_at, padded, unset, with_held}
use Rattle.mv_eval.proofs.Putting.{pad_full, put_padded}
use Rattle.mv_record.specs.declared.record.Slot.{Slot}
use Rattle.mv_recorded.specs.Effect.{with_slots}
use Rattle.mv_exec.specs.declared.changes.VariableChange.{VariableChange}
use Rattle.mv_exec.specs.Env.{CallVariables, with_changes, with_changed, room, of_slot}

pub room_next : (most needed r : ℕ) → max most (max needed r) ≡ max (max most needed) r
room_next most needed r = omega arith

-- one variable set
pub set_next : (env : Env) (x : ℕ) (h : Content) → x < length env.held → record env { held = slice_set env.held x h } ≡ with_held env x h
set_next env x h lt =
    ap (λ hs. record env { held = hs }) (ap (λ hs. slice_set hs x h) (sym (pad_full (x + 1) env.held (omega (arith, lt)))) ∙ put_padded env.held x h)

pub room_here : (x r n : ℕ) → max (x + 1) r ≤ n → x < n
room_here x r n le = omega (arith, le)

pub room_stays : (x r n : ℕ) → max (x + 1) r ≤ n → r ≤ n
room_stays x r n le = omega (arith, le)

-- Room made first

put_padded_in : (n : ℕ) (hs : List Content) (x : ℕ) (h : Content) → put_at (padded n hs) x h ≡ padded n (put_at hs x h)
put_padded_in zero hs x h = refl
put_padded_in (suc n) [] zero h = refl
put_padded_in (suc n) [] (suc x) h = ap (λ l. unset ∷ l) (put_padded_in n [] x h)
put_padded_in (suc n) (g ∷ gs) zero h = refl
put_padded_in (suc n) (g ∷ gs) (suc x) h = ap (λ l. g ∷ l) (put_padded_in n gs x h)

put_long : (hs : List Content) (x : ℕ) (h : Content) → max (x + 1) (length hs) ≤ length (put_at hs x h)
put_long [] zero h = omega arith
put_long [] (suc x) h = let k : max (x + 1) 0 ≤ length (put_at [] x h) = put_long [] x h in omega arith
put_long (g ∷ gs) zero h = omega arith
put_long (g ∷ gs) (suc x) h = let k : max (x + 1) (length gs) ≤ length (put_at gs x h) = put_long gs x h in omega arith

changes_padded : (cs : List VariableChange) (n : ℕ) (env : Env) → with_changes cs (record env { held = padded n env.held }) ≡ (let e : Env = with_changes cs env in record e { held = padded n e.held })
changes_padded [] n env = refl
changes_padded (c ∷ cs) n env =
    ap (λ hs. with_changes cs (record env { held = hs })) (put_padded_in n env.held c.slot c.held) ∙ changes_padded cs n (with_held env c.slot c.held)

changes_long : (cs : List VariableChange) (env : Env) → max (room cs) (length env.held) ≤ length (with_changes cs env).held
changes_long [] env = omega arith
changes_long (c ∷ cs) env =
    let k : max (room cs) (length (put_at env.held c.slot c.held)) ≤ length (with_changes cs (with_held env c.slot c.held)).held = changes_long cs (with_held env c.slot c.held) in
    let l : max (c.slot + 1) (length env.held) ≤ length (put_at env.held c.slot c.held) = put_long env.held c.slot c.held in
    omega arith

pub padded_changes : (cs : List VariableChange) (env : Env) → with_changes cs (record env { held = padded (room cs) env.held }) ≡ with_changes cs env
padded_changes cs env =
    let e : Env = with_changes cs env in
    let k : max (room cs) (length env.held) ≤ length (with_changes cs env).held = changes_long cs env in
    changes_padded cs (room cs) env ∙ ap (λ hs. record e { held = hs }) (pad_full (room cs) e.held (omega arith))

-- what slots tell of
pub slots_changes : (ss : List Slot) (env : Env) → with_changes (map of_slot ss) env ≡ with_slots ss env
slots_changes [] env = refl
slots_changes (s ∷ ss) env = slots_changes ss (with_held env s.slot (of_slot s).held)

-- A step through changes

set_len : (hs : List Content) (x : ℕ) (h : Content) → length (slice_set hs x h) ≡ length hs
set_len [] x h = refl
set_len (g ∷ gs) zero h = refl
set_len (g ∷ gs) (suc x) h = ap suc (set_len gs x h)

room_all : (env : Env) (cs rest : List VariableChange) (c : VariableChange) → cs ≡ c ∷ rest → room cs ≤ length env.held → max (c.slot + 1) (room rest) ≤ length env.held
room_all env cs rest c e le = subst (λ ds. room ds ≤ length env.held) e le

pub set_step : (vs new : CallVariables) (cs rest : List VariableChange) (c : VariableChange) → cs ≡ c ∷ rest → room cs ≤ length vs.env.held
    → new ≡ (let e : Env = vs.env in record vs { env = record e { held = slice_set e.held c.slot c.held } }) → with_changed rest new ≡ with_changed cs vs
set_step vs new cs rest c e le is =
    ap (with_changed rest) is
    ∙ (ap (λ env. record vs { env = with_changes rest env }) (set_next vs.env c.slot c.held (room_here c.slot (room rest) (length vs.env.held) (room_all vs.env cs rest c e le)))
    ∙ ap (λ ds. with_changed ds vs) (sym e))

pub room_step : (vs new : CallVariables) (cs rest : List VariableChange) (c : VariableChange) → cs ≡ c ∷ rest → room cs ≤ length vs.env.held
    → new ≡ (let e : Env = vs.env in record vs { env = record e { held = slice_set e.held c.slot c.held } }) → room rest ≤ length new.env.held
room_step vs new cs rest c e le is =
    let k : room rest ≤ length vs.env.held = room_stays c.slot (room rest) (length vs.env.held) (room_all vs.env cs rest c e le) in
    let l : length new.env.held ≡ length vs.env.held = ap (λ (v : CallVariables). length v.env.held) is ∙ set_len vs.env.held c.slot c.held in
    omega arith

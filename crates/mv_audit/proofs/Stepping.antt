-- The state after an event, as code makes it: a call is taken out, and put in again with one more round.
use Rattle.std.proofs.Common.{◌≡◌, ℕ, zero, suc, Bool, List, [], ◌∷◌, ◌++◌, Some, slice_set, refl, sym, ap, ◌∙◌}
use Rattle.std.specs.Prelude.{slice_get}
use Rattle.std.proofs.lemmas.Option.{same_Some}
use Rattle.mv_values.specs.declared.calls.Reply.{Reply}
use Rattle.mv_values.specs.Tables.{Tables}
use Rattle.mv_record.specs.declared.record.Record.{Record}
use Rattle.mv_history.specs.declared.change.Change.{Change}
use Rattle.mv_history.specs.Changes.{changes_between}
use Rattle.mv_journal.specs.declared.outcome.Mark.{Mark}
use Rattle.mv_audit.specs.declared.schedule.Live.{Live as Kept}
use Rattle.mv_audit.specs.declared.schedule.Schedule.{Schedule as State}
use Rattle.mv_audit.specs.Schedules.{restarted, finished, answered, again_state, committed_state, answered_state}

pub set_twice : {A : Type 0} (xs : List A) (c : ℕ) (a b : A) → slice_set (slice_set xs c a) c b ≡ slice_set xs c b
set_twice [] c a b = refl
set_twice (x ∷ xs) zero a b = refl
set_twice (x ∷ xs) (suc c) a b = ap (λ l. x ∷ l) (set_twice xs c a b)

-- the calls, if the one that was taken out is this one
pub calls_made : (f : Kept → Kept) (ls calls : List Kept) (c : ℕ) (old blank live : Kept) → slice_get ls c ≡ Some old → live ≡ f old → calls ≡ slice_set (slice_set ls c blank) c live → (l : Kept) → slice_get ls c ≡ Some l → calls ≡ slice_set ls c (f l)
calls_made f ls calls c old blank live back is are l at = are ∙ (set_twice ls c blank live ∙ ap (slice_set ls c) (is ∙ ap f (same_Some old l (sym back ∙ at))))

pub round_made : (s : State) (c : ℕ) (old blank live : Kept) (m : Mark) (new : List Record) (given : Reply) (calls : List Kept) → slice_get s.calls c ≡ Some old → live ≡ restarted old m new given s.commits → calls ≡ slice_set (slice_set s.calls c blank) c live
    → (l : Kept) → slice_get s.calls c ≡ Some l → record s { calls = calls } ≡ again_state s c l m new given
round_made s c old blank live m new given calls back is are l at =
    ap (λ (ls : List Kept). record s { calls = ls }) (calls_made (λ x. restarted x m new given s.commits) s.calls calls c old blank live back is are l at)

pub commit_made : (s : State) (c : ℕ) (old blank live : Kept) (own : Bool) (new : List Record) (reply : Reply) (db : Tables) (order : List ℕ) (commits : List (List Change)) (calls : List Kept) → slice_get s.calls c ≡ Some old
    → live ≡ finished own old new s.commits reply → calls ≡ slice_set (slice_set s.calls c blank) c live → order ≡ s.order ++ c ∷ [] → commits ≡ s.commits ++ changes_between s.tables db ∷ []
    → (l : Kept) → slice_get s.calls c ≡ Some l → record s { order = order; commits = commits; calls = calls; tables = db } ≡ committed_state s c l own new reply db
commit_made s c old blank live own new reply db order commits calls back is are ordered made l at =
    ap (λ (ls : List Kept). record s { order = order; commits = commits; calls = ls; tables = db }) (calls_made (λ x. finished own x new s.commits reply) s.calls calls c old blank live back is are l at)
    ∙ (ap (λ (o : List ℕ). record s { order = o; commits = commits; calls = slice_set s.calls c (finished own l new s.commits reply); tables = db }) ordered
    ∙ ap (λ (cs : List (List Change)). record s { order = s.order ++ c ∷ []; commits = cs; calls = slice_set s.calls c (finished own l new s.commits reply); tables = db }) made)

pub answer_made : (s : State) (c : ℕ) (old blank live : Kept) (answers : List ℕ) (calls : List Kept) → slice_get s.calls c ≡ Some old → live ≡ answered old → calls ≡ slice_set (slice_set s.calls c blank) c live → answers ≡ s.answered ++ c ∷ []
    → (l : Kept) → slice_get s.calls c ≡ Some l → record s { answered = answers; calls = calls } ≡ answered_state s c l
answer_made s c old blank live answers calls back is are made l at =
    ap (λ (ls : List Kept). record s { answered = answers; calls = ls }) (calls_made answered s.calls calls c old blank live back is are l at)
    ∙ ap (λ (cs : List ℕ). record s { answered = cs; calls = slice_set s.calls c (answered l) }) made

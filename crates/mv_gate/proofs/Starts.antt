-- What the scheduler keeps of the starts of live calls, after an event.
use Rattle.std.proofs.Common.{◌≡◌, ◌⊎◌, inl, inr, ℕ, ◌<◌, true, false, List, [], ◌∷◌, ◌++◌, Option, Some, None, length, slice_set, get_or, refl, sym, ap, subst, ◌∙◌, arith, rules, length-append}
use Rattle.std.specs.Prelude.{slice_get}
use mathlib.Core.List.{IsPrefix}
use Rattle.std.proofs.lemmas.List.{length-set}
use Rattle.std.proofs.lemmas.Option.{slice_get_within, slice_get_read}
use Rattle.mv_journal.specs.declared.event.Event.TheVariants.{B, A, M, C, X, R}
use Rattle.mv_journal.specs.declared.outcome.Mark.TheVariants.{Plain, Exclusive, Moved}
use Rattle.mv_lawful.specs.Lawful.{Live, Schedule, begin, again, finish, change_live}
use Rattle.mv_seats.specs.Scripts.{BoardScript}
use Rattle.mv_seats.proofs.Prefixes.{prefix_self}
use Rattle.mv_shards.specs.Reads.{Started, IsStart}
use Rattle.mv_shards.specs.Ledgers.{Entered, AreLastChanges}
use Rattle.mv_shards.proofs.Histories.{touch_front}
use Rattle.mv_core.specs.Calls.{IsLive, IsLiveCall}
use Rattle.mv_core.specs.Books.{Booked, Made}
use Rattle.mv_lawful.proofs.Lists.{get_last, get_front, get_set, set_there, set_apart, get_end}
use Rattle.mv_core.proofs.Journals.{changed_at}
use Rattle.mv_gate.specs.Gates.{HaveRoundStarts, HaveTouched}

-- what a live call has
abbrev Has : BoardScript → List ℕ → List (Option (List ℕ)) → ℕ → Live → Type 0
Has s order starts c l = (touched : List ℕ) × (slice_get starts c ≡ Some (Some touched)) × AreLastChanges s order l.start touched

-- no call was changed
pub touched_same : (s : BoardScript) (old new : Schedule) (starts : List (Option (List ℕ))) → new.calls ≡ old.calls → new.order ≡ old.order → HaveTouched s old starts → HaveTouched s new starts
touched_same s old new starts calls order h = record {
  count = h.count ∙ ap length (sym calls);
  each = λ c l live. subst (λ (xs : List ℕ). Has s xs starts c l) (sym order) (h.each c l (record { at = ap (λ ls. slice_get ls c) (sym calls) ∙ live.at; live = live.live }));
}

-- the next call begins
begun : (s : BoardScript) (schedule : Schedule) (starts : List (Option (List ℕ))) (touched : List ℕ) → HaveTouched s schedule starts → AreLastChanges s schedule.order (length schedule.order) touched
    → HaveTouched s (record schedule { calls = schedule.calls ++ begin (length schedule.order) ∷ [] }) (starts ++ Some touched ∷ [])
begun s schedule starts touched h are = record {
  count = let a = length-append starts (Some touched ∷ []) in let b = length-append schedule.calls (begin (length schedule.order) ∷ []) in let n = h.count in omega (arith, a, b, n);
  each = λ c l live. by c l (get_last schedule.calls (begin (length schedule.order)) c l live.at) live.live;
} where
  by : (c : ℕ) (l : Live) → (slice_get schedule.calls c ≡ Some l) ⊎ ((c ≡ length schedule.calls) × (begin (length schedule.order) ≡ l)) → l.done ≡ false → Has s schedule.order (starts ++ Some touched ∷ []) c l
  by c l (inl at) live = let had = h.each c l (record { at = at; live = live }) in (had.0, get_front starts (Some touched) c (Some had.0) had.1, had.2)
  by c l (inr new) live = (touched, get_end starts (Some touched) c (new.0 ∙ sym h.count), subst (λ (x : Live). AreLastChanges s schedule.order x.start touched) new.1 are)

pub touched_begun : (s : BoardScript) (c : ℕ) (old new : Booked) (starts : List (Option (List ℕ))) (touched : List ℕ) → HaveTouched s old.schedule starts → Made (B c) old new → AreLastChanges s old.schedule.order (length old.schedule.order) touched
    → HaveTouched s new.schedule (starts ++ Some touched ∷ [])
touched_begun s c old new starts touched h made are = subst (λ (x : Schedule). HaveTouched s x (starts ++ Some touched ∷ [])) (sym made.schedule) (begun s old.schedule starts touched h are)

-- one call gets a new start, and stays live
restarted : (s : BoardScript) (schedule : Schedule) (starts : List (Option (List ℕ))) (touched : List ℕ) (c : ℕ) (l m : Live) → HaveTouched s schedule starts → IsLive schedule c l → AreLastChanges s schedule.order m.start touched
    → HaveTouched s (record schedule { calls = slice_set schedule.calls c m }) (slice_set starts c (Some touched))
restarted s schedule starts touched c l m h live are = record {
  count = length-set starts c (Some touched) ∙ (h.count ∙ sym (length-set schedule.calls c m));
  each = λ d x alive. by d x (get_set schedule.calls c d m x alive.at) alive.live;
} where
  by : (d : ℕ) (x : Live) → ((d ≡ c) × (m ≡ x)) ⊎ ((d ≡ c → ⊥) × (slice_get schedule.calls d ≡ Some x)) → x.done ≡ false → Has s schedule.order (slice_set starts c (Some touched)) d x
  by d x (inl new) alive =
      let had = h.each c l live in (
        touched,
        subst (λ n. slice_get (slice_set starts c (Some touched)) n ≡ Some (Some touched)) (sym new.0) (set_there starts c (Some touched) (Some had.0) had.1),
        subst (λ (y : Live). AreLastChanges s schedule.order y.start touched) new.1 are,
      )
  by d x (inr other) alive = let had = h.each d x (record { at = other.1; live = alive }) in (had.0, set_apart starts c d (Some touched) other.0 ∙ had.1, had.2)

pub touched_again : (s : BoardScript) (c : ℕ) (old new : Booked) (starts : List (Option (List ℕ))) (touched : List ℕ) → HaveTouched s old.schedule starts → IsLiveCall old.schedule c → Made (A c) old new → AreLastChanges s old.schedule.order (length old.schedule.order) touched
    → HaveTouched s new.schedule (slice_set starts c (Some touched))
touched_again s c old new starts touched h live made are =
    let m : Live = again (length old.schedule.order) Plain live.0 in
    subst (λ (x : Schedule). HaveTouched s x (slice_set starts c (Some touched))) (sym (made.schedule ∙ ap (λ ls. record old.schedule { calls = ls }) (changed_at old.schedule.calls c (again (length old.schedule.order) Plain) live.0 live.1.at)))
    (restarted s old.schedule starts touched c live.0 m h live.1 are)

pub touched_moved : (s : BoardScript) (c : ℕ) (old new : Booked) (starts : List (Option (List ℕ))) (touched : List ℕ) → HaveTouched s old.schedule starts → IsLiveCall old.schedule c → Made (M c) old new → AreLastChanges s old.schedule.order (length old.schedule.order) touched
    → HaveTouched s new.schedule (slice_set starts c (Some touched))
touched_moved s c old new starts touched h live made are =
    let m : Live = again (length old.schedule.order) Moved live.0 in
    subst (λ (x : Schedule). HaveTouched s x (slice_set starts c (Some touched))) (sym (made.schedule ∙ ap (λ ls. record old.schedule { calls = ls }) (changed_at old.schedule.calls c (again (length old.schedule.order) Moved) live.0 live.1.at)))
    (restarted s old.schedule starts touched c live.0 m h live.1 are)

-- one call ends, and no other is changed
ended : (s : BoardScript) (old new : Schedule) (starts : List (Option (List ℕ))) (c : ℕ) → HaveRoundStarts old → HaveTouched s old starts → IsPrefix old.order new.order → length new.calls ≡ length old.calls
    → ((d : ℕ) (x : Live) → IsLive new d x → (d ≡ c → ⊥) × IsLive old d x) → HaveTouched s new (slice_set starts c None)
ended s old new starts c round_starts h order count others = record {
  count = length-set starts c None ∙ (h.count ∙ sym count);
  each = λ d x alive.
      let other = others d x alive in
      let had = h.each d x other.1 in (
        had.0,
        set_apart starts c d None other.0 ∙ had.1,
        λ q lt. had.2 q lt ∙ touch_front s q old.order new.order x.start order (round_starts d x other.1.at).past,
      );
}

-- each live call is another one
others_stay : (ls : List Live) (c : ℕ) (m : Live) → m.done ≡ true → (d : ℕ) (x : Live) → slice_get (slice_set ls c m) d ≡ Some x → x.done ≡ false → (d ≡ c → ⊥) × (slice_get ls d ≡ Some x)
others_stay ls c m done d x at alive = by (get_set ls c d m x at) where
  by : ((d ≡ c) × (m ≡ x)) ⊎ ((d ≡ c → ⊥) × (slice_get ls d ≡ Some x)) → (d ≡ c → ⊥) × (slice_get ls d ≡ Some x)
  by (inl new) = let both : true ≡ false = sym done ∙ (ap (λ (y : Live). y.done) new.1 ∙ alive) in absurd (search (rules, both))
  by (inr other) = other

-- a live call becomes one that is done
ended_by : (s : BoardScript) (c : ℕ) (f : Live → Live) (old new : Schedule) (starts : List (Option (List ℕ))) → HaveRoundStarts old → HaveTouched s old starts → (live : IsLiveCall old c) → new.calls ≡ change_live (slice_get old.calls c) f old.calls c
    → (f live.0).done ≡ true → IsPrefix old.order new.order → HaveTouched s new (slice_set starts c None)
ended_by s c f old new starts round_starts h live calls done order =
    let set : new.calls ≡ slice_set old.calls c (f live.0) = calls ∙ changed_at old.calls c f live.0 live.1.at in
    ended s old new starts c round_starts h order (ap length set ∙ length-set old.calls c (f live.0))
    (λ d x alive. let other = others_stay old.calls c (f live.0) done d x (ap (λ ls. slice_get ls d) (sym set) ∙ alive.at) alive.live in (other.0, record { at = other.1; live = alive.live }))

pub touched_committed : (s : BoardScript) (c : ℕ) (old new : Booked) (starts : List (Option (List ℕ))) → HaveRoundStarts old.schedule → HaveTouched s old.schedule starts → IsLiveCall old.schedule c → Made (C c) old new → HaveTouched s new.schedule (slice_set starts c None)
touched_committed s c old new starts round_starts h live made =
    ended_by s c finish old.schedule new.schedule starts round_starts h live (ap (λ (x : Schedule). x.calls) made.schedule) refl (c ∷ [], sym (ap (λ (x : Schedule). x.order) made.schedule))

pub touched_decided : (s : BoardScript) (c : ℕ) (old new : Booked) (starts : List (Option (List ℕ))) → HaveRoundStarts old.schedule → HaveTouched s old.schedule starts → IsLiveCall old.schedule c → Made (X c) old new → HaveTouched s new.schedule (slice_set starts c None)
touched_decided s c old new starts round_starts h live made =
    ended_by s c (λ l. finish (again (length old.schedule.order) Exclusive l)) old.schedule new.schedule starts round_starts h live (ap (λ (x : Schedule). x.calls) made.schedule) refl (c ∷ [], sym (ap (λ (x : Schedule). x.order) made.schedule))

pub touched_answered : (s : BoardScript) (c : ℕ) (old new : Booked) (starts : List (Option (List ℕ))) → HaveRoundStarts old.schedule → HaveTouched s old.schedule starts → IsLiveCall old.schedule c → Made (R c) old new → HaveTouched s new.schedule (slice_set starts c None)
touched_answered s c old new starts round_starts h live made =
    ended_by s c finish old.schedule new.schedule starts round_starts h live (ap (λ (x : Schedule). x.calls) made.schedule) refl (subst (IsPrefix old.schedule.order) (sym (ap (λ (x : Schedule). x.order) made.schedule)) (prefix_self old.schedule.order))

-- a call moves, and is done in the same step. Its start after the move is one of the commits
gone : (s : BoardScript) (c : ℕ) (old mid new : Booked) (starts : List (Option (List ℕ))) → HaveRoundStarts old.schedule → HaveTouched s old.schedule starts → IsLiveCall old.schedule c → Made (M c) old mid
    → new.schedule.calls ≡ change_live (slice_get mid.schedule.calls c) finish mid.schedule.calls c → IsPrefix old.schedule.order new.schedule.order → HaveTouched s new.schedule (slice_set starts c None)
gone s c old mid new starts round_starts h live moved calls order =
    let m : Live = again (length old.schedule.order) Moved live.0 in
    let was : mid.schedule.calls ≡ slice_set old.schedule.calls c m = ap (λ (x : Schedule). x.calls) moved.schedule ∙ changed_at old.schedule.calls c (again (length old.schedule.order) Moved) live.0 live.1.at in
    let there : slice_get mid.schedule.calls c ≡ Some m = ap (λ ls. slice_get ls c) was ∙ set_there old.schedule.calls c m live.0 live.1.at in
    let set : new.schedule.calls ≡ slice_set mid.schedule.calls c (finish m) = calls ∙ changed_at mid.schedule.calls c finish m there in
    ended s old.schedule new.schedule starts c round_starts h order (ap length set ∙ (length-set mid.schedule.calls c (finish m) ∙ (ap length was ∙ length-set old.schedule.calls c m)))
    (λ d x alive.
    let other = others_stay mid.schedule.calls c (finish m) refl d x (ap (λ ls. slice_get ls d) (sym set) ∙ alive.at) alive.live in
    (other.0, record { at = sym (set_apart old.schedule.calls c d m other.0) ∙ (ap (λ ls. slice_get ls d) (sym was) ∙ other.1); live = alive.live }))

pub touched_gone : (s : BoardScript) (c : ℕ) (old mid new : Booked) (starts : List (Option (List ℕ))) → HaveRoundStarts old.schedule → HaveTouched s old.schedule starts → IsLiveCall old.schedule c → Made (M c) old mid → Made (C c) mid new
    → HaveTouched s new.schedule (slice_set starts c None)
touched_gone s c old mid new starts round_starts h live moved committed =
    gone s c old mid new starts round_starts h live moved (ap (λ (x : Schedule). x.calls) committed.schedule)
    (c ∷ [], sym (ap (λ (x : Schedule). x.order) committed.schedule ∙ ap (λ (x : Schedule). x.order ++ c ∷ []) moved.schedule))

pub touched_read : (s : BoardScript) (c : ℕ) (old mid new : Booked) (starts : List (Option (List ℕ))) → HaveRoundStarts old.schedule → HaveTouched s old.schedule starts → IsLiveCall old.schedule c → Made (M c) old mid → Made (R c) mid new
    → HaveTouched s new.schedule (slice_set starts c None)
touched_read s c old mid new starts round_starts h live moved answered =
    gone s c old mid new starts round_starts h live moved (ap (λ (x : Schedule). x.calls) answered.schedule)
    (subst (IsPrefix old.schedule.order) (sym (ap (λ (x : Schedule). x.order) answered.schedule ∙ ap (λ (x : Schedule). x.order) moved.schedule)) (prefix_self old.schedule.order))

-- the entry of a live call
pub entry_there : (s : BoardScript) (schedule : Schedule) (starts : List (Option (List ℕ))) (c : ℕ) → HaveTouched s schedule starts → IsLiveCall schedule c → c < length starts
entry_there s schedule starts c h live = let had = h.each c live.0 live.1 in slice_get_within starts c (Some had.0) had.1

-- as it is read
pub entry_read : (s : BoardScript) (schedule : Schedule) (starts : List (Option (List ℕ))) (c : ℕ) (o : Option (List ℕ)) → HaveTouched s schedule starts → (live : IsLiveCall schedule c) → o ≡ get_or starts c o
    → (touched : List ℕ) × (o ≡ Some touched) × AreLastChanges s schedule.order (live.0).start touched
entry_read s schedule starts c o h live read =
    let had = h.each c live.0 live.1 in
    let both : Some (Some had.0) ≡ Some o = sym had.1 ∙ slice_get_read starts (length starts) c o refl (slice_get_within starts c (Some had.0) had.1) read in
    let one : Some had.0 ≡ o = search (rules, both) in
    (had.0, sym one, had.2)

-- what a start tells of the shards
pub start_changes : (s : BoardScript) (start : Started) (touched : List ℕ) (ledger : Entered) → IsStart s start.number start.knows start.touched → touched ≡ start.touched → start.number ≡ ledger.commits → start.knows.seen ≡ ledger.knows.seen
    → AreLastChanges s ledger.knows.seen ledger.commits touched
start_changes s start touched ledger k is number seen =
    subst (λ (t : List ℕ). AreLastChanges s ledger.knows.seen ledger.commits t) (sym is)
    (subst (λ n. AreLastChanges s ledger.knows.seen n start.touched) number (subst (λ (xs : List ℕ). AreLastChanges s xs start.number start.touched) seen k.touches))

-- in the words of the history that the ledger has seen
pub changes_seen : (s : BoardScript) (order : List ℕ) (ledger : Entered) (touched : List ℕ) → ledger.knows.seen ≡ order → ledger.commits ≡ length order → AreLastChanges s ledger.knows.seen ledger.commits touched → AreLastChanges s order (length order) touched
changes_seen s order ledger touched seen commits are = subst (λ n. AreLastChanges s order n touched) commits (subst (λ (xs : List ℕ). AreLastChanges s xs ledger.commits touched) seen are)

-- A call that moved.
use Rattle.std.proofs.Common.{◌≡◌, ℕ, List, [], ◌∷◌, ◌++◌, Some, None, length, refl, sym, ap, ◌∙◌, arith, rules}
use Rattle.std.specs.Prelude.{◌≢◌, slice_get}
use Rattle.std.proofs.lemmas.Bool.{le-ltb}
use Rattle.mv_journal.specs.declared.event.Event.TheVariants.{M, C}
use Rattle.mv_journal.specs.declared.outcome.Mark.TheVariants.{Exclusive, Moved}
use Rattle.mv_lawful.specs.Batch.{Batch, records_at, hit_of}
use Rattle.mv_lawful.specs.Lawful.{RoundStart, Live, Schedule, again, change_live, refusal}
use Rattle.mv_lawful.specs.Rounds.{whole_run, later_run, round, rounds_of, closed, last_number, last_turn_or}
use Rattle.mv_lawful.specs.Outcomes.{round_starts_of}
use Rattle.mv_script.specs.declared.script.CompiledScript.{CompiledScript}
use Rattle.mv_script.specs.Scripts.{batch_of}
use Rattle.mv_store.specs.Stored.{Versioned}
use Rattle.mv_core.specs.Calls.{IsLive}
use Rattle.mv_core.specs.Lives.{live_numbers}
use Rattle.mv_core.specs.Books.{Booked, batch_in, Made, IsAlone, IsNoReader}
use Rattle.mv_core.specs.Cores.{IsStoreOf}
use Rattle.mv_lawful.proofs.Numbers.{last_of_end, rounds_more}
use Rattle.mv_core.proofs.Lives.{live_kept}
use Rattle.mv_core.proofs.Refusing.{may_commit}
use Rattle.mv_core.proofs.Turning.{none_hit}
use Rattle.mv_lawful.proofs.Lists.{set_there}
use Rattle.mv_core.proofs.Journals.{changed_at}
use Rattle.mv_core.proofs.Changed.{live_restarted, due_after}

pub apart : Moved ≢ Exclusive
apart e = search (rules, e)

-- it starts after all commits
pub live_moved : (c : ℕ) (old new : Booked) (l : Live) → IsLive old.schedule c l → Made (M c) old new → IsLive new.schedule c (again (length old.schedule.order) Moved l)
live_moved c old new l live made = live_restarted Moved c old new l apart live made

-- a live call that is alone stays so
pub still_alone : (c : ℕ) (old new : Booked) (l : Live) → IsLive old.schedule c l → Made (M c) old new → IsAlone old c → IsAlone new c
still_alone c old new l live made alone =
    let f : Live → Live = again (length old.schedule.order) Moved in
    ap (λ (s : Schedule). live_numbers s.calls) made.schedule ∙ (ap live_numbers (changed_at old.schedule.calls c f l live.at) ∙ (live_kept 0 c l (f l) old.schedule.calls live.at refl ∙ alone))

-- the number of a round that a move began is that of the records of a full run, whatever rounds were before it
moved_number : (w : Batch) (order : List ℕ) (c n : ℕ) (ts : List RoundStart) → last_number (rounds_of w order c (ts ++ record { start = n; mark = Moved } ∷ [])) ≡ Some (whole_run w order c n)
moved_number w order c n [] = refl
moved_number w order c n (t ∷ ts) =
    let u : RoundStart = record { start = n; mark = Moved } in
    ap last_number (rounds_more w order c t u ts) ∙ last_of_end (closed Moved (rounds_of w order c (t ∷ ts))) (round u (Some (later_run w order c (last_turn_or t.start ts) n Moved)))

pub due_moved : (b : Booked) (c : ℕ) (l : Live) → IsLive b.schedule c l → due_after b Moved c ≡ Some (length (records_at (batch_in b) b.schedule.order (length b.schedule.order) c))
due_moved b c l live =
    ap (λ o. last_number (rounds_of (batch_in b) b.schedule.order c (round_starts_of o))) there ∙ moved_number (batch_in b) b.schedule.order c (length b.schedule.order) l.round_starts where
      f : Live → Live
      f = again (length b.schedule.order) Moved

      there : slice_get (change_live (slice_get b.schedule.calls c) f b.schedule.calls c) c ≡ Some (f l)
      there = ap (λ ls. slice_get ls c) (changed_at b.schedule.calls c f l live.at) ∙ set_there b.schedule.calls c (f l) l live.at

-- no commit hits it
pub moved_free : (old new : Booked) (store : Versioned) (c : ℕ) (l : Live) → IsNoReader old c → IsStoreOf old store → IsLive old.schedule c l → Made (M c) old new → refusal (batch_in new) new.schedule (C c) ≡ None
moved_free old new store c l writes k live made =
    let n : ℕ = length old.schedule.order in
    let order : n ≡ length new.schedule.order = sym (ap (λ (s : Schedule). length s.order) made.schedule) in
    may_commit (batch_in new) new.schedule c (again n Moved l) (ap (λ (s : CompiledScript). (batch_of s).read_only c) made.script ∙ writes) (live_moved c old new l live made)
    (le-ltb n new.schedule.low (let low = ap (λ (s : Schedule). s.low) made.schedule in let below = k.below in omega (arith, low, below)))
    (ap (λ m. hit_of (batch_in new) new.schedule.order m c) order ∙ none_hit (batch_in new) new.schedule.order c)

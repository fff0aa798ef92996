-- Defines what is kept of a call that has begun: its rounds with their numbers, and its reply. This project's own.
use Rattle.std.specs.Prelude.{◌≡◌, ◌⊎◌, ℕ, false, List, [], ◌∷◌, ◌++◌, Option, Some, None, map, slice_get, option_to_list}
use Rattle.std.specs.List.{flat_map}
use Rattle.std.specs.Option.{is_some}
use Rattle.mv_values.specs.declared.calls.Reply.{Reply}
use Rattle.mv_journal.specs.declared.outcome.Mark.TheVariants.{Plain, Exclusive}
use Rattle.mv_journal.specs.declared.outcome.Round.{Round}
use Rattle.mv_journal.specs.declared.outcome.HistoryLine.{HistoryLine}
use Rattle.mv_lawful.specs.Batch.{Batch}
use Rattle.mv_lawful.specs.Lawful.{Live, Schedule, begin, again, finish}
use Rattle.mv_lawful.specs.Rounds.{round_starts_in, numbered, last_number, counted, uncounted, rounds_of}
use Rattle.mv_lawful.specs.declared.places.Place.{Place}
use Rattle.mv_lawful.specs.Outcomes.{IsReply, round_starts_of}
use Rattle.mv_core.specs.declared.progress.Progress.{Progress}

-- what the law of journals sees of it
abbrev pub live_of : Progress → Live
live_of p = record { start = p.start; round_starts = round_starts_in p.rounds.items; steps = p.steps; done = is_some p.reply }

-- the call is live
pub record IsLive (s : Schedule) (c : ℕ) (l : Live) : Type 0 where
  pub at : slice_get s.calls c ≡ Some l
  pub live : l.done ≡ false

abbrev pub IsLiveCall : Schedule → ℕ → Type 0
IsLiveCall s c = (l : Live) × IsLive s c l

-- Numbers

-- the number that Runs gives the last round of a call
abbrev pub due_number : Batch → Schedule → ℕ → Option ℕ
due_number w s c = last_number (rounds_of w s.order c (round_starts_of (slice_get s.calls c)))

-- the rounds kept of a live call: those of Runs, but the last one may not have its number yet
abbrev pub AreRounds : List Round → List Round → Type 0
AreRounds kept all = (kept ≡ all) ⊎ (kept ≡ numbered None all)

-- Replies

-- Both

abbrev pub TellsBy : Batch → List ℕ → List ℕ → ℕ → ℕ → List Round → Option Reply → Type 0
TellsBy w order answered start c kept None = AreRounds kept (rounds_of w order c (round_starts_in kept))
TellsBy w order answered start c kept (Some reply) = (kept ≡ rounds_of w order c (round_starts_in kept)) × IsReply w order answered start c reply

-- it has the rounds that Runs says, and the reply of a call that is done
abbrev pub TellsCall : Batch → List ℕ → List ℕ → ℕ → Progress → Type 0
TellsCall w order answered c p = TellsBy w order answered p.start c p.rounds.items p.reply

-- it began after this many commits, and has executed nothing
pub record IsFresh (n : ℕ) (p : Progress) : Type 0 where
  pub live : live_of p ≡ begin n
  pub rounds : p.rounds.items ≡ uncounted n Plain ∷ []
  pub reply : p.reply ≡ None

-- A commit

-- the call has committed; if a number is given, in a round of its own
abbrev pub committed : ℕ → Option ℕ → Live → Live
committed n None l = finish l
committed n (Some k) l = finish (again n Exclusive l)

abbrev pub with_own : ℕ → Option ℕ → List Round → List Round
with_own n None rs = rs
with_own n (Some k) rs = rs ++ counted n Exclusive k ∷ []

-- What a history is made of

abbrev pub rounds_by : Option Progress → List Round
rounds_by None = []
rounds_by (Some p) = p.rounds.items

-- a call in its place, with the rounds that are kept of it
abbrev pub line_of : List Progress → Place → HistoryLine
line_of ps p = record { commit = p.commit; call = p.call; rounds = rounds_by (slice_get ps p.call) }

-- what the law of journals sees of the calls that have begun, the commits and the answered calls
abbrev pub schedule_with : List Progress → List ℕ → List ℕ → Schedule
schedule_with ps order answered = record { order = order; calls = map live_of ps; low = 0; answered = answered }

-- the replies of those that are done
abbrev pub replies_in : List Progress → List Reply
replies_in ps = flat_map (λ p. option_to_list p.reply) ps

-- Calls that their holders find late, or leave behind.
use Rattle.std.proofs.Common.{◌≡◌, ◌↔◌, ℕ, ◌≤◌, ◌<◌, Bool, true, false, List, [], ◌∷◌, Option, Some, None, length, refl, sym, ap, subst, ◌∙◌, arith, rules, length-append, get_or}
use Rattle.std.specs.Prelude.{IsTrue}
use Rattle.std.specs.Option.{is_some}
use mathlib.Core.List.{IsPrefix}
use Rattle.mv_journal.specs.declared.outcome.Round.{Round}
use Rattle.mv_lawful.specs.Lawful.{Live}
use Rattle.mv_lawful.specs.Rounds.{IsPast, round_starts_in, last_number}
use Rattle.mv_seats.specs.Scripts.{BoardScript}
use Rattle.mv_script.specs.declared.script.CompiledScript.{CompiledScript}
use Rattle.mv_script.specs.Scripts.{batch_of}
use Rattle.mv_shards.specs.Scripts.{script_in}
use Rattle.mv_shards.specs.Ledgers.{Entered, AreLastChanges}
use Rattle.mv_core.specs.Calls.{IsLive, IsLiveCall}
use Rattle.mv_core.specs.Books.{Booked, HasRounds}
use Rattle.mv_core.proofs.Taking.{one_live}
use Rattle.mv_gate.specs.Gates.{HaveRoundStarts, IsScheduler, Waiting, IsLate, Holding, IsPastIn, MayMove, StartsAt, IsSettledOrWhole, repaired_from}
use Rattle.mv_gate.proofs.Starts.{entry_read}

-- Late calls

pub past_later : (horizon : Option ℕ) (start a b : ℕ) → a ≤ b → IsPast horizon start a → IsPast horizon start b
past_later None start a b le past = past
past_later (Some h) start a b le past = omega (arith, le, past)

pub prefix_length : (xs ys : List ℕ) → IsPrefix xs ys → length xs ≤ length ys
prefix_length xs ys p =
    let a = length-append xs p.0 in
    let b = ap length p.1 in
    omega (arith, a, b)

-- a call that the history has with a late start may move
pub late_moves : (s : BoardScript) (b : Booked) (w : Waiting) → b.script ≡ script_in s → IsLate s w → IsPrefix w.start.knows.seen b.schedule.order → StartsAt b w.call w.start.number → MayMove b w.call
late_moves s b w script late seen at = record {
  live = (at.live, at.is_live);
  there = subst (λ (x : CompiledScript). w.call < length x.calls) (sym script) late.waits.there;
  past = λ l live.
      let one : w.start.number ≡ l.start = sym at.start_is ∙ ap (λ (x : Live). x.start) (one_live b.schedule w.call at.live l at.is_live live) in
      subst (λ (x : CompiledScript). IsPast (batch_of x).options.horizon l.start (length b.schedule.order)) (sym script)
      (subst (λ n. IsPast s.options.horizon n (length b.schedule.order)) one
      (past_later s.options.horizon w.start.number (length w.start.knows.seen) (length b.schedule.order) (prefix_length w.start.knows.seen b.schedule.order seen) late.past));
}

-- the same in the words of the ledger
pub past_in : (s : BoardScript) (b : Booked) (c n commits : ℕ) → b.script ≡ script_in s → commits ≡ length b.schedule.order → ((l : Live) → IsLive b.schedule c l → n ≡ l.start) → IsPast s.options.horizon n commits → IsPastIn b c
past_in s b c n commits script all starts past l live =
    subst (λ (x : CompiledScript). IsPast (batch_of x).options.horizon l.start (length b.schedule.order)) (sym script)
    (subst (λ k. IsPast s.options.horizon l.start k) all (subst (λ k. IsPast s.options.horizon k commits) (starts l live) past))

pub left_moves : (b : Booked) (c : ℕ) → IsLiveCall b.schedule c → c < length b.script.calls → IsPastIn b c → MayMove b c
left_moves b c live there past = record { live = live; there = there; past = past }

-- Rounds of a call that is left

none_is : (o : Option ℕ) → is_some o ≡ false → o ≡ None
none_is (Some n) is = absurd (search (rules, is))
none_is None is = refl

pub some_round : (b : Booked) (c : ℕ) (rs : List Round) → HasRounds b c rs → HaveRoundStarts b.schedule → 0 < length rs
some_round b c [] has round_starts =
    let h = round_starts c has.live has.is_live.at in
    let x = ap length has.round_starts in
    let y = ap length h.round_starts in
    absurd (omega (arith, x, y))
some_round b c (r ∷ rs) has round_starts = omega arith

pub has_its_number : (b : Booked) (c : ℕ) (rs : List Round) → HasRounds b c rs → is_some (last_number rs) ≡ true → IsSettledOrWhole b c
has_its_number b c rs has is none l at = absurd (none (λ x kept.
    let both : Some rs ≡ Some x = sym has.kept ∙ kept in
    let one : rs ≡ x = search (rules, both) in
    subst (λ (y : List Round). is_some (last_number y) ≡ true) one is))

pub was_not_repaired : (b : Booked) (c : ℕ) (rs : List Round) → HasRounds b c rs → is_some (repaired_from (round_starts_in rs)) ≡ false → IsSettledOrWhole b c
was_not_repaired b c rs has is none l at =
    sym (ap repaired_from (has.round_starts ∙ ap (λ (x : Live). x.round_starts) (one_live b.schedule c has.live l has.is_live at))) ∙ none_is (repaired_from (round_starts_in rs)) is

-- The start of a live call

pub start_past : (s : BoardScript) (b : Booked) (ledger : Entered) (starts : List (Option (List ℕ))) (c n : ℕ) → IsScheduler s b ledger starts → IsLiveCall b.schedule c → ((l : Live) → IsLive b.schedule c l → n ≡ l.start) → n ≤ ledger.commits
start_past s b ledger starts c n d live start =
    let past = (d.round_starts c live.0 live.1.at).past in
    let is = start live.0 live.1 in
    let all = d.commits in
    omega (arith, past, is, all)

pub start_touched : (s : BoardScript) (b : Booked) (ledger : Entered) (starts : List (Option (List ℕ))) (c n : ℕ) (o : Option (List ℕ)) (touched : List ℕ) → IsScheduler s b ledger starts → IsLiveCall b.schedule c → ((l : Live) → IsLive b.schedule c l → n ≡ l.start)
    → o ≡ get_or starts c o → o ≡ Some touched → AreLastChanges s ledger.knows.seen n touched
start_touched s b ledger starts c n o touched d live start read is =
    let had = entry_read s b.schedule starts c o d.touched live read in
    let both : Some had.0 ≡ Some touched = sym had.1 ∙ is in
    let one : had.0 ≡ touched = search (rules, both) in
    subst (λ k. AreLastChanges s ledger.knows.seen k touched) (sym (start live.0 live.1))
    (subst (λ (xs : List ℕ). AreLastChanges s xs (live.0).start touched) (sym d.seen) (subst (λ (t : List ℕ). AreLastChanges s b.schedule.order (live.0).start t) one had.2))

-- Calls that come back

-- what the start of a call has seen begins the history
pub seen_before : (held h : Holding) (now b : Booked) (xs : List ℕ) → h ≡ held → b ≡ now → xs ≡ held.start.knows.seen → IsPrefix xs now.schedule.order → IsPrefix h.start.knows.seen b.schedule.order
seen_before held h now b xs one scheduler is seen =
    subst (λ (x : Holding). IsPrefix x.start.knows.seen b.schedule.order) (sym one)
    (subst (λ (x : Booked). IsPrefix held.start.knows.seen x.schedule.order) (sym scheduler) (subst (λ (ys : List ℕ). IsPrefix ys now.schedule.order) is seen))

pub late_before : (late w : Waiting) (now b : Booked) (xs : List ℕ) → w ≡ late → b ≡ now → xs ≡ late.start.knows.seen → IsPrefix xs now.schedule.order → IsPrefix w.start.knows.seen b.schedule.order
late_before late w now b xs one scheduler is seen =
    subst (λ (x : Waiting). IsPrefix x.start.knows.seen b.schedule.order) (sym one)
    (subst (λ (x : Booked). IsPrefix late.start.knows.seen x.schedule.order) (sym scheduler) (subst (λ (ys : List ℕ). IsPrefix ys now.schedule.order) is seen))

-- a call that isn't known
pub lost_apart : (P : Type 0) (r : Bool) → r ≡ false → IsTrue r ↔ P → P → ⊥
lost_apart P r isnt both p =
    let e : false ≡ true = sym isnt ∙ both.1 p in
    search (rules, e)

-- What the gate's lock keeps of the readers of its shards, after an event.
use Rattle.std.proofs.Common.{◌≡◌, ◌⊎◌, inl, inr, ℕ, ◌<◌, ◌≤◌, ◌+◌, true, false, List, [], ◌∷◌, ◌++◌, Option, Some, None, length, get_or, slice_set, refl, sym, ap, subst, ◌∙◌, arith, rules, length-append}
use Rattle.std.specs.Prelude.{slice_get, IfSome, Result, Ok, Err, IfOk, OnOk, OnErr}
use Rattle.std.proofs.lemmas.List.{length-set, set-set}
use Rattle.std.proofs.lemmas.Option.{slice_get_within, slice_get-get_or, get_or_from_slice_get}
use Rattle.atomic_table.specs.Seated.{TableId}
use Rattle.mv_values.specs.declared.memory.NoMemory.{NoMemory}
use Rattle.mv_grace.specs.declared.books.Books.{Books}
use Rattle.mv_grace.specs.Epochs.{opened, out_of}
use Rattle.mv_grace.specs.Rule.{Pin}
use Rattle.mv_view.specs.Viewing.{Sight}
use Rattle.mv_effect.specs.Looking.{IsSameView}
use Rattle.mv_journal.specs.declared.event.Event.TheVariants.{B, A, M, C, X, R}
use Rattle.mv_journal.specs.declared.outcome.Mark.TheVariants.{Plain, Exclusive, Moved}
use Rattle.mv_lawful.specs.Lawful.{Live, Schedule, beginning, begin, again, finish, change_live}
use Rattle.mv_seats.specs.Scripts.{BoardScript}
use Rattle.mv_script.specs.declared.script.CompiledScript.{CompiledScript}
use Rattle.mv_shards.specs.Scripts.{script_in}
use Rattle.mv_shards.specs.Leaves.{NeedPins, IsLeave, start_shown}
use Rattle.mv_core.specs.Calls.{IsLive, IsLiveCall}
use Rattle.mv_core.specs.Books.{Booked, Made, IsSame}
use Rattle.mv_lawful.proofs.Lists.{get_last, get_front, get_set, set_there, set_apart, get_end}
use Rattle.mv_core.proofs.Journals.{changed_at, live_at}
use Rattle.mv_core.proofs.Keeping.{round_live, commit_live}
use Rattle.mv_gate.specs.declared.answers.Answer.{Answer}
use Rattle.mv_gate.specs.declared.answers.Answer.TheVariants.{Committed, Answered, Repaired, Moved as GoesUp, Lost}
use Rattle.mv_gate.specs.Gates.{Waiting, Repairing, Tries, Ends, Brings, GivesRepair, GivesMoved, Collects}
use Rattle.mv_gate.specs.Readers.{count, second_at, pins_after, seconds_gone, firsts_gone, MayAdmit, AreReaders}

-- what a live call has
abbrev Has : BoardScript → TableId → List (Option Pin) → ℕ → Live → Type 0
Has s word pins c l = (pin : Option Pin) × (slice_get pins c ≡ Some pin) × IsLeave s word (start_shown pin) l.start

had_by : (s : BoardScript) (word : TableId) (b : Books) (pins : List (Option Pin)) (schedule : Schedule) → AreReaders s word b pins schedule → (c : ℕ) (l : Live) → IsLive schedule c l → Has s word pins c l
had_by s word b pins schedule h c l live =
    let lt : c < length schedule.calls = slice_get_within schedule.calls c l live.at in
    let many : length pins ≡ length schedule.calls = h.count in
    (get_or pins c None, slice_get-get_or pins c None (omega (arith, lt, many)), h.each c l live)

shows : (s : BoardScript) (word : TableId) (pins : List (Option Pin)) (c : ℕ) (l : Live) → Has s word pins c l → IsLeave s word (start_shown (get_or pins c None)) l.start
shows s word pins c l had = subst (λ (o : Option Pin). IsLeave s word (start_shown o) l.start) (sym (get_or_from_slice_get pins c had.0 None had.1)) had.2

-- a pin is there only where readers need one, and then the call had one before
pub count_most : (s : BoardScript) (word : TableId) (n : ℕ) (new old : Option ℕ) → IfSome new (λ _. NeedPins s word) → IsLeave s word old n → count new ≤ count old
count_most s word n None old needed may = omega arith
count_most s word n (Some start) old needed may = let e : count old ≡ 1 = ap count (may needed) in omega (arith, e)

-- no call was changed
pub readers_same : (s : BoardScript) (word : TableId) (b d : Books) (pins : List (Option Pin)) (old new : Schedule) → new ≡ old → d.current.base ≡ b.current.base → out_of d ≤ out_of b → AreReaders s word b pins old → AreReaders s word d pins new
readers_same s word b d pins old new e base out h = subst (AreReaders s word d pins) (sym e) (record {
  base = let was = h.base in omega (arith, base, was);
  out = let was = h.out in omega (arith, out, was);
  few = h.few;
  count = h.count;
  each = h.each;
})

-- before any event
first : (s : BoardScript) (word : TableId) → AreReaders s word opened [] beginning
first s word = record { base = omega arith; out = omega arith; few = omega arith; count = refl; each = λ c l live. absurd (cc live.at) }

pub readers_first : (s : BoardScript) (word : TableId) (b : Books) (pins : List (Option Pin)) (schedule : Schedule) → b ≡ opened → pins ≡ [] → schedule ≡ beginning → AreReaders s word b pins schedule
readers_first s word b pins schedule is none begins =
    subst (λ (x : Books). AreReaders s word x pins schedule) (sym is)
    (subst (λ (xs : List (Option Pin)). AreReaders s word opened xs schedule) (sym none) (subst (λ (x : Schedule). AreReaders s word opened [] x) (sym begins) (first s word)))

-- calls and commits are as before
readers_kept : (s : BoardScript) (word : TableId) (b : Books) (pins : List (Option Pin)) (old new : Schedule) → AreReaders s word b pins old → new.calls ≡ old.calls → new.order ≡ old.order → AreReaders s word b pins new
readers_kept s word b pins old new h calls order =
    let many = ap length calls in record {
      base = let was = h.base in let n = ap length order in omega (arith, was, n);
      out = let was = h.out in omega (arith, was, many);
      few = let was = h.few in omega (arith, was, many);
      count = h.count ∙ sym many;
      each = λ c l live. h.each c l (record { at = ap (λ ls. slice_get ls c) (sym calls) ∙ live.at; live = live.live });
    }

pub readers_collected : (s : BoardScript) (word : TableId) (b : Books) (pins : List (Option Pin)) (r : Result (Option ℕ) NoMemory) (old new : Booked) → AreReaders s word b pins old.schedule → Collects r old new → AreReaders s word b pins new.schedule
readers_collected s word b pins (Ok (Some low)) old new h (made, is) = readers_kept s word b pins old.schedule new.schedule h (ap (λ (x : Schedule). x.calls) made.schedule) (ap (λ (x : Schedule). x.order) made.schedule)
readers_collected s word b pins (Ok None) old new h (none, same) = subst (λ (x : Booked). AreReaders s word b pins x.schedule) (sym same) h
readers_collected s word b pins (Err e) old new h same = readers_same s word b b pins old.schedule new.schedule same.schedule refl (omega arith) h

-- the epochs have turned, or not
pub readers_swept : (s : BoardScript) (word : TableId) (b d : Books) (pins : List (Option Pin)) (schedule : Schedule) (n : ℕ) → AreReaders s word b pins schedule → n ≡ length schedule.order → d.current.base ≤ n → out_of d ≡ out_of b → AreReaders s word d pins schedule
readers_swept s word b d pins schedule n h at base out = record {
  base = omega (arith, base, at);
  out = let was = h.out in omega (arith, out, was);
  few = h.few;
  count = h.count;
  each = h.each;
}

-- the next call begins, with two readers
begun : (s : BoardScript) (word : TableId) (b d : Books) (pins : List (Option Pin)) (pin : Option Pin) (schedule : Schedule) → AreReaders s word b pins schedule → length schedule.calls < 1000000 → d.current.base ≡ b.current.base → out_of d ≤ out_of b + 2 → IsLeave s word (start_shown pin) (length schedule.order)
    → AreReaders s word d (pins ++ pin ∷ []) (record schedule { calls = schedule.calls ++ begin (length schedule.order) ∷ [] })
begun s word b d pins pin schedule h less base out may =
    let longer = length-append schedule.calls (begin (length schedule.order) ∷ []) in record {
      base = let was = h.base in omega (arith, base, was);
      out = let was = h.out in omega (arith, out, was, longer);
      few = omega (arith, less, longer);
      count = let a = length-append pins (pin ∷ []) in let n = h.count in omega (arith, a, longer, n);
      each = λ c l live. shows s word (pins ++ pin ∷ []) c l (by c l (get_last schedule.calls (begin (length schedule.order)) c l live.at) live.live);
    } where
      by : (c : ℕ) (l : Live) → (slice_get schedule.calls c ≡ Some l) ⊎ ((c ≡ length schedule.calls) × (begin (length schedule.order) ≡ l)) → l.done ≡ false → Has s word (pins ++ pin ∷ []) c l
      by c l (inl at) live = let had = had_by s word b pins schedule h c l (record { at = at; live = live }) in (had.0, get_front pins pin c had.0 had.1, had.2)
      by c l (inr new) live = (pin, get_end pins pin c (new.0 ∙ sym h.count), subst (λ (x : Live). IsLeave s word (start_shown pin) x.start) new.1 may)

pub readers_begun : (s : BoardScript) (word : TableId) (c : ℕ) (b d : Books) (pins : List (Option Pin)) (pin : Option Pin) (old new : Booked) → AreReaders s word b pins old.schedule → length old.schedule.calls < 1000000 → Made (B c) old new → d.current.base ≡ b.current.base → out_of d ≤ out_of b + 2
    → IsLeave s word (start_shown pin) (length old.schedule.order) → AreReaders s word d (pins ++ pin ∷ []) new.schedule
readers_begun s word c b d pins pin old new h less made base out may = subst (λ (x : Schedule). AreReaders s word d (pins ++ pin ∷ []) x) (sym made.schedule) (begun s word b d pins pin old.schedule h less base out may)

-- one call gets a new start, after all commits, and stays live
restarted : (s : BoardScript) (word : TableId) (c : ℕ) (f : Live → Live) (b d : Books) (pins : List (Option Pin)) (pin : Option Pin) (old new : Schedule) → AreReaders s word b pins old → (live : IsLiveCall old c) → new.calls ≡ change_live (slice_get old.calls c) f old.calls c
    → new.order ≡ old.order → (f live.0).start ≡ length old.order → d.current.base ≡ b.current.base → out_of d ≤ out_of b → IsLeave s word (start_shown pin) (length old.order) → AreReaders s word d (slice_set pins c pin) new
restarted s word c f b d pins pin old new h live calls order start base out may =
    let set : new.calls ≡ slice_set old.calls c (f live.0) = calls ∙ changed_at old.calls c f live.0 live.1.at in
    let same : length new.calls ≡ length old.calls = ap length set ∙ length-set old.calls c (f live.0) in record {
      base = let was = h.base in let n = ap length order in omega (arith, base, was, n);
      out = let was = h.out in omega (arith, out, was, same);
      few = let was = h.few in omega (arith, was, same);
      count = length-set pins c pin ∙ (h.count ∙ sym same);
      each = λ e x alive. shows s word (slice_set pins c pin) e x (by e x (get_set old.calls c e (f live.0) x (ap (λ ls. slice_get ls e) (sym set) ∙ alive.at)) alive.live);
    } where
      by : (e : ℕ) (x : Live) → ((e ≡ c) × (f live.0 ≡ x)) ⊎ ((e ≡ c → ⊥) × (slice_get old.calls e ≡ Some x)) → x.done ≡ false → Has s word (slice_set pins c pin) e x
      by e x (inl new) alive =
          let had = had_by s word b pins old h c live.0 live.1 in (
            pin,
            subst (λ n. slice_get (slice_set pins c pin) n ≡ Some pin) (sym new.0) (set_there pins c pin had.0 had.1),
            subst (λ (y : Live). IsLeave s word (start_shown pin) y.start) new.1 (subst (λ n. IsLeave s word (start_shown pin) n) (sym start) may),
          )
      by e x (inr other) alive = let had = had_by s word b pins old h e x (record { at = other.1; live = alive }) in (had.0, set_apart pins c e pin other.0 ∙ had.1, had.2)

readers_again : (s : BoardScript) (word : TableId) (c : ℕ) (b d : Books) (pins : List (Option Pin)) (pin : Option Pin) (old new : Booked) → AreReaders s word b pins old.schedule → Made (A c) old new → d.current.base ≡ b.current.base → out_of d ≤ out_of b
    → IsLeave s word (start_shown pin) (length old.schedule.order) → AreReaders s word d (slice_set pins c pin) new.schedule
readers_again s word c b d pins pin old new h made base out may =
    restarted s word c (again (length old.schedule.order) Plain) b d pins pin old.schedule new.schedule h (round_live old Plain c made.allowed) (ap (λ (x : Schedule). x.calls) made.schedule) (ap (λ (x : Schedule). x.order) made.schedule) refl base out may

readers_moved : (s : BoardScript) (word : TableId) (c : ℕ) (b d : Books) (pins : List (Option Pin)) (pin : Option Pin) (old new : Booked) → AreReaders s word b pins old.schedule → Made (M c) old new → d.current.base ≡ b.current.base → out_of d ≤ out_of b
    → IsLeave s word (start_shown pin) (length old.schedule.order) → AreReaders s word d (slice_set pins c pin) new.schedule
readers_moved s word c b d pins pin old new h made base out may =
    restarted s word c (again (length old.schedule.order) Moved) b d pins pin old.schedule new.schedule h (round_live old Moved c made.allowed) (ap (λ (x : Schedule). x.calls) made.schedule) (ap (λ (x : Schedule). x.order) made.schedule) refl base out may

-- one call is done, and its readers go
ended : (s : BoardScript) (word : TableId) (c : ℕ) (f : Live → Live) (b d : Books) (pins : List (Option Pin)) (old new : Schedule) → AreReaders s word b pins old → (live : IsLiveCall old c) → new.calls ≡ change_live (slice_get old.calls c) f old.calls c
    → length old.order ≤ length new.order → (f live.0).done ≡ true → d.current.base ≡ b.current.base → out_of d ≤ out_of b → AreReaders s word d (slice_set pins c None) new
ended s word c f b d pins old new h live calls longer done base out =
    let set : new.calls ≡ slice_set old.calls c (f live.0) = calls ∙ changed_at old.calls c f live.0 live.1.at in
    let same : length new.calls ≡ length old.calls = ap length set ∙ length-set old.calls c (f live.0) in record {
      base = let was = h.base in omega (arith, base, was, longer);
      out = let was = h.out in omega (arith, out, was, same);
      few = let was = h.few in omega (arith, was, same);
      count = length-set pins c None ∙ (h.count ∙ sym same);
      each = λ e x alive. shows s word (slice_set pins c None) e x (by e x (get_set old.calls c e (f live.0) x (ap (λ ls. slice_get ls e) (sym set) ∙ alive.at)) alive.live);
    } where
      by : (e : ℕ) (x : Live) → ((e ≡ c) × (f live.0 ≡ x)) ⊎ ((e ≡ c → ⊥) × (slice_get old.calls e ≡ Some x)) → x.done ≡ false → Has s word (slice_set pins c None) e x
      by e x (inl new) alive = let both : true ≡ false = sym done ∙ (ap (λ (y : Live). y.done) new.1 ∙ alive) in absurd (search (rules, both))
      by e x (inr other) alive = let had = had_by s word b pins old h e x (record { at = other.1; live = alive }) in (had.0, set_apart pins c e None other.0 ∙ had.1, had.2)

readers_committed : (s : BoardScript) (word : TableId) (c : ℕ) (b d : Books) (pins : List (Option Pin)) (old new : Booked) → AreReaders s word b pins old.schedule → Made (C c) old new → d.current.base ≡ b.current.base → out_of d ≤ out_of b → AreReaders s word d (slice_set pins c None) new.schedule
readers_committed s word c b d pins old new h made base out =
    let more = length-append old.schedule.order (c ∷ []) in let n = ap (λ (x : Schedule). length x.order) made.schedule in
    ended s word c finish b d pins old.schedule new.schedule h (commit_live old None c made.allowed) (ap (λ (x : Schedule). x.calls) made.schedule) (omega (arith, more, n)) refl base out

readers_decided : (s : BoardScript) (word : TableId) (c : ℕ) (b d : Books) (pins : List (Option Pin)) (old new : Booked) → AreReaders s word b pins old.schedule → Made (X c) old new → d.current.base ≡ b.current.base → out_of d ≤ out_of b → AreReaders s word d (slice_set pins c None) new.schedule
readers_decided s word c b d pins old new h made base out =
    let more = length-append old.schedule.order (c ∷ []) in let n = ap (λ (x : Schedule). length x.order) made.schedule in
    ended s word c (λ l. finish (again (length old.schedule.order) Exclusive l)) b d pins old.schedule new.schedule h (commit_live old (Some 0) c made.allowed) (ap (λ (x : Schedule). x.calls) made.schedule) (omega (arith, more, n)) refl base out

readers_answered : (s : BoardScript) (word : TableId) (c : ℕ) (b d : Books) (pins : List (Option Pin)) (old new : Booked) → AreReaders s word b pins old.schedule → Made (R c) old new → d.current.base ≡ b.current.base → out_of d ≤ out_of b → AreReaders s word d (slice_set pins c None) new.schedule
readers_answered s word c b d pins old new h made base out =
    let live = live_at old.schedule c _ made.allowed in let n = ap (λ (x : Schedule). length x.order) made.schedule in
    ended s word c finish b d pins old.schedule new.schedule h (live.0, live.1) (ap (λ (x : Schedule). x.calls) made.schedule) (omega (arith, n)) refl base out

-- one event ends a live call
readers_ended : (s : BoardScript) (word : TableId) (c : ℕ) (b d : Books) (pins : List (Option Pin)) (old new : Booked) → AreReaders s word b pins old.schedule → Ends c old new → d.current.base ≡ b.current.base → out_of d ≤ out_of b → AreReaders s word d (slice_set pins c None) new.schedule
readers_ended s word c b d pins old new h (inl made) base out = readers_committed s word c b d pins old new h made base out
readers_ended s word c b d pins old new h (inr (inl made)) base out = readers_decided s word c b d pins old new h made base out
readers_ended s word c b d pins old new h (inr (inr made)) base out = readers_answered s word c b d pins old new h made base out

-- a call is repaired or moves, and ends in the same step
readers_gone : (s : BoardScript) (word : TableId) (c : ℕ) (b d : Books) (pins : List (Option Pin)) (pin : Option Pin) (old mid new : Booked) → AreReaders s word b pins old.schedule → Made (A c) old mid ⊎ Made (M c) old mid → Ends c mid new
    → IsLeave s word (start_shown pin) (length old.schedule.order) → d.current.base ≡ b.current.base → out_of d ≤ out_of b → AreReaders s word d (slice_set pins c None) new.schedule
readers_gone s word c b d pins pin old mid new h round ends may base out =
    subst (λ (xs : List (Option Pin)). AreReaders s word d xs new.schedule) (set-set pins c pin None) (readers_ended s word c b d (slice_set pins c pin) mid new (by round) ends base out)
  where
    by : Made (A c) old mid ⊎ Made (M c) old mid → AreReaders s word b (slice_set pins c pin) mid.schedule
    by (inl made) = readers_again s word c b b pins pin old mid h made refl (omega arith) may
    by (inr made) = readers_moved s word c b b pins pin old mid h made refl (omega arith) may

-- an attempt
pub readers_tried : (s : BoardScript) (word : TableId) (c : ℕ) (answer : Answer) (b d : Books) (pins : List (Option Pin)) (pin : Option Pin) (old new : Booked) → AreReaders s word b pins old.schedule → Tries c answer old new → IsLeave s word (start_shown pin) (length old.schedule.order) → d.current.base ≡ b.current.base → out_of d ≤ out_of b
    → AreReaders s word d (pins_after answer c pin pins) new.schedule
readers_tried s word c (Committed n) b d pins pin old new h (inl made, at) may base out = readers_committed s word c b d pins old new h made base out
readers_tried s word c (Committed n) b d pins pin old new h (inr (inl made), at) may base out = readers_decided s word c b d pins old new h made base out
readers_tried s word c (Committed n) b d pins pin old new h (inr (inr both), at) may base out = readers_gone s word c b d pins pin old both.mid new h (inr both.moved) (inl both.committed) may base out
readers_tried s word c (Answered n) b d pins pin old new h (inl (made, at)) may base out = readers_answered s word c b d pins old new h made base out
readers_tried s word c (Answered n) b d pins pin old new h (inr (both, at)) may base out = readers_gone s word c b d pins pin old both.mid new h (inr both.moved) (inr (inr both.answered)) may base out
readers_tried s word c Repaired b d pins pin old new h made may base out = readers_again s word c b d pins pin old new h made base out may
readers_tried s word c GoesUp b d pins pin old new h moves may base out = readers_moved s word c b d pins pin old new h moves.made base out may
readers_tried s word c Lost b d pins pin old new h same may base out = readers_same s word b d pins old.schedule new.schedule same.schedule base out h

-- a call that a worker has left
pub readers_brought : (s : BoardScript) (word : TableId) (c : ℕ) (b d : Books) (pins : List (Option Pin)) (pin : Option Pin) (old new : Booked) → AreReaders s word b pins old.schedule → Brings c old new → IsLeave s word (start_shown pin) (length old.schedule.order) → d.current.base ≡ b.current.base → out_of d ≤ out_of b
    → AreReaders s word d (slice_set pins c None) new.schedule
readers_brought s word c b d pins pin old new h (inl ends) may base out = readers_ended s word c b d pins old new h ends base out
readers_brought s word c b d pins pin old new h (inr (mid, round, ends)) may base out = readers_gone s word c b d pins pin old mid new h round ends may base out

-- the entry of a live call
pub pin_there : (s : BoardScript) (word : TableId) (b : Books) (schedule : Schedule) (pins : List (Option Pin)) (c : ℕ) → AreReaders s word b pins schedule → IsLiveCall schedule c → c < length pins
pin_there s word b schedule pins c h live = let had = had_by s word b pins schedule h c live.0 live.1 in slice_get_within pins c had.0 had.1

-- as it is read
pub pin_leave : (s : BoardScript) (word : TableId) (b : Books) (schedule : Schedule) (pins : List (Option Pin)) (c : ℕ) (pin : Option Pin) → AreReaders s word b pins schedule → slice_get pins c ≡ Some pin → (l : Live) → IsLive schedule c l → IsLeave s word (start_shown pin) l.start
pin_leave s word b schedule pins c pin h at l live =
    let had = had_by s word b pins schedule h c l live in
    let both : Some had.0 ≡ Some pin = sym had.1 ∙ at in
    let same : had.0 ≡ pin = search (rules, both) in
    subst (λ (o : Option Pin). IsLeave s word (start_shown o) l.start) same had.2

-- a call that an attempt ended or gave a new start was live
pub tried_live : (c : ℕ) (answer : Answer) (old new : Booked) → Tries c answer old new → (answer ≡ Lost → ⊥) → IsLiveCall old.schedule c
tried_live c (Committed n) old new (inl made, at) stays = commit_live old None c made.allowed
tried_live c (Committed n) old new (inr (inl made), at) stays = commit_live old (Some 0) c made.allowed
tried_live c (Committed n) old new (inr (inr both), at) stays = round_live old Moved c both.moved.allowed
tried_live c (Answered n) old new (inl (made, at)) stays = let live = live_at old.schedule c _ made.allowed in (live.0, live.1)
tried_live c (Answered n) old new (inr (both, at)) stays = round_live old Moved c both.moved.allowed
tried_live c Repaired old new made stays = round_live old Plain c made.allowed
tried_live c GoesUp old new moves stays = round_live old Moved c moves.made.allowed
tried_live c Lost old new same stays = absurd (stays refl)

-- a pin of a start that is told in other words
pub leave_at : (s : BoardScript) (word : TableId) (shown : Option ℕ) (n m : ℕ) → m ≡ n → IsLeave s word shown n → IsLeave s word shown m
leave_at s word shown n m e may = subst (λ k. IsLeave s word shown k) (sym e) may

-- what an attempt gives back starts after all commits
pub repair_given : (s : BoardScript) (word : TableId) (c from : ℕ) (answer : Answer) (r : Option Repairing) (old new : Booked) (shown : Option ℕ) → GivesRepair c from answer r new → Tries c answer old new → answer ≡ Repaired → IsLeave s word shown (length old.schedule.order) → IfSome r (λ x. IsLeave s word shown x.start.number)
repair_given s word c from answer None old new shown gives tries e may = tt
repair_given s word c from answer (Some x) old new shown gives tries e may =
    let g = subst (λ (a : Answer). GivesRepair c from a (Some x) new) e gives in
    let made = subst (λ (a : Answer). Tries c a old new) e tries in
    leave_at s word shown (length old.schedule.order) x.start.number (g.2.0 ∙ ap (λ (y : Schedule). length y.order) made.schedule) may

pub moved_given : (s : BoardScript) (word : TableId) (c : ℕ) (answer : Answer) (w : Option Waiting) (old new : Booked) (shown : Option ℕ) → GivesMoved c answer w new → Tries c answer old new → answer ≡ GoesUp → IsLeave s word shown (length old.schedule.order) → IfSome w (λ x. IsLeave s word shown x.start.number)
moved_given s word c answer None old new shown gives tries e may = tt
moved_given s word c answer (Some x) old new shown gives tries e may =
    let g = subst (λ (a : Answer). GivesMoved c a (Some x) new) e gives in
    let moves = subst (λ (a : Answer). Tries c a old new) e tries in
    leave_at s word shown (length old.schedule.order) x.start.number (g.1.0 ∙ ap (λ (y : Schedule). length y.order) moves.made.schedule) may

-- the next call is one of those that a board may have
pub few_calls : (s : BoardScript) (b : Booked) (call : ℕ) → b.script ≡ script_in s → call ≡ length b.schedule.calls → call < length b.script.calls → length s.calls ≤ 1000000 → length b.schedule.calls < 1000000
few_calls s b call is at less few = let same = ap (λ (x : CompiledScript). length x.calls) is in omega (arith, same, at, less, few)

-- Readers

-- one may be admitted at the number of commits, maybe after another one
pub may_admit : (s : BoardScript) (word : TableId) (b d : Books) (pins : List (Option Pin)) (schedule : Schedule) (n : ℕ) → AreReaders s word b pins schedule → n ≡ length schedule.order → d.current.base ≡ b.current.base → out_of d ≤ out_of b + 1 → MayAdmit d n
may_admit s word b d pins schedule n h at base out = record {
  base = let was = h.base in omega (arith, base, was, at);
  room = let was = h.out in let few = h.few in omega (arith, out, was, few);
}

pub count_one : (o : Option ℕ) → count o ≤ 1
count_one None = omega arith
count_one (Some start) = omega arith

-- no more readers are left by an attempt: two came, and those of the old start or the new ones went
out_tried : (answer : Answer) (a b d last left second old own : ℕ) → b ≡ a + last + second → d + firsts_gone answer left + own + seconds_gone answer old second ≡ b → last ≤ own → ((answer ≡ Lost → ⊥) → second ≤ old) → d ≤ a
out_tried (Committed n) a b d last left second old own came went most less = omega (arith, came, went, most)
out_tried (Answered n) a b d last left second old own came went most less = omega (arith, came, went, most)
out_tried Repaired a b d last left second old own came went most less = let fits = less (λ e. absurd (cc e)) in omega (arith, came, went, most, fits)
out_tried GoesUp a b d last left second old own came went most less = let fits = less (λ e. absurd (cc e)) in omega (arith, came, went, most, fits)
out_tried Lost a b d last left second old own came went most less = omega (arith, came, went, most)

-- a reader who has a live call's second pin gives way to another one
pub second_most : (s : BoardScript) (word : TableId) (b : Books) (pins : List (Option Pin)) (schedule : Schedule) (c : ℕ) (old : Option Pin) (new : Option ℕ) → AreReaders s word b pins schedule → (live : IsLiveCall schedule c) → slice_get pins c ≡ Some old → IfSome new (λ _. NeedPins s word) → count new ≤ count (start_shown old)
second_most s word b pins schedule c old new h live at needed =
    let had = had_by s word b pins schedule h c live.0 live.1 in
    let both : Some had.0 ≡ Some old = sym had.1 ∙ at in
    let same : had.0 ≡ old = search (rules, both) in
    count_most s word (live.0).start new (start_shown old) needed (subst (λ (o : Option Pin). IsLeave s word (start_shown o) (live.0).start) same had.2)

-- a pin of the number of all commits
pub leave_last : (s : BoardScript) (word : TableId) (shown : Option ℕ) (b now : Booked) (commits : ℕ) → b ≡ now → commits ≡ length b.schedule.order → IsLeave s word shown (length now.schedule.order) → IsLeave s word shown commits
leave_last s word shown b now commits e is may = leave_at s word shown (length now.schedule.order) commits (is ∙ ap (λ (x : Booked). length x.schedule.order) e) may

pub leave_back : (s : BoardScript) (word : TableId) (shown : Option ℕ) (b now : Booked) (commits : ℕ) → b ≡ now → commits ≡ length b.schedule.order → IsLeave s word shown commits → IsLeave s word shown (length now.schedule.order)
leave_back s word shown b now commits e is may = leave_at s word shown commits (length now.schedule.order) (sym (is ∙ ap (λ (x : Booked). length x.schedule.order) e)) may

-- of the start of a view, which queries leave as it was
pub leave_shown : (s : BoardScript) (word : TableId) (shown : Option ℕ) (before after : Sight) (n : ℕ) → IsSameView before after → before.start ≡ n → IsLeave s word shown after.start → IsLeave s word shown n
leave_shown s word shown before after n same at may = leave_at s word shown after.start n (sym (same.start ∙ at)) may

pub leave_in : (s : BoardScript) (word : TableId) (shown : Option ℕ) (b now : Booked) → b ≡ now → IsLeave s word shown (length now.schedule.order) → IsLeave s word shown (length b.schedule.order)
leave_in s word shown b now e may = leave_last s word shown b now (length b.schedule.order) e refl may

-- A hold for a call that its worker had given up

-- what is told of one result is told of another one with the same answer
pub then_ok : {T P : Type 0} (f : T → Answer) (g : P → Answer) (Q : Answer → Type 0) (tried : Result T NoMemory) (result : Result P NoMemory) → IfOk tried (λ t. IfOk result (λ r. g r ≡ f t) × OnErr result ⊥) → OnErr tried (OnOk result ⊥) → IfOk tried (λ t. Q (f t)) → IfOk result (λ r. Q (g r))
then_ok f g Q (Ok t) (Ok r) both failed is = subst Q (sym both.0) is
then_ok f g Q (Ok t) (Err e) both failed is = tt
then_ok f g Q (Err d) (Ok r) both failed is = absurd failed
then_ok f g Q (Err d) (Err e) both failed is = tt

pub then_err : {T P : Type 0} (f : T → Answer) (g : P → Answer) (Q : Type 0) (tried : Result T NoMemory) (result : Result P NoMemory) → IfOk tried (λ t. IfOk result (λ r. g r ≡ f t) × OnErr result ⊥) → OnErr tried Q → OnErr result Q
then_err f g Q (Ok t) (Ok r) both is = tt
then_err f g Q (Ok t) (Err e) both is = absurd both.1
then_err f g Q (Err d) (Ok r) both is = tt
then_err f g Q (Err d) (Err e) both is = is

-- what ends the hold may take for given
pub there_after : {T : Type 0} (s : BoardScript) (word : TableId) (c : ℕ) (f : T → Answer) (tried : Result T NoMemory) (b : Books) (pins : List (Option Pin)) (old new : Booked) → AreReaders s word b pins old.schedule → IfOk tried (λ t. Tries c (f t) old new) → IfOk tried (λ t. (f t ≡ Lost → ⊥) → c < length pins)
there_after s word c f (Ok t) b pins old new h tries = λ stays. pin_there s word b old.schedule pins c h (tried_live c (f t) old new tries stays)
there_after s word c f (Err e) b pins old new h tries = tt

pub repairs_after : {T : Type 0} (s : BoardScript) (word : TableId) (c from : ℕ) (f : T → Answer) (r : T → Option Repairing) (tried : Result T NoMemory) (old new : Booked) (shown : Option ℕ) → IfOk tried (λ t. GivesRepair c from (f t) (r t) new) → IfOk tried (λ t. Tries c (f t) old new) → IsLeave s word shown (length old.schedule.order)
    → IfOk tried (λ t. f t ≡ Repaired → IfSome (r t) (λ x. IsLeave s word shown x.start.number))
repairs_after s word c from f r (Ok t) old new shown gives tries may = λ e. repair_given s word c from (f t) (r t) old new shown gives tries e may
repairs_after s word c from f r (Err d) old new shown gives tries may = tt

pub moves_after : {T : Type 0} (s : BoardScript) (word : TableId) (c : ℕ) (f : T → Answer) (w : T → Option Waiting) (tried : Result T NoMemory) (old new : Booked) (shown : Option ℕ) → IfOk tried (λ t. GivesMoved c (f t) (w t) new) → IfOk tried (λ t. Tries c (f t) old new) → IsLeave s word shown (length old.schedule.order)
    → IfOk tried (λ t. f t ≡ GoesUp → IfSome (w t) (λ x. IsLeave s word shown x.start.number))
moves_after s word c f w (Ok t) old new shown gives tries may = λ e. moved_given s word c (f t) (w t) old new shown gives tries e may
moves_after s word c f w (Err d) old new shown gives tries may = tt

-- a new second pin gives way to the old one
second_fits : (s : BoardScript) (word : TableId) (b : Books) (pins : List (Option Pin)) (old new : Booked) (c : ℕ) (answer : Answer) (second : Option ℕ) → AreReaders s word b pins old.schedule → Tries c answer old new → IfSome second (λ n. NeedPins s word) → (answer ≡ Lost → ⊥) → count second ≤ second_at pins c
second_fits s word b pins old new c answer second h tries need stays =
    let live = tried_live c answer old new tries stays in
    second_most s word b pins old.schedule c (get_or pins c None) second h live (slice_get-get_or pins c None (pin_there s word b old.schedule pins c h live)) need

-- the readers after it
pub readers_after : {P : Type 0} (s : BoardScript) (word : TableId) (c : ℕ) (g : P → Answer) (result : Result P NoMemory) (b mid d : Books) (pins after : List (Option Pin)) (second own : Option Pin) (last left : Option ℕ) (start : ℕ) (old new : Booked) → AreReaders s word b pins old.schedule
    → mid.current.base ≡ b.current.base → out_of mid ≡ out_of b + count last + count (start_shown second) → d.current.base ≡ mid.current.base
    → IfSome last (λ n. NeedPins s word) → IfSome (start_shown second) (λ n. NeedPins s word) → IsLeave s word (start_shown own) start → IsLeave s word (start_shown second) (length old.schedule.order)
    → IfOk result (λ r. Tries c (g r) old new) → OnErr result (IsSame old new)
    → IfOk result (λ r. after ≡ pins_after (g r) c second pins) → OnErr result (after ≡ pins)
    → IfOk result (λ r. out_of d + firsts_gone (g r) (count left) + count (start_shown own) + seconds_gone (g r) (second_at pins c) (count (start_shown second)) ≡ out_of mid)
    → OnErr result (out_of d + count (start_shown own) + count (start_shown second) + count left ≡ out_of mid)
    → AreReaders s word d after new.schedule
readers_after s word c g (Ok r) b mid d pins after second own last left start old new h base came base_after need_last need_second may_own may_second tries same is kept went gone =
    subst (λ (xs : List (Option Pin)). AreReaders s word d xs new.schedule) (sym is)
    (readers_tried s word c (g r) b d pins second old new h tries may_second (base_after ∙ base)
    (out_tried (g r) (out_of b) (out_of mid) (out_of d) (count last) (count left) (count (start_shown second)) (second_at pins c) (count (start_shown own)) came went (count_most s word start last (start_shown own) need_last may_own) (second_fits s word b pins old new c (g r) (start_shown second) h tries need_second)))
readers_after s word c g (Err e) b mid d pins after second own last left start old new h base came base_after need_last need_second may_own may_second tries same is kept went gone =
    subst (λ (xs : List (Option Pin)). AreReaders s word d xs new.schedule) (sym kept) (readers_same s word b d pins old.schedule new.schedule same.schedule (base_after ∙ base) (let most = count_most s word start last (start_shown own) need_last may_own in omega (arith, came, gone, most)) h)

-- Low.
use Rattle.std.proofs.Common.{◌≡◌, ◌≤◌, ℕ, List, [], ◌∷◌, ◌++◌, Option, Some, None, map, length, max, refl, sym, ap, subst, ◌∙◌, arith}
use Rattle.std.proofs.Math.Nat.{max-le}
use Rattle.mv_journal.specs.declared.event.Event.{Event}
use Rattle.mv_journal.specs.declared.event.Event.TheVariants.{G}
use Rattle.mv_lawful.specs.Batch.{Batch}
use Rattle.mv_lawful.specs.Lawful.{Schedule, next_low, floor}
use Rattle.mv_lawful.specs.Lawful.{oldest as oldest_of}
use Rattle.mv_lawful.proofs.Lows.{low_never_falls, oldest_most}
use Rattle.mv_script.specs.declared.script.CompiledScript.{CompiledScript}
use Rattle.mv_core.specs.declared.progress.Progress.{Progress}
use Rattle.mv_script.specs.Scripts.{batch_of}
use Rattle.mv_core.specs.Calls.{live_of}
use Rattle.mv_core.specs.Lives.{live_numbers, least_start}
use Rattle.mv_core.specs.Books.{Booked, IsBookKept, batch_in}
use Rattle.mv_core.specs.declared.book.Book.TheInside.{Inside}
use Rattle.mv_core.specs.contracts.book.Book.{the_view}
use Rattle.mv_core.proofs.Lives.{oldest_is}
use Rattle.mv_core.proofs.Keeping.{the_schedule, kept_event}

pub kept_low : (s : CompiledScript) (order : List ℕ) (low : ℕ) (answered : List ℕ) (next : ℕ) (ps : List Progress) (journal longer : List Event)
    → IsBookKept s (the_schedule order low answered (map live_of ps)) ps journal → next ≡ next_low (batch_of s) (the_schedule order low answered (map live_of ps)) → longer ≡ journal ++ G ∷ []
    → IsBookKept s (the_schedule order next answered (map live_of ps)) ps longer
kept_low s order low answered next ps journal longer k is adds = kept_event s _ _ ps ps journal longer G k refl (ap (λ n. the_schedule order n answered (map live_of ps)) is) adds k.tells

-- what the live calls tell
pub oldest_told : (i : Inside) (old : Booked) (n o : ℕ) → the_view i ≡ old → i.live ≡ live_numbers (map live_of i.calls.items) → n ≡ length old.schedule.order
    → o ≡ least_start n (map live_of i.calls.items) i.live → o ≡ oldest_of (length old.schedule.order) old.schedule.calls
oldest_told i old n o is live count least =
    least ∙ (ap (least_start n (map live_of i.calls.items)) live
    ∙ (sym (oldest_is n (map live_of i.calls.items))
    ∙ (ap (λ x. oldest_of x (map live_of i.calls.items)) count ∙ ap (λ (b : Booked). oldest_of (length old.schedule.order) b.schedule.calls) is)))

-- up to which commit no live call needs changes
pub needless_told : (i : Inside) (old : Booked) (o m : ℕ) → the_view i ≡ old → o ≡ oldest_of (length old.schedule.order) old.schedule.calls → m ≡ max i.low o
    → m ≡ max i.low (oldest_of (length i.order.items) (map live_of i.calls.items))
needless_told i old o m is oldest most = most ∙ ap (max i.low) (oldest ∙ ap (λ (b : Booked). oldest_of (length b.schedule.order) b.schedule.calls) (sym is))

-- what a collection finds
pub low_told : (i : Inside) (old : Booked) (n o f m k : ℕ) → the_view i ≡ old → n ≡ length old.schedule.order → o ≡ oldest_of (length old.schedule.order) old.schedule.calls
    → f ≡ floor n i.script.options.horizon → m ≡ max o f → k ≡ max i.low m → k ≡ next_low (batch_in old) old.schedule
low_told i old n o f m k is count oldest past most all =
    all ∙ (ap (max i.low) (most ∙ (ap (λ x. max x f) oldest ∙ ap (max (oldest_of (length old.schedule.order) old.schedule.calls)) (past ∙ ap (λ x. floor x i.script.options.horizon) count)))
    ∙ ap (λ (b : Booked). max b.schedule.low (max (oldest_of (length old.schedule.order) old.schedule.calls) (floor (length old.schedule.order) b.script.options.horizon))) is)

-- low rises, and not past the commits
pub low_within : (w : Batch) (s : Schedule) (next : ℕ) → s.low ≤ length s.order → next ≡ next_low w s → (s.low ≤ next) × (next ≤ length s.order)
low_within w s next le is = (
  subst (λ n. s.low ≤ n) (sym is) (low_never_falls w s G),
  subst (λ n. n ≤ length s.order) (sym is) (max-le le (max-le (oldest_most (length s.order) s.calls) (past w.options.horizon))),
) where
  past : (h : Option ℕ) → floor (length s.order) h ≤ length s.order
  past None = omega arith
  past (Some h) = omega arith

pub next_within : (s : CompiledScript) (order : List ℕ) (low : ℕ) (answered : List ℕ) (next : ℕ) (ps : List Progress) → low ≤ length order → next ≡ next_low (batch_of s) (the_schedule order low answered (map live_of ps)) → (low ≤ next) × (next ≤ length order)
next_within s order low answered next ps le is = low_within (batch_of s) (the_schedule order low answered (map live_of ps)) next le is

-- it is past what no live call needs
pub next_past : (s : CompiledScript) (order : List ℕ) (low : ℕ) (answered : List ℕ) (next : ℕ) (ps : List Progress) → next ≡ next_low (batch_of s) (the_schedule order low answered (map live_of ps)) → max low (oldest_of (length order) (map live_of ps)) ≤ next
next_past s order low answered next ps is = by (oldest_of (length order) (map live_of ps)) (floor (length order) s.options.horizon) is where
  by : (o f : ℕ) → next ≡ max low (max o f) → max low o ≤ next
  by o f is = omega (arith, is)

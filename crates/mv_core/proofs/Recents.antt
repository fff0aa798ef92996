-- The changes of the last commits, and what they say of a call.
use Rattle.std.proofs.Common.{◌≡◌, ℕ, ◌+◌, ◌-◌, ◌<◌, ◌≤◌, max, Bool, true, false, not, List, [], ◌∷◌, ◌++◌, Option, Some, None, map, length, drop, slice_set, is_some, refl, sym, ap, subst, ◌∙◌, arith, length-append, rules}
use Rattle.std.specs.Prelude.{slice_get, IfSome, IfNone}
use Rattle.std.proofs.lemmas.List.{drop-drop, drop-append-le, drop_all, length-drop, map-append, take_all}
use Rattle.mv_lawful.proofs.Lows.{oldest_most}
use Rattle.mv_lawful.proofs.Turns.{length_changes}
use Rattle.mv_values.specs.declared.calls.Reply.{Reply}
use Rattle.mv_record.specs.declared.record.Record.{Record}
use Rattle.mv_history.specs.declared.change.Change.{Change}
use Rattle.mv_history.specs.declared.change.Hit.{Hit}
use Rattle.mv_history.specs.Changes.{changes_between}
use Rattle.mv_history.specs.Hits.{first_hit}
use Rattle.mv_changes.specs.Commits.{Window}
use Rattle.mv_journal.specs.declared.event.Event.TheVariants.{C}
use Rattle.mv_lawful.specs.declared.fault.EventFault.TheVariants as fault
use Rattle.mv_lawful.specs.Batch.{Batch, tables_after, table_at, records_at, changes_after, since, hit_of}
use Rattle.mv_lawful.specs.Lawful.{Live, Schedule, oldest, is_stale, is_hit, unless, of_live, refusal}
use Rattle.mv_core.specs.declared.progress.Progress.{Progress}
use Rattle.mv_core.specs.declared.book.Book.TheInside.{Inside}
use Rattle.mv_core.specs.declared.book.Check.TheVariants as check
use Rattle.mv_core.specs.contracts.book.Book.{the_view}
use Rattle.mv_script.specs.Scripts.{batch_of}
use Rattle.mv_core.specs.Calls.{live_of, IsLive, IsFresh}
use Rattle.mv_core.specs.Lives.{live_numbers, least_start}
use Rattle.mv_core.specs.Books.{Booked, IsRecent, Remembers, IsAnswer, batch_in}
use Rattle.mv_lawful.proofs.Numbers.{changes_more}
use Rattle.mv_core.proofs.Lives.{oldest_below, oldest_begun, oldest_is, oldest_set}
use Rattle.mv_core.proofs.Keeping.{the_schedule, set_map, live_here}

pub recent_since : (w : Batch) (s : Schedule) (start : ℕ) (r : Window) → IsRecent w s r → r.low ≤ start → drop (start - r.low) r.commits ≡ since w s.order start
recent_since w s start r k le =
    ap (drop (start - r.low)) k.commits
    ∙ (drop-drop (start - r.low) r.low (changes_after w w.opening s.order) ∙ ap (λ n. drop n (changes_after w w.opening s.order)) whole) where
      whole : r.low + (start - r.low) ≡ start
      whole = omega (arith, le)

-- what is dropped is no more than all commits
recent_within : (w : Batch) (s : Schedule) (r : Window) → IsRecent w s r → r.low ≤ length s.order
recent_within w s r k =
    let le = oldest_most (length s.order) s.calls in
    let needed = k.needed in
    let low = k.within in
    omega (arith, le, needed, low)

pub recent_long : (w : Batch) (s : Schedule) (r : Window) → IsRecent w s r → r.low + length r.commits ≡ length s.order
recent_long w s r k =
    let kept : length r.commits ≡ length (changes_after w w.opening s.order) - r.low = ap length k.commits ∙ length-drop r.low (changes_after w w.opening s.order) in
    let all : length (changes_after w w.opening s.order) ≡ length s.order = length_changes w w.opening s.order in
    let within = recent_within w s r k in
    omega (arith, kept, all, within)

-- no more is dropped than what no live call needs
pub recent_below : (w : Batch) (s : Schedule) (n : ℕ) (r : Window) → IsRecent w s r → max s.low (oldest (length s.order) s.calls) ≤ n → r.low ≤ n
recent_below w s n r k past = let needed = k.needed in omega (arith, needed, past)

-- what a live call needs is kept, if it isn't stale
pub recent_needed : (w : Batch) (s : Schedule) (c : ℕ) (l : Live) (r : Window) → IsRecent w s r → IsLive s c l → s.low ≤ l.start → r.low ≤ l.start
recent_needed w s c l r k live fresh =
    let below = oldest_below (length s.order) c l s.calls live.at live.live in
    let needed = k.needed in
    omega (arith, below, needed, fresh)

-- Events

-- no call commits, and nothing is dropped
pub recent_same : (w : Batch) (order orders : List ℕ) (low : ℕ) (answered answers : List ℕ) (ls : List Live) (old new : Window) → IsRecent w (the_schedule order low answered ls) old → orders ≡ order → new.low ≡ old.low → new.commits ≡ old.commits
    → IsRecent w (the_schedule orders low answers ls) new
recent_same w order orders low answered answers ls old new k same from commits = subst (λ os. IsRecent w (the_schedule os low answers ls) new) (sym same) (record {
  within = k.within;
  from = subst (λ n. low ≤ n) (sym from) k.from;
  needed = subst (λ n. n ≤ max low (oldest (length order) ls)) (sym from) k.needed;
  commits = commits ∙ (k.commits ∙ ap (since w order) (sym from));
})

recent_rises : (w : Batch) (order : List ℕ) (low : ℕ) (answered : List ℕ) (ls ms : List Live) (r : Window) → IsRecent w (the_schedule order low answered ls) r → oldest (length order) ls ≤ oldest (length order) ms → IsRecent w (the_schedule order low answered ms) r
recent_rises w order low answered ls ms r k rises = record {
  within = k.within;
  from = k.from;
  needed = let needed = k.needed in omega (arith, needed, rises);
  commits = k.commits;
}

-- the next call begins
pub recent_begun : (w : Batch) (order : List ℕ) (low : ℕ) (answered : List ℕ) (ps : List Progress) (q : Progress) (r : Window) → IsRecent w (the_schedule order low answered (map live_of ps)) r → IsFresh (length order) q
    → IsRecent w (the_schedule order low answered (map live_of (ps ++ q ∷ []))) r
recent_begun w order low answered ps q r k fresh = recent_rises w order low answered (map live_of ps) (map live_of (ps ++ q ∷ [])) r k rises where
  rises : oldest (length order) (map live_of ps) ≤ oldest (length order) (map live_of (ps ++ q ∷ []))
  rises =
      subst (λ ls. oldest (length order) (map live_of ps) ≤ oldest (length order) ls) (sym (map-append live_of ps (q ∷ []) ∙ ap (λ l. map live_of ps ++ l ∷ []) fresh.live))
      (oldest_begun (length order) (map live_of ps))

call_rises : (n m c : ℕ) (ps : List Progress) (p q : Progress) → n ≤ m → slice_get ps c ≡ Some p → p.reply ≡ None → (is_some q.reply ≡ false → p.start ≤ q.start)
    → oldest n (map live_of ps) ≤ oldest m (map live_of (slice_set ps c q))
call_rises n m c ps p q le at going up =
    subst (λ ls. oldest n (map live_of ps) ≤ oldest m ls) (sym (set_map ps c q)) (oldest_set n m c (live_of p) (live_of q) (map live_of ps) le (live_here ps c p at) (ap is_some going) up)

-- a live call doesn't start earlier
pub recent_set : (w : Batch) (order : List ℕ) (low : ℕ) (answered : List ℕ) (c : ℕ) (ps : List Progress) (p q : Progress) (r : Window) → IsRecent w (the_schedule order low answered (map live_of ps)) r → slice_get ps c ≡ Some p → p.reply ≡ None
    → p.start ≤ q.start → IsRecent w (the_schedule order low answered (map live_of (slice_set ps c q))) r
recent_set w order low answered c ps p q r k at going up =
    recent_rises w order low answered (map live_of ps) (map live_of (slice_set ps c q)) r k (call_rises (length order) (length order) c ps p q (omega arith) at going (λ e. up))

-- a call commits
recent_commit : (w : Batch) (order orders : List ℕ) (low : ℕ) (answered : List ℕ) (c : ℕ) (ps : List Progress) (p q : Progress) (reply : Reply) (old new : Window) (changes : List Change)
    → IsRecent w (the_schedule order low answered (map live_of ps)) old → orders ≡ order ++ c ∷ [] → slice_get ps c ≡ Some p → p.reply ≡ None → q.reply ≡ Some reply
    → new.low ≡ old.low → new.commits ≡ old.commits ++ changes ∷ []
    → changes ≡ changes_between (table_at w order (length order)) (w.run c (table_at w order (length order))).tables
    → IsRecent w (the_schedule orders low answered (map live_of (slice_set ps c q))) new
recent_commit w order orders low answered c ps p q reply old new changes k more at going told from adds are = subst (λ os. IsRecent w (the_schedule os low answered (map live_of (slice_set ps c q))) new) (sym more) (record {
  within = let le = k.within in omega (arith, le, longer);
  from = subst (λ n. low ≤ n) (sym from) k.from;
  needed = let needed = k.needed in let up = rises in omega (arith, needed, up, from);
  commits =
      adds
      ∙ (ap (λ cs. cs ++ changes ∷ []) k.commits
      ∙ (sym (drop-append-le old.low all (changes ∷ []) (let le = recent_within w (the_schedule order low answered (map live_of ps)) old k in let n = length_changes w w.opening order in omega (arith, le, n)))
      ∙ (ap (λ cs. drop old.low (all ++ cs ∷ [])) own
      ∙ (ap (drop old.low) (sym (changes_more w w.opening order c)) ∙ ap (since w (order ++ c ∷ [])) (sym from)))));
}) where
  all : List (List Change)
  all = changes_after w w.opening order

  longer : length (order ++ c ∷ []) ≡ length order + 1
  longer = length-append order (c ∷ [])

  rises : oldest (length order) (map live_of ps) ≤ oldest (length (order ++ c ∷ [])) (map live_of (slice_set ps c q))
  rises = call_rises (length order) (length (order ++ c ∷ [])) c ps p q (omega (arith, longer)) at going (λ e. let is : true ≡ false = ap is_some (sym told) ∙ e in absurd (search (rules, is)))

  own : changes ≡ changes_between (tables_after w w.opening order) (w.run c (tables_after w w.opening order)).tables
  own = are ∙ ap (λ os. changes_between (tables_after w w.opening os) (w.run c (tables_after w w.opening os)).tables) (take_all (length order) order (omega arith))

-- no call is live after it, and all changes are dropped
recent_passed : (w : Batch) (orders : List ℕ) (low : ℕ) (answered : List ℕ) (ls : List Live) (new : Window) → low ≤ length orders → live_numbers ls ≡ [] → new.low ≡ length orders → new.commits ≡ [] → IsRecent w (the_schedule orders low answered ls) new
recent_passed w orders low answered ls new within none from dropped = record {
  within = within;
  from = omega (arith, within, from);
  needed = let all : oldest (length orders) ls ≡ length orders = oldest_is (length orders) ls ∙ ap (least_start (length orders) ls) none in omega (arith, from, all);
  commits = dropped ∙ sym (drop_all new.low (changes_after w w.opening orders) (let n = length_changes w w.opening orders in omega (arith, n, from)));
}

pub recent_remembered : (w : Batch) (order orders : List ℕ) (low : ℕ) (answered : List ℕ) (c number : ℕ) (ps : List Progress) (p q : Progress) (reply : Reply) (old new : Window) (changes : Option (List Change))
    → IsRecent w (the_schedule order low answered (map live_of ps)) old → orders ≡ order ++ c ∷ [] → slice_get ps c ≡ Some p → p.reply ≡ None → q.reply ≡ Some reply
    → number ≡ length order + 1 → Remembers number changes old new
    → IfNone changes (live_numbers (map live_of (slice_set ps c q)) ≡ [])
    → IfSome changes (λ told. told ≡ changes_between (table_at w order (length order)) (w.run c (table_at w order (length order))).tables)
    → IsRecent w (the_schedule orders low answered (map live_of (slice_set ps c q))) new
recent_remembered w order orders low answered c number ps p q reply old new None k more at going told is has none own =
    let longer : length orders ≡ length order + 1 = ap length more ∙ length-append order (c ∷ []) in
    recent_passed w orders low answered (map live_of (slice_set ps c q)) new (let le = k.within in omega (arith, le, longer)) none (has.0 ∙ (is ∙ sym longer)) has.1
recent_remembered w order orders low answered c number ps p q reply old new (Some changes) k more at going told is has none own =
    recent_commit w order orders low answered c ps p q reply old new changes k more at going told has.0 has.1 own

-- a call is answered
pub recent_answered : (w : Batch) (order : List ℕ) (low : ℕ) (answered answers : List ℕ) (c : ℕ) (ps : List Progress) (p q : Progress) (reply : Reply) (r : Window) → IsRecent w (the_schedule order low answered (map live_of ps)) r
    → slice_get ps c ≡ Some p → p.reply ≡ None → q.reply ≡ Some reply → IsRecent w (the_schedule order low answers (map live_of (slice_set ps c q))) r
recent_answered w order low answered answers c ps p q reply r k at going told =
    recent_same w order order low answered answers (map live_of (slice_set ps c q)) r r
    (recent_rises w order low answered (map live_of ps) (map live_of (slice_set ps c q)) r k
    (call_rises (length order) (length order) c ps p q (omega arith) at going (λ e. let is : true ≡ false = ap is_some (sym told) ∙ e in absurd (search (rules, is))))) refl refl refl

-- changes are dropped, up to a number that no live call needs
pub recent_trimmed : (w : Batch) (order : List ℕ) (low : ℕ) (answered : List ℕ) (next n : ℕ) (ls : List Live) (old new : Window) → IsRecent w (the_schedule order low answered ls) old → next ≤ length order → next ≤ n
    → n ≤ max next (oldest (length order) ls) → max low (oldest (length order) ls) ≤ n → new.low ≡ n → new.commits ≡ drop (n - old.low) old.commits → IsRecent w (the_schedule order next answered ls) new
recent_trimmed w order low answered next n ls old new k within le needed past from left = record {
  within = within;
  from = subst (λ m. next ≤ m) (sym from) le;
  needed = subst (λ m. m ≤ max next (oldest (length order) ls)) (sym from) needed;
  commits = left ∙ (recent_since w (the_schedule order low answered ls) n old k (recent_below w (the_schedule order low answered ls) n old k past) ∙ ap (since w order) (sym from));
}

-- The view

pub recent_seen : (i : Inside) (old : Booked) → the_view i ≡ old → IsRecent (batch_of i.script) (the_schedule i.order.items i.low i.answered.items (map live_of i.calls.items)) i.recent → IsRecent (batch_in old) old.schedule i.recent
recent_seen i old is k = subst (λ (b : Booked). IsRecent (batch_in b) b.schedule i.recent) is k

pub low_seen : (i : Inside) (old : Booked) → the_view i ≡ old → i.low ≡ old.schedule.low
low_seen i old is = ap (λ (b : Booked). b.schedule.low) is

-- a call that isn't stale
pub not_below : (s : Schedule) (l : Live) → is_stale s l ≡ false → s.low ≤ l.start
not_below s l fresh = grind (arith, fresh)

pub fresh_kept : (i : Inside) (old : Booked) (c : ℕ) (l : Live) → the_view i ≡ old → IsRecent (batch_of i.script) (the_schedule i.order.items i.low i.answered.items (map live_of i.calls.items)) i.recent
    → IsLive old.schedule c l → is_stale old.schedule l ≡ false → i.recent.low ≤ l.start
fresh_kept i old c l is k live fresh = recent_needed (batch_in old) old.schedule c l i.recent (recent_seen i old is k) live (not_below old.schedule l fresh)

-- Validation

-- why the commit of a live call is refused, if it is
commit_refusal : (w : Batch) (s : Schedule) (c : ℕ) (l : Live) (stale : Bool) (hit : Option Hit) → w.read_only c ≡ false → IsLive s c l → is_stale s l ≡ stale → hit_of w s.order l.start c ≡ hit
    → refusal w s (C c) ≡ unless (not stale) fault.Stale (unless (not (is_some hit)) fault.Conflict None)
commit_refusal w s c l stale hit writes live is found =
    ap (λ o. of_live o (λ m. unless (not (w.read_only c)) fault.Kind (unless (not (is_stale s m)) fault.Stale (unless (not (is_hit w s c m)) fault.Conflict None)))) live.at
    ∙ (ap (λ d. unless (not d) fault.Order (unless (not (w.read_only c)) fault.Kind (unless (not (is_stale s l)) fault.Stale (unless (not (is_hit w s c l)) fault.Conflict None)))) live.live
    ∙ (ap (λ r. unless (not r) fault.Kind (unless (not (is_stale s l)) fault.Stale (unless (not (is_hit w s c l)) fault.Conflict None))) writes
    ∙ (ap (λ b. unless (not b) fault.Stale (unless (not (is_hit w s c l)) fault.Conflict None)) is
    ∙ ap (λ o. unless (not stale) fault.Stale (unless (not (is_some o)) fault.Conflict None)) found)))

-- the first hit by the changes that are kept
hit_is : (w : Batch) (s : Schedule) (c n start : ℕ) (r : Window) (rs : List Record) → IsRecent w s r → n ≡ start → r.low ≤ start → rs ≡ records_at w s.order start c
    → first_hit (n + 1) (drop (n - r.low) r.commits) [] rs ≡ hit_of w s.order start c
hit_is w s c n start r rs k is le full =
    ap (λ m. first_hit (m + 1) (drop (m - r.low) r.commits) [] rs) is
    ∙ (ap (λ cs. first_hit (start + 1) cs [] rs) (recent_since w s start r k le)
    ∙ ap (first_hit (start + 1) (since w s.order start) []) full)

not_stale : (s : Schedule) (l : Live) → s.low ≤ l.start → is_stale s l ≡ false
not_stale s l le = grind (arith, le)

pub answers_free : (w : Batch) (s : Schedule) (c n : ℕ) (l : Live) (r : Window) (rs : List Record) → w.read_only c ≡ false → IsLive s c l → IsRecent w s r → n ≡ l.start → s.low ≤ l.start → rs ≡ records_at w s.order l.start c
    → first_hit (n + 1) (drop (n - r.low) r.commits) [] rs ≡ None → IsAnswer check.Free w s c l
answers_free w s c n l r rs writes live k is le full none = commit_refusal w s c l false None writes live (not_stale s l le) (sym (hit_is w s c n l.start r rs k is (recent_needed w s c l r k live le) full) ∙ none)

pub answers_hit : (w : Batch) (s : Schedule) (c n : ℕ) (l : Live) (r : Window) (rs : List Record) (h : Hit) → w.read_only c ≡ false → IsLive s c l → IsRecent w s r → n ≡ l.start → s.low ≤ l.start → rs ≡ records_at w s.order l.start c
    → first_hit (n + 1) (drop (n - r.low) r.commits) [] rs ≡ Some h → IsAnswer (check.Hit h.number h.commit) w s c l
answers_hit w s c n l r rs h writes live k is le full found = (commit_refusal w s c l false (Some h) writes live (not_stale s l le) hit, hit) where
  hit : hit_of w s.order l.start c ≡ Some h
  hit = sym (hit_is w s c n l.start r rs k is (recent_needed w s c l r k live le) full) ∙ found

pub answers_stale : (w : Batch) (s : Schedule) (c n low : ℕ) (l : Live) → w.read_only c ≡ false → IsLive s c l → n ≡ l.start → low ≡ s.low → n < low → IsAnswer (check.Stale n low) w s c l
answers_stale w s c n low l writes live is from lt = (commit_refusal w s c l true (hit_of w s.order l.start c) writes live below refl, is, from) where
  less : l.start < s.low
  less = omega (arith, is, from, lt)

  below : is_stale s l ≡ true
  below = grind (arith, less)

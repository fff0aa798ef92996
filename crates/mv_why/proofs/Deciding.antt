-- One step of the walk: the reason of the next record, and whether it is kept.
use Rattle.std.proofs.Common.{◌≡◌, ◌<◌, ◌≤◌, ℕ, ◌+◌, Bool, true, false, not, List, [], ◌∷◌, ◌++◌, Option, Some, None, length, take, refl, sym, ap, subst, ◌∙◌, arith, length-append}
use Rattle.std.specs.Prelude.{slice_get, is_none, is_some}
use Rattle.mv_record.specs.declared.record.Record.{Record}
use Rattle.mv_record.specs.Paths.{paths}
use Rattle.mv_record.specs.Runs.{writes_in}
use Rattle.mv_undo.specs.Owning.{earlier}
use Rattle.mv_history.specs.Kept.{Path, Placed, with_paths, among}
use Rattle.mv_soundness.proofs.Keeping.{Climbs, climbs_of}
use Rattle.mv_soundness.proofs.Placing.{its, its_all, many_paths, many_placed}
use Rattle.mv_why.specs.declared.cause.Reason.{Reason}
use Rattle.mv_why.specs.declared.run.Runs.{Runs}
use Rattle.mv_why.specs.declared.walk.Walk.{Walk}
use Rattle.mv_why.specs.Causes.{changes_since, why, why_reason}
use Rattle.mv_why.specs.Walking.{is_before, reason_by, kept_more, other_more, one_more, kept_of, AreSound, IsOn, HasPassed}
use Rattle.mv_why.proofs.Counting.{why_at, why_here, kept_here}
use Rattle.mv_why.proofs.Fixed.{all_kept}
use Rattle.mv_why.proofs.Going.{First, next_of, next_record, many_flags, went_on, went_anew}
use Rattle.mv_why.proofs.Telling.{reason_is, partner}

-- the reason of the next record, which is kept if it has none
pub record Decision (runs : Runs) (w : Walk) (number : ℕ) (reason : Option Reason) : Type 0 where
  pub under : IsOn runs w
  pub b : Placed
  pub more : List Placed
  pub rest : under.rest ≡ b ∷ more
  pub long : number ≡ length w.kept
  pub told : reason ≡ why_reason runs.old.records runs.fresh.records runs.since.now number
  pub kept : among (kept_of runs) b.path ≡ is_none reason
  pub partner : reason ≡ None → (o : Placed) × (cs : List Placed) × (under.coming ≡ o ∷ cs) × (o.path ≡ b.path)

front_its : (xs ys : List Placed) → take (length xs) (its (xs ++ ys)) ≡ its xs
front_its [] ys = refl
front_its (x ∷ xs) ys = ap (λ l. x.it ∷ l) (front_its xs ys)

pub decided : (runs : Runs) (w0 w : Walk) (number : ℕ) (p : Path) (reason : Option Reason) → AreSound runs → IsOn runs w0 → number ≡ length w0.kept → slice_get runs.fresh.paths number ≡ Some p
    → HasPassed runs.old w0 p w → is_before (slice_get runs.old.paths w.at) p ≡ false
    → ((before : List Record) (r : Record) → earlier w.at runs.undo ≡ writes_in before → slice_get runs.fresh.records number ≡ Some r → reason ≡ reason_by runs w number before r p)
    → Decision runs w number reason
decided runs w0 w number p reason sound on long there passed stops is =
    let old : List Record = runs.old.records in
    let fresh : List Record = runs.fresh.records in
    let k : List Path = kept_of runs in
    let path0 : slice_get (paths fresh) (length w0.kept) ≡ Some p = ap (slice_get (paths fresh)) (sym long) ∙ (ap (λ l. slice_get l number) (sym sound.fresh) ∙ there) in
    let u = passed.under (changes_since runs.since.now) fresh sound.old sound.old_rises sound.fresh_rises path0 on in
    let path : slice_get (paths fresh) (length w.kept) ≡ Some p = ap (λ (l : List Bool). slice_get (paths fresh) (length l)) passed.kept ∙ path0 in
    let f : First p u.rest = next_of k old fresh w p path u in
    let b : Placed = f.b in
    let now : number ≡ length w.kept = long ∙ ap length (sym passed.kept) in
    let done : number ≡ length u.done = now ∙ many_flags k u.done w.kept u.flags in
    let stops' : is_before (slice_get runs.old.paths w.at) b.path ≡ false = ap (is_before (slice_get runs.old.paths w.at)) f.path ∙ stops in
    let news : with_paths fresh ≡ u.done ++ b ∷ f.more = u.news ∙ ap (λ l. u.done ++ l) f.are in
    let record' : slice_get fresh number ≡ Some b.it = ap (slice_get fresh) done ∙ (next_record fresh u.done u.rest u.news ∙ ap (λ l. slice_get (its l) 0) f.are) in
    let fits : w.at ≤ length old = let all = ap length u.olds in omega (arith, all, u.at, length-append u.passed u.coming, many_placed old) in
    let written : earlier w.at runs.undo ≡ writes_in (its u.passed) =
    sound.undo w.at fits
    ∙ ap writes_in (ap (λ l. take w.at l) (sym (its_all old) ∙ ap its u.olds) ∙ (ap (λ n. take n (its (u.passed ++ u.coming))) u.at ∙ front_its u.passed u.coming)) in
    let by : reason ≡ reason_by runs w number (its u.passed) b.it b.path = is (its u.passed) b.it written record' ∙ ap (reason_by runs w number (its u.passed) b.it) (sym f.path) in
    let why' : reason ≡ why k runs.since.now (with_paths old) u.done b = by ∙ reason_is runs w k sound u b f.more f.are number done stops' b.it refl in
    record {
      under = u;
      b = b;
      more = f.more;
      rest = f.are;
      long = now;
      told =
          why'
          ∙ (sym (why_here k runs.since.now (with_paths old) u.done b f.more)
          ∙ (ap (λ n. why_at k runs.since.now (with_paths old) (u.done ++ b ∷ f.more) n) (sym done) ∙ ap (λ l. why_at k runs.since.now (with_paths old) l number) (sym news)));
      kept =
          ap (λ l. among (all_kept (changes_since runs.since.now) (with_paths old) l) b.path) news
          ∙ (kept_here runs.since.now (with_paths old) u.done b f.more (climbs_of old sound.old_rises) (subst Climbs news (climbs_of fresh sound.fresh_rises))
          ∙ (ap (λ l. is_none (why (all_kept (changes_since runs.since.now) (with_paths old) l) runs.since.now (with_paths old) u.done b)) (sym news) ∙ ap is_none (sym why')));
      partner = λ none. partner runs w k sound u b f.more f.are number done stops' (sym by ∙ none);
    }

-- What follows

none_of : (o : Option Reason) → is_none o ≡ true → o ≡ None
none_of None h = refl
none_of (Some x) h = cc

pub may_keep : (runs : Runs) (w : Walk) (number : ℕ) (reason : Option Reason) → AreSound runs → Decision runs w number reason → is_none reason ≡ true → w.at < length runs.old.paths
may_keep runs w number reason sound d h =
    let it = d.partner (none_of reason h) in
    let all = ap length (d.under.olds ∙ ap (λ l. d.under.passed ++ l) it.2) in
    let many : length runs.old.paths ≡ length runs.old.records = ap length sound.old ∙ many_paths runs.old.records in
    omega (arith, all, d.under.at, length-append d.under.passed (it.0 ∷ it.1), many_placed runs.old.records, many)

pub kept_on : (runs : Runs) (w : Walk) (number : ℕ) (reason : Option Reason) → AreSound runs → Decision runs w number reason → is_none reason ≡ true → IsOn runs (kept_more w)
kept_on runs w number reason sound d h =
    let it = d.partner (none_of reason h) in
    went_on (kept_of runs) runs.old.records runs.fresh.records w sound.old_rises sound.fresh_rises d.under d.b d.more d.rest it.0 it.1 it.2 it.3 (d.kept ∙ h)

pub other_on : (runs : Runs) (w : Walk) (number : ℕ) (reason : Option Reason) → AreSound runs → Decision runs w number reason → is_none reason ≡ false → IsOn runs (other_more runs.fresh.records number w)
other_on runs w number reason sound d h = went_anew (kept_of runs) runs.old.records runs.fresh.records w sound.fresh_rises d.under d.b d.more d.rest number d.long (d.kept ∙ h)

-- the walk has gone on by the record
pub gone_on : (runs : Runs) (w : Walk) (number : ℕ) (reason : Option Reason) (b : Bool) → AreSound runs → Decision runs w number reason → is_none reason ≡ b → IsOn runs (one_more runs.fresh.records number b w)
gone_on runs w number reason true sound d h = kept_on runs w number reason sound d h
gone_on runs w number reason false sound d h = other_on runs w number reason sound d h

pub none_is : (reason : Option Reason) (b : Bool) → is_some reason ≡ not b → is_none reason ≡ b
none_is reason true h = ap not h
none_is reason false h = ap not h

pub longer : (ns : List Record) (number : ℕ) (b : Bool) (w0 w : Walk) → w.kept ≡ w0.kept → length (one_more ns number b w).kept ≡ length w0.kept + 1
longer ns number true w0 w h = length-append w.kept (true ∷ []) ∙ ap (λ (l : List Bool). length l + 1) h
longer ns number false w0 w h = length-append w.kept (false ∷ []) ∙ ap (λ (l : List Bool). length l + 1) h

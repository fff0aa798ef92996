-- What lies behind a shard's lock, and how it changes.
use Rattle.std.proofs.Common.{take, slice_index_or, ◌≡◌, ◌⊎◌, ◌<◌, ◌≤◌, ◌+◌, ℕ, zero, suc, min, Bool, true, false, List, [], ◌∷◌, ◌++◌, Option, Some, None, inl, inr, ⊎_elim, length, slice_index, refl, sym, ap, subst, ◌∙◌, arith, length-append, append_assoc}
use Rattle.std.specs.Prelude.{◌||◌, IfSome}
use Rattle.std.specs.List.{list_any}
use Rattle.std.proofs.lemmas.Bool.{both_ways, eqb-true, eq-eqb, false≢true}
use Rattle.std.proofs.lemmas.List.Elements.{All-filter, filter-append}
use Rattle.std.proofs.lemmas.List.{take_more}
use lib.Dec.{eqb}
use mathlib.Core.List.{IsPrefix}
use native.Mathlib.Decide.{ℕ_discrete}
use Rattle.atomic_table.specs.Seated.{TableId}
use Rattle.mv_values.specs.declared.pred.Pred.{Pred}
use Rattle.mv_values.specs.declared.patch.Write.{Write}
use Rattle.mv_values.specs.Preds.{matches, admits}
use Rattle.mv_values.specs.Patching.{applied}
use Rattle.mv_values.specs.Tables.{Tables, rows_at}
use Rattle.mv_record.specs.Admitting.{Admitted}
use Rattle.mv_view.specs.declared.view.Refused.TheVariants.{Stale}
use Rattle.mv_store.specs.Stored.{Versioned, database_at, newest, own_writes, IsLike}
use Rattle.mv_store.specs.Changes.{HasPut, HasDropped, HasStamped, HasRaised}
use Rattle.mv_lawful.specs.Batch.{tables_after}
use Rattle.mv_seats.specs.Scripts.{BoardScript}
use Rattle.mv_seats.specs.Knowing.{Knows, Shard, Gate, gate_pass, met, plain, appended, shard_pass, handing, IsMark, Begins}
use Rattle.mv_store.proofs.Laws.{put_more}
use Rattle.mv_seats.proofs.Prefixes.{prefix_self, prefix_length}
use Rattle.mv_seats.proofs.Meeting.{at_greater}
use Rattle.mv_seats.proofs.Roles.{own_kept}
use Rattle.mv_script.specs.Scripts.{IsCompiledScript}
use Rattle.mv_script.proofs.Databases.{tables_rise}
use Rattle.mv_shards.specs.Scripts.{script_in, batch}
use Rattle.mv_shards.specs.Parts.{is_in, part, writes_in, writes_to, eight}
use Rattle.mv_shards.specs.Histories.{tables_at, last_touch}
use Rattle.mv_shards.specs.Kept.{MayMake, IsLow, IsKept, IsShardStore, HasGrown}
use Rattle.mv_shards.specs.Installing.{Leads, MayInstall, HasInstalled, HasNotInstalled}
use Rattle.mv_shards.specs.Reads.{IsStart, MayRead, IsRefusal}
use Rattle.mv_shards.specs.Leaves.{IsLeave}
use Rattle.mv_shards.proofs.Pieces.{at_part, applied_part}
use Rattle.mv_shards.proofs.Histories.{tables_front, touch_front, touch_most, touch_climbs, stays}

-- Passes

pub prefix_then : (xs ys zs : List ℕ) → IsPrefix xs ys → IsPrefix ys zs → IsPrefix xs zs
prefix_then xs ys zs p q = let a = p.1 in let b = q.1 in (p.0 ++ q.0, sym (append_assoc xs p.0 q.0) ∙ (ap (λ l. l ++ q.0) p.1 ∙ q.1))

pub grown_itself : (k : Knows) → HasGrown k k
grown_itself k = record { role = refl; handed = refl; seen = prefix_self k.seen; marks = λ q. omega arith }

pub grown_then : (a b c : Knows) → HasGrown a b → HasGrown b c → HasGrown a c
grown_then a b c g h = record {
  role = h.role ∙ g.role;
  handed = h.handed ∙ g.handed;
  seen = prefix_then a.seen b.seen c.seen g.seen h.seen;
  marks = λ q. omega (arith, g.marks q, h.marks q);
}

-- a pass that has met another one has grown
pub grown_met : (a b new : Knows) → new ≡ met a b → IsPrefix a.seen new.seen → HasGrown a new
grown_met a b new e p = record {
  role = ap (λ (k : Knows). k.role) e;
  handed = ap (λ (k : Knows). k.handed) e;
  seen = p;
  marks = λ q. let m = at_greater a.marks b.marks q in let n = ap (λ (k : Knows). slice_index k.marks q) e in omega (arith, m, n);
}

-- The invariant

pub low_more : (h : Option ℕ) (low n m : ℕ) → n ≤ m → IsLow h low n → IsLow h low m
low_more None low n m le is = is
low_more (Some h) low n m le (inl is) = inl is
low_more (Some h) low n m le (inr is) = inr (omega (arith, le, is))

pub kept_more : (h : Option ℕ) (word : TableId) (noted : Option ℕ) (low n m : ℕ) → n ≤ m → IsKept h word noted low n → IsKept h word noted low m
kept_more h word None low n m le is = low_more h low n m le is
kept_more h word (Some floor) low n m le is = is

-- its pass has learned more
pub store_learns : (s : BoardScript) (word : TableId) (q : ℕ) (store : Versioned) (noted : Option ℕ) (old new : Knows) → IsShardStore s word q store noted old → new.role ≡ old.role → IsPrefix old.seen new.seen → slice_index new.marks q ≡ slice_index old.marks q → IsShardStore s word q store noted new
store_learns s word q store noted old new h role p mark =
    let longer = prefix_length old.seen new.seen p in record {
      role = role ∙ h.role;
      there = h.there;
      script = h.script;
      seen = omega (arith, h.seen, longer);
      mark = mark ∙ h.mark;
      own = h.own;
      kept = h.kept;
      rows = λ m low. let most : min m store.last ≤ length old.seen = omega (arith, h.seen) in h.rows m low ∙ ap (part q) (tables_front s old.seen new.seen (min m store.last) p most);
      low = kept_more s.options.horizon word noted store.low (length old.seen) (length new.seen) longer h.low;
    }

-- its rows are those of the history after n commits, where no later commit up to n touches the shard
pub store_rows : (s : BoardScript) (word : TableId) (q n : ℕ) (store : Versioned) (noted : Option ℕ) (k : Knows) (seen : List ℕ) → IsShardStore s word q store noted k → IsPrefix seen k.seen → n ≤ length seen → last_touch s q seen n ≤ store.last → store.low ≤ n → database_at store n ≡ part q (tables_at s seen n)
store_rows s word q n store noted k seen h p le touched low =
    let same : last_touch s q seen n ≡ last_touch s q k.seen n = touch_front s q seen k.seen n p le in
    let most = touch_most s q k.seen n in
    h.rows n low ∙ (stays s q k.seen (min n store.last) n h.script (omega (arith, same, touched, most)) (omega arith) ∙ ap (part q) (sym (tables_front s seen k.seen n p le)))

pub admitted_part : (q : ℕ) (pred : Pred) (db : Tables) → Admitted pred (rows_at db pred.table) → Admitted pred (rows_at (part q db) pred.table)
admitted_part q pred db h = subst (Admitted pred) (sym (at_part q pred.table db)) (All-filter (λ item. is_in q pred.table item.key) (λ item. matches pred item.row ≡ true → admits pred item.key ≡ true) (rows_at db pred.table) h)

-- Stale comes only with a horizon: where a note is kept, its floor is at most the start of the reader's pin
pub stale_low : (s : BoardScript) (word : TableId) (q n : ℕ) (store : Versioned) (noted shown : Option ℕ) (k : Knows) (seen : ℕ) → IsShardStore s word q store noted k → length k.seen ≤ seen → IsLeave s word shown n → IfSome noted (λ floor. IfSome shown (λ start. floor ≤ start)) → n < store.low
    → IsRefusal s n seen (Stale n store.low)
stale_low s word q n store noted shown k seen h le may below late = by noted h.low below
  where
    met : (floor : ℕ) (o : Option ℕ) → o ≡ Some n → IfSome o (λ start. floor ≤ start) → floor ≤ n
    met floor None e is = absurd (cc e)
    met floor (Some start) e is = let same : start ≡ n = cc e in omega (arith, same, is)

    of_horizon : (o : Option ℕ) → s.options.horizon ≡ o → IsLow o store.low (length k.seen) → IsRefusal s n seen (Stale n store.low)
    of_horizon None e is = absurd (omega (arith, is, late))
    of_horizon (Some hor) e (inl is) = absurd (omega (arith, is, late))
    of_horizon (Some hor) e (inr is) = (refl, late, (hor, e, omega (arith, is, le)))

    by : (o : Option ℕ) → IsKept s.options.horizon word o store.low (length k.seen) → IfSome o (λ floor. IfSome shown (λ start. floor ≤ start)) → IsRefusal s n seen (Stale n store.low)
    by None is h = of_horizon s.options.horizon refl is
    by (Some floor) is h = let f = met floor shown (may (is.0, is.1)) h in absurd (omega (arith, f, is.2, late))

-- Commits

-- all writes of a call were put and then dropped
pub store_drops : (s : BoardScript) (word : TableId) (q call : ℕ) (old new : Versioned) (noted : Option ℕ) (k : Knows) → IsShardStore s word q old noted k → HasDropped call old new → IsShardStore s word q new noted k
store_drops s word q call old new noted k h d = record {
  role = h.role;
  there = h.there;
  script = h.script;
  seen = subst (λ n. n ≤ length k.seen) (sym d.reads.last) h.seen;
  mark = h.mark ∙ sym d.reads.last;
  own = λ other. by other (ℕ_discrete call other);
  kept = let kept = h.kept in omega (arith, kept, d.reads.low, d.reads.last);
  rows = λ m low. d.reads.database m ∙ (h.rows m (subst (λ l. l ≤ m) d.reads.low low) ∙ ap (λ l. part q (tables_at s k.seen (min m l))) (sym d.reads.last));
  low = subst (λ l. IsKept s.options.horizon word noted l (length k.seen)) (sym d.reads.low) h.low;
}
  where
    by : (other : ℕ) → Dec (call ≡ other) → own_writes new other ≡ []
    by other (yes e) = subst (λ c. own_writes new c ≡ []) e d.own
    by other (no ne) = d.others other ne ∙ h.own other

pub put_then_drop : (call : ℕ) (ws : List Write) (old mid new : Versioned) → HasPut call ws old mid → HasDropped call mid new → HasDropped call old new
put_then_drop call ws old mid new h g = record {
  reads = record {
    database = λ n. g.reads.database n ∙ h.reads.database n;
    last = g.reads.last ∙ h.reads.last;
    low = g.reads.low ∙ h.reads.low;
  };
  others = λ other ne. g.others other ne ∙ h.others other ne;
  own = g.own;
}

-- what was put has become commit n. The pass of the shard has seen what the gate's pass had seen, and then the call
pub store_commits : (s : BoardScript) (word : TableId) (q call n : ℕ) (ws : List Write) (old mid new : Versioned) (noted : Option ℕ) (k after : Knows)
    → IsShardStore s word q old noted k
    → ((m : ℕ) → IsLike old (database_at old m))
    → HasPut call (writes_in q ws) old mid → HasStamped call n mid new
    → n ≡ length k.seen + 1 → last_touch s q k.seen (length k.seen) ≤ old.last → Leads s k call ws
    → after.role ≡ Shard q → after.seen ≡ k.seen ++ call ∷ [] → slice_index after.marks q ≡ n → IsShardStore s word q new noted after
store_commits s word q call n ws old mid new noted k after h like put stamp number touched leads role seen mark =
    let long : length after.seen ≡ length k.seen + 1 = ap length seen ∙ length-append k.seen (call ∷ []) in
    let front : IsPrefix k.seen after.seen = (call ∷ [], sym seen) in
    let low : new.low ≡ old.low = stamp.low ∙ put.reads.low in record {
      role = role;
      there = h.there;
      script = h.script;
      seen = omega (arith, stamp.last, number, long);
      mark = mark ∙ sym stamp.last;
      own = λ other. own_at other (ℕ_discrete call other);
      kept = omega (arith, h.kept, low, stamp.last, number, h.seen);
      rows = λ m le. rows_at_m m (subst (λ l. l ≤ m) low le) front long;
      low = subst (λ l. IsKept s.options.horizon word noted l (length after.seen)) (sym low) (kept_more s.options.horizon word noted old.low (length k.seen) (length after.seen) (omega (arith, long)) h.low);
    }
  where
    own_at : (other : ℕ) → Dec (call ≡ other) → own_writes new other ≡ []
    own_at other (yes e) = subst (λ c. own_writes new c ≡ []) e stamp.own
    own_at other (no ne) = stamp.others other ne ∙ (put.others other ne ∙ h.own other)

    before : (m : ℕ) → old.low ≤ m → m ≤ length k.seen → database_at old m ≡ part q (tables_at s k.seen m)
    before m le most =
        let climbs = touch_climbs s q k.seen m (length k.seen) most in
        let upper = touch_most s q k.seen m in
        h.rows m le ∙ stays s q k.seen (min m old.last) m h.script (omega (arith, climbs, touched, upper)) (omega arith)

    rows_at_m : (m : ℕ) → old.low ≤ m → IsPrefix k.seen after.seen → length after.seen ≡ length k.seen + 1 → database_at new m ≡ part q (tables_at s after.seen (min m new.last))
    rows_at_m m le front long = by (ℕ_discrete (min m n) n)
      where
        by : Dec (min m n ≡ n) → database_at new m ≡ part q (tables_at s after.seen (min m new.last))
        by (no ne) =
            let less : m < n = omega (arith, ne) in
            let most : m ≤ length k.seen = omega (arith, less, number) in
            let same : min m new.last ≡ m = omega (arith, stamp.last, less) in
            stamp.before m less ∙ (put.reads.database m ∙ (before m le most ∙ (ap (part q) (tables_front s k.seen after.seen m front most) ∙ ap (λ j. part q (tables_at s after.seen j)) (sym same))))
        by (yes e) =
            let past : n ≤ m = omega (arith, e) in
            let same : min m new.last ≡ length k.seen + 1 = omega (arith, stamp.last, past, number) in
            let top : Tables = tables_at s k.seen (length k.seen) in
            let here : min old.last old.last ≡ old.last = omega arith in
            let last_top : database_at old old.last ≡ part q top =
            h.rows old.last h.kept ∙ (ap (λ j. part q (tables_at s k.seen j)) here ∙ stays s q k.seen old.last (length k.seen) h.script touched h.seen) in
            let now : newest mid ≡ part q top = ap (database_at mid) put.reads.last ∙ (put.reads.database old.last ∙ last_top) in
            let like_top : IsLike old (part q top) = subst (IsLike old) last_top (like old.last) in
            stamp.after m past
            ∙ (ap (applied (own_writes mid call)) now
            ∙ (put.own (part q top) like_top
            ∙ (ap (λ vs. applied (writes_in q ws) (applied vs (part q top))) (h.own call)
            ∙ (applied_part q ws top (tables_rise (script_in s) k.seen (length k.seen) h.script)
            ∙ (ap (part q) leads
            ∙ (ap (λ xs. part q (tables_at s xs (length k.seen + 1))) (sym seen)
            ∙ ap (λ j. part q (tables_at s after.seen j)) (sym same)))))))

-- old rows were dropped: by the horizon, or up to the floor of a note that is then kept

rows_raised : (s : BoardScript) (q to : ℕ) (old new : Versioned) (k : Knows) → ((m : ℕ) → old.low ≤ m → database_at old m ≡ part q (tables_at s k.seen (min m old.last))) → old.low ≤ to → HasRaised to old new → (m : ℕ) → new.low ≤ m → database_at new m ≡ part q (tables_at s k.seen (min m new.last))
rows_raised s q to old new k rows up r m le =
    let past : to ≤ m = omega (arith, r.low, le) in let before : old.low ≤ m = omega (arith, past, up) in
    r.database m past ∙ (rows m before ∙ ap (λ l. part q (tables_at s k.seen (min m l))) (sym r.last))

store_raised : (s : BoardScript) (word : TableId) (q to : ℕ) (old new : Versioned) (before noted : Option ℕ) (k : Knows) → IsShardStore s word q old before k → old.low ≤ to → to ≤ old.last → HasRaised to old new → IsKept s.options.horizon word noted new.low (length k.seen) → IsShardStore s word q new noted k
store_raised s word q to old new before noted k h up most r low = record {
  role = h.role;
  there = h.there;
  script = h.script;
  seen = omega (arith, h.seen, r.last);
  mark = h.mark ∙ sym r.last;
  own = λ call. r.own call ∙ h.own call;
  kept = omega (arith, r.low, r.last, most);
  rows = rows_raised s q to old new k h.rows up r;
  low = low;
}

pub store_raises : (s : BoardScript) (word : TableId) (q to h : ℕ) (old new : Versioned) (noted : Option ℕ) (k : Knows) → IsShardStore s word q old noted k → s.options.horizon ≡ Some h → old.low ≤ to → to + h ≤ old.last → HasRaised to old new → IsShardStore s word q new noted k
store_raises s word q to hor old new noted k h given up most r = store_raised s word q to old new noted noted k h up (omega (arith, most)) r (by noted h.low)
  where
    by : (o : Option ℕ) → IsKept s.options.horizon word o old.low (length k.seen) → IsKept s.options.horizon word o new.low (length k.seen)
    by None is = subst (λ (x : Option ℕ). IsLow x new.low (length k.seen)) (sym given) (inr (omega (arith, r.low, most, h.seen)))
    by (Some floor) is = absurd (cc (given, is.0))

pub store_raises_to : (s : BoardScript) (word : TableId) (q to floor : ℕ) (old new : Versioned) (noted : Option ℕ) (k : Knows) → IsShardStore s word q old noted k → s.options.horizon ≡ None → word.words ≡ 1 → old.low ≤ to → to ≤ old.last → to ≤ floor → HasRaised to old new → IsShardStore s word q new (Some floor) k
store_raises_to s word q to floor old new noted k h none one up most under r = store_raised s word q to old new noted (Some floor) k h up most r (none, one, omega (arith, r.low, under))

-- Shard and pass meet

-- the shard's mark is what it was, and the other pass knew no greater one
pub mark_own : (q n : ℕ) (k l p : Knows) → k.role ≡ Shard q → l ≡ met k (plain p) → IsMark l q n → slice_index k.marks q ≡ n
mark_own q n k l p role e m = own_kept k l (plain p) q n role e m

pub mark_theirs : (q n : ℕ) (k l p : Knows) → l ≡ met k (plain p) → IsMark l q n → slice_index p.marks q ≤ n
mark_theirs q n k l p e m = let t = (subst (λ (z : Knows). IsMark z q n) e m).theirs in t

-- the other pass then knows it
pub mark_told : (q n : ℕ) (k p new : Knows) → new ≡ met p (plain k) → slice_index k.marks q ≡ n → n ≤ slice_index new.marks q
mark_told q n k p new e is =
    let m = at_greater p.marks k.marks q in
    let w = ap (λ (z : Knows). slice_index z.marks q) e in
    omega (arith, m, w, is)

-- a gate's pass keeps its list, of which the shard's is then a prefix
pub prefix_both : (xs ys : List ℕ) → IsPrefix xs ys → IsPrefix ys xs → xs ≡ ys
prefix_both [] [] p q = refl
prefix_both [] (y ∷ ys) p q = absurd (cc q.1)
prefix_both (x ∷ xs) [] p q = absurd (cc p.1)
prefix_both (x ∷ xs) (y ∷ ys) p q = let rest = prefix_both xs ys (p.0, cc p.1) (q.0, cc q.1) in cc (p.1, rest)

-- What a call owes and leaves

-- a pass that has grown, and has seen no more
pub may_still : (s : BoardScript) (qs : List ℕ) (call : ℕ) (ws : List Write) (old new : Knows) → MayInstall s qs call ws old → HasGrown old new → new.seen ≡ old.seen → MayInstall s qs call ws new
may_still s qs call ws old new may g e = record {
  role = g.role ∙ may.role;
  known = may.known;
  fresh = subst (λ l. list_any (eqb call) l ≡ false) (sym e) may.fresh;
  marks = λ q own to. let m = subst (λ l. last_touch s q l (length l) ≤ slice_index old.marks q) (sym e) (may.marks q own to) in let up = g.marks q in omega (arith, m, up);
  leads = subst (λ l. applied ws (tables_at s l (length l)) ≡ tables_at s (l ++ call ∷ []) (length l + 1)) (sym e) may.leads;
}

pub in_rest : (q p : ℕ) (qs : List ℕ) → list_any (eqb q) qs ≡ true → list_any (eqb q) (p ∷ qs) ≡ true
in_rest q p qs h = by (eqb q p)
  where
    by : (b : Bool) → (b || list_any (eqb q) qs) ≡ true
    by true = refl
    by false = h

in_first : (q p : ℕ) (qs : List ℕ) → list_any (eqb q) (p ∷ qs) ≡ true → (q ≡ p) ⊎ (list_any (eqb q) qs ≡ true)
in_first q p qs h = by (eqb q p) refl h
  where
    by : (b : Bool) → eqb q p ≡ b → (b || list_any (eqb q) qs) ≡ true → (q ≡ p) ⊎ (list_any (eqb q) qs ≡ true)
    by true e g = inl (eqb-true q p e)
    by false e g = inr g

pub may_rest : (s : BoardScript) (q : ℕ) (qs : List ℕ) (call : ℕ) (ws : List Write) (k : Knows) → MayInstall s (q ∷ qs) call ws k → MayInstall s qs call ws k
may_rest s q qs call ws k may = record {
  role = may.role;
  known = may.known;
  fresh = may.fresh;
  marks = λ p own to. may.marks p (in_rest p q qs own) to;
  leads = may.leads;
}

-- the first shard isn't written
pub installed_past : (q : ℕ) (qs : List ℕ) (call : ℕ) (ws : List Write) (n : ℕ) (old new : Knows) → writes_to q ws ≡ false → HasInstalled qs call ws n old new → HasInstalled (q ∷ qs) call ws n old new
installed_past q qs call ws n old new none h = record {
  grown = h.grown;
  seen = h.seen;
  number = h.number;
  marks = λ p own to. ⊎_elim (λ (e : p ≡ q). absurd (both_ways (writes_to q ws) none (subst (λ z. writes_to z ws ≡ true) e to))) (λ (r : list_any (eqb p) qs ≡ true). h.marks p r to) (in_first p q qs own);
}

-- the first shard holds the commit too
pub installed_all : (q : ℕ) (qs : List ℕ) (call : ℕ) (ws : List Write) (n : ℕ) (old mid now new : Knows) → HasGrown old mid → mid.seen ≡ old.seen → HasInstalled qs call ws n mid now → HasGrown now new → new.seen ≡ now.seen → n ≤ slice_index new.marks q
    → HasInstalled (q ∷ qs) call ws n old new
installed_all q qs call ws n old mid now new g e h k f mark = record {
  grown = grown_then old mid new g (grown_then mid now new h.grown k);
  seen = f ∙ (h.seen ∙ ap (λ l. l ++ call ∷ []) e);
  number = h.number ∙ ap length (sym f);
  marks = λ p own to. ⊎_elim (λ (e : p ≡ q). subst (λ z. n ≤ slice_index new.marks z) (sym e) mark) (λ (r : list_any (eqb p) qs ≡ true). let a = h.marks p r to in let b = k.marks p in omega (arith, a, b)) (in_first p q qs own);
}

pub not_installed : (old mid new : Knows) → HasGrown old mid → mid.seen ≡ old.seen → HasNotInstalled mid new → HasNotInstalled old new
not_installed old mid new g e h = record { grown = grown_then old mid new g h.grown; seen = h.seen ∙ e }

-- the call was appended, and no shard is left
pub appended_last : (call : ℕ) (ws : List Write) (s : BoardScript) (n : ℕ) (old mid new : Knows) → old.role ≡ Gate → mid ≡ appended old call → new ≡ mid → Begins s mid n → HasInstalled [] call ws n old new
appended_last call ws s n old mid new gate e f b =
    let whole : mid.seen ≡ b.history = b.whole (ap (λ (k : Knows). k.role) e ∙ gate) in
    let is : new ≡ appended old call = f ∙ e in record {
      grown = record {
        role = ap (λ (k : Knows). k.role) is;
        handed = ap (λ (k : Knows). k.handed) is;
        seen = (call ∷ [], sym (ap (λ (k : Knows). k.seen) is));
        marks = λ q. let m = ap (λ (k : Knows). slice_index k.marks q) is in omega (arith, m);
      };
      seen = ap (λ (k : Knows). k.seen) is;
      number = sym b.long ∙ ap length (sym whole ∙ ap (λ (k : Knows). k.seen) (sym f));
      marks = λ q own to. absurd (false≢true own);
    }

-- Making

-- shards can be made with the gate's first pass
pub may_make : (s : BoardScript) (opening : Tables) (horizon : Option ℕ) (k : Knows) → IsCompiledScript (script_in s) → s.shards ≡ 8 → opening ≡ s.opening → horizon ≡ s.options.horizon → k ≡ gate_pass → MayMake s opening horizon k
may_make s opening horizon k script shards opens waits e = record {
  role = ap (λ (z : Knows). z.role) e;
  seen = ap (λ (z : Knows). z.seen) e;
  marks = ap (λ (z : Knows). z.marks) e;
  script = script;
  shards = shards;
  opens = opens;
  waits = waits;
}

take_none : (j : ℕ) → ◌≡◌ {A = List ℕ} (take j []) []
take_none zero = refl
take_none (suc j) = refl

opening_at : (s : BoardScript) (j : ℕ) → tables_at s [] j ≡ s.opening
opening_at s j = ap (tables_after (batch s) s.opening) (take_none j)

-- before any commit
pub store_opens : (s : BoardScript) (word : TableId) (q : ℕ) (opening : Tables) (horizon : Option ℕ) (old k : Knows) (store : Versioned) → MayMake s opening horizon old → q < 8 → k ≡ shard_pass old q
    → ((n : ℕ) → database_at store n ≡ part q opening) → ((call : ℕ) → own_writes store call ≡ []) → store.last ≡ 0 → store.low ≡ 0 → IsShardStore s word q store None k
store_opens s word q opening horizon old k store may there e db own last low =
    let seen : k.seen ≡ [] = ap (λ (z : Knows). z.seen) e ∙ may.seen in
    let marks : k.marks ≡ [] = ap (λ (z : Knows). z.marks) e ∙ may.marks in record {
      role = ap (λ (z : Knows). z.role) e;
      there = omega (arith, there, may.shards);
      script = may.script;
      seen = omega (arith, last);
      mark = ap (λ l. slice_index l q) marks ∙ sym last;
      own = own;
      kept = omega (arith, low, last);
      rows = λ m le. db m ∙ ap (part q) (may.opens ∙ (sym (opening_at s (min m store.last)) ∙ ap (λ l. tables_at s l (min m store.last)) (sym seen)));
      low = none_low s.options.horizon store.low (length k.seen) low;
    }
  where
    none_low : (o : Option ℕ) (l n : ℕ) → l ≡ 0 → IsLow o l n
    none_low None l n z = z
    none_low (Some h) l n z = inl z

pub may_next : (s : BoardScript) (opening : Tables) (horizon : Option ℕ) (q : ℕ) (old new : Knows) → MayMake s opening horizon old → new ≡ handing old q → MayMake s opening horizon new
may_next s opening horizon q old new may e = record {
  role = ap (λ (z : Knows). z.role) e ∙ may.role;
  seen = ap (λ (z : Knows). z.seen) e ∙ may.seen;
  marks = ap (λ (z : Knows). z.marks) e ∙ may.marks;
  script = may.script;
  shards = may.shards;
  opens = may.opens;
  waits = may.waits;
}

-- one more write was put
pub write_more : (q call i : ℕ) (ws : List Write) (w : Write) (old mid new : Versioned) → i < length ws → w ≡ slice_index_or ws i w → HasPut call (writes_in q (take i ws)) old mid → HasPut call (writes_in q (w ∷ [])) mid new → HasPut call (writes_in q (take (i + 1) ws)) old new
write_more q call i ws w old mid new lt is h g =
    subst (λ l. HasPut call l old new) (sym (filter-append (λ (v : Write). is_in q v.table v.key) (take i ws) (w ∷ [])) ∙ ap (λ l. writes_in q l) (ap (λ x. take i ws ++ x ∷ []) is ∙ sym (take_more ws i w lt)))
    (put_more call (writes_in q (take i ws)) (writes_in q (w ∷ [])) old mid new h g)

pub in_here : (q : ℕ) (qs : List ℕ) → list_any (eqb q) (q ∷ qs) ≡ true
in_here q qs = ap (λ b. b || list_any (eqb q) qs) (eq-eqb q q refl)

-- Starts

below_by : (q p : ℕ) (qs : List ℕ) → list_any (eqb q) (p ∷ qs) ≡ true → p < 8 → (list_any (eqb q) qs ≡ true → q < 8) → q < 8
below_by q p qs h lt more = ⊎_elim (λ (e : q ≡ p). omega (arith, e, lt)) more (in_first q p qs h)

pub below_eight : (q : ℕ) → list_any (eqb q) eight ≡ true → q < 8
below_eight q h =
    below_by q 0 (1 ∷ 2 ∷ 3 ∷ 4 ∷ 5 ∷ 6 ∷ 7 ∷ []) h (omega arith) (λ h1.
    below_by q 1 (2 ∷ 3 ∷ 4 ∷ 5 ∷ 6 ∷ 7 ∷ []) h1 (omega arith) (λ h2.
    below_by q 2 (3 ∷ 4 ∷ 5 ∷ 6 ∷ 7 ∷ []) h2 (omega arith) (λ h3.
    below_by q 3 (4 ∷ 5 ∷ 6 ∷ 7 ∷ []) h3 (omega arith) (λ h4.
    below_by q 4 (5 ∷ 6 ∷ 7 ∷ []) h4 (omega arith) (λ h5.
    below_by q 5 (6 ∷ 7 ∷ []) h5 (omega arith) (λ h6.
    below_by q 6 (7 ∷ []) h6 (omega arith) (λ h7.
    below_by q 7 [] h7 (omega arith) (λ h8. absurd (false≢true h8)))))))))

pub in_eight : (q : ℕ) → q < 8 → list_any (eqb q) eight ≡ true
in_eight zero h = refl
in_eight (suc zero) h = refl
in_eight (suc (suc zero)) h = refl
in_eight (suc (suc (suc zero))) h = refl
in_eight (suc (suc (suc (suc zero)))) h = refl
in_eight (suc (suc (suc (suc (suc zero))))) h = refl
in_eight (suc (suc (suc (suc (suc (suc zero)))))) h = refl
in_eight (suc (suc (suc (suc (suc (suc (suc zero))))))) h = refl
in_eight (suc (suc (suc (suc (suc (suc (suc (suc q)))))))) h = absurd (omega (arith, h))

pub start_reads : (s : BoardScript) (n : ℕ) (k : Knows) (touched : List ℕ) → IsStart s n k touched → MayRead s eight n k
start_reads s n k touched st = record {
  role = st.role;
  script = st.script;
  past = st.past;
  marks = λ q own. let lt = below_eight q own in let t = st.touches q lt in let m = st.marks q lt in omega (arith, t, m);
}

pub start_grown : (s : BoardScript) (n : ℕ) (old new : Knows) (touched : List ℕ) → IsStart s n old touched → HasGrown old new → IsStart s n new touched
start_grown s n old new touched st g =
    let longer = prefix_length old.seen new.seen g.seen in record {
      role = g.role ∙ st.role;
      script = st.script;
      past = let past = st.past in omega (arith, past, longer);
      touches = λ q lt. st.touches q lt ∙ touch_front s q old.seen new.seen n g.seen st.past;
      marks = λ q lt. let m = st.marks q lt in let u = g.marks q in omega (arith, m, u);
    }

-- What the gate keeps of its shards, and how it changes.
use Rattle.std.proofs.Common.{replicate, zero, take, slice_set, slice_index_or, get_or-set_same, get_or-set_other, ◌≡◌, ◌<◌, ◌≤◌, ◌+◌, ◌++◌, ◌∷◌, ℕ, suc, Bool, true, false, cond, List, [], length, slice_index, refl, sym, ap, subst, ◌∙◌, arith, length-append}
use Rattle.std.specs.List.{list_any}
use Rattle.std.specs.Prelude.{◌||◌}
use Rattle.std.proofs.lemmas.List.{take_more}
use Rattle.std.proofs.lemmas.List.Folds.{list_any-append}
use native.Mathlib.Decide.{ℕ_discrete}
use Rattle.std.proofs.lemmas.Bool.{both_ways, eq-eqb, ne_eqb, false≢true}
use lib.Dec.{eqb}
use mathlib.Core.List.{IsPrefix}
use Rattle.mv_values.specs.declared.value.Value.{Value}
use Rattle.mv_values.specs.declared.patch.Write.{Write}
use Rattle.mv_values.specs.Tables.{Tables}
use Rattle.mv_values.specs.Patching.{applied}
use Rattle.mv_history.specs.declared.change.Change.{Change}
use Rattle.mv_history.specs.Changes.{changes_between}
use Rattle.mv_seats.specs.Scripts.{BoardScript}
use Rattle.mv_seats.specs.Knowing.{Knows, Gate, plain}
use Rattle.mv_shards.specs.Parts.{shard_of, is_in, writes_to, eight}
use Rattle.mv_script.specs.Scripts.{IsCompiledScript}
use Rattle.mv_script.proofs.Databases.{tables_rise}
use Rattle.mv_shards.specs.Scripts.{script_in}
use Rattle.mv_shards.specs.Histories.{tables_at, last_touch, changes_in}
use Rattle.mv_shards.specs.Kept.{HasGrown}
use Rattle.mv_shards.specs.Installing.{MayInstall, HasInstalled, Leads}
use Rattle.mv_shards.specs.Reads.{IsStart, MayRead}
use Rattle.mv_shards.proofs.Pieces.{unwritten}
use Rattle.mv_shards.proofs.Histories.{tables_front, touch_front, touch_climbs}
use Rattle.mv_shards.proofs.Stored.{below_eight, in_eight}
use Rattle.mv_shards.specs.Ledgers.{IsLedger, AreTouched, AreLastChanges}

zeros_at : (n k : ℕ) → slice_index (replicate n 0) k ≡ 0
zeros_at zero k = refl
zeros_at (suc n) zero = refl
zeros_at (suc n) (suc k) = zeros_at n k

-- before any commit
pub ledger_opens : (s : BoardScript) (k : Knows) (touched : List ℕ) → k.role ≡ Gate → k.seen ≡ [] → IsCompiledScript (script_in s) → touched ≡ replicate 8 0 → IsLedger s k 0 touched
ledger_opens s k touched role seen script e = record {
  role = role;
  script = script;
  seen = sym (ap length seen);
  size = ap length e;
  touches = λ q lt. ap (λ l. slice_index l q) e ∙ zeros_at 8 q;
  marks = λ q lt. let none = ap (λ l. slice_index l q) e ∙ zeros_at 8 q in omega (arith, none);
}

-- the pass has learned more
pub ledger_learns : (s : BoardScript) (n : ℕ) (old new : Knows) (touched : List ℕ) → IsLedger s old n touched → HasGrown old new → new.seen ≡ old.seen → IsLedger s new n touched
ledger_learns s n old new touched l g e = record {
  role = g.role ∙ l.role;
  script = l.script;
  seen = l.seen ∙ ap length (sym e);
  size = l.size;
  touches = λ q lt. l.touches q lt ∙ ap (λ xs. last_touch s q xs n) (sym e);
  marks = λ q lt. let m = l.marks q lt in let u = g.marks q in omega (arith, m, u);
}

pub ledger_start : (s : BoardScript) (n : ℕ) (k : Knows) (touched : List ℕ) → IsLedger s k n touched → IsStart s n (plain k) touched
ledger_start s n k touched l = record {
  role = refl;
  script = l.script;
  past = let seen = l.seen in omega (arith, seen);
  touches = l.touches;
  marks = l.marks;
}

-- a view of the tables after all commits
pub ledger_reads : (s : BoardScript) (n : ℕ) (k : Knows) (touched : List ℕ) → IsLedger s k n touched → MayRead s eight n (plain k)
ledger_reads s n k touched l = record {
  role = refl;
  script = l.script;
  past = let seen = l.seen in omega (arith, seen);
  marks = λ q own.
      let lt = below_eight q own in
      let t = l.touches q lt in
      let m = l.marks q lt in
      omega (arith, t, m);
}

-- a start after fewer commits
pub ledger_start_at : (s : BoardScript) (n m : ℕ) (k : Knows) (touched now : List ℕ) → IsLedger s k n touched → m ≤ n → AreLastChanges s k.seen m now → IsStart s m (plain k) now
ledger_start_at s n m k touched now l le are = record {
  role = refl;
  script = l.script;
  past = let seen = l.seen in omega (arith, seen, le);
  touches = are;
  marks = λ q lt.
      let is = are q lt in
      let climbs = touch_climbs s q k.seen m n le in
      let t = l.touches q lt in
      let mark = l.marks q lt in
      omega (arith, is, climbs, t, mark);
}

pub ledger_may : (s : BoardScript) (n call : ℕ) (ws : List Write) (k : Knows) (touched : List ℕ) → IsLedger s k n touched → call < length s.calls → list_any (eqb call) k.seen ≡ false → Leads s k call ws → MayInstall s eight call ws k
ledger_may s n call ws k touched l there fresh leads = record {
  role = l.role;
  known = there;
  fresh = fresh;
  marks = λ q own to. let lt = below_eight q own in let t = l.touches q lt in let m = l.marks q lt in subst (λ j. last_touch s q k.seen j ≤ slice_index k.marks q) l.seen (omega (arith, t, m));
  leads = leads;
}

-- a commit was installed
pub ledger_commits : (s : BoardScript) (n m call : ℕ) (ws : List Write) (changes : List Change) (old new : Knows) (touched now : List ℕ) → IsLedger s old n touched → HasInstalled eight call ws m old new → AreTouched changes m touched now → length now ≡ 8
    → changes ≡ changes_between (tables_at s old.seen n) (tables_at s (old.seen ++ call ∷ []) (n + 1)) → Leads s old call ws → IsLedger s new m now
ledger_commits s n m call ws changes old new touched now l h t size are leads = record {
  role = h.grown.role ∙ l.role;
  script = l.script;
  seen = h.number;
  size = size;
  touches = λ q lt. t q lt ∙ (ap (cond (changes_in q changes) m) (l.touches q lt ∙ touch_front s q old.seen new.seen n h.grown.seen (omega (arith, l.seen))) ∙ (after q ∙ ap (λ j. last_touch s q new.seen j) (sym next)));
  marks = λ q lt. by q lt (changes_in q changes) refl (t q lt);
}
  where
    next : m ≡ suc n
    next = let long : length new.seen ≡ length old.seen + 1 = ap length h.seen ∙ length-append old.seen (call ∷ []) in omega (arith, h.number, long, l.seen)

    same : changes ≡ changes_between (tables_at s new.seen n) (tables_at s new.seen (suc n))
    same =
        let one : n + 1 ≡ suc n = omega arith in
        are ∙ (ap (λ (a : Tables). changes_between a (tables_at s (old.seen ++ call ∷ []) (n + 1))) (tables_front s old.seen new.seen n h.grown.seen (omega (arith, l.seen)))
        ∙ (ap (λ xs. changes_between (tables_at s new.seen n) (tables_at s xs (n + 1))) (sym h.seen) ∙ ap (λ j. changes_between (tables_at s new.seen n) (tables_at s new.seen j)) one))

    after : (q : ℕ) → cond (changes_in q changes) m (last_touch s q new.seen n) ≡ last_touch s q new.seen (suc n)
    after q = ap (λ j. cond (changes_in q changes) j (last_touch s q new.seen n)) next ∙ ap (λ cs. cond (changes_in q cs) (suc n) (last_touch s q new.seen n)) same

    leads_at : applied ws (tables_at s old.seen n) ≡ tables_at s (old.seen ++ call ∷ []) (n + 1)
    leads_at = subst (λ j. applied ws (tables_at s old.seen j) ≡ tables_at s (old.seen ++ call ∷ []) (j + 1)) (sym l.seen) leads

    wrote : (q : ℕ) → changes_in q changes ≡ true → (b : Bool) → writes_to q ws ≡ b → writes_to q ws ≡ true
    wrote q c true e = e
    wrote q c false e =
        absurd (both_ways (changes_in q changes) (ap (changes_in q) (are ∙ ap (changes_between (tables_at s old.seen n)) (sym leads_at)) ∙ unwritten q ws (tables_at s old.seen n) (tables_rise (script_in s) old.seen n l.script) e) c)

    by : (q : ℕ) → q < 8 → (b : Bool) → changes_in q changes ≡ b → slice_index now q ≡ cond (changes_in q changes) m (slice_index touched q) → slice_index now q ≤ slice_index new.marks q
    by q lt true e is =
        let mark = h.marks q (in_eight q lt) (wrote q e (writes_to q ws) refl) in
        let is' : slice_index now q ≡ m = is ∙ ap (λ b. cond b m (slice_index touched q)) e in
        omega (arith, mark, is')
    by q lt false e is =
        let is' : slice_index now q ≡ slice_index touched q = is ∙ ap (λ b. cond b m (slice_index touched q)) e in
        omega (arith, is', l.marks q lt, h.grown.marks q)

-- one more change
either : (a b c : Bool) (n m : ℕ) → b ≡ c → cond (a || (b || false)) n m ≡ cond c n (cond a n m)
either true true true n m e = refl
either true false false n m e = refl
either false true true n m e = refl
either false false false n m e = refl
either a true false n m e = absurd (false≢true (sym e))
either a false true n m e = absurd (false≢true e)

pub touched_more : (changes : List Change) (i n : ℕ) (c : Change) (old mid new : List ℕ) → i < length changes → c ≡ slice_index_or changes i c → length mid ≡ 8 → AreTouched (take i changes) n old mid → new ≡ slice_set mid (shard_of c.table c.key) n → AreTouched (take (i + 1) changes) n old new
touched_more changes i n c old mid new lt is size h e q small =
    ap (λ l. slice_index l q) e
    ∙ (at (ℕ_discrete (shard_of c.table c.key) q)
    ∙ (ap (λ m. cond (is_in q c.table c.key) n m) (h q small)
    ∙ (sym (either (changes_in q (take i changes)) (is_in q c.table c.key) (is_in q c.table c.key) n (slice_index old q) refl)
    ∙ ap (λ b. cond b n (slice_index old q)) (sym (list_any-append (λ (d : Change). is_in q d.table d.key) (take i changes) (c ∷ []))
    ∙ ap (changes_in q) (ap (λ x. take i changes ++ x ∷ []) is ∙ sym (take_more changes i c lt))))))
  where
    at : Dec (shard_of c.table c.key ≡ q) → slice_index (slice_set mid (shard_of c.table c.key) n) q ≡ cond (is_in q c.table c.key) n (slice_index mid q)
    at (yes same) =
        subst (λ k. slice_index (slice_set mid (shard_of c.table c.key) n) k ≡ n) same (get_or-set_same mid (shard_of c.table c.key) n 0 (subst (λ k. k < length mid) (sym same) (omega (arith, size, small))))
        ∙ ap (λ b. cond b n (slice_index mid q)) (sym (eq-eqb (shard_of c.table c.key) q same))
    at (no ne) =
        get_or-set_other mid (shard_of c.table c.key) q n 0 (λ s. ne (sym s)) ∙ ap (λ b. cond b n (slice_index mid q)) (sym (ne_eqb (shard_of c.table c.key) q ne))

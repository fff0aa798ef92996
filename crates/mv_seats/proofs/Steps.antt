-- Each step keeps the rule.
use Rattle.std.proofs.Common.{◌≡◌, ◌≢◌, ℕ, ◌+◌, ◌-◌, ◌%◌, ◌^◌, ◌<◌, ◌≤◌, ⊎_elim, not, ◌||◌, Bool, true, false, cond, List, [], ◌∷◌, ◌++◌, length, slice_index, set, refl, ap, sym, ◌∙◌, subst, eq-eqb, ne_eqb, arith, length-append}
use Rattle.std.specs.List.{list_any}
use Rattle.std.proofs.lemmas.Map.Keys.{IsDistinct-push}
use Rattle.std.proofs.lemmas.Map.Steps.{length-le_from_distinct_below}
use Rattle.std.proofs.lemmas.List.{length-set, get_or-set_same, get_or-set_other, set-get_or}
use Rattle.std.proofs.lemmas.List.Folds.{list_any-append}
use Rattle.std.proofs.lemmas.Bool.Decides.{nat_tests}
use Rattle.std.proofs.lemmas.Bool.{or_cases, false≢true}
use Rattle.std.specs.Cmp.{nat_eq_equiv}
use lib.Dec.{eqb}
use native.Mathlib.Decide.{ℕ_discrete}
use mathlib.Core.Option.{Option, some, none}
use mathlib.Core.List.{IsPrefix}
use lib.ListN.{get_elem?}
use Rattle.atomic_table.specs.Table.{Me, Step, keeps, step, Allows, Splits, Joins}
use Rattle.atomic_table.proofs.Lists.{at_set, set_else}
use Rattle.mv_seats.specs.Scripts.{BoardScript}
use Rattle.mv_seats.specs.Knowing.{Role, Plain, Gate, Shard, Spent, has, has_role, kept, with_mark, AreCalls, IsMark}
use Rattle.mv_seats.specs.Rule.{View, nobody, copied, handing_out, of_shard, both, settled, with_call, with_mark_of, Ruled, counting, appending, loading, raising}
use Rattle.mv_seats.proofs.Prefixes.{prefix_self, prefix_none, prefix_more, prefix_length}
use Rattle.mv_seats.proofs.Words.{snoc_at}
use Rattle.mv_seats.proofs.Marks.{Becomes, marked_below, marked_exact, words_below, still_below}
use Rattle.mv_seats.proofs.Meeting.{kept_fits, begin_kept, at_greater}
use Rattle.mv_seats.proofs.Rules.{Fits, each_of, gate_of, ruled, each_step, each_set, each_push, gate_set, gate_push, gate_else}

-- Split

plain_fits : (script : BoardScript) (words history : List ℕ) (gate id j : ℕ) (owner : ℕ → ℕ) (v : View) → Fits script words history gate owner id v → Fits script words history gate owner j (copied v)
plain_fits script words history gate id j owner v f = record {
  of_script = f.of_script;
  is_gate = λ (e : Plain ≡ Gate). absurd cc;
  is_owner = λ q h. absurd (false≢true h);
  begins = record { seen = f.begins.seen; one = prefix_none history; two = prefix_none history; whole = λ (e : Plain ≡ Gate). absurd cc };
  below = λ q. let b = f.below q in record { marks = b.marks; mine = b.marks; theirs = b.marks };
  exact = λ q h. absurd (false≢true h);
}

pub splits : (script : BoardScript) (id : ℕ) (v : View) → v.knows.role ≢ Spent → Splits {S = ℕ} (Ruled script) id v v (copied v)
splits script id v live s r at =
    let each = each_of script s r in
    let f : Fits script s.words r.history r.gate r.owner id v = each id v at live in
    ruled script s.words s.homes (set s.views id v ++ copied v ∷ []) r.history r.gate r.owner
    (each_push script s.words r.history r.gate r.owner (set s.views id v) (copied v) (each_set script s.words r.history r.gate id r.owner s.views v each (λ _. f)) (λ j. plain_fits script s.words r.history r.gate id j r.owner v f))
    (gate_push r.gate (set s.views id v) (copied v) (gate_set r.gate id s.views v v at refl (gate_of script s r)))
    r.prefixes.1
    r.count
    r.sizes

-- Join

both_fits : (script : BoardScript) (words history : List ℕ) (gate id j : ℕ) (owner : ℕ → ℕ) (v w : View) → Fits script words history gate owner id v → Fits script words history gate owner j w → Fits script words history gate owner id (both v w)
both_fits script words history gate id j owner v w f h =
    let seen = kept_fits v.knows.role v.knows.seen w.knows.seen history f.begins.seen h.begins.seen in
    let whole : v.knows.role ≡ Gate → kept v.knows.role v.knows.seen w.knows.seen ≡ history = λ e. ap (λ (r : Role). kept r v.knows.seen w.knows.seen) e ∙ f.begins.whole e in
    let grows = begin_kept v.knows.role v.knows.seen w.knows.seen history f.begins.seen h.begins.seen whole in record {
      of_script = f.of_script;
      is_gate = f.is_gate;
      is_owner = f.is_owner;
      begins = record { seen = seen; one = f.begins.seen; two = h.begins.seen; whole = whole };
      below = λ q. let b = f.below q in let c = h.below q in record { marks = omega (arith, at_greater v.knows.marks w.knows.marks q, b.marks, c.marks); mine = b.marks; theirs = c.marks };
      exact = λ q own.
          let e = f.exact q own in
          let c = h.below q in
          let l : length v.knows.seen ≤ length (kept v.knows.role v.knows.seen w.knows.seen) = prefix_length v.knows.seen (kept v.knows.role v.knows.seen w.knows.seen) grows.0 in
          record { marks = omega (arith, at_greater v.knows.marks w.knows.marks q, c.marks, e.marks); mine = e.marks; seen = omega (arith, e.seen) };
    }

pub joins : (script : BoardScript) (id other : ℕ) (v w : View) → v.knows.role ≢ Spent → w.knows.role ≡ Plain → Joins {S = ℕ} (Ruled script) id v other w (both v w) nobody
joins script id other v w live plain s r at apart there =
    let each = each_of script s r in
    let f : Fits script s.words r.history r.gate r.owner id v = each id v at live in
    let was : get_elem? s.views other ≡ some w = sym (set_else s.views id other (both v w) apart) ∙ there in
    let alive : w.knows.role ≢ Spent = λ (e : w.knows.role ≡ Spent). absurd (cc (sym plain ∙ e)) in
    let no_gate : w.knows.role ≢ Gate = λ (e : w.knows.role ≡ Gate). absurd (cc (sym plain ∙ e)) in
    let h : Fits script s.words r.history r.gate r.owner other w = each other w was alive in
    ruled script s.words s.homes (set (set s.views id (both v w)) other nobody) r.history r.gate r.owner
    (each_set script s.words r.history r.gate other r.owner (set s.views id (both v w)) nobody (each_set script s.words r.history r.gate id r.owner s.views (both v w) each (λ _. both_fits script s.words r.history r.gate id other r.owner v w f h)) (λ (n : nobody.knows.role ≢ Spent). absurd (n refl)))
    (gate_else r.gate other (set s.views id (both v w)) w nobody there no_gate (gate_set r.gate id s.views v (both v w) at refl (gate_of script s r)))
    r.prefixes.1
    r.count
    r.sizes

-- Load of the count

-- the table after a load has the same words
same_words : (script : BoardScript) (words : List ℕ) (homes : List (Option ℕ)) (i : ℕ) (views : List View) → Ruled script record { words = words; homes = homes; views = views } → Ruled script record { words = set words i (slice_index words i); homes = homes; views = views }
same_words script words homes i views r = subst (λ (ws : List ℕ). Ruled script record { words = ws; homes = homes; views = views }) (sym (set-get_or words i 0)) r

settled_fits : (script : BoardScript) (words history : List ℕ) (gate id : ℕ) (owner : ℕ → ℕ) (v : View) → Fits script words history gate owner id v → Fits script words history gate owner id (settled v)
settled_fits script words history gate id owner v f = record {
  of_script = f.of_script;
  is_gate = f.is_gate;
  is_owner = f.is_owner;
  begins = record { seen = f.begins.seen; one = prefix_none history; two = prefix_none history; whole = f.begins.whole };
  below = f.below;
  exact = f.exact;
}

-- no history has more calls than the script
pub few_calls : (script : BoardScript) (history : List ℕ) → AreCalls script history → length history ≤ length script.calls
few_calls script history are = length-le_from_distinct_below history (length script.calls) are.distinct are.there

pub counts : (script : BoardScript) (slots id : ℕ) (me : Me ℕ View) (st : Step ℕ) → me.0.knows.role ≢ Spent → Allows (Ruled script) slots id me 0 (λ n. n) (counting st me)
counts script slots id me st live s r len at small =
    let each = each_of script s r in
    let f : Fits script s.words r.history r.gate r.owner id me.0 = each id me.0 at live in (
      settled me.0,
      keeps,
      tt,
      same_words script s.words s.homes 0 (set s.views id (settled me.0)) (ruled script s.words s.homes (set s.views id (settled me.0)) r.history r.gate r.owner
          (each_set script s.words r.history r.gate id r.owner s.views (settled me.0) each (λ _. settled_fits script s.words r.history r.gate id r.owner me.0 f))
          (gate_set r.gate id s.views me.0 (settled me.0) at refl (gate_of script s r))
          r.prefixes.1
          r.count
          r.sizes),
      (
        refl,
        record {
          begins = record {
            history = r.history;
            long = sym r.count;
            calls = subst (λ (z : BoardScript). AreCalls z r.history) (sym f.of_script) r.prefixes.1;
            seen = f.begins.seen;
            whole = f.begins.whole;
          };
          one = f.begins.one;
          two = f.begins.two;
          few = omega (arith, few_calls script r.history r.prefixes.1, r.count, r.sizes.few);
        },
      ),
    )

-- Marks

-- the own view once word q + 1 is n, and known so
marked_fits : (script : BoardScript) (words words' history : List ℕ) (gate id q n : ℕ) (owner : ℕ → ℕ) (v : View) → Becomes words words' q n
    → (has_role v.knows q ≡ true → n ≤ length v.knows.seen) → Fits script words history gate owner id v → Fits script words' history gate owner id (with_mark_of q n v)
marked_fits script words words' history gate id q n owner v becomes enough f =
    let below : (k : ℕ) → slice_index (with_mark q n v.knows.marks) k ≤ slice_index words' (k + 1) = λ k. marked_below words words' q n k v.knows.marks becomes (f.below k).marks (ℕ_discrete k q) in record {
      of_script = f.of_script;
      is_gate = f.is_gate;
      is_owner = f.is_owner;
      begins = record { seen = f.begins.seen; one = f.begins.one; two = f.begins.two; whole = f.begins.whole };
      below = λ k. record { marks = below k; mine = below k; theirs = below k };
      exact = λ k own.
          let e = f.exact k own in
          let same = marked_exact words words' q n k v.knows.marks becomes e.marks (ℕ_discrete k q) in
          record { marks = same; mine = same; seen = words_below words words' q n k (length v.knows.seen) becomes (λ is. enough (subst (λ (z : ℕ). has_role v.knows z ≡ true) is own)) e.seen (ℕ_discrete k q) };
    }

pub loads : (script : BoardScript) (slots id q : ℕ) (me : Me ℕ View) → me.0.knows.role ≢ Spent → Allows (Ruled script) slots id me (q + 1) (λ n. n) (loading (step slots (q + 1) 0 0 none) me)
loads script slots id q me live s r len at small =
    let each = each_of script s r in
    let f : Fits script s.words r.history r.gate r.owner id me.0 = each id me.0 at live in
    let n = slice_index s.words (q + 1) in
    let w : View = with_mark_of q n me.0 in
    let b = f.below q in
    let back : q + 1 - 1 ≡ q = omega arith in (
      w,
      keeps,
      tt,
      same_words script s.words s.homes (q + 1) (set s.views id w) (ruled script s.words s.homes (set s.views id w) r.history r.gate r.owner
          (each_set script s.words r.history r.gate id r.owner s.views w each (λ _. marked_fits script s.words s.words r.history r.gate id q n r.owner me.0 record { here = refl; else = λ k ne. refl } (λ own. (f.exact q own).seen) f))
          (gate_set r.gate id s.views me.0 w at refl (gate_of script s r))
          r.prefixes.1
          r.count
          r.sizes),
      (
        ap (λ (k : ℕ). (with_mark_of k n me.0, me.1)) (sym back),
        subst (λ (k : ℕ). IsMark me.0.knows k n) (sym back) record { marks = b.marks; mine = b.mine; theirs = b.theirs; own = λ own. (f.exact q own).marks; own_mine = λ own. (f.exact q own).mine },
        omega (arith, r.sizes.marks q, r.count, r.sizes.few, few_calls script r.history r.prefixes.1),
      ),
    )

-- another view once the owner of q has raised its mark to n
others_fit : (script : BoardScript) (words words' history : List ℕ) (gate id j q n : ℕ) (owner : ℕ → ℕ) (u : View) → Becomes words words' q n → slice_index words (q + 1) ≤ n → id ≡ owner q → j ≢ id → Fits script words history gate owner j u → Fits script words' history gate owner j u
others_fit script words words' history gate id j q n owner u becomes up is apart f = record {
  of_script = f.of_script;
  is_gate = f.is_gate;
  is_owner = f.is_owner;
  begins = f.begins;
  below = λ k. let b = f.below k in record {
    marks = still_below words words' q n k (slice_index u.knows.marks k) becomes up b.marks (ℕ_discrete k q);
    mine = still_below words words' q n k (slice_index u.knows.mine k) becomes up b.mine (ℕ_discrete k q);
    theirs = still_below words words' q n k (slice_index u.knows.theirs k) becomes up b.theirs (ℕ_discrete k q);
  };
  exact = λ k own.
      let e = f.exact k own in
      let ne : k ≢ q = λ (same : k ≡ q). apart (f.is_owner k own ∙ (ap owner same ∙ sym is)) in
      record { marks = e.marks ∙ sym (becomes.else k ne); mine = e.mine ∙ sym (becomes.else k ne); seen = omega (arith, becomes.else k ne, e.seen) };
}

pub raises : (script : BoardScript) (slots id q n : ℕ) (me : Me ℕ View) → me.0.knows.role ≢ Spent → has_role me.0.knows q ≡ true → q < me.0.script.shards → slice_index me.0.knows.marks q ≤ n → n ≤ length me.0.knows.seen
    → Allows (Ruled script) slots id me (q + 1) (λ _. n) (λ _. raising (step slots (q + 1) n 0 none) me n)
raises script slots id q n me live own less up most s r len at small =
    let each = each_of script s r in
    let f : Fits script s.words r.history r.gate r.owner id me.0 = each id me.0 at live in
    let e = f.exact q own in
    let w : View = with_mark_of q n me.0 in
    let back : q + 1 - 1 ≡ q = omega arith in
    let words : List ℕ = set s.words (q + 1) n in
    let less' : q < script.shards = subst (λ (z : BoardScript). q < z.shards) f.of_script less in
    let wide = r.sizes.wide in
    let in_words : q + 1 < length s.words = omega (arith, wide) in
    let becomes : Becomes s.words words q n = record { here = get_or-set_same s.words (q + 1) n 0 in_words; else = λ k ne. get_or-set_other s.words (q + 1) (k + 1) n 0 (λ is. ne (omega arith)) } in
    let was : slice_index s.words (q + 1) ≤ n = omega (arith, e.marks) in
    let long = prefix_length me.0.knows.seen r.history f.begins.seen in
    let zeroth : slice_index words 0 ≡ slice_index s.words 0 = get_or-set_other s.words (q + 1) 0 n 0 (λ is. omega arith) in
    let below : (k : ℕ) → slice_index words (k + 1) ≤ slice_index words 0 = λ k. words_below s.words words q n k (slice_index words 0) becomes (λ is. omega (arith, zeroth, r.count, long)) (omega (arith, r.sizes.marks k, zeroth)) (ℕ_discrete k q) in (
      w,
      keeps,
      tt,
      ruled script words s.homes (set s.views id w) r.history r.gate r.owner
          (each_step script s.words words r.history r.history r.gate id r.owner s.views w each
          (λ _. marked_fits script s.words words r.history r.gate id q n r.owner me.0 becomes (λ _. most) f)
          (λ j u ne g. others_fit script s.words words r.history r.gate id j q n r.owner u becomes was (f.is_owner q own) ne g))
          (gate_set r.gate id s.views me.0 w at refl (gate_of script s r))
          r.prefixes.1
          (zeroth ∙ r.count)
          record { wide = length-set s.words (q + 1) n ∙ wide; few = r.sizes.few; marks = below },
      ap (λ (k : ℕ). (with_mark_of k n me.0, me.1)) (sym back),
    )

-- Append

more_calls : (script : BoardScript) (history : List ℕ) (call : ℕ) → AreCalls script history → call < length script.calls → list_any (eqb call) history ≡ false → AreCalls script (history ++ call ∷ [])
more_calls script history call are less fresh = record {
  distinct = IsDistinct-push nat_eq_equiv history call are.distinct fresh;
  there = λ q h. ⊎_elim
      (λ (t : list_any (eqb q) history ≡ true). are.there q t)
      (λ (t : list_any (eqb q) (call ∷ []) ≡ true). grind (arith, nat_tests))
      (or_cases (list_any (eqb q) history) (list_any (eqb q) (call ∷ [])) (sym (list_any-append (eqb q) history (call ∷ [])) ∙ h));
}

-- a view fits where the marks are as they were
refit : (script : BoardScript) (words words' history : List ℕ) (gate j : ℕ) (owner : ℕ → ℕ) (u : View) → ((k : ℕ) → slice_index words' (k + 1) ≡ slice_index words (k + 1)) → Fits script words history gate owner j u → Fits script words' history gate owner j u
refit script words words' history gate j owner u same f = record {
  of_script = f.of_script;
  is_gate = f.is_gate;
  is_owner = f.is_owner;
  begins = f.begins;
  below = λ k. let b = f.below k in record { marks = omega (arith, same k, b.marks); mine = omega (arith, same k, b.mine); theirs = omega (arith, same k, b.theirs) };
  exact = λ k own. let e = f.exact k own in record { marks = e.marks ∙ sym (same k); mine = e.mine ∙ sym (same k); seen = omega (arith, same k, e.seen) };
}

more_fits : (script : BoardScript) (words history : List ℕ) (gate call id j : ℕ) (owner : ℕ → ℕ) (u : View) → id ≡ gate → j ≢ id → Fits script words history gate owner j u → Fits script words (history ++ call ∷ []) gate owner j u
more_fits script words history gate call id j owner u is apart f = record {
  of_script = f.of_script;
  is_gate = f.is_gate;
  is_owner = f.is_owner;
  begins = record {
    seen = prefix_more u.knows.seen history (call ∷ []) f.begins.seen;
    one = prefix_more u.one history (call ∷ []) f.begins.one;
    two = prefix_more u.two history (call ∷ []) f.begins.two;
    whole = λ e. absurd (apart (f.is_gate e ∙ sym is));
  };
  below = f.below;
  exact = f.exact;
}

add_fits : (script : BoardScript) (words history : List ℕ) (gate call id : ℕ) (owner : ℕ → ℕ) (v : View) → v.knows.role ≡ Gate → Fits script words history gate owner id v → Fits script words (history ++ call ∷ []) gate owner id (with_call call v)
add_fits script words history gate call id owner v gated f =
    let whole = f.begins.whole gated in record {
      of_script = f.of_script;
      is_gate = f.is_gate;
      is_owner = f.is_owner;
      begins = record {
        seen = subst (λ (z : List ℕ). IsPrefix (z ++ call ∷ []) (history ++ call ∷ [])) (sym whole) (prefix_self (history ++ call ∷ []));
        one = prefix_more v.one history (call ∷ []) f.begins.one;
        two = prefix_more v.two history (call ∷ []) f.begins.two;
        whole = λ e. ap (λ (z : List ℕ). z ++ call ∷ []) whole;
      };
      below = λ k. let b = f.below k in record { marks = b.marks; mine = b.mine; theirs = b.theirs };
      exact = λ k own. let e = f.exact k own in record { marks = e.marks; mine = e.mine; seen = omega (arith, e.seen, length-append v.knows.seen (call ∷ [])) };
    }

pub appends : (script : BoardScript) (slots id call : ℕ) (me : Me ℕ View) (st : Step ℕ) → me.0.knows.role ≡ Gate → call < length me.0.script.calls → list_any (eqb call) me.0.knows.seen ≡ false
    → Allows (Ruled script) slots id me 0 (λ n. (n + 1) % 2 ^ 64) (appending call st me)
appends script slots id call me st gated less fresh s r len at small =
    let live : me.0.knows.role ≢ Spent = λ (e : me.0.knows.role ≡ Spent). absurd (cc (sym gated ∙ e)) in
    let each = each_of script s r in
    let f : Fits script s.words r.history r.gate r.owner id me.0 = each id me.0 at live in
    let w : View = with_call call me.0 in
    let history : List ℕ = r.history ++ call ∷ [] in
    let calls : AreCalls script history = more_calls script r.history call r.prefixes.1 (subst (λ (z : BoardScript). call < length z.calls) f.of_script less) (subst (λ (z : List ℕ). list_any (eqb call) z ≡ false) (f.begins.whole gated) fresh) in
    let most : length history ≤ length script.calls = few_calls script history calls in
    let long : length history ≡ length r.history + 1 = length-append r.history (call ∷ []) in
    let few = r.sizes.few in
    let count = r.count in
    let wide = r.sizes.wide in
    let n : ℕ = (slice_index s.words 0 + 1) % 2 ^ 64 in
    let sum : n ≡ length history = omega arith in
    let words : List ℕ = set s.words 0 n in
    let zeroth : slice_index words 0 ≡ n = get_or-set_same s.words 0 n 0 (omega (arith, wide)) in
    let same : (k : ℕ) → slice_index words (k + 1) ≡ slice_index s.words (k + 1) = λ k. get_or-set_other s.words 0 (k + 1) n 0 (λ e. omega arith) in (
      w,
      keeps,
      tt,
      ruled script words s.homes (set s.views id w) history r.gate r.owner
          (each_step script s.words words r.history history r.gate id r.owner s.views w each
          (λ _. refit script s.words words history r.gate id r.owner w same (add_fits script s.words r.history r.gate call id r.owner me.0 gated f))
          (λ j u ne g. refit script s.words words history r.gate j r.owner u same (more_fits script s.words r.history r.gate call id j r.owner u (f.is_gate gated) ne g)))
          (gate_set r.gate id s.views me.0 w at refl (gate_of script s r))
          calls
          (zeroth ∙ sum)
          record { wide = length-set s.words 0 n ∙ wide; few = few; marks = λ k. omega (arith, same k, r.sizes.marks k, zeroth, sum, long, count) },
      refl,
    )

-- Roles

-- who has the role of each shard once that of q is the seat j's
abbrev moved_to : (ℕ → ℕ) → ℕ → ℕ → ℕ → ℕ
moved_to owner q j k = cond (eqb k q) j (owner k)

moved_else : (owner : ℕ → ℕ) (q j k : ℕ) → k ≢ q → moved_to owner q j k ≡ owner k
moved_else owner q j k ne = rw (ne_eqb k q ne) refl

moved_here : (owner : ℕ → ℕ) (q j k : ℕ) → k ≡ q → moved_to owner q j k ≡ j
moved_here owner q j k e = rw (eq-eqb k q e) refl

not_cons : (k q : ℕ) (qs : List ℕ) → not (list_any (eqb k) (q ∷ qs)) ≡ true → (k ≢ q) × (not (list_any (eqb k) qs) ≡ true)
not_cons k q qs h = go (eqb k q) refl (list_any (eqb k) qs) h
  where
    go : (a : Bool) → eqb k q ≡ a → (b : Bool) → not (a || b) ≡ true → (k ≢ q) × (not b ≡ true)
    go true is b h = absurd (cc h)
    go false is b h = ((λ (e : k ≡ q). absurd (cc (sym is ∙ eq-eqb k q e))), h)

-- another view, which doesn't have the role of q
keeps_fit : (script : BoardScript) (words history : List ℕ) (gate id j n q : ℕ) (owner : ℕ → ℕ) (u : View) → id ≡ owner q → j ≢ id → Fits script words history gate owner j u → Fits script words history gate (moved_to owner q n) j u
keeps_fit script words history gate id j n q owner u is apart f = record {
  of_script = f.of_script;
  is_gate = f.is_gate;
  is_owner = λ k own. let ne : k ≢ q = λ (e : k ≡ q). apart (f.is_owner k own ∙ (ap owner e ∙ sym is)) in f.is_owner k own ∙ sym (moved_else owner q n k ne);
  begins = f.begins;
  below = f.below;
  exact = f.exact;
}

from_fits : (script : BoardScript) (words history : List ℕ) (gate id n q : ℕ) (owner : ℕ → ℕ) (v : View) → v.knows.role ≡ Gate → Fits script words history gate owner id v → Fits script words history gate (moved_to owner q n) id (handing_out q v)
from_fits script words history gate id n q owner v gated f =
    let left : (k : ℕ) → has_role (handing_out q v).knows k ≡ true → (k ≢ q) × (has_role v.knows k ≡ true) = λ k own.
    let l = not_cons k q v.knows.handed (subst (λ (z : Role). has z (q ∷ v.knows.handed) k ≡ true) gated own) in
    (l.0, subst (λ (z : Role). has z v.knows.handed k ≡ true) (sym gated) l.1) in record {
      of_script = f.of_script;
      is_gate = f.is_gate;
      is_owner = λ k own. let l = left k own in f.is_owner k l.1 ∙ sym (moved_else owner q n k l.0);
      begins = record { seen = f.begins.seen; one = f.begins.one; two = f.begins.two; whole = f.begins.whole };
      below = λ k. let b = f.below k in record { marks = b.marks; mine = b.mine; theirs = b.theirs };
      exact = λ k own. let e = f.exact k (left k own).1 in record { marks = e.marks; mine = e.mine; seen = e.seen };
    }

to_fits : (script : BoardScript) (words history : List ℕ) (gate id n q : ℕ) (owner : ℕ → ℕ) (v : View) → has_role v.knows q ≡ true → Fits script words history gate owner id v → Fits script words history gate (moved_to owner q n) n (of_shard q v)
to_fits script words history gate id n q owner v own f =
    let is : (k : ℕ) → eqb k q ≡ true → k ≡ q = λ k h. grind (arith, nat_tests) in record {
      of_script = f.of_script;
      is_gate = λ (e : Shard q ≡ Gate). absurd cc;
      is_owner = λ k h. sym (moved_here owner q n k (is k h));
      begins = record { seen = f.begins.seen; one = prefix_none history; two = prefix_none history; whole = λ (e : Shard q ≡ Gate). absurd cc };
      below = λ k. let b = f.below k in record { marks = b.marks; mine = b.marks; theirs = b.marks };
      exact = λ k h. let e = f.exact k (subst (λ (z : ℕ). has_role v.knows z ≡ true) (sym (is k h)) own) in record { marks = e.marks; mine = e.marks; seen = e.seen };
    }

pub hands : (script : BoardScript) (id q : ℕ) (v : View) → v.knows.role ≡ Gate → has_role v.knows q ≡ true → Splits {S = ℕ} (Ruled script) id v (handing_out q v) (of_shard q v)
hands script id q v gated own s r at =
    let live : v.knows.role ≢ Spent = λ (e : v.knows.role ≡ Spent). absurd (cc (sym gated ∙ e)) in
    let each = each_of script s r in
    let f : Fits script s.words r.history r.gate r.owner id v = each id v at live in
    let n : ℕ = length s.views in
    let owner : ℕ → ℕ = moved_to r.owner q n in
    let is = f.is_owner q own in
    let l : View = handing_out q v in
    let left : Fits script s.words r.history r.gate owner id l = from_fits script s.words r.history r.gate id n q r.owner v gated f in
    let right : Fits script s.words r.history r.gate owner n (of_shard q v) = to_fits script s.words r.history r.gate id n q r.owner v own f in
    ruled script s.words s.homes (set s.views id l ++ of_shard q v ∷ []) r.history r.gate owner
    (λ j u there alive. ⊎_elim
    (λ (t : (j < length (set s.views id l)) × (get_elem? (set s.views id l) j ≡ some u)). ⊎_elim
    (λ (p : (j ≡ id) × (l ≡ u)). subst (λ (z : ℕ). Fits script s.words r.history r.gate owner z u) (sym p.0) (subst (λ (z : View). Fits script s.words r.history r.gate owner id z) p.1 left))
    (λ (p : (j ≢ id) × (get_elem? s.views j ≡ some u)). keeps_fit script s.words r.history r.gate id j n q r.owner u is p.0 (each j u p.1 alive))
    (at_set s.views id j l u t.1))
    (λ (t : (j ≡ length (set s.views id l)) × (of_shard q v ≡ u)). subst (λ (z : ℕ). Fits script s.words r.history r.gate owner z u) (sym (t.0 ∙ length-set s.views id l)) (subst (λ (z : View). Fits script s.words r.history r.gate owner n z) t.1 right))
    (snoc_at (set s.views id l) (of_shard q v) u j there))
    (gate_push r.gate (set s.views id l) (of_shard q v) (gate_set r.gate id s.views v l at refl (gate_of script s r)))
    r.prefixes.1
    r.count
    r.sizes

-- A log that loses its open statement, or a part of it.
use Rattle.std.proofs.Common.{◌≡◌, ◌≤◌, ℕ, List, [], length, take, drop, refl, sym, ap, subst, ◌∙◌, arith}
use Rattle.std.specs.Prelude.{map}
use Rattle.std.proofs.lemmas.List.{take_all, drop_all, take-take, length-take-le}
use Rattle.mv_values.specs.declared.patch.Write.{Write}
use Rattle.mv_undo.specs.Owned.{places_before}
use Rattle.mv_undo.specs.Indexed.{Indexed, no_index, Finds, IsIndexOf}
use Rattle.mv_undo.proofs.Finding.{finds_first, finds_none}
use Rattle.mv_log.specs.declared.head.Side.{Side}
use Rattle.mv_log.specs.declared.head.Marks.{Marks}
use Rattle.mv_log.specs.declared.lists.Lists.{Lists}
use Rattle.mv_log.specs.declared.log.Log.TheInside.{Inside}
use Rattle.mv_log.specs.Fitting.{marks_of}
use Rattle.mv_log.specs.Heads.{record_at}
use Rattle.mv_log.specs.Cutting.{nothing, kept_to, unchanged_from, unasked_from}
use Rattle.mv_log.specs.Logged.{no_effect}
use Rattle.mv_log.specs.Expanding.{expanded, closed_sizes, IsWhole}
use Rattle.mv_log.proofs.Lending.{map_take, heads_take}
use Rattle.mv_log.proofs.Sides.{asked_take}
use Rattle.mv_log.proofs.Growing.{AgreeTo, heads_same, own_kept, past_same, up_to_same}

none_left : {X : Type 0} (n : ℕ) (xs : List X) → n ≤ length xs → drop n (take n xs) ≡ []
none_left n xs l = drop_all n (take n xs) (omega (arith, length-take-le n xs l))

cut_once : {X : Type 0} (n : ℕ) (xs : List X) → take n (take n xs) ≡ take n xs
cut_once n xs = take-take n n xs (omega arith)

still_within : {X : Type 0} (n : ℕ) (xs : List X) → n ≤ length xs → n ≤ length (take n xs)
still_within n xs l = omega (arith, length-take-le n xs l)

same_sides : (es : List Side) → take (length es) es ≡ es
same_sides es = take_all (length es) es (omega arith)

-- The first records, with nothing open

agree_kept : (p : Inside) → IsWhole p → AgreeTo p.from (kept_to p.from p.lists) p.lists
agree_kept p w = let l : Lists = p.lists in let m : Marks = p.from in record { turns = cut_once m.turns l.turns; reads = cut_once m.reads l.reads; sets = cut_once m.sets l.sets; preds = cut_once m.preds l.preds; tests = cut_once m.tests l.tests; columns = cut_once m.columns l.columns; rows = cut_once m.rows l.rows; writes = cut_once m.writes l.writes; lines = cut_once m.lines l.lines; ends = cut_once m.ends l.ends; sides = same_sides l.sides }

first_same : (p : Inside) (n : ℕ) → IsWhole p → map (record_at (kept_to p.from p.lists)) (take n p.heads) ≡ take n (map (record_at p.lists) p.heads)
first_same p n w = let k : Lists = kept_to p.from p.lists in sym (map_take (record_at k) n p.heads) ∙ ap (take n) (heads_same p k w (agree_kept p w))

pub cut : (p : Inside) (n : ℕ) (j : Indexed) → IsWhole p → expanded (let l = p.lists in record p { heads = take n p.heads; lists = kept_to p.from l; own = j }) ≡ (let was = expanded p in record was { records = take n was.records; turns = []; reads = []; effect = no_effect; tests = []; columns = [] })
cut p n j w =
    let l : Lists = p.lists in
    let m : Marks = p.from in
    let k : Lists = kept_to m l in
    let e : AgreeTo m k l = agree_kept p w in
    let heads : map (record_at k) (take n p.heads) ≡ take n (map (record_at l) p.heads) = first_same p n w in
    let past : map (record_at k) p.past ≡ map (record_at l) p.past = past_same p k w e in
    let turns : drop m.turns (take m.turns l.turns) ≡ [] = none_left m.turns l.turns w.from.turns in
    let reads : drop m.reads (take m.reads l.reads) ≡ [] = none_left m.reads l.reads w.from.reads in
    let sets : drop m.sets (take m.sets l.sets) ≡ [] = none_left m.sets l.sets w.from.sets in
    let tests : drop m.tests (take m.tests l.tests) ≡ [] = none_left m.tests l.tests w.from.tests in
    let columns : drop m.columns (take m.columns l.columns) ≡ [] = none_left m.columns l.columns w.from.columns in
    let rows : drop m.rows (take m.rows l.rows) ≡ [] = none_left m.rows l.rows w.from.rows in
    let writes : drop m.writes (take m.writes l.writes) ≡ [] = none_left m.writes l.writes w.from.writes in
    let lines : drop m.lines (take m.lines l.lines) ≡ [] = none_left m.lines l.lines w.from.lines in
    let ends : drop m.ends (take m.ends l.ends) ≡ [] = none_left m.ends l.ends w.from.ends in
    let preds : drop m.preds (take m.preds l.preds) ≡ [] = none_left m.preds l.preds w.from.preds in
    rw heads (rw past (rw preds (rw turns (rw reads (rw sets (rw tests (rw columns (rw rows (rw writes (rw lines (rw ends refl)))))))))))

pub cut_whole : (p : Inside) (n : ℕ) (j : Indexed) → IsIndexOf j (take p.from.writes p.lists.writes) → j.places ≡ places_before n p.own.places → IsWhole p → IsWhole (let l = p.lists in record p { heads = take n p.heads; lists = kept_to p.from l; own = j })
cut_whole p n j ix less w =
    let l : Lists = p.lists in
    let m : Marks = p.from in
    let ws : List Write = take m.writes l.writes in
    record {
      heads = heads_take (closed_sizes p) n p.heads w.heads;
      past = w.past;
      sides = w.sides;
      own =
          subst (λ (vs : List Write). Finds j vs (map (record_at (kept_to m l)) (take n p.heads))) (sym (cut_once m.writes l.writes))
          (subst (Finds j ws) (sym (first_same p n w)) (finds_first p.own j ws (map (record_at l) p.heads) n w.own ix less));
      preds = asked_take m m.preds l.preds w.preds;
      from = record { turns = still_within m.turns l.turns w.from.turns; reads = still_within m.reads l.reads w.from.reads; sets = still_within m.sets l.sets w.from.sets; preds = still_within m.preds l.preds w.from.preds; tests = still_within m.tests l.tests w.from.tests; columns = still_within m.columns l.columns w.from.columns; rows = still_within m.rows l.rows w.from.rows; writes = still_within m.writes l.writes w.from.writes; lines = still_within m.lines l.lines w.from.lines; ends = still_within m.ends l.ends w.from.ends };
    }

-- The effect, but for its predicates

agree_unchanged : (p : Inside) → IsWhole p → AgreeTo p.from (unchanged_from p.from p.lists) p.lists
agree_unchanged p w = let l : Lists = p.lists in let m : Marks = p.from in record { turns = refl; reads = refl; sets = cut_once m.sets l.sets; preds = refl; tests = refl; columns = refl; rows = cut_once m.rows l.rows; writes = cut_once m.writes l.writes; lines = cut_once m.lines l.lines; ends = cut_once m.ends l.ends; sides = same_sides l.sides }

pub unchanged : (p : Inside) → IsWhole p → expanded (let l = p.lists in record p { lists = unchanged_from p.from l }) ≡ (let was = expanded p in record was { effect = record no_effect { preds = was.effect.preds } })
unchanged p w =
    let l : Lists = p.lists in
    let m : Marks = p.from in
    let k : Lists = unchanged_from m l in
    let e : AgreeTo m k l = agree_unchanged p w in
    let heads : map (record_at k) p.heads ≡ map (record_at l) p.heads = heads_same p k w e in
    let past : map (record_at k) p.past ≡ map (record_at l) p.past = past_same p k w e in
    let sets : drop m.sets (take m.sets l.sets) ≡ [] = none_left m.sets l.sets w.from.sets in
    let rows : drop m.rows (take m.rows l.rows) ≡ [] = none_left m.rows l.rows w.from.rows in
    let writes : drop m.writes (take m.writes l.writes) ≡ [] = none_left m.writes l.writes w.from.writes in
    let lines : drop m.lines (take m.lines l.lines) ≡ [] = none_left m.lines l.lines w.from.lines in
    let ends : drop m.ends (take m.ends l.ends) ≡ [] = none_left m.ends l.ends w.from.ends in
    rw heads (rw past (rw sets (rw rows (rw writes (rw lines (rw ends refl))))))

pub unchanged_whole : (p : Inside) → IsWhole p → IsWhole (let l = p.lists in record p { lists = unchanged_from p.from l })
unchanged_whole p w =
    let l : Lists = p.lists in
    record { heads = w.heads; past = w.past; sides = w.sides; preds = w.preds; own = own_kept p (unchanged_from p.from l) w (agree_unchanged p w); from = record { turns = w.from.turns; reads = w.from.reads; sets = still_within p.from.sets l.sets w.from.sets; preds = w.from.preds; tests = w.from.tests; columns = w.from.columns; rows = still_within p.from.rows l.rows w.from.rows; writes = still_within p.from.writes l.writes w.from.writes; lines = still_within p.from.lines l.lines w.from.lines; ends = still_within p.from.ends l.ends w.from.ends } }

-- The effect

agree_dropped : (p : Inside) → IsWhole p → AgreeTo p.from (unchanged_from p.from (unasked_from p.from p.lists)) p.lists
agree_dropped p w = let l : Lists = p.lists in let m : Marks = p.from in record { turns = refl; reads = refl; sets = cut_once m.sets l.sets; preds = cut_once m.preds l.preds; tests = cut_once m.tests l.tests; columns = cut_once m.columns l.columns; rows = cut_once m.rows l.rows; writes = cut_once m.writes l.writes; lines = cut_once m.lines l.lines; ends = cut_once m.ends l.ends; sides = same_sides l.sides }

pub dropped : (p : Inside) → IsWhole p → expanded (let l = p.lists in record p { lists = unchanged_from p.from (unasked_from p.from l) }) ≡ (let was = expanded p in record was { effect = no_effect; tests = []; columns = [] })
dropped p w =
    let l : Lists = p.lists in
    let m : Marks = p.from in
    let k : Lists = unchanged_from m (unasked_from m l) in
    let e : AgreeTo m k l = agree_dropped p w in
    let heads : map (record_at k) p.heads ≡ map (record_at l) p.heads = heads_same p k w e in
    let past : map (record_at k) p.past ≡ map (record_at l) p.past = past_same p k w e in
    let sets : drop m.sets (take m.sets l.sets) ≡ [] = none_left m.sets l.sets w.from.sets in
    let tests : drop m.tests (take m.tests l.tests) ≡ [] = none_left m.tests l.tests w.from.tests in
    let columns : drop m.columns (take m.columns l.columns) ≡ [] = none_left m.columns l.columns w.from.columns in
    let rows : drop m.rows (take m.rows l.rows) ≡ [] = none_left m.rows l.rows w.from.rows in
    let writes : drop m.writes (take m.writes l.writes) ≡ [] = none_left m.writes l.writes w.from.writes in
    let lines : drop m.lines (take m.lines l.lines) ≡ [] = none_left m.lines l.lines w.from.lines in
    let ends : drop m.ends (take m.ends l.ends) ≡ [] = none_left m.ends l.ends w.from.ends in
    let preds : drop m.preds (take m.preds l.preds) ≡ [] = none_left m.preds l.preds w.from.preds in
    rw heads (rw past (rw preds (rw sets (rw tests (rw columns (rw rows (rw writes (rw lines (rw ends refl)))))))))

pub dropped_whole : (p : Inside) → IsWhole p → IsWhole (let l = p.lists in record p { lists = unchanged_from p.from (unasked_from p.from l) })
dropped_whole p w =
    let l : Lists = p.lists in
    record {
      heads = w.heads;
      past = w.past;
      sides = w.sides;
      own = own_kept p (unchanged_from p.from (unasked_from p.from l)) w (agree_dropped p w);
      preds = asked_take p.from p.from.preds l.preds w.preds;
      from = record { turns = w.from.turns; reads = w.from.reads; sets = still_within p.from.sets l.sets w.from.sets; preds = still_within p.from.preds l.preds w.from.preds; tests = still_within p.from.tests l.tests w.from.tests; columns = still_within p.from.columns l.columns w.from.columns; rows = still_within p.from.rows l.rows w.from.rows; writes = still_within p.from.writes l.writes w.from.writes; lines = still_within p.from.lines l.lines w.from.lines; ends = still_within p.from.ends l.ends w.from.ends };
    }

-- An empty log, and a run that is repaired

pub empty_whole : IsWhole (record { heads = []; past = []; kept = 0; lists = nothing; from = marks_of nothing; own = no_index })
empty_whole = record { heads = tt; past = tt; sides = tt; preds = tt; from = up_to_same (marks_of nothing); own = finds_none [] }

pub repaired_whole : (p : Inside) → IsWhole p → IsWhole (let hs = p.heads in record p { heads = []; past = hs; kept = 0; own = no_index })
repaired_whole p w = record { heads = tt; past = w.heads; sides = w.sides; preds = w.preds; from = w.from; own = finds_none (take p.from.writes p.lists.writes) }

pub ended_whole : (p : Inside) → IsWhole p → IsWhole (record p { past = []; kept = 0 })
ended_whole p w = record { heads = w.heads; past = tt; sides = w.sides; preds = w.preds; from = w.from; own = w.own }

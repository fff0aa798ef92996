-- A log of which a shared list has grown.
use Rattle.std.proofs.Common.{◌≡◌, ◌≤◌, ℕ, None, Some, List, [], ◌∷◌, ◌++◌, Result, Ok, Err, OnOk, OnErr, length, drop, refl, sym, subst, arith, length-append}
use Rattle.std.specs.Prelude.{map}
use Rattle.std.proofs.lemmas.List.{take-append-le, drop-append-le, take_all}
use Rattle.mv_values.specs.declared.value.Value.{Value}
use Rattle.mv_values.specs.declared.pred.Test.{Test}
use Rattle.mv_values.specs.declared.patch.Write.{Write}
use Rattle.mv_values.specs.declared.calls.End.{End}
use Rattle.mv_record.specs.declared.record.Slot.{Slot}
use Rattle.mv_record.specs.declared.record.Read.{Read}
use Rattle.mv_log.specs.declared.lists.Lists.{Lists}
use Rattle.mv_log.specs.declared.log.Log.TheInside.{Inside}
use Rattle.mv_log.specs.Parts.{first_of}
use Rattle.mv_log.specs.Heads.{pred_of, record_at}
use Rattle.mv_log.specs.Expanding.{expanded, IsWhole}
use Rattle.mv_log.proofs.Sides.{asked_drop}
use Rattle.mv_log.proofs.Growing.{AgreeTo, heads_same, own_kept, past_same, preds_same}

longer : {X : Type 0} (xs more : List X) (n : ℕ) → n ≤ length xs → n ≤ length (xs ++ more)
longer xs more n l = omega (arith, length-append xs more, l)

pub first_more : {X : Type 0} (xs : List X) (x : X) → first_of xs ≡ None → first_of (xs ++ x ∷ []) ≡ Some x
first_more [] x h = refl
first_more (y ∷ ys) x h = cc

-- turns

agree_turns : (p : Inside) (more : List ℕ) → IsWhole p → (let l = p.lists in AgreeTo p.from (record l { turns = l.turns ++ more }) l)
agree_turns p more w = let l : Lists = p.lists in record { turns = take-append-le p.from.turns l.turns (more) w.from.turns; reads = refl; sets = refl; preds = refl; tests = refl; columns = refl; rows = refl; writes = refl; lines = refl; ends = refl; sides = take_all (length l.sides) l.sides (omega arith) }

pub more_turns : (p : Inside) (more : List ℕ) → IsWhole p → expanded (let l = p.lists in record p { lists = record l { turns = l.turns ++ more } }) ≡ (let was = expanded p in record was { turns = was.turns ++ more })
more_turns p more w =
    let l : Lists = p.lists in
    let k : Lists = record l { turns = l.turns ++ more } in
    let e : AgreeTo p.from k l = agree_turns p more w in
    let a : map (record_at k) p.heads ≡ map (record_at l) p.heads = heads_same p k w e in
    let b : map (record_at k) p.past ≡ map (record_at l) p.past = past_same p k w e in
    let c : drop p.from.turns (l.turns ++ more) ≡ drop p.from.turns l.turns ++ more = drop-append-le p.from.turns l.turns (more) w.from.turns in
    rw a (rw b (rw c refl))

pub whole_turns : (p : Inside) (more : List ℕ) → IsWhole p → IsWhole (let l = p.lists in record p { lists = record l { turns = l.turns ++ more } })
whole_turns p more w =
    let l : Lists = p.lists in
    record { heads = w.heads; past = w.past; sides = w.sides; preds = w.preds; own = own_kept p (record l { turns = l.turns ++ more }) w (agree_turns p more w); from = record { turns = longer l.turns (more) p.from.turns w.from.turns; reads = w.from.reads; sets = w.from.sets; preds = w.from.preds; tests = w.from.tests; columns = w.from.columns; rows = w.from.rows; writes = w.from.writes; lines = w.from.lines; ends = w.from.ends } }

-- reads

agree_reads : (p : Inside) (more : List Read) → IsWhole p → (let l = p.lists in AgreeTo p.from (record l { reads = l.reads ++ more }) l)
agree_reads p more w = let l : Lists = p.lists in record { turns = refl; reads = take-append-le p.from.reads l.reads (more) w.from.reads; sets = refl; preds = refl; tests = refl; columns = refl; rows = refl; writes = refl; lines = refl; ends = refl; sides = take_all (length l.sides) l.sides (omega arith) }

pub more_reads : (p : Inside) (more : List Read) → IsWhole p → expanded (let l = p.lists in record p { lists = record l { reads = l.reads ++ more } }) ≡ (let was = expanded p in record was { reads = was.reads ++ more })
more_reads p more w =
    let l : Lists = p.lists in
    let k : Lists = record l { reads = l.reads ++ more } in
    let e : AgreeTo p.from k l = agree_reads p more w in
    let a : map (record_at k) p.heads ≡ map (record_at l) p.heads = heads_same p k w e in
    let b : map (record_at k) p.past ≡ map (record_at l) p.past = past_same p k w e in
    let c : drop p.from.reads (l.reads ++ more) ≡ drop p.from.reads l.reads ++ more = drop-append-le p.from.reads l.reads (more) w.from.reads in
    rw a (rw b (rw c refl))

pub whole_reads : (p : Inside) (more : List Read) → IsWhole p → IsWhole (let l = p.lists in record p { lists = record l { reads = l.reads ++ more } })
whole_reads p more w =
    let l : Lists = p.lists in
    record { heads = w.heads; past = w.past; sides = w.sides; preds = w.preds; own = own_kept p (record l { reads = l.reads ++ more }) w (agree_reads p more w); from = record { turns = w.from.turns; reads = longer l.reads (more) p.from.reads w.from.reads; sets = w.from.sets; preds = w.from.preds; tests = w.from.tests; columns = w.from.columns; rows = w.from.rows; writes = w.from.writes; lines = w.from.lines; ends = w.from.ends } }

-- tests

agree_tests : (p : Inside) (more : List Test) → IsWhole p → (let l = p.lists in AgreeTo p.from (record l { tests = l.tests ++ more }) l)
agree_tests p more w = let l : Lists = p.lists in record { turns = refl; reads = refl; sets = refl; preds = refl; tests = take-append-le p.from.tests l.tests (more) w.from.tests; columns = refl; rows = refl; writes = refl; lines = refl; ends = refl; sides = take_all (length l.sides) l.sides (omega arith) }

pub more_tests : (p : Inside) (more : List Test) → IsWhole p → expanded (let l = p.lists in record p { lists = record l { tests = l.tests ++ more } }) ≡ (let was = expanded p in record was { tests = was.tests ++ more })
more_tests p more w =
    let l : Lists = p.lists in
    let k : Lists = record l { tests = l.tests ++ more } in
    let e : AgreeTo p.from k l = agree_tests p more w in
    let a : map (record_at k) p.heads ≡ map (record_at l) p.heads = heads_same p k w e in
    let b : map (record_at k) p.past ≡ map (record_at l) p.past = past_same p k w e in
    let c : drop p.from.tests (l.tests ++ more) ≡ drop p.from.tests l.tests ++ more = drop-append-le p.from.tests l.tests (more) w.from.tests in
    let d : map (pred_of k) (drop p.from.preds l.preds) ≡ map (pred_of l) (drop p.from.preds l.preds) = preds_same p.from k l (drop p.from.preds l.preds) (asked_drop p.from p.from.preds l.preds w.preds) e in
    rw a (rw b (rw c (rw d refl)))

pub whole_tests : (p : Inside) (more : List Test) → IsWhole p → IsWhole (let l = p.lists in record p { lists = record l { tests = l.tests ++ more } })
whole_tests p more w =
    let l : Lists = p.lists in
    record { heads = w.heads; past = w.past; sides = w.sides; preds = w.preds; own = own_kept p (record l { tests = l.tests ++ more }) w (agree_tests p more w); from = record { turns = w.from.turns; reads = w.from.reads; sets = w.from.sets; preds = w.from.preds; tests = longer l.tests (more) p.from.tests w.from.tests; columns = w.from.columns; rows = w.from.rows; writes = w.from.writes; lines = w.from.lines; ends = w.from.ends } }

-- columns

agree_columns : (p : Inside) (more : List ℕ) → IsWhole p → (let l = p.lists in AgreeTo p.from (record l { columns = l.columns ++ more }) l)
agree_columns p more w = let l : Lists = p.lists in record { turns = refl; reads = refl; sets = refl; preds = refl; tests = refl; columns = take-append-le p.from.columns l.columns (more) w.from.columns; rows = refl; writes = refl; lines = refl; ends = refl; sides = take_all (length l.sides) l.sides (omega arith) }

pub more_columns : (p : Inside) (more : List ℕ) → IsWhole p → expanded (let l = p.lists in record p { lists = record l { columns = l.columns ++ more } }) ≡ (let was = expanded p in record was { columns = was.columns ++ more })
more_columns p more w =
    let l : Lists = p.lists in
    let k : Lists = record l { columns = l.columns ++ more } in
    let e : AgreeTo p.from k l = agree_columns p more w in
    let a : map (record_at k) p.heads ≡ map (record_at l) p.heads = heads_same p k w e in
    let b : map (record_at k) p.past ≡ map (record_at l) p.past = past_same p k w e in
    let c : drop p.from.columns (l.columns ++ more) ≡ drop p.from.columns l.columns ++ more = drop-append-le p.from.columns l.columns (more) w.from.columns in
    let d : map (pred_of k) (drop p.from.preds l.preds) ≡ map (pred_of l) (drop p.from.preds l.preds) = preds_same p.from k l (drop p.from.preds l.preds) (asked_drop p.from p.from.preds l.preds w.preds) e in
    rw a (rw b (rw c (rw d refl)))

pub whole_columns : (p : Inside) (more : List ℕ) → IsWhole p → IsWhole (let l = p.lists in record p { lists = record l { columns = l.columns ++ more } })
whole_columns p more w =
    let l : Lists = p.lists in
    record { heads = w.heads; past = w.past; sides = w.sides; preds = w.preds; own = own_kept p (record l { columns = l.columns ++ more }) w (agree_columns p more w); from = record { turns = w.from.turns; reads = w.from.reads; sets = w.from.sets; preds = w.from.preds; tests = w.from.tests; columns = longer l.columns (more) p.from.columns w.from.columns; rows = w.from.rows; writes = w.from.writes; lines = w.from.lines; ends = w.from.ends } }

-- sets

agree_sets : (p : Inside) (more : List Slot) → IsWhole p → (let l = p.lists in AgreeTo p.from (record l { sets = l.sets ++ more }) l)
agree_sets p more w = let l : Lists = p.lists in record { turns = refl; reads = refl; sets = take-append-le p.from.sets l.sets (more) w.from.sets; preds = refl; tests = refl; columns = refl; rows = refl; writes = refl; lines = refl; ends = refl; sides = take_all (length l.sides) l.sides (omega arith) }

pub more_sets : (p : Inside) (more : List Slot) → IsWhole p → expanded (let l = p.lists in record p { lists = record l { sets = l.sets ++ more } }) ≡ (let was = expanded p in let o = was.effect in record was { effect = record o { sets = o.sets ++ more } })
more_sets p more w =
    let l : Lists = p.lists in
    let k : Lists = record l { sets = l.sets ++ more } in
    let e : AgreeTo p.from k l = agree_sets p more w in
    let a : map (record_at k) p.heads ≡ map (record_at l) p.heads = heads_same p k w e in
    let b : map (record_at k) p.past ≡ map (record_at l) p.past = past_same p k w e in
    let c : drop p.from.sets (l.sets ++ more) ≡ drop p.from.sets l.sets ++ more = drop-append-le p.from.sets l.sets (more) w.from.sets in
    rw a (rw b (rw c refl))

pub whole_sets : (p : Inside) (more : List Slot) → IsWhole p → IsWhole (let l = p.lists in record p { lists = record l { sets = l.sets ++ more } })
whole_sets p more w =
    let l : Lists = p.lists in
    record { heads = w.heads; past = w.past; sides = w.sides; preds = w.preds; own = own_kept p (record l { sets = l.sets ++ more }) w (agree_sets p more w); from = record { turns = w.from.turns; reads = w.from.reads; sets = longer l.sets (more) p.from.sets w.from.sets; preds = w.from.preds; tests = w.from.tests; columns = w.from.columns; rows = w.from.rows; writes = w.from.writes; lines = w.from.lines; ends = w.from.ends } }

-- rows

agree_rows : (p : Inside) (more : List (List Value)) → IsWhole p → (let l = p.lists in AgreeTo p.from (record l { rows = l.rows ++ more }) l)
agree_rows p more w = let l : Lists = p.lists in record { turns = refl; reads = refl; sets = refl; preds = refl; tests = refl; columns = refl; rows = take-append-le p.from.rows l.rows (more) w.from.rows; writes = refl; lines = refl; ends = refl; sides = take_all (length l.sides) l.sides (omega arith) }

pub more_rows : (p : Inside) (more : List (List Value)) → IsWhole p → expanded (let l = p.lists in record p { lists = record l { rows = l.rows ++ more } }) ≡ (let was = expanded p in let o = was.effect in record was { effect = record o { rows = o.rows ++ more } })
more_rows p more w =
    let l : Lists = p.lists in
    let k : Lists = record l { rows = l.rows ++ more } in
    let e : AgreeTo p.from k l = agree_rows p more w in
    let a : map (record_at k) p.heads ≡ map (record_at l) p.heads = heads_same p k w e in
    let b : map (record_at k) p.past ≡ map (record_at l) p.past = past_same p k w e in
    let c : drop p.from.rows (l.rows ++ more) ≡ drop p.from.rows l.rows ++ more = drop-append-le p.from.rows l.rows (more) w.from.rows in
    rw a (rw b (rw c refl))

pub whole_rows : (p : Inside) (more : List (List Value)) → IsWhole p → IsWhole (let l = p.lists in record p { lists = record l { rows = l.rows ++ more } })
whole_rows p more w =
    let l : Lists = p.lists in
    record { heads = w.heads; past = w.past; sides = w.sides; preds = w.preds; own = own_kept p (record l { rows = l.rows ++ more }) w (agree_rows p more w); from = record { turns = w.from.turns; reads = w.from.reads; sets = w.from.sets; preds = w.from.preds; tests = w.from.tests; columns = w.from.columns; rows = longer l.rows (more) p.from.rows w.from.rows; writes = w.from.writes; lines = w.from.lines; ends = w.from.ends } }

-- writes

agree_writes : (p : Inside) (more : List Write) → IsWhole p → (let l = p.lists in AgreeTo p.from (record l { writes = l.writes ++ more }) l)
agree_writes p more w = let l : Lists = p.lists in record { turns = refl; reads = refl; sets = refl; preds = refl; tests = refl; columns = refl; rows = refl; writes = take-append-le p.from.writes l.writes (more) w.from.writes; lines = refl; ends = refl; sides = take_all (length l.sides) l.sides (omega arith) }

pub more_writes : (p : Inside) (more : List Write) → IsWhole p → expanded (let l = p.lists in record p { lists = record l { writes = l.writes ++ more } }) ≡ (let was = expanded p in let o = was.effect in record was { effect = record o { writes = o.writes ++ more } })
more_writes p more w =
    let l : Lists = p.lists in
    let k : Lists = record l { writes = l.writes ++ more } in
    let e : AgreeTo p.from k l = agree_writes p more w in
    let a : map (record_at k) p.heads ≡ map (record_at l) p.heads = heads_same p k w e in
    let b : map (record_at k) p.past ≡ map (record_at l) p.past = past_same p k w e in
    let c : drop p.from.writes (l.writes ++ more) ≡ drop p.from.writes l.writes ++ more = drop-append-le p.from.writes l.writes (more) w.from.writes in
    rw a (rw b (rw c refl))

pub whole_writes : (p : Inside) (more : List Write) → IsWhole p → IsWhole (let l = p.lists in record p { lists = record l { writes = l.writes ++ more } })
whole_writes p more w =
    let l : Lists = p.lists in
    record { heads = w.heads; past = w.past; sides = w.sides; preds = w.preds; own = own_kept p (record l { writes = l.writes ++ more }) w (agree_writes p more w); from = record { turns = w.from.turns; reads = w.from.reads; sets = w.from.sets; preds = w.from.preds; tests = w.from.tests; columns = w.from.columns; rows = w.from.rows; writes = longer l.writes (more) p.from.writes w.from.writes; lines = w.from.lines; ends = w.from.ends } }

-- the same after an attempt to add a write
pub whole_written : {T E : Type 0} (r : Result T E) (p : Inside) (write : Write) (now : List Write) → OnOk r (now ≡ p.lists.writes ++ write ∷ []) → OnErr r (now ≡ p.lists.writes) → IsWhole p → IsWhole (let l = p.lists in record p { lists = record l { writes = now } })
whole_written (Ok x) p write now ok err w = subst (λ (ws : List Write). IsWhole (let l = p.lists in record p { lists = record l { writes = ws } })) (sym ok) (whole_writes p (write ∷ []) w)
whole_written (Err x) p write now ok err w = subst (λ (ws : List Write). IsWhole (let l = p.lists in record p { lists = record l { writes = ws } })) (sym err) w

-- lines

agree_lines : (p : Inside) (x : List ℕ) → IsWhole p → (let l = p.lists in AgreeTo p.from (record l { lines = l.lines ++ x ∷ [] }) l)
agree_lines p x w = let l : Lists = p.lists in record { turns = refl; reads = refl; sets = refl; preds = refl; tests = refl; columns = refl; rows = refl; writes = refl; lines = take-append-le p.from.lines l.lines (x ∷ []) w.from.lines; ends = refl; sides = take_all (length l.sides) l.sides (omega arith) }

pub more_lines : (p : Inside) (x : List ℕ) → IsWhole p → (expanded p).effect.line ≡ None → expanded (let l = p.lists in record p { lists = record l { lines = l.lines ++ x ∷ [] } }) ≡ (let was = expanded p in let o = was.effect in record was { effect = record o { line = Some x } })
more_lines p x w h =
    let l : Lists = p.lists in
    let k : Lists = record l { lines = l.lines ++ x ∷ [] } in
    let e : AgreeTo p.from k l = agree_lines p x w in
    let a : map (record_at k) p.heads ≡ map (record_at l) p.heads = heads_same p k w e in
    let b : map (record_at k) p.past ≡ map (record_at l) p.past = past_same p k w e in
    let c : drop p.from.lines (l.lines ++ x ∷ []) ≡ drop p.from.lines l.lines ++ x ∷ [] = drop-append-le p.from.lines l.lines (x ∷ []) w.from.lines in
    let d : first_of (drop p.from.lines l.lines ++ x ∷ []) ≡ Some x = first_more (drop p.from.lines l.lines) x h in
    rw a (rw b (rw c (rw d refl)))

pub whole_lines : (p : Inside) (x : List ℕ) → IsWhole p → IsWhole (let l = p.lists in record p { lists = record l { lines = l.lines ++ x ∷ [] } })
whole_lines p x w =
    let l : Lists = p.lists in
    record { heads = w.heads; past = w.past; sides = w.sides; preds = w.preds; own = own_kept p (record l { lines = l.lines ++ x ∷ [] }) w (agree_lines p x w); from = record { turns = w.from.turns; reads = w.from.reads; sets = w.from.sets; preds = w.from.preds; tests = w.from.tests; columns = w.from.columns; rows = w.from.rows; writes = w.from.writes; lines = longer l.lines (x ∷ []) p.from.lines w.from.lines; ends = w.from.ends } }

-- ends

agree_ends : (p : Inside) (x : End) → IsWhole p → (let l = p.lists in AgreeTo p.from (record l { ends = l.ends ++ x ∷ [] }) l)
agree_ends p x w = let l : Lists = p.lists in record { turns = refl; reads = refl; sets = refl; preds = refl; tests = refl; columns = refl; rows = refl; writes = refl; lines = refl; ends = take-append-le p.from.ends l.ends (x ∷ []) w.from.ends; sides = take_all (length l.sides) l.sides (omega arith) }

pub more_ends : (p : Inside) (x : End) → IsWhole p → (expanded p).effect.end ≡ None → expanded (let l = p.lists in record p { lists = record l { ends = l.ends ++ x ∷ [] } }) ≡ (let was = expanded p in let o = was.effect in record was { effect = record o { end = Some x } })
more_ends p x w h =
    let l : Lists = p.lists in
    let k : Lists = record l { ends = l.ends ++ x ∷ [] } in
    let e : AgreeTo p.from k l = agree_ends p x w in
    let a : map (record_at k) p.heads ≡ map (record_at l) p.heads = heads_same p k w e in
    let b : map (record_at k) p.past ≡ map (record_at l) p.past = past_same p k w e in
    let c : drop p.from.ends (l.ends ++ x ∷ []) ≡ drop p.from.ends l.ends ++ x ∷ [] = drop-append-le p.from.ends l.ends (x ∷ []) w.from.ends in
    let d : first_of (drop p.from.ends l.ends ++ x ∷ []) ≡ Some x = first_more (drop p.from.ends l.ends) x h in
    rw a (rw b (rw c (rw d refl)))

pub whole_ends : (p : Inside) (x : End) → IsWhole p → IsWhole (let l = p.lists in record p { lists = record l { ends = l.ends ++ x ∷ [] } })
whole_ends p x w =
    let l : Lists = p.lists in
    record { heads = w.heads; past = w.past; sides = w.sides; preds = w.preds; own = own_kept p (record l { ends = l.ends ++ x ∷ [] }) w (agree_ends p x w); from = record { turns = w.from.turns; reads = w.from.reads; sets = w.from.sets; preds = w.from.preds; tests = w.from.tests; columns = w.from.columns; rows = w.from.rows; writes = w.from.writes; lines = w.from.lines; ends = longer l.ends (x ∷ []) p.from.ends w.from.ends } }

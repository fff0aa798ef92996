-- A log whose open statement is added to its records.
use Rattle.std.proofs.Common.{◌≡◌, ◌≤◌, ◌+◌, ◌<◌, ℕ, zero, suc, Option, None, Some, List, [], ◌∷◌, ◌++◌, All, length, take, drop, refl, sym, ap, subst, ◌∙◌, arith, length-append}
use Rattle.std.specs.Prelude.{map, slice_get}
use Rattle.std.proofs.lemmas.List.{take_all, take-take, take-append-drop, drop_all, map-append, take-append-le, drop-append-le}
use Rattle.mv_values.specs.declared.patch.Write.{Write}
use Rattle.mv_values.specs.declared.pred.Pred.{Pred}
use Rattle.mv_record.specs.declared.record.Record.{Record}
use Rattle.mv_record.specs.Effects.{record_of}
use Rattle.mv_undo.specs.declared.place.Place.{Place}
use Rattle.mv_undo.specs.Owned.{owned_by}
use Rattle.mv_undo.specs.Owning.{undo_of}
use Rattle.mv_undo.specs.Indexed.{Indexed, Finds, IsIndexOf}
use Rattle.mv_undo.proofs.Finding.{finds_back, finds_below, finds_grown, finds_more}
use Rattle.mv_log.specs.declared.head.Head.{Head}
use Rattle.mv_log.specs.declared.head.Range.{Range}
use Rattle.mv_log.specs.declared.head.Side.{Side}
use Rattle.mv_log.specs.declared.head.Asked.{Asked}
use Rattle.mv_log.specs.declared.head.Marks.{Marks}
use Rattle.mv_log.specs.declared.lists.Lists.{Lists}
use Rattle.mv_log.specs.declared.log.Log.TheInside.{Inside}
use Rattle.mv_log.specs.Parts.{Fits}
use Rattle.mv_log.specs.Fitting.{Sizes, marks_of, IsBelow, HeadFits, HeadsFit, SideFits, SidesFit, AskedFits, AskedFit, AreUpTo}
use Rattle.mv_log.specs.Heads.{blank, side_at, side_of, pred_of, record_with, record_at}
use Rattle.mv_log.specs.Cutting.{side_between, head_between, HasNothing, HasSide}
use Rattle.mv_log.specs.Logged.{Logged, no_effect}
use Rattle.mv_log.specs.Expanding.{expanded, effect_from, closed_sizes, IsWhole}
use Rattle.mv_log.proofs.Lending.{length_map}
use Rattle.mv_log.proofs.Sides.{side_fits}
use Rattle.mv_log.proofs.Growing.{AgreeTo, AreIn, heads_same, own_kept, past_same, heads_more, sides_more, asked_more, up_to_same}

-- Lists with one item more

pub heads_push : (s : Sizes) (hs : List Head) (h : Head) → HeadsFit s hs → HeadFits s h → HeadsFit s (hs ++ h ∷ [])
heads_push s [] h f g = (g, tt)
heads_push s (x ∷ hs) h f g = (f.0, heads_push s hs h f.1 g)

sides_push : (m : Marks) (es : List Side) (e : Side) → SidesFit m es → SideFits m e → SidesFit m (es ++ e ∷ [])
sides_push m [] e f g = (g, tt)
sides_push m (x ∷ es) e f g = (f.0, sides_push m es e f.1 g)

asked_push : (m : Marks) (qs : List Asked) (a : Asked) → AskedFit m qs → AskedFits m a → AskedFit m (qs ++ a ∷ [])
asked_push m [] a f g = (g, tt)
asked_push m (x ∷ qs) a f g = (f.0, asked_push m qs a f.1 g)

side_last : (es : List Side) (e : Side) (i : ℕ) → i ≡ length es → side_at (es ++ e ∷ []) i ≡ e
side_last [] e zero is = refl
side_last [] e (suc i) is = let no : ⊥ = omega (arith, is) in absurd no
side_last (x ∷ es) e zero is = let no : ⊥ = omega (arith, is) in absurd no
side_last (x ∷ es) e (suc i) is = side_last es e i (omega (arith, is))

-- The new record

part_to_end : {X : Type 0} (xs : List X) (i : ℕ) → drop i (take (length xs) xs) ≡ drop i xs
part_to_end xs i = ap (drop i) (take_all (length xs) xs (omega arith))

part_of_nothing : {X : Type 0} (xs : List X) (i : ℕ) → i ≡ length xs → drop i (take (length xs) xs) ≡ []
part_of_nothing xs i e = part_to_end xs i ∙ drop_all i xs (omega (arith, e))

none_after : {X : Type 0} (xs : List X) → drop (length xs) xs ≡ []
none_after xs = drop_all (length xs) xs (omega arith)

-- the record of the open statement
abbrev pub new_record : Inside → ℕ → Option ℕ → Record
new_record p n parent = record_of (record { statement = n; turns = drop p.from.turns p.lists.turns }) parent (drop p.from.reads p.lists.reads) (effect_from p.from p.lists)

record_between : (p : Inside) (n : ℕ) (parent side : Option ℕ) → record_with p.lists (head_between p.from (marks_of p.lists) n parent side) (side_between p.from (marks_of p.lists)) ≡ new_record p n parent
record_between p n parent side =
    let l : Lists = p.lists in
    let m : Marks = p.from in
    let turns : drop m.turns (take (length l.turns) l.turns) ≡ drop m.turns l.turns = part_to_end l.turns m.turns in
    let reads : drop m.reads (take (length l.reads) l.reads) ≡ drop m.reads l.reads = part_to_end l.reads m.reads in
    let sets : drop m.sets (take (length l.sets) l.sets) ≡ drop m.sets l.sets = part_to_end l.sets m.sets in
    let preds : drop m.preds (take (length l.preds) l.preds) ≡ drop m.preds l.preds = part_to_end l.preds m.preds in
    let rows : drop m.rows (take (length l.rows) l.rows) ≡ drop m.rows l.rows = part_to_end l.rows m.rows in
    let writes : drop m.writes (take (length l.writes) l.writes) ≡ drop m.writes l.writes = part_to_end l.writes m.writes in
    let lines : drop m.lines (take (length l.lines) l.lines) ≡ drop m.lines l.lines = part_to_end l.lines m.lines in
    let ends : drop m.ends (take (length l.ends) l.ends) ≡ drop m.ends l.ends = part_to_end l.ends m.ends in
    rw turns (rw reads (rw sets (rw preds (rw rows (rw writes (rw lines (rw ends refl)))))))

-- a record without a side has nothing between the marks
record_blank : (l : Lists) (h : Head) (m : Marks) → HasNothing m (marks_of l) → record_with l h blank ≡ record_with l h (side_between m (marks_of l))
record_blank l h m e =
    let preds : drop m.preds (take (length l.preds) l.preds) ≡ [] = part_of_nothing l.preds m.preds e.preds in
    let rows : drop m.rows (take (length l.rows) l.rows) ≡ [] = part_of_nothing l.rows m.rows e.rows in
    let writes : drop m.writes (take (length l.writes) l.writes) ≡ [] = part_of_nothing l.writes m.writes e.writes in
    let lines : drop m.lines (take (length l.lines) l.lines) ≡ [] = part_of_nothing l.lines m.lines e.lines in
    let ends : drop m.ends (take (length l.ends) l.ends) ≡ [] = part_of_nothing l.ends m.ends e.ends in
    rw preds (rw rows (rw writes (rw lines (rw ends refl))))

-- the record of a head without a side, and of one with the new side

blank_record : (p : Inside) (n : ℕ) (parent : Option ℕ) → HasNothing p.from (marks_of p.lists) → record_at p.lists (head_between p.from (marks_of p.lists) n parent None) ≡ new_record p n parent
blank_record p n parent e = record_blank p.lists (head_between p.from (marks_of p.lists) n parent None) p.from e ∙ record_between p n parent None

side_record : (p : Inside) (n : ℕ) (parent : Option ℕ) (i : ℕ) → i ≡ length p.lists.sides → (let l = p.lists in record_at (record l { sides = l.sides ++ side_between p.from (marks_of l) ∷ [] }) (head_between p.from (marks_of l) n parent (Some i)) ≡ new_record p n parent)
side_record p n parent i is = ap (record_with p.lists (head_between p.from (marks_of p.lists) n parent (Some i))) (side_last p.lists.sides (side_between p.from (marks_of p.lists)) i is) ∙ record_between p n parent (Some i)

sides_front : (es : List Side) (e : Side) → take (length es) (es ++ e ∷ []) ≡ es
sides_front es e = take-append-le (length es) es (e ∷ []) (omega arith) ∙ take_all (length es) es (omega arith)

-- Closing

-- the log with these sides, one more head and this index, and nothing open
abbrev pub closing : Inside → List Side → Head → Indexed → Inside
closing p es h j = let l = p.lists in record p { lists = record l { sides = es }; heads = p.heads ++ h ∷ []; from = marks_of l; own = j }

abbrev pub closing_view : Logged → Record → Logged
closing_view was r = record was { records = was.records ++ r ∷ []; turns = []; reads = []; effect = no_effect; tests = []; columns = [] }

agree_sides : (p : Inside) (es : List Side) → take (length p.lists.sides) es ≡ p.lists.sides → (let l = p.lists in AgreeTo p.from (record l { sides = es }) l)
agree_sides p es s = record { turns = refl; reads = refl; sets = refl; sides = s; preds = refl; tests = refl; columns = refl; rows = refl; writes = refl; lines = refl; ends = refl }

closing_records : (p : Inside) (es : List Side) (h : Head) (r : Record) → take (length p.lists.sides) es ≡ p.lists.sides → (let l = p.lists in record_at (record l { sides = es }) h ≡ r) → IsWhole p
    → (let l = p.lists in map (record_at (record l { sides = es })) (p.heads ++ h ∷ [])) ≡ map (record_at p.lists) p.heads ++ r ∷ []
closing_records p es h r s is w =
    let l : Lists = p.lists in
    let k : Lists = record l { sides = es } in
    map-append (record_at k) p.heads (h ∷ []) ∙ ap (λ rs. rs ++ record_at k h ∷ []) (heads_same p k w (agree_sides p es s)) ∙ ap (λ x. map (record_at l) p.heads ++ x ∷ []) is

closing_is : (p : Inside) (es : List Side) (h : Head) (j : Indexed) (r : Record) → take (length p.lists.sides) es ≡ p.lists.sides → (let l = p.lists in record_at (record l { sides = es }) h ≡ r) → IsWhole p → expanded (closing p es h j) ≡ closing_view (expanded p) r
closing_is p es h j r s is w =
    let l : Lists = p.lists in
    let k : Lists = record l { sides = es } in
    let e : AgreeTo p.from k l = agree_sides p es s in
    let heads : map (record_at k) (p.heads ++ h ∷ []) ≡ map (record_at l) p.heads ++ r ∷ [] = closing_records p es h r s is w in
    let past : map (record_at k) p.past ≡ map (record_at l) p.past = past_same p k w e in
    let turns : drop (length l.turns) l.turns ≡ [] = none_after l.turns in
    let reads : drop (length l.reads) l.reads ≡ [] = none_after l.reads in
    let sets : drop (length l.sets) l.sets ≡ [] = none_after l.sets in
    let preds : drop (length l.preds) l.preds ≡ [] = none_after l.preds in
    let tests : drop (length l.tests) l.tests ≡ [] = none_after l.tests in
    let columns : drop (length l.columns) l.columns ≡ [] = none_after l.columns in
    let rows : drop (length l.rows) l.rows ≡ [] = none_after l.rows in
    let writes : drop (length l.writes) l.writes ≡ [] = none_after l.writes in
    let lines : drop (length l.lines) l.lines ≡ [] = none_after l.lines in
    let ends : drop (length l.ends) l.ends ≡ [] = none_after l.ends in
    rw heads (rw past (rw turns (rw reads (rw sets (rw preds (rw tests (rw columns (rw rows (rw writes (rw lines (rw ends refl)))))))))))

pub closed : (p : Inside) (k : Lists) (n : ℕ) (parent at : Option ℕ) (j : Indexed) → HasSide p.from (marks_of p.lists) p.lists k at → IsWhole p → expanded (closing p k.sides (head_between p.from (marks_of p.lists) n parent at) j) ≡ closing_view (expanded p) (new_record p n parent)
closed p k n parent None j s w =
    let l : Lists = p.lists in
    let h : Head = head_between p.from (marks_of l) n parent None in
    subst (λ (es : List Side). expanded (closing p es h j) ≡ closing_view (expanded p) (new_record p n parent)) (ap (λ (x : Lists). x.sides) (sym s.0))
    (closing_is p l.sides h j (new_record p n parent) (take_all (length l.sides) l.sides (omega arith)) (blank_record p n parent s.1) w)
closed p k n parent (Some i) j s w =
    let l : Lists = p.lists in
    let h : Head = head_between p.from (marks_of l) n parent (Some i) in
    let e : Side = side_between p.from (marks_of l) in
    let es : List Side = l.sides ++ e ∷ [] in
    subst (λ (fs : List Side). expanded (closing p fs h j) ≡ closing_view (expanded p) (new_record p n parent)) (ap (λ (x : Lists). x.sides) (sym s.0))
    (closing_is p es h j (new_record p n parent) (sides_front l.sides e) (side_record p n parent i s.1) w)

closing_whole : (p : Inside) (es : List Side) (h : Head) (j : Indexed) → length p.lists.sides ≤ length es → SidesFit (marks_of p.lists) es → HeadFits (record { marks = marks_of p.lists; sides = length es }) h
    → (let l = p.lists in Finds j (take (length l.writes) l.writes) (map (record_at (record l { sides = es })) (p.heads ++ h ∷ []))) → IsWhole p → IsWhole (closing p es h j)
closing_whole p es h j l f g o w =
    let m : Marks = marks_of p.lists in
    let s : Sizes = record { marks = m; sides = length es } in
    let i : AreIn (closed_sizes p) s = record { marks = w.from; sides = l } in
    record {
      heads = heads_push s p.heads h (heads_more (closed_sizes p) s p.heads i w.heads) g;
      past = heads_more (closed_sizes p) s p.past i w.past;
      sides = f;
      preds = asked_more p.from m p.lists.preds w.from w.preds;
      from = up_to_same m;
      own = o;
    }

to_end_fits : (i n : ℕ) → i ≤ n → Fits n (record { from = i; to = n })
to_end_fits i n l = record { order = l; within = omega arith }

new_fits : (p : Inside) (n size : ℕ) (parent at : Option ℕ) → IsBelow size at → IsWhole p → HeadFits (record { marks = marks_of p.lists; sides = size }) (head_between p.from (marks_of p.lists) n parent at)
new_fits p n size parent at b w =
    let l : Lists = p.lists in
    record {
      turns = to_end_fits p.from.turns (length l.turns) w.from.turns;
      reads = to_end_fits p.from.reads (length l.reads) w.from.reads;
      sets = to_end_fits p.from.sets (length l.sets) w.from.sets;
      side = b;
    }

between_fits : (p : Inside) → IsWhole p → SideFits (marks_of p.lists) (side_between p.from (marks_of p.lists))
between_fits p w =
    let l : Lists = p.lists in
    record {
      preds = to_end_fits p.from.preds (length l.preds) w.from.preds;
      rows = to_end_fits p.from.rows (length l.rows) w.from.rows;
      writes = to_end_fits p.from.writes (length l.writes) w.from.writes;
      lines = to_end_fits p.from.lines (length l.lines) w.from.lines;
      ends = to_end_fits p.from.ends (length l.ends) w.from.ends;
    }

-- The index

-- it finds the writes of the records among all writes
all_found : (p : Inside) → IsWhole p → Finds p.own p.lists.writes (map (record_at p.lists) p.heads)
all_found p w =
    let ws : List Write = p.lists.writes in
    let m : ℕ = p.from.writes in
    subst (λ (vs : List Write). Finds p.own vs (map (record_at p.lists) p.heads)) (take-append-drop m ws) (finds_grown p.own (take m ws) (drop m ws) (map (record_at p.lists) p.heads) w.own)

pub all_indexed : (p : Inside) → IsWhole p → IsIndexOf p.own p.lists.writes
all_indexed p w = (all_found p w).index

pub writes_below : (p : Inside) → IsWhole p → All (λ (q : Place). q.number < length p.heads) p.own.places
writes_below p w = finds_below p.own (take p.from.writes p.lists.writes) (map (record_at p.lists) p.heads) (length p.heads) (sym (length_map (record_at p.lists) p.heads)) w.own

-- the index finds as many writes more as the open statement has
abbrev pub IsIndexWith : Inside → Indexed → Type 0
IsIndexWith p j = let ws = p.lists.writes in IsIndexOf j ws × (owned_by j.places ws ≡ owned_by p.own.places ws ++ undo_of (length p.heads) (drop p.from.writes (take (length ws) ws)))

closing_own : (p : Inside) (es : List Side) (h : Head) (j : Indexed) (n : ℕ) (parent : Option ℕ) → take (length p.lists.sides) es ≡ p.lists.sides → (let l = p.lists in record_at (record l { sides = es }) h ≡ new_record p n parent) → IsIndexWith p j → IsWhole p
    → (let l = p.lists in Finds j (take (length l.writes) l.writes) (map (record_at (record l { sides = es })) (p.heads ++ h ∷ [])))
closing_own p es h j n parent s is ix w =
    let l : Lists = p.lists in
    let ws : List Write = l.writes in
    let k : Lists = record l { sides = es } in
    let rs : List Record = map (record_at l) p.heads in
    let more : owned_by j.places ws ≡ owned_by p.own.places ws ++ undo_of (length p.heads) (drop p.from.writes ws) = ix.1 ∙ ap (λ vs. owned_by p.own.places ws ++ undo_of (length p.heads) vs) (part_to_end ws p.from.writes) in
    let found : Finds j ws (rs ++ new_record p n parent ∷ []) = finds_more p.own j ws rs (new_record p n parent) (length p.heads) (sym (length_map (record_at l) p.heads)) (all_found p w) ix.0 more in
    subst (λ (vs : List Write). Finds j vs (map (record_at k) (p.heads ++ h ∷ []))) (sym (take_all (length ws) ws (omega arith))) (subst (Finds j ws) (sym (closing_records p es h (new_record p n parent) s is w)) found)

pub closed_whole : (p : Inside) (k : Lists) (n : ℕ) (parent at : Option ℕ) (j : Indexed) → HasSide p.from (marks_of p.lists) p.lists k at → IsIndexWith p j → IsWhole p → IsWhole (closing p k.sides (head_between p.from (marks_of p.lists) n parent at) j)
closed_whole p k n parent None j s ix w =
    let l : Lists = p.lists in
    let h : Head = head_between p.from (marks_of l) n parent None in
    let o = closing_own p l.sides h j n parent (take_all (length l.sides) l.sides (omega arith)) (blank_record p n parent s.1) ix w in
    subst (λ (es : List Side). IsWhole (closing p es h j)) (ap (λ (x : Lists). x.sides) (sym s.0))
    (closing_whole p l.sides h j (omega arith) (sides_more p.from (marks_of l) l.sides w.from w.sides) (new_fits p n (length l.sides) parent None tt w) o w)
closed_whole p k n parent (Some i) j s ix w =
    let l : Lists = p.lists in
    let h : Head = head_between p.from (marks_of l) n parent (Some i) in
    let e : Side = side_between p.from (marks_of l) in
    let es : List Side = l.sides ++ e ∷ [] in
    let longer : length l.sides ≤ length es = omega (arith, length-append l.sides (e ∷ [])) in
    let below : i < length es = omega (arith, s.1, length-append l.sides (e ∷ [])) in
    let o = closing_own p es h j n parent (sides_front l.sides e) (side_record p n parent i s.1) ix w in
    subst (λ (fs : List Side). IsWhole (closing p fs h j)) (ap (λ (x : Lists). x.sides) (sym s.0))
    (closing_whole p es h j longer (sides_push (marks_of l) l.sides e (sides_more p.from (marks_of l) l.sides w.from w.sides) (between_fits p w)) (new_fits p n (length es) parent (Some i) below w) o w)

-- another index of the same writes
pub reindexed : (p : Inside) (j : Indexed) → IsIndexOf j (take p.from.writes p.lists.writes) → j.places ≡ p.own.places → IsWhole p → IsWhole (record p { own = j })
reindexed p j ix same w = record {
  heads = w.heads;
  past = w.past;
  sides = w.sides;
  preds = w.preds;
  from = w.from;
  own = record { index = ix; all = ap (λ ps. owned_by ps (take p.from.writes p.lists.writes)) same ∙ w.own.all };
}

pub back_indexed : (p : Inside) (j : Indexed) → IsIndexOf j p.lists.writes → j.places ≡ p.own.places → IsWhole p → IsWhole (record p { own = j })
back_indexed p j ix same w =
    let ws : List Write = p.lists.writes in
    let m : ℕ = p.from.writes in
    let all : IsIndexOf j (take m ws ++ drop m ws) = subst (IsIndexOf j) (sym (take-append-drop m ws)) ix in
    reindexed p j (finds_back p.own j (take m ws) (drop m ws) (map (record_at p.lists) p.heads) w.own all same).index same w

-- A side that is taken back

pub taken_back : (from to : Marks) (before after : Lists) (at : Option ℕ) → HasSide from to before after at → record after { sides = take (length before.sides) after.sides } ≡ before
taken_back from to before after None s =
    let t : take (length before.sides) before.sides ≡ before.sides = take_all (length before.sides) before.sides (omega arith) in
    subst (λ (x : Lists). record x { sides = take (length before.sides) x.sides } ≡ before) (sym s.0) (ap (λ (es : List Side). record before { sides = es }) t)
taken_back from to before after (Some i) s =
    let e : Side = side_between from to in
    let t : take (length before.sides) (before.sides ++ e ∷ []) ≡ before.sides = take-append-le (length before.sides) before.sides (e ∷ []) (omega arith) ∙ take_all (length before.sides) before.sides (omega arith) in
    subst (λ (x : Lists). record x { sides = take (length before.sides) x.sides } ≡ before) (sym s.0) (ap (λ (es : List Side). record before { sides = es }) t)

-- The lists after a side was added differ in the sides alone.
pub sides_alone : (from to : Marks) (before after : Lists) (at : Option ℕ) → HasSide from to before after at → after ≡ (let es = after.sides in record before { sides = es })
sides_alone from to before after None s = subst (λ (x : Lists). x ≡ (let es = x.sides in record before { sides = es })) (sym s.0) refl
sides_alone from to before after (Some i) s = subst (λ (x : Lists). x ≡ (let es = x.sides in record before { sides = es })) (sym s.0) refl

-- A predicate more

agree_asked : (p : Inside) (a : Asked) → IsWhole p → (let l = p.lists in AgreeTo p.from (record l { preds = l.preds ++ a ∷ [] }) l)
agree_asked p a w = let l : Lists = p.lists in record { turns = refl; reads = refl; sets = refl; sides = take_all (length l.sides) l.sides (omega arith); preds = take-append-le p.from.preds l.preds (a ∷ []) w.from.preds; tests = refl; columns = refl; rows = refl; writes = refl; lines = refl; ends = refl }

pub asking : (p : Inside) (t : ℕ) → IsWhole p → expanded (let l = p.lists in let m = p.from in record p { lists = record l { preds = l.preds ++ record { table = t; tests = record { from = m.tests; to = length l.tests }; columns = record { from = m.columns; to = length l.columns } } ∷ [] }; from = record m { tests = length l.tests; columns = length l.columns } }) ≡ (let was = expanded p in let o = was.effect in record was { effect = record o { preds = o.preds ++ record { table = t; tests = was.tests; columns = was.columns } ∷ [] }; tests = []; columns = [] })
asking p t w =
    let l : Lists = p.lists in
    let m : Marks = p.from in
    let a : Asked = record { table = t; tests = record { from = m.tests; to = length l.tests }; columns = record { from = m.columns; to = length l.columns } } in
    let k : Lists = record l { preds = l.preds ++ a ∷ [] } in
    let e : AgreeTo m k l = agree_asked p a w in
    let heads : map (record_at k) p.heads ≡ map (record_at l) p.heads = heads_same p k w e in
    let past : map (record_at k) p.past ≡ map (record_at l) p.past = past_same p k w e in
    let tests : drop m.tests (take (length l.tests) l.tests) ≡ drop m.tests l.tests = part_to_end l.tests m.tests in
    let columns : drop m.columns (take (length l.columns) l.columns) ≡ drop m.columns l.columns = part_to_end l.columns m.columns in
    let new : pred_of l a ≡ record { table = t; tests = drop m.tests l.tests; columns = drop m.columns l.columns } = rw tests (rw columns refl) in
    let preds : map (pred_of k) (drop m.preds (l.preds ++ a ∷ [])) ≡ map (pred_of l) (drop m.preds l.preds) ++ record { table = t; tests = drop m.tests l.tests; columns = drop m.columns l.columns } ∷ [] =
    ap (map (pred_of l)) (drop-append-le m.preds l.preds (a ∷ []) w.from.preds) ∙ map-append (pred_of l) (drop m.preds l.preds) (a ∷ []) ∙ ap (λ (x : Pred). map (pred_of l) (drop m.preds l.preds) ++ x ∷ []) new in
    let no_tests : drop (length l.tests) l.tests ≡ [] = none_after l.tests in
    let no_columns : drop (length l.columns) l.columns ≡ [] = none_after l.columns in
    rw heads (rw past (rw preds (rw no_tests (rw no_columns refl))))

pub asking_whole : (p : Inside) (t : ℕ) → IsWhole p → IsWhole (let l = p.lists in let m = p.from in record p { lists = record l { preds = l.preds ++ record { table = t; tests = record { from = m.tests; to = length l.tests }; columns = record { from = m.columns; to = length l.columns } } ∷ [] }; from = record m { tests = length l.tests; columns = length l.columns } })
asking_whole p t w =
    let l : Lists = p.lists in
    let m : Marks = p.from in
    let a : Asked = record { table = t; tests = record { from = m.tests; to = length l.tests }; columns = record { from = m.columns; to = length l.columns } } in
    let n : Marks = record m { tests = length l.tests; columns = length l.columns } in
    let u : AreUpTo m n = record { turns = omega arith; reads = omega arith; sets = omega arith; preds = omega arith; tests = w.from.tests; columns = w.from.columns; rows = omega arith; writes = omega arith; lines = omega arith; ends = omega arith } in
    let i : AreIn (closed_sizes p) (record { marks = n; sides = length l.sides }) = record { marks = u; sides = omega arith } in
    record {
      heads = heads_more (closed_sizes p) (record { marks = n; sides = length l.sides }) p.heads i w.heads;
      past = heads_more (closed_sizes p) (record { marks = n; sides = length l.sides }) p.past i w.past;
      sides = sides_more m n l.sides u w.sides;
      own = own_kept p (record l { preds = l.preds ++ a ∷ [] }) w (agree_asked p a w);
      preds = asked_push n l.preds a (asked_more m n l.preds u w.preds) (record { tests = to_end_fits m.tests (length l.tests) w.from.tests; columns = to_end_fits m.columns (length l.columns) w.from.columns });
      from = record { turns = w.from.turns; reads = w.from.reads; sets = w.from.sets; preds = omega (arith, w.from.preds, length-append l.preds (a ∷ [])); tests = omega arith; columns = omega arith; rows = w.from.rows; writes = w.from.writes; lines = w.from.lines; ends = w.from.ends };
    }

-- A record that is kept

abbrev pub kept_head : Inside → ℕ → Option ℕ → Head → Head
kept_head p n parent kept = record {
  statement = n;
  parent = parent;
  turns = record { from = p.from.turns; to = length p.lists.turns };
  reads = record { from = p.from.reads; to = length p.lists.reads };
  sets = kept.sets;
  side = kept.side;
}

abbrev pub adopting : Inside → ℕ → Option ℕ → ℕ → Head → Indexed → Inside
adopting p n parent old kept j = let l = p.lists in let m = p.from in record p { heads = p.heads ++ kept_head p n parent kept ∷ []; from = record m { turns = length l.turns; reads = length l.reads }; kept = old + 1; own = j }

pub adopted : (p : Inside) (n : ℕ) (parent : Option ℕ) (old : ℕ) (kept : Head) (j : Indexed) (given : Record) → record_at p.lists kept ≡ given → expanded (adopting p n parent old kept j) ≡ (let was = expanded p in record was { records = was.records ++ record given { spot = record { statement = n; turns = was.turns }; parent = parent; reads = was.reads } ∷ []; turns = []; reads = []; kept = old + 1 })
adopted p n parent old kept j given is =
    let l : Lists = p.lists in
    let m : Marks = p.from in
    let h : Head = kept_head p n parent kept in
    let turns : drop m.turns (take (length l.turns) l.turns) ≡ drop m.turns l.turns = part_to_end l.turns m.turns in
    let reads : drop m.reads (take (length l.reads) l.reads) ≡ drop m.reads l.reads = part_to_end l.reads m.reads in
    let new : record_at l h ≡ (let old = record_at l kept in record old { spot = record { statement = n; turns = drop m.turns l.turns }; parent = parent; reads = drop m.reads l.reads }) = rw turns (rw reads refl) in
    let of_given : record_at l h ≡ record given { spot = record { statement = n; turns = drop m.turns l.turns }; parent = parent; reads = drop m.reads l.reads } = new ∙ ap (λ (g : Record). record g { spot = record { statement = n; turns = drop m.turns l.turns }; parent = parent; reads = drop m.reads l.reads }) is in
    let heads : map (record_at l) (p.heads ++ h ∷ []) ≡ map (record_at l) p.heads ++ record given { spot = record { statement = n; turns = drop m.turns l.turns }; parent = parent; reads = drop m.reads l.reads } ∷ [] =
    map-append (record_at l) p.heads (h ∷ []) ∙ ap (λ (r : Record). map (record_at l) p.heads ++ r ∷ []) of_given in
    let no_turns : drop (length l.turns) l.turns ≡ [] = none_after l.turns in
    let no_reads : drop (length l.reads) l.reads ≡ [] = none_after l.reads in
    rw heads (rw no_turns (rw no_reads refl))

-- the index finds the old record's writes as well
abbrev pub IsIndexKept : Inside → Head → Indexed → Type 0
IsIndexKept p kept j =
    let ws = take p.from.writes p.lists.writes in
    let r = (side_of p.lists.sides kept.side).writes in
    IsIndexOf j ws × (owned_by j.places ws ≡ owned_by p.own.places ws ++ undo_of (length p.heads) (drop r.from (take r.to ws)))

-- the writes of a closed record stand before those of the open statement
pub kept_within : (p : Inside) (kept : Head) → HeadFits (closed_sizes p) kept → IsWhole p → Fits p.from.writes (side_of p.lists.sides kept.side).writes
kept_within p kept f w = (side_fits p.from p.lists.sides kept.side f.side w.sides).writes

adopted_own : (p : Inside) (n : ℕ) (parent : Option ℕ) (kept : Head) (j : Indexed) → HeadFits (closed_sizes p) kept → IsIndexKept p kept j → IsWhole p → Finds j (take p.from.writes p.lists.writes) (map (record_at p.lists) (p.heads ++ kept_head p n parent kept ∷ []))
adopted_own p n parent kept j f ix w =
    let l : Lists = p.lists in
    let ws : List Write = take p.from.writes l.writes in
    let h : Head = kept_head p n parent kept in
    let r : Range = (side_of l.sides kept.side).writes in
    let there : r.to ≤ p.from.writes = (kept_within p kept f w).within in
    let more : owned_by j.places ws ≡ owned_by p.own.places ws ++ undo_of (length p.heads) (drop r.from (take r.to l.writes)) = ix.1 ∙ ap (λ vs. owned_by p.own.places ws ++ undo_of (length p.heads) (drop r.from vs)) (take-take r.to p.from.writes l.writes there) in
    subst (Finds j ws) (sym (map-append (record_at l) p.heads (h ∷ []))) (finds_more p.own j ws (map (record_at l) p.heads) (record_at l h) (length p.heads) (sym (length_map (record_at l) p.heads)) w.own ix.0 more)

pub adopted_whole : (p : Inside) (n : ℕ) (parent : Option ℕ) (old : ℕ) (kept : Head) (j : Indexed) → HeadFits (closed_sizes p) kept → IsIndexKept p kept j → IsWhole p → IsWhole (adopting p n parent old kept j)
adopted_whole p n parent old kept j f ix w =
    let l : Lists = p.lists in
    let m : Marks = p.from in
    let t : Marks = record m { turns = length l.turns; reads = length l.reads } in
    let u : AreUpTo m t = record { turns = w.from.turns; reads = w.from.reads; sets = omega arith; preds = omega arith; tests = omega arith; columns = omega arith; rows = omega arith; writes = omega arith; lines = omega arith; ends = omega arith } in
    let s : Sizes = record { marks = t; sides = length l.sides } in
    let i : AreIn (closed_sizes p) s = record { marks = u; sides = omega arith } in
    record {
      heads = heads_push s p.heads (kept_head p n parent kept) (heads_more (closed_sizes p) s p.heads i w.heads) (record { turns = to_end_fits m.turns (length l.turns) w.from.turns; reads = to_end_fits m.reads (length l.reads) w.from.reads; sets = f.sets; side = f.side });
      past = heads_more (closed_sizes p) s p.past i w.past;
      sides = sides_more m t l.sides u w.sides;
      preds = asked_more m t l.preds u w.preds;
      own = adopted_own p n parent kept j f ix w;
      from = record { turns = omega arith; reads = omega arith; sets = w.from.sets; preds = w.from.preds; tests = w.from.tests; columns = w.from.columns; rows = w.from.rows; writes = w.from.writes; lines = w.from.lines; ends = w.from.ends };
    }

some_same : {X : Type 0} (x y : X) → ◌≡◌ {A = Option X} (Some x) (Some y) → x ≡ y
some_same x y e = cc

pub fits_got : (s : Sizes) (hs : List Head) (i : ℕ) (h : Head) → slice_get hs i ≡ Some h → HeadsFit s hs → HeadFits s h
fits_got s [] i h e f = cc
fits_got s (x ∷ hs) zero h e f = subst (HeadFits s) (some_same x h e) f.0
fits_got s (x ∷ hs) (suc i) h e f = fits_got s hs i h e f.1

pub record_got : (l : Lists) (hs : List Head) (i : ℕ) (h : Head) (given : Record) → slice_get hs i ≡ Some h → slice_get (map (record_at l) hs) i ≡ Some given → record_at l h ≡ given
record_got l [] i h given e f = cc
record_got l (x ∷ hs) zero h given e f = subst (λ (y : Head). record_at l y ≡ given) (some_same x h e) (some_same (record_at l x) given f)
record_got l (x ∷ hs) (suc i) h given e f = record_got l hs i h given e f

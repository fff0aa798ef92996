-- Shared lists that grow, or that lose what no head names: the records stay.
use Rattle.std.proofs.Common.{◌≡◌, ◌≤◌, ◌<◌, ℕ, zero, suc, List, [], ◌∷◌, Option, Some, None, length, take, refl, sym, ap, subst, ◌∙◌, arith}
use Rattle.std.specs.Prelude.{map}
use Rattle.mv_values.specs.declared.patch.Write.{Write}
use Rattle.mv_undo.specs.Indexed.{Finds}
use Rattle.mv_log.specs.declared.head.Head.{Head}
use Rattle.mv_log.specs.declared.head.Range.{Range}
use Rattle.mv_log.specs.declared.head.Side.{Side}
use Rattle.mv_log.specs.declared.head.Asked.{Asked}
use Rattle.mv_log.specs.declared.head.Marks.{Marks}
use Rattle.mv_log.specs.declared.lists.Lists.{Lists}
use Rattle.mv_log.specs.declared.log.Log.TheInside.{Inside}
use Rattle.mv_log.specs.Parts.{part, Fits}
use Rattle.mv_log.specs.Expanding.{IsWhole, closed_sizes}
use Rattle.mv_log.specs.Fitting.{Sizes, sizes, marks_of, IsBelow, HeadFits, HeadsFit, SideFits, SidesFit, AskedFits, AskedFit, AreSound, AreUpTo}
use Rattle.mv_log.specs.Heads.{side_at, side_of, pred_of, record_with, record_at}
use Rattle.mv_log.proofs.Parts.{same_part}
use Rattle.mv_log.proofs.Sides.{side_fits, asked_part}

-- the lists agree up to the marks, and k has all sides of l
pub record AgreeTo (m : Marks) (k l : Lists) : Type 0 where
  pub turns : take m.turns k.turns ≡ take m.turns l.turns
  pub reads : take m.reads k.reads ≡ take m.reads l.reads
  pub sets : take m.sets k.sets ≡ take m.sets l.sets
  pub sides : take (length l.sides) k.sides ≡ l.sides
  pub preds : take m.preds k.preds ≡ take m.preds l.preds
  pub tests : take m.tests k.tests ≡ take m.tests l.tests
  pub columns : take m.columns k.columns ≡ take m.columns l.columns
  pub rows : take m.rows k.rows ≡ take m.rows l.rows
  pub writes : take m.writes k.writes ≡ take m.writes l.writes
  pub lines : take m.lines k.lines ≡ take m.lines l.lines
  pub ends : take m.ends k.ends ≡ take m.ends l.ends

side_at_same : (es fs : List Side) (i : ℕ) → i < length es → take (length es) fs ≡ es → side_at fs i ≡ side_at es i
side_at_same [] fs i l e = let no : ⊥ = omega arith in absurd no
side_at_same (x ∷ es) [] i l e = cc
side_at_same (x ∷ es) (y ∷ fs) zero l e = cc
side_at_same (x ∷ es) (y ∷ fs) (suc i) l e = side_at_same es fs i (omega arith) cc

pub side_same : (es fs : List Side) (at : Option ℕ) → IsBelow (length es) at → take (length es) fs ≡ es → side_of fs at ≡ side_of es at
side_same es fs None l e = refl
side_same es fs (Some i) l e = side_at_same es fs i l e

pub pred_same : (m : Marks) (k l : Lists) (a : Asked) → AskedFits m a → AgreeTo m k l → pred_of k a ≡ pred_of l a
pred_same m k l a f e =
    let t : part a.tests k.tests ≡ part a.tests l.tests = same_part l.tests k.tests m.tests a.tests f.tests.within e.tests in
    let c : part a.columns k.columns ≡ part a.columns l.columns = same_part l.columns k.columns m.columns a.columns f.columns.within e.columns in
    rw t (rw c refl)

pub preds_same : (m : Marks) (k l : Lists) (qs : List Asked) → AskedFit m qs → AgreeTo m k l → map (pred_of k) qs ≡ map (pred_of l) qs
preds_same m k l [] f e = refl
preds_same m k l (a ∷ qs) f e =
    let here : pred_of k a ≡ pred_of l a = pred_same m k l a f.0 e in
    let rest : map (pred_of k) qs ≡ map (pred_of l) qs = preds_same m k l qs f.1 e in
    rw here (rw rest refl)

pub record_with_same : (m : Marks) (n : ℕ) (k l : Lists) (h : Head) (s : Side) → HeadFits (record { marks = m; sides = n }) h → SideFits m s → AskedFit m l.preds → AgreeTo m k l → record_with k h s ≡ record_with l h s
record_with_same m n k l h s f g a e =
    let turns : part h.turns k.turns ≡ part h.turns l.turns = same_part l.turns k.turns m.turns h.turns f.turns.within e.turns in
    let reads : part h.reads k.reads ≡ part h.reads l.reads = same_part l.reads k.reads m.reads h.reads f.reads.within e.reads in
    let sets : part h.sets k.sets ≡ part h.sets l.sets = same_part l.sets k.sets m.sets h.sets f.sets.within e.sets in
    let asked : part s.preds k.preds ≡ part s.preds l.preds = same_part l.preds k.preds m.preds s.preds g.preds.within e.preds in
    let preds : map (pred_of k) (part s.preds l.preds) ≡ map (pred_of l) (part s.preds l.preds) = preds_same m k l (part s.preds l.preds) (asked_part m s.preds l.preds a) e in
    let rows : part s.rows k.rows ≡ part s.rows l.rows = same_part l.rows k.rows m.rows s.rows g.rows.within e.rows in
    let writes : part s.writes k.writes ≡ part s.writes l.writes = same_part l.writes k.writes m.writes s.writes g.writes.within e.writes in
    let lines : part s.lines k.lines ≡ part s.lines l.lines = same_part l.lines k.lines m.lines s.lines g.lines.within e.lines in
    let ends : part s.ends k.ends ≡ part s.ends l.ends = same_part l.ends k.ends m.ends s.ends g.ends.within e.ends in
    rw turns (rw reads (rw sets (rw asked (rw preds (rw rows (rw writes (rw lines (rw ends refl))))))))

pub record_same : (m : Marks) (k l : Lists) (h : Head) → HeadFits (record { marks = m; sides = length l.sides }) h → SidesFit m l.sides → AskedFit m l.preds → AgreeTo m k l → record_at k h ≡ record_at l h
record_same m k l h f s a e =
    ap (record_with k h) (side_same l.sides k.sides h.side f.side e.sides) ∙ record_with_same m (length l.sides) k l h (side_of l.sides h.side) f (side_fits m l.sides h.side f.side s) a e

pub records_same : (m : Marks) (k l : Lists) (hs : List Head) → HeadsFit (record { marks = m; sides = length l.sides }) hs → SidesFit m l.sides → AskedFit m l.preds → AgreeTo m k l → map (record_at k) hs ≡ map (record_at l) hs
records_same m k l [] f s a e = refl
records_same m k l (h ∷ hs) f s a e =
    let here : record_at k h ≡ record_at l h = record_same m k l h f.0 s a e in
    let rest : map (record_at k) hs ≡ map (record_at l) hs = records_same m k l hs f.1 s a e in
    rw here (rw rest refl)

pub heads_same : (p : Inside) (k : Lists) → IsWhole p → AgreeTo p.from k p.lists → map (record_at k) p.heads ≡ map (record_at p.lists) p.heads
heads_same p k w e = records_same p.from k p.lists p.heads w.heads w.sides w.preds e

pub past_same : (p : Inside) (k : Lists) → IsWhole p → AgreeTo p.from k p.lists → map (record_at k) p.past ≡ map (record_at p.lists) p.past
past_same p k w e = records_same p.from k p.lists p.past w.past w.sides w.preds e

-- the index finds the writes of the records as before
pub own_kept : (p : Inside) (k : Lists) → IsWhole p → AgreeTo p.from k p.lists → Finds p.own (take p.from.writes k.writes) (map (record_at k) p.heads)
own_kept p k w e =
    subst (Finds p.own (take p.from.writes k.writes)) (sym (heads_same p k w e))
    (subst (λ (ws : List Write). Finds p.own ws (map (record_at p.lists) p.heads)) (sym e.writes) w.own)

-- Fitting in longer lists

pub up_to_same : (m : Marks) → AreUpTo m m
up_to_same m = record { turns = omega arith; reads = omega arith; sets = omega arith; preds = omega arith; tests = omega arith; columns = omega arith; rows = omega arith; writes = omega arith; lines = omega arith; ends = omega arith }

pub record AreIn (s t : Sizes) : Type 0 where
  pub marks : AreUpTo s.marks t.marks
  pub sides : s.sides ≤ t.sides

fits_more : (m n : ℕ) (r : Range) → m ≤ n → Fits m r → Fits n r
fits_more m n r l f = record { order = f.order; within = omega (arith, l, f.within) }

below_more : (m n : ℕ) (at : Option ℕ) → m ≤ n → IsBelow m at → IsBelow n at
below_more m n None l b = tt
below_more m n (Some i) l b = omega (arith, l, b)

pub head_more : (s t : Sizes) (h : Head) → AreIn s t → HeadFits s h → HeadFits t h
head_more s t h i f = record {
  turns = fits_more s.marks.turns t.marks.turns h.turns i.marks.turns f.turns;
  reads = fits_more s.marks.reads t.marks.reads h.reads i.marks.reads f.reads;
  sets = fits_more s.marks.sets t.marks.sets h.sets i.marks.sets f.sets;
  side = below_more s.sides t.sides h.side i.sides f.side;
}

pub heads_more : (s t : Sizes) (hs : List Head) → AreIn s t → HeadsFit s hs → HeadsFit t hs
heads_more s t [] i f = tt
heads_more s t (h ∷ hs) i f = (head_more s t h i f.0, heads_more s t hs i f.1)

pub side_more : (m n : Marks) (e : Side) → AreUpTo m n → SideFits m e → SideFits n e
side_more m n e u f = record {
  preds = fits_more m.preds n.preds e.preds u.preds f.preds;
  rows = fits_more m.rows n.rows e.rows u.rows f.rows;
  writes = fits_more m.writes n.writes e.writes u.writes f.writes;
  lines = fits_more m.lines n.lines e.lines u.lines f.lines;
  ends = fits_more m.ends n.ends e.ends u.ends f.ends;
}

pub sides_more : (m n : Marks) (es : List Side) → AreUpTo m n → SidesFit m es → SidesFit n es
sides_more m n [] u f = tt
sides_more m n (e ∷ es) u f = (side_more m n e u f.0, sides_more m n es u f.1)

pub asked_more : (m n : Marks) (qs : List Asked) → AreUpTo m n → AskedFit m qs → AskedFit n qs
asked_more m n [] u f = tt
asked_more m n (a ∷ qs) u f = (
  record {
    tests = fits_more m.tests n.tests a.tests u.tests f.0.tests;
    columns = fits_more m.columns n.columns a.columns u.columns f.0.columns;
  },
  asked_more m n qs u f.1,
)

-- what the lists of a whole log have

pub whole_sound : (p : Inside) → IsWhole p → AreSound p.lists
whole_sound p w = record {
  sides = sides_more p.from (marks_of p.lists) p.lists.sides w.from w.sides;
  preds = asked_more p.from (marks_of p.lists) p.lists.preds w.from w.preds;
}

pub whole_heads : (p : Inside) (hs : List Head) → IsWhole p → HeadsFit (closed_sizes p) hs → HeadsFit (sizes p.lists) hs
whole_heads p hs w f = heads_more (closed_sizes p) (sizes p.lists) hs (record { marks = w.from; sides = omega arith }) f

-- Frames one inside another, and how many of them stay.
use Rattle.std.proofs.Common.{◌≡◌, ◌↔◌, ℕ, zero, suc, ◌+◌, ◌<◌, ◌≤◌, Bool, true, false, nat_lt, List, [], ◌∷◌, ◌++◌, Option, None, length, take, drop, refl, sym, ap, subst, ◌∙◌, arith, append-nil, append_assoc, add-one, length-append}
use Rattle.std.proofs.Math.Seq.{take-suc}
use Rattle.std.specs.Prelude.{slice_index_or}
use Rattle.std.proofs.lemmas.Bool.{ltb-false, or_parts}
use Rattle.std.proofs.lemmas.List.{drop_all}
use Rattle.mv_catalog.specs.declared.resolved.ProcInfo.{ProcInfo}
use Rattle.mv_catalog.specs.declared.resolved.RStmt.{RStmt}
use Rattle.mv_record.specs.declared.record.Record.{Record}
use Rattle.mv_recorded.specs.Recorded.{Site, outside}
use Rattle.mv_exec.specs.declared.frames.Holder.{Holder}
use Rattle.mv_exec.specs.declared.frames.Holder.TheVariants as by
use Rattle.mv_exec.specs.declared.frames.Frame.{Frame}
use Rattle.mv_exec.specs.Frames.{block_of, statement_before, holder_of, site_in, site_of, turns_of, loop_rows, jobs_here, jobs_of, jobs_left, has_turn, is_left, EndsLeft, StaysTo}

-- Lists

pub no_last : {A : Type 0} (xs : List A) (x : A) → xs ++ x ∷ [] ≡ [] → ⊥
no_last [] x e = cc
no_last (y ∷ xs) x e = cc

pub same_last : {A : Type 0} (xs ys : List A) (x y : A) → xs ++ x ∷ [] ≡ ys ++ y ∷ [] → (xs ≡ ys) × (x ≡ y)
same_last [] [] x y e = (refl, cc)
same_last [] (b ∷ ys) x y e = absurd (no_last ys y (let h : [] ≡ ys ++ y ∷ [] = cc in sym h))
same_last (a ∷ xs) [] x y e = absurd (no_last xs x (cc))
same_last (a ∷ xs) (b ∷ ys) x y e =
    let h : (xs ≡ ys) × (x ≡ y) = same_last xs ys x y (cc) in
    let k : a ≡ b = cc in
    (cc, h.1)

pub none_past : {A : Type 0} (xs : List A) (n : ℕ) → nat_lt n (length xs) ≡ false → drop n xs ≡ []
none_past xs n h = drop_all n xs (ltb-false n (length xs) h)

-- Frames

pub holding_more : (proc : ProcInfo) (s : Option RStmt) (ps : List Frame) (p : Frame) → holder_of proc s (ps ++ p ∷ []) ≡ statement_before proc (holder_of proc s ps) p
holding_more proc s [] p = refl
holding_more proc s (q ∷ ps) p = holding_more proc (statement_before proc s q) ps p

pub site_more : (site : Site) (ps : List Frame) (p : Frame) → site_of site (ps ++ p ∷ []) ≡ site_in p.holder (site_of site ps)
site_more site [] p = refl
site_more site (q ∷ ps) p = site_more (site_in q.holder site) ps p

-- the innermost frame comes first in what is left
pub jobs_more : (proc : ProcInfo) (rs : List Record) (s : Option RStmt) (site : Site) (ps : List Frame) (p : Frame)
    → jobs_of proc rs s site (ps ++ p ∷ []) ≡ jobs_here rs (block_of proc (holder_of proc s ps) p) (site_of site ps) p ++ jobs_of proc rs s site ps
jobs_more proc rs s site [] p = sym (append-nil (jobs_here rs (block_of proc s p) site p))
jobs_more proc rs s site (q ∷ ps) p =
    ap (λ js. js ++ jobs_here rs (block_of proc s q) site q) (jobs_more proc rs (statement_before proc s q) (site_in q.holder site) ps p)
    ∙ append_assoc (jobs_here rs (block_of proc (holder_of proc (statement_before proc s q) ps) p) (site_of (site_in q.holder site) ps) p)
    (jobs_of proc rs (statement_before proc s q) (site_in q.holder site) ps) (jobs_here rs (block_of proc s q) site q)

no_turns : (rs : List Record) (block : List RStmt) (site : Site) (first : ℕ) (h : Holder) → has_turn rs h ≡ false → turns_of rs site block first h ≡ []
no_turns rs block site first by.Procedure e = refl
no_turns rs block site first (by.Branch number b) e = refl
no_turns rs block site first (by.Loop number x k) e = rw (none_past (loop_rows rs number) k e) refl

-- nothing is left where neither a statement nor a turn is
pub none_here : (rs : List Record) (block : List RStmt) (site : Site) (p : Frame) → is_left rs block p ≡ false → jobs_here rs block site p ≡ []
none_here rs block site p e =
    let h : (nat_lt p.at (length block) ≡ false) × (has_turn rs p.holder ≡ false) = or_parts (nat_lt p.at (length block)) (has_turn rs p.holder) e in
    rw (none_past block p.at h.0) (no_turns rs block site p.first p.holder h.1)

-- How many stay

one_more : (ps : List Frame) (i : ℕ) (d : Frame) → i < length ps → take (i + 1) ps ≡ take i ps ++ slice_index_or ps i d ∷ []
one_more ps i d lt = rw add-one (take-suc ps i d lt)

pub site_step : (ps : List Frame) (i : ℕ) (d : Frame) → i < length ps → site_of outside (take (i + 1) ps) ≡ site_in (slice_index_or ps i d).holder (site_of outside (take i ps))
site_step ps i d lt = ap (site_of outside) (one_more ps i d lt) ∙ site_more outside (take i ps) (slice_index_or ps i d)

-- The turns around a frame

pub turn_is : (site : Site) (outer : List ℕ) (last k : ℕ) → last ≡ k → (site.turns ++ k ∷ [] ≡ outer ++ last ∷ []) ↔ (site.turns ≡ outer)
turn_is site outer last k e = ((λ h. (same_last site.turns outer k last h).0), λ h. ap (λ l. l ++ k ∷ []) h ∙ ap (λ n. outer ++ n ∷ []) (sym e))

pub other_turn : (site : Site) (outer : List ℕ) (last k : ℕ) → (last ≡ k → ⊥) → site.turns ++ k ∷ [] ≡ outer ++ last ∷ [] → ⊥
other_turn site outer last k apart h = apart (sym (same_last site.turns outer k last h).1)

site_last : (ps outer : List Frame) (p : Frame) → ps ≡ outer ++ p ∷ [] → (site_of outside ps).turns ≡ (site_in p.holder (site_of outside outer)).turns
site_last ps outer p e = ap (λ l. (site_of outside l).turns) e ∙ ap (λ (s : Site). s.turns) (site_more outside outer p)

-- a test that tells whether these are the turns, where the ones left of them are those around the outer frames
pub turns_are : (ps outer : List Frame) (p : Frame) (turns left : List ℕ) (b : Bool) → ps ≡ outer ++ p ∷ []
    → ((site : Site) → ((site_in p.holder site).turns ≡ turns) ↔ (site.turns ≡ left)) → (b ≡ true) ↔ ((site_of outside outer).turns ≡ left) → (b ≡ true) ↔ ((site_of outside ps).turns ≡ turns)
turns_are ps outer p turns left b e last h = (
  (λ y. site_last ps outer p e ∙ (last (site_of outside outer)).1 (h.0 y)),
  λ t. h.1 ((last (site_of outside outer)).0 (sym (site_last ps outer p e) ∙ t)),
)

pub turns_differ : (ps outer : List Frame) (p : Frame) (turns : List ℕ) → ps ≡ outer ++ p ∷ [] → ((site : Site) → (site_in p.holder site).turns ≡ turns → ⊥) → (false ≡ true) ↔ ((site_of outside ps).turns ≡ turns)
turns_differ ps outer p turns e apart = ((λ y. cc), λ t. absurd (apart (site_of outside outer) (sym (site_last ps outer p e) ∙ t)))

-- the same of a frame inside these frames
pub turns_here : (site : Site) (here : Site) (turns left : List ℕ) (b : Bool) → (here.turns ≡ turns) ↔ (site.turns ≡ left) → (b ≡ true) ↔ (site.turns ≡ left) → (b ≡ true) ↔ (here.turns ≡ turns)
turns_here site here turns left b last h = ((λ y. last.1 (h.0 y)), λ t. h.1 (last.0 t))

pub turns_apart : (here : Site) (turns : List ℕ) → (here.turns ≡ turns → ⊥) → (false ≡ true) ↔ (here.turns ≡ turns)
turns_apart here turns apart = ((λ y. cc), λ t. absurd (apart t))

pub unturned : (ps : List Frame) (turns : List ℕ) (b : Bool) → ps ≡ [] → (b ≡ true) ↔ ([] ≡ turns) → (b ≡ true) ↔ ((site_of outside ps).turns ≡ turns)
unturned ps turns b e h =
    let is : (site_of outside ps).turns ≡ [] = ap (λ l. (site_of outside l).turns) e in
    ((λ y. is ∙ h.0 y), λ t. h.1 (sym is ∙ t))

take_front : {A : Type 0} (xs ys : List A) (n : ℕ) → n ≤ length xs → take n (xs ++ ys) ≡ take n xs
take_front xs ys zero h = refl
take_front [] ys (suc n) h = absurd (omega (arith, h))
take_front (x ∷ xs) ys (suc n) h = ap (λ l. x ∷ l) (take_front xs ys n (omega (arith, h)))

take_whole : {A : Type 0} (xs : List A) → take (length xs) xs ≡ xs
take_whole [] = refl
take_whole (x ∷ xs) = ap (λ l. x ∷ l) (take_whole xs)

-- none of no frames
pub none_stay : (proc : ProcInfo) (rs : List Record) (ps : List Frame) → ps ≡ [] → StaysTo proc rs ps (length ps) 0
none_stay proc rs ps none = record {
  within = omega arith;
  same = ap (jobs_left proc rs) (sym (take_whole ps ∙ none));
  ends = λ outer p e. absurd (no_last outer p (sym e));
}

-- all where something is left at the innermost one
pub all_stay : (proc : ProcInfo) (rs : List Record) (ps outer : List Frame) (p : Frame) (n : ℕ) → ps ≡ outer ++ p ∷ []
    → is_left rs (block_of proc (holder_of proc None outer) p) p ≡ true → n ≡ length ps → StaysTo proc rs ps (length ps) n
all_stay proc rs ps outer p n are left is = subst (StaysTo proc rs ps (length ps)) (sym is) (record {
  within = omega arith;
  same = refl;
  ends = λ o q e.
      let h : (outer ≡ o) × (p ≡ q) = same_last outer o p q (sym are ∙ (sym (take_whole ps) ∙ e)) in
      subst (λ os. is_left rs (block_of proc (holder_of proc None os) q) q ≡ true) h.0
      (subst (λ r. is_left rs (block_of proc (holder_of proc None outer) r) r ≡ true) h.1 left);
})

-- as many as of the outer ones where nothing is left at the innermost one
pub outer_stay : (proc : ProcInfo) (rs : List Record) (ps outer : List Frame) (p : Frame) (n : ℕ) → ps ≡ outer ++ p ∷ []
    → is_left rs (block_of proc (holder_of proc None outer) p) p ≡ false → StaysTo proc rs outer (length outer) n → StaysTo proc rs ps (length ps) n
outer_stay proc rs ps outer p n are none stays =
    let front : take n ps ≡ take n outer = ap (take n) are ∙ take_front outer (p ∷ []) n stays.within in
    record {
      within = omega (arith, stays.within, ap length are, length-append outer (p ∷ []));
      same =
          ap (jobs_left proc rs) front
          ∙ (stays.same
          ∙ (ap (jobs_left proc rs) (take_whole outer)
          ∙ (ap (λ js. js ++ jobs_left proc rs outer) (sym (none_here rs (block_of proc (holder_of proc None outer) p) (site_of outside outer) p none))
          ∙ (sym (jobs_more proc rs None outside outer p) ∙ ap (jobs_left proc rs) (sym (take_whole ps ∙ are))))));
      ends = subst (EndsLeft proc rs) (sym front) stays.ends;
    }

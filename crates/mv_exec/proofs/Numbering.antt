-- The numbers of the statements that are left.
use Rattle.std.proofs.Common.{◌≡◌, ℕ, ◌+◌, ◌^◌, ◌<◌, ◌≤◌, Bool, true, false, List, [], ◌∷◌, ◌++◌, Some, None, drop, slice_get, refl, sym, ap, subst, ◌∙◌, arith, append-nil}
use Rattle.std.proofs.lemmas.Option.{slice_get_within}
use Rattle.mv_catalog.specs.Statements.{size, size_of}
use Rattle.mv_catalog.specs.declared.resolved.ProcInfo.{ProcInfo}
use Rattle.mv_catalog.specs.declared.resolved.RStmt.{RStmt, out-RStmt}
use Rattle.mv_catalog.specs.declared.resolved.RStmt.TheOpen.{RStmt-F, Assign, Select, Total, ForSelect, ForRows, Branch, Insert, Update, Delete, Print, Rollback}
use Rattle.mv_graph.specs.Steps.{HasText}
use Rattle.mv_graph.proofs.Texts.{text_from, select_text, rows_text, yes_text, no_branch_text, text_fits}
use Rattle.mv_exec.specs.declared.frames.Holder.TheVariants as by
use Rattle.mv_exec.specs.declared.frames.Frame.{Frame}
use Rattle.mv_exec.specs.Frames.{body_in, branch_in, block_in, block_of, holder_of, IsNumbered, AreNumbered, HoldsFrame}
use Rattle.mv_exec.specs.Moves.{branch_frame, loop_frame, inner_frames, frame_after}
use Rattle.mv_exec.proofs.Turning.{every_last, every_outer, every_more}
use Rattle.mv_exec.proofs.Adding.{from_first, held_statement}
use Rattle.mv_exec.proofs.Lists.{long_enough, past_all}

-- the statement at a frame, and those after it
text_at : (proc : ProcInfo) (block : List RStmt) (p : Frame) (s : RStmt) → IsNumbered proc block p → slice_get block p.at ≡ Some s → HasText proc p.number (s ∷ drop (p.at + 1) block)
text_at proc block p s h at = subst (HasText proc p.number) (from_first block p.at s at) (text_from proc p.first block p.at h.0 p.number h.1)

numbered_after : (proc : ProcInfo) (block : List RStmt) (p : Frame) (s : RStmt) → IsNumbered proc block p → slice_get block p.at ≡ Some s → IsNumbered proc block (frame_after (size s) p)
numbered_after proc block p s h at =
    let split : size_of (drop p.at block) ≡ size s + size_of (drop (p.at + 1) block) = ap size_of (from_first block p.at s at) in
    (h.0, omega (arith, h.1, split))

entered_numbered : (proc : ProcInfo) (os : List Frame) (number : ℕ) (b : Bool) (first : ℕ) (block : List RStmt) → AreNumbered proc None os
    → block_in proc (by.Branch number b) (holder_of proc None os) ≡ block → HasText proc first block → AreNumbered proc None (os ++ branch_frame (by.Branch number b) first block)
entered_numbered proc os number b first [] h e text = subst (AreNumbered proc None) (sym (append-nil os)) h
entered_numbered proc os number b first (s ∷ ss) h e text =
    let p : Frame = record { holder = by.Branch number b; first = first; at = 0; number = first } in
    every_more (IsNumbered proc) proc None os p h (subst (λ bl. IsNumbered proc bl p) (sym e) (text, refl))

looped_numbered : (proc : ProcInfo) (os : List Frame) (number x first : ℕ) (body : List RStmt) → AreNumbered proc None os
    → block_in proc (by.Loop number x 0) (holder_of proc None os) ≡ body → HasText proc first body → AreNumbered proc None (os ++ loop_frame number x first body)
looped_numbered proc os number x first [] h e text = subst (AreNumbered proc None) (sym (append-nil os)) h
looped_numbered proc os number x first (s ∷ ss) h e text =
    let p : Frame = record { holder = by.Loop number x 0; first = first; at = size_of (s ∷ ss); number = first + size_of (s ∷ ss) } in
    let none : size_of (drop (size_of (s ∷ ss)) (s ∷ ss)) ≡ 0 = ap size_of (past_all (s ∷ ss)) in
    every_more (IsNumbered proc) proc None os p h (subst (λ bl. IsNumbered proc bl p) (sym e) (text, omega (arith, none)))

numbered_inside : (proc : ProcInfo) (os : List Frame) (s : RStmt) (y : RStmt-F RStmt) (number n : ℕ) (b : Bool) (ss : List RStmt) → AreNumbered proc None os
    → holder_of proc None os ≡ Some s → out-RStmt s ≡ y → HasText proc n (s ∷ ss) → AreNumbered proc None (os ++ inner_frames number n b y)
numbered_inside proc os s (ForSelect x once cs t conds sorts body) number n b ss h at is text =
    looped_numbered proc os number x (n + 1) body h (ap (block_in proc (by.Loop number x 0)) at ∙ ap body_in is) (select_text proc n s ss x once cs t conds sorts body is text)
numbered_inside proc os s (ForRows x y body) number n b ss h at is text =
    looped_numbered proc os number x (n + 1) body h (ap (block_in proc (by.Loop number x 0)) at ∙ ap body_in is) (rows_text proc n s ss x y body is text)
numbered_inside proc os s (Branch e ys ns) number n true ss h at is text =
    entered_numbered proc os number true (n + 1) ys h (ap (block_in proc (by.Branch number true)) at ∙ ap (branch_in true) is) (yes_text proc n s ss e ys ns is text)
numbered_inside proc os s (Branch e ys ns) number n false ss h at is text =
    entered_numbered proc os number false (n + 1 + size_of ys) ns h (ap (block_in proc (by.Branch number false)) at ∙ ap (branch_in false) is) (no_branch_text proc n s ss e ys ns is text)
numbered_inside proc os s (Assign x e) number n b ss h at is text = subst (AreNumbered proc None) (sym (append-nil os)) h
numbered_inside proc os s (Select cs xs t conds sorts offset) number n b ss h at is text = subst (AreNumbered proc None) (sym (append-nil os)) h
numbered_inside proc os s (Total agg x t conds) number n b ss h at is text = subst (AreNumbered proc None) (sym (append-nil os)) h
numbered_inside proc os s (Insert t es) number n b ss h at is text = subst (AreNumbered proc None) (sym (append-nil os)) h
numbered_inside proc os s (Update t items conds) number n b ss h at is text = subst (AreNumbered proc None) (sym (append-nil os)) h
numbered_inside proc os s (Delete t conds) number n b ss h at is text = subst (AreNumbered proc None) (sym (append-nil os)) h
numbered_inside proc os s (Print es) number n b ss h at is text = subst (AreNumbered proc None) (sym (append-nil os)) h
numbered_inside proc os s (Rollback reason) number n b ss h at is text = subst (AreNumbered proc None) (sym (append-nil os)) h

-- the text of the next statement, and of those after it in its list
pub text_next : (proc : ProcInfo) (ps outer : List Frame) (p : Frame) (s : RStmt) → AreNumbered proc None ps → HoldsFrame proc ps outer p s
    → HasText proc p.number (s ∷ drop (p.at + 1) (block_of proc (holder_of proc None outer) p))
text_next proc ps outer p s h at =
    text_at proc (block_of proc (holder_of proc None outer) p) p s (every_last (IsNumbered proc) proc None outer p (subst (AreNumbered proc None) at.are h)) at.stands

-- after a statement and inside it
pub numbered_on : (proc : ProcInfo) (ps outer : List Frame) (p : Frame) (s : RStmt) (number : ℕ) (b : Bool) → AreNumbered proc None ps → HoldsFrame proc ps outer p s
    → AreNumbered proc None ((outer ++ frame_after (size s) p ∷ []) ++ inner_frames number p.number b (out-RStmt s))
numbered_on proc ps outer p s number b h at =
    let block : List RStmt = block_of proc (holder_of proc None outer) p in
    let here : AreNumbered proc None (outer ++ p ∷ []) = subst (AreNumbered proc None) at.are h in
    let last : IsNumbered proc block p = every_last (IsNumbered proc) proc None outer p here in
    numbered_inside proc (outer ++ frame_after (size s) p ∷ []) s (out-RStmt s) number p.number b (drop (p.at + 1) block)
    (every_more (IsNumbered proc) proc None outer (frame_after (size s) p) (every_outer (IsNumbered proc) proc None outer p here) (numbered_after proc block p s last at.stands))
    (held_statement proc ps outer p s (size s) at) refl (text_at proc block p s last at.stands)

-- the numbers of the next statement and of its frame fit
pub small_next : (proc : ProcInfo) (ps outer : List Frame) (p : Frame) (s : RStmt) → AreNumbered proc None ps → HoldsFrame proc ps outer p s → size_of proc.body ≤ 1000
    → (p.number + size s < 2 ^ 16) × (p.at < 2 ^ 16)
small_next proc ps outer p s h at short =
    let block : List RStmt = block_of proc (holder_of proc None outer) p in
    let last : IsNumbered proc block p = every_last (IsNumbered proc) proc None outer p (subst (AreNumbered proc None) at.are h) in
    let rest : List RStmt = drop (p.at + 1) block in (
      omega (arith, text_fits proc p.number (s ∷ rest) (text_at proc block p s last at.stands), short),
      omega (arith, text_fits proc p.first block last.0, long_enough block, slice_get_within block p.at s at.stands, short),
    )

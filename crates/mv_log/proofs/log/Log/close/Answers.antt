-- The open statement becomes a record.
use Rattle.std.proofs.Common.{◌≡◌, ◌++◌, ◌∷◌, [], ℕ, List, Option, length, take, drop, sym, ap, subst, ◌∙◌, arith}
use Rattle.mv_values.specs.declared.patch.Write.{Write}
use Rattle.mv_undo.specs.Owned.{owned_by}
use Rattle.mv_undo.specs.Owning.{undo_of}
use Rattle.mv_undo.specs.Indexed.{Indexed, IsIndexOf}
use Rattle.mv_log.specs.declared.head.Head.{Head}
use Rattle.mv_log.specs.declared.head.Marks.{Marks}
use Rattle.mv_log.specs.declared.lists.Lists.{Lists}
use Rattle.mv_log.specs.declared.log.Log.TheInside.{Inside}
use Rattle.mv_log.specs.Fitting.{marks_of}
use Rattle.mv_log.specs.Cutting.{head_between, HasSide}
use Rattle.mv_log.specs.Expanding.{IsWhole, expanded}
use Rattle.mv_log.proofs.Closing.{all_indexed, back_indexed, closing_view, new_record, closed, closed_whole, sides_alone, taken_back, writes_below, IsIndexWith}
use Rattle.mv_log.proofs.log.Log.close.Goals as goal
use Rattle.mv_log.proofs.log.Log.close.Goals.{After-as_slice-all}

-- the writes are as before
same : (c : After-as_slice-all) → c.as_slice-all.result.now ≡ c.self.inside.lists.writes
same c =
    let p : Inside = c.self.inside in
    let k : Lists = c.push_side.new.self in
    let has : HasSide p.from (marks_of p.lists) p.lists k c.in_ok-side.side = subst (λ (x : Marks). HasSide p.from x p.lists k c.in_ok-side.side) c.marks-to.ensures c.in_ok-side.ensures.ok in
    c.as_slice-all.ensures ∙ ap (λ (l : Lists). l.writes) (sides_alone p.from (marks_of p.lists) p.lists k c.in_ok-side.side has)

pub push_head-requires-clause-index : goal.push_head-requires-clause-index
push_head-requires-clause-index c = subst (IsIndexOf c.self.inside.own) (sym (same (goal.at.push_head-requires-clause-index c).After-as_slice-all)) (all_indexed c.self.inside c.self.invariant)

pub push_head-requires-clause-within : goal.push_head-requires-clause-within
push_head-requires-clause-within c =
    let to : c.marks-to.result.writes ≡ length c.self.inside.lists.writes = ap (λ (m : Marks). m.writes) c.marks-to.ensures in
    let all : length c.as_slice-all.result.now ≡ length c.self.inside.lists.writes = ap (λ (ws : List Write). length ws) (same (goal.at.push_head-requires-clause-within c).After-as_slice-all) in
    record { order = omega (arith, c.self.invariant.from.writes, to); within = omega (arith, to, all) }

pub push_head-requires-clause-last : goal.push_head-requires-clause-last
push_head-requires-clause-last c = writes_below c.self.inside c.self.invariant

-- It is taken back

back : (c : After-as_slice-all) → (let k = c.push_side.new.self in record k { sides = take c.len-sides.result k.sides } ≡ c.self.inside.lists)
back c =
    let p : Inside = c.self.inside in
    let k : Lists = c.push_side.new.self in
    let has : HasSide p.from (marks_of p.lists) p.lists k c.in_ok-side.side = subst (λ (x : Marks). HasSide p.from x p.lists k c.in_ok-side.side) c.marks-to.ensures c.in_ok-side.ensures.ok in
    ap (λ (n : ℕ). record k { sides = take n k.sides }) c.len-sides.ensures ∙ taken_back p.from (marks_of p.lists) p.lists k c.in_ok-side.side has

pub invariant_of-self-in-Err : goal.invariant_of-self-in-Err
invariant_of-self-in-Err c =
    let p : Inside = c.self.inside in
    let j : Indexed = c.push_head.new.own in
    let before = (goal.at.invariant_of-self-in-Err c).After-as_slice-all in
    rw c.truncate.ensures (rw c.in-Err.ensures.err.0 (subst (λ (l : Lists). IsWhole (record p { lists = l; own = j })) (sym (back before)) (back_indexed p j (subst (IsIndexOf j) (same before) c.push_head.ensures.index) c.in-Err.ensures.err.1 c.self.invariant)))

pub returns-in-Err-clause-err : goal.returns-in-Err-clause-err
returns-in-Err-clause-err c =
    let p : Inside = c.self.inside in
    rw c.truncate.ensures (rw c.in-Err.ensures.err.0 (ap (λ (l : Lists). expanded (record p { lists = l })) (back (goal.at.returns-in-Err-clause-err c).After-as_slice-all) ∙ c.self.view_is))

-- It is added

pub invariant_of-self-2 : goal.invariant_of-self-2
invariant_of-self-2 c =
    let p : Inside = c.self.inside in
    let ws : List Write = p.lists.writes in
    let k : Lists = c.push_side.new.self in
    let at : Option ℕ = c.in_ok-side.side in
    let j : Indexed = c.push_head.new.own in
    let m : Marks = marks_of p.lists in
    let h : Head = head_between p.from m c.args.statement c.args.parent at in
    let to : c.marks-to.result ≡ m = c.marks-to.ensures in
    let has : HasSide p.from m p.lists k at = subst (λ (x : Marks). HasSide p.from x p.lists k at) to c.in_ok-side.ensures.ok in
    let alone : k ≡ (let es = k.sides in let l = p.lists in record l { sides = es }) = sides_alone p.from m p.lists k at has in
    let head : c.head_between-head.result ≡ h = c.head_between-head.ensures ∙ ap (λ (x : Marks). head_between p.from x c.args.statement c.args.parent at) to in
    let all : c.as_slice-all.result.now ≡ ws = same (goal.at.invariant_of-self-2 c).After-as_slice-all in
    let found : IsIndexWith p j = (
      subst (IsIndexOf j) all c.push_head.ensures.index,
      subst (λ (vs : List Write). owned_by j.places vs ≡ owned_by p.own.places vs ++ undo_of (length p.heads) (drop p.from.writes (take (length ws) vs))) all
          (subst (λ (x : Marks). let vs = c.as_slice-all.result.now in owned_by j.places vs ≡ owned_by p.own.places vs ++ undo_of (length p.heads) (drop p.from.writes (take x.writes vs))) to c.in_default.ensures.own),
    ) in
    rw c.in_default.ensures.heads (rw head (rw to (subst (λ (x : Lists). IsWhole (record p { lists = x; heads = p.heads ++ h ∷ []; from = m; own = j })) (sym alone) (closed_whole p k c.args.statement c.args.parent at j has found c.self.invariant))))

pub returns-clause-ok : goal.returns-clause-ok
returns-clause-ok c =
    let p : Inside = c.self.inside in
    let k : Lists = c.push_side.new.self in
    let at : Option ℕ = c.in_ok-side.side in
    let j : Indexed = c.push_head.new.own in
    let m : Marks = marks_of p.lists in
    let h : Head = head_between p.from m c.args.statement c.args.parent at in
    let to : c.marks-to.result ≡ m = c.marks-to.ensures in
    let has : HasSide p.from m p.lists k at = subst (λ (x : Marks). HasSide p.from x p.lists k at) to c.in_ok-side.ensures.ok in
    let alone : k ≡ (let es = k.sides in let l = p.lists in record l { sides = es }) = sides_alone p.from m p.lists k at has in
    let head : c.head_between-head.result ≡ h = c.head_between-head.ensures ∙ ap (λ (x : Marks). head_between p.from x c.args.statement c.args.parent at) to in
    rw c.in_default.ensures.heads
    (rw head
    (rw to (rw (sym c.self.view_is) (subst (λ (x : Lists). expanded (record p { lists = x; heads = p.heads ++ h ∷ []; from = m; own = j }) ≡ closing_view (expanded p) (new_record p c.args.statement c.args.parent)) (sym alone) (closed p k c.args.statement c.args.parent at j has c.self.invariant)))))

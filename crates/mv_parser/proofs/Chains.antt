-- Operands between operators.
use Rattle.std.proofs.Common.{◌≡◌, ℕ, zero, suc, ◌+◌, ◌-◌, ◌<◌, ◌≤◌, true, false, cond, List, [], ◌∷◌, Some, Ok, Err, length, refl, sym, ap, ◌∙◌, arith}
use Rattle.mv_values.specs.declared.op.Op.{Op}
use Rattle.mv_ast.specs.declared.lexeme.Lexeme.{Lexeme}
use Rattle.mv_ast.specs.declared.lexeme.Terminal.{Terminal}
use Rattle.mv_ast.specs.declared.lexeme.Terminal.TheVariants as word
use Rattle.mv_ast.specs.declared.tree.Expr.{Expr}
use Rattle.mv_ast.specs.declared.tree.TwoOp.{TwoOp}
use Rattle.mv_ast.specs.declared.tree.TwoOp.TheVariants.{And, Or}
use Rattle.mv_ast.specs.Trees.{paired, paired_by, with_op, with_comparison, compared}
use Rattle.mv_ast.specs.Parts.{give, one}
use Rattle.mv_ast.specs.Grammar.{◌▸◌, ◌⊛◌, expr, conj, neg, comp, op, sum, term, sum_op, term_op}
use Rattle.mv_parser.specs.declared.fault.Failure.{Failure}
use Rattle.mv_parser.specs.declared.fault.Failure.TheVariants.{Memory, Wrong}
use Rattle.mv_parser.specs.declared.level.Level.{Level}
use Rattle.mv_parser.specs.declared.level.Level.TheVariants as level
use Rattle.mv_parser.specs.Reading.{◌>>=◌, Read, Inside, first, read, read_one, more, starts_with}
use Rattle.mv_parser.specs.Answers.{Stops}
use Rattle.mv_parser.specs.Levels.{marks, operand, next, chain, with_compare}
use Rattle.mv_parser.proofs.Basics.{same_read}
use Rattle.mv_parser.proofs.Turns.{more_turn, more_stop, turn_kept}

pub next_first : (bytes : List ℕ) (l : Level) → first (next bytes l) ≡ marks l
unfolding sum_op term_op
next_first bytes level.Or = refl
next_first bytes level.And = refl
next_first bytes level.Sum = refl
next_first bytes level.Term = refl

-- what was read behind an operator, with the operator
abbrev pub with_both : TwoOp → Expr × List Lexeme → Read (TwoOp × Expr)
with_both o x = Ok ((o, x.0), x.1)

abbrev pub only_read : Expr × List Lexeme → Read Expr
only_read x = Ok (x.0, x.1)

abbrev pub as_op : TwoOp → Lexeme × List Lexeme → Read TwoOp
as_op o x = Ok (o, x.1)

abbrev pub as_with : TwoOp × List Lexeme → Read (Expr → TwoOp × Expr)
as_with x = Ok (with_op x.0, x.1)

behind_tail : (o : TwoOp) (r : Read Expr) → (r >>= with_both o) ≡ ((r >>= only_read) >>= with_both o)
behind_tail o (Ok x) = refl
behind_tail o (Err e) = refl

-- an operator that is one token, and the operand behind it
behind_one : (o : TwoOp) (r : Read Lexeme) (p : List Lexeme → Read Expr)
    → (((r >>= as_op o) >>= as_with) >>= (λ w. p w.1 >>= (λ v. Ok (w.0 v.0, v.1)))) ≡ ((r >>= (λ x. p x.1 >>= only_read)) >>= with_both o)
behind_one o (Ok x) p = behind_tail o (p x.1)
behind_one o (Err e) p = refl

turned : (o : TwoOp) (a : Expr) (f g : Expr → List Lexeme → Read Expr) → ((b : Expr) (ts : List Lexeme) → f b ts ≡ g b ts) → (r : Read Expr)
    → ((r >>= with_both o) >>= (λ x. f (paired_by a x.0) x.1)) ≡ (r >>= (λ x. g (paired o a x.0) x.1))
turned o a f g same (Ok x) = same (paired o a x.0) x.1
turned o a f g same (Err e) = refl

more_same : (m : ℕ) (o : TwoOp) (ks : List Terminal) (piece : List Lexeme → Read Expr) (twin : List Lexeme → Read (TwoOp × Expr))
    → ((ts : List Lexeme) → twin ts ≡ (piece ts >>= with_both o)) → (a : Expr) (ts : List Lexeme)
    → more m paired_by ks twin a ts ≡ more m (paired o) ks piece a ts
unfolding more
more_same zero o ks piece twin same a ts = refl
more_same (suc m) o ks piece twin same a ts =
    ap (λ (r : Read Expr). cond (starts_with ks ts) r (Ok (a, ts))) (
    ap (λ (r : Read (TwoOp × Expr)). r >>= (λ x. more m paired_by ks twin (paired_by a x.0) x.1)) (same ts)
    ∙ turned o a (more m paired_by ks twin) (more m (paired o) ks piece) (more_same m o ks piece twin same) (piece ts)
    )

chain_same : (o : TwoOp) (ks : List Terminal) (piece : List Lexeme → Read Expr) (twin : List Lexeme → Read (TwoOp × Expr))
    → ((ts : List Lexeme) → twin ts ≡ (piece ts >>= with_both o)) → (r : Read Expr)
    → (r >>= (λ x. more (length x.1) paired_by ks twin x.0 x.1)) ≡ (r >>= (λ x. more (length x.1) (paired o) ks piece x.0 x.1))
chain_same o ks piece twin same (Ok x) = more_same (length x.1) o ks piece twin same x.0 x.1
chain_same o ks piece twin same (Err e) = refl

pub chain_or : (I : Inside) (bytes : List ℕ) (ts : List Lexeme) → read I (chain bytes level.Or) ts ≡ read I (expr bytes) ts
unfolding expr
chain_or I bytes ts =
    chain_same Or (word.Or ∷ []) (read I (one word.Or ▸ conj bytes)) (read I (next bytes level.Or)) (λ us. behind_one Or (read_one word.Or us) (read I (conj bytes)))
    (read I (conj bytes) ts)

pub chain_and : (I : Inside) (bytes : List ℕ) (ts : List Lexeme) → read I (chain bytes level.And) ts ≡ read I (conj bytes) ts
unfolding conj
chain_and I bytes ts =
    chain_same And (word.And ∷ []) (read I (one word.And ▸ neg bytes)) (read I (next bytes level.And)) (λ us. behind_one And (read_one word.And us) (read I (neg bytes)))
    (read I (neg bytes) ts)

pub chain_term : (I : Inside) (bytes : List ℕ) (ts : List Lexeme) → read I (chain bytes level.Term) ts ≡ read I (term bytes) ts
unfolding term
chain_term I bytes ts = refl

-- what was joined with what stands behind an operator
abbrev pub with_left : Expr → (TwoOp × Expr) × List Lexeme → Read Expr
with_left a x = Ok (paired_by a x.0, x.1)

joined_ok : (a next : Expr) (us : List Lexeme) (r : Read (TwoOp × Expr)) → (r >>= with_left a) ≡ Ok (next, us)
    → (b : TwoOp × Expr) × (r ≡ Ok (b, us)) × (next ≡ paired_by a b)
joined_ok a next us (Ok x) h = let s = same_read {A = Expr} (paired_by a x.0) next x.1 us h in (x.0, ap (λ (vs : List Lexeme). Ok (x.0, vs)) s.1, sym s.0)
joined_ok a next us (Err e) h = cc

pub turn_joined : (n i : ℕ) (ks : List Terminal) (piece : List Lexeme → Read (TwoOp × Expr)) (a next : Expr) (ts us : List Lexeme) (all : Read Expr) → i < n
    → starts_with ks ts ≡ true → (piece ts >>= with_left a) ≡ Ok (next, us) → more (n - i) paired_by ks piece a ts ≡ all → more (n - (i + 1)) paired_by ks piece next us ≡ all
turn_joined n i ks piece a next ts us all h s j e =
    let b = joined_ok a next us (piece ts) j in
    turn_kept n i paired_by ks piece a next ts us b.0 all h s b.1 b.2 e

joined_err : {B : Type 0} (a : Expr) (f : (TwoOp × Expr) × List Lexeme → Read B) (r : Read (TwoOp × Expr)) (left : ℕ) → (r >>= with_left a) ≡ Err left → (r >>= f) ≡ Err left
joined_err a f (Ok x) left h = cc
joined_err a f (Err e) left h = let same : e ≡ left = cc in ap Err same

pub turn_stops : (n i : ℕ) (ks : List Terminal) (piece : List Lexeme → Read (TwoOp × Expr)) (a : Expr) (ts all_ts : List Lexeme) (all : Read Expr) (stop : Failure) → i < n
    → starts_with ks ts ≡ true → Stops all_ts stop (piece ts >>= with_left a) → more (n - i) paired_by ks piece a ts ≡ all → Stops all_ts stop all
turn_stops n i ks piece a ts all_ts all Memory h s j e = tt
turn_stops n i ks piece a ts all_ts all (Wrong left) h s j e =
    sym e ∙ (more_turn n i paired_by ks piece a ts h
    ∙ rw s (joined_err a (λ x. more (n - (i + 1)) paired_by ks piece (paired_by a x.0) x.1) (piece ts) left j))

-- what was read, as another value
abbrev mapped : {A B : Type 0} → (A → B) → A × List Lexeme → Read B
mapped f x = Ok (f x.0, x.1)

-- a comparison and the sum behind it
compared_same : (q : Read (Op × Expr)) (a : Expr) → ((q >>= mapped with_compare) >>= with_left a) ≡ ((q >>= mapped Some) >>= mapped (compared a))
compared_same (Ok x) a = refl
compared_same (Err e) a = refl

-- the loop over the operators of a level: it begins, it stops before another token, and it has no turn left
pub chain_begins : (I : Inside) (bytes : List ℕ) (l : Level) (n : ℕ) (whole : Expr) (ts us : List Lexeme) → n ≡ length us → read I (operand bytes l) ts ≡ Ok (whole, us)
    → more (n - 0) paired_by (marks l) (read I (next bytes l)) whole us ≡ read I (chain bytes l) ts
chain_begins I bytes l n whole ts us e o = let same : n - 0 ≡ length us = omega (arith, e) in rw (same, o, next_first bytes l) refl

pub chain_ends : (n i : ℕ) (ks : List Terminal) (piece : List Lexeme → Read (TwoOp × Expr)) (a : Expr) (ts : List Lexeme) (all : Read Expr) → i < n
    → starts_with ks ts ≡ false → more (n - i) paired_by ks piece a ts ≡ all → all ≡ Ok (a, ts)
chain_ends n i ks piece a ts all h s e = sym e ∙ (more_turn n i paired_by ks piece a ts h ∙ rw s refl)

pub chain_over : (n i : ℕ) (ks : List Terminal) (piece : List Lexeme → Read (TwoOp × Expr)) (a : Expr) (ts : List Lexeme) (all : Read Expr) → n ≤ i
    → more (n - i) paired_by ks piece a ts ≡ all → all ≡ Ok (a, ts)
chain_over n i ks piece a ts all h e = sym e ∙ more_stop n i paired_by ks piece a ts h

-- two sums that are compared
pub comp_read : (I : Inside) (bytes : List ℕ) (a : Expr) (ts us : List Lexeme) → read I (chain bytes level.Sum) ts ≡ Ok (a, us)
    → starts_with (first (op bytes)) us ≡ true
    → ((read I (give with_comparison ⊛ op bytes ⊛ sum bytes) us >>= mapped with_compare) >>= with_left a) ≡ read I (comp bytes) ts
unfolding comp sum op
comp_read I bytes a ts us o s = rw (o, s) (compared_same (read I (give with_comparison ⊛ op bytes ⊛ sum bytes) us) a)

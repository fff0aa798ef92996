-- What the first commits come to, in a history and in one that it begins with.
use Rattle.std.proofs.Common.{◌≡◌, ℕ, ◌≤◌, List, [], ◌∷◌, ◌++◌, Option, Some, None, length, take, sym, ap, subst, ◌∙◌, arith, append_assoc, append-nil, length-append}
use Rattle.std.proofs.lemmas.List.{take-append-le}
use mathlib.Core.List.{IsPrefix}
use Rattle.mv_lawful.specs.Batch.{Batch, tables_after, table_at}
use Rattle.mv_lawful.specs.Rounds.{whole_run, repair_run}
use Rattle.mv_core.specs.Cores.{count_or}
use Rattle.mv_lawful.proofs.Numbers.{repair_stays}

-- the number of a round: of a whole run that of all its records, of a repair from a start that of those that aren't kept
abbrev pub number_by : Batch → List ℕ → ℕ → Option ℕ → ℕ → ℕ
number_by w order c None start = whole_run w order c start
number_by w order c (Some from) start = repair_run w order c from start

pub table_prefix : (w : Batch) (seen order : List ℕ) (n : ℕ) → IsPrefix seen order → n ≤ length seen → table_at w order n ≡ table_at w seen n
table_prefix w seen order n p le = ap (tables_after w w.opening) (subst (λ (xs : List ℕ). take n xs ≡ take n seen) p.1 (take-append-le n seen p.0 le))

repair_more : (w : Batch) (seen rest : List ℕ) (c old new : ℕ) → old ≤ length seen → new ≤ length seen → repair_run w (seen ++ rest) c old new ≡ repair_run w seen c old new
repair_more w seen [] c old new lo ln = ap (λ (xs : List ℕ). repair_run w xs c old new) (append-nil seen)
repair_more w seen (d ∷ ds) c old new lo ln =
    let long = length-append seen (d ∷ []) in
    ap (λ (xs : List ℕ). repair_run w xs c old new) (sym (append_assoc seen (d ∷ []) ds))
    ∙ (repair_more w (seen ++ d ∷ []) ds c old new (omega (arith, lo, long)) (omega (arith, ln, long)) ∙ repair_stays w seen d c old new lo ln)

pub repair_prefix : (w : Batch) (seen order : List ℕ) (c old new : ℕ) → IsPrefix seen order → old ≤ new → new ≤ length seen → repair_run w order c old new ≡ repair_run w seen c old new
repair_prefix w seen order c old new p le ln = subst (λ (xs : List ℕ). repair_run w xs c old new ≡ repair_run w seen c old new) p.1 (repair_more w seen p.0 c old new (omega (arith, le, ln)) ln)

pub whole_prefix : (w : Batch) (seen order : List ℕ) (c n : ℕ) → IsPrefix seen order → n ≤ length seen → whole_run w order c n ≡ whole_run w seen c n
whole_prefix w seen order c n p le = ap (λ db. length (w.run c db).records) (table_prefix w seen order n p le)

pub number_prefix : (w : Batch) (seen order : List ℕ) (c : ℕ) (from : Option ℕ) (n : ℕ) → IsPrefix seen order → count_or from 0 ≤ n → n ≤ length seen → number_by w order c from n ≡ number_by w seen c from n
number_prefix w seen order c None n p le ln = whole_prefix w seen order c n p ln
number_prefix w seen order c (Some from) n p le ln = repair_prefix w seen order c from n p le ln

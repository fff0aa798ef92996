-- The writes of records, each with the number of its record.
use Rattle.std.proofs.Common.{◌≡◌, ◌≤◌, ◌<◌, ◌+◌, ℕ, zero, suc, Bool, true, false, List, [], ◌∷◌, ◌++◌, All, map, length, take, nat_lt, if◌then◌else◌, refl, sym, ap, ◌∙◌, arith, append-nil, append_assoc}
use Rattle.std.proofs.lemmas.Bool.{lt-ltb, le-ltb}
use Rattle.std.proofs.lemmas.List.Elements.{All-nil, All-cons, All-append, All-weaker, filter-append}
use Rattle.mv_values.specs.declared.patch.Write.{Write}
use Rattle.mv_record.specs.declared.record.Record.{Record}
use Rattle.mv_record.specs.Runs.{writes_in}
use Rattle.mv_undo.specs.Owned.{Owned}
use Rattle.mv_undo.specs.Owning.{undo_of, undo_of_all, before, earlier, HasWritesOf}

-- Numbers

undo_most : (number : ℕ) (ws : List Write) → All (λ o. o.number ≤ number) (undo_of number ws)
undo_most number [] = All-nil (λ o. o.number ≤ number)
undo_most number (w ∷ ws) = All-cons (λ o. o.number ≤ number) (record { number = number; write = w }) (undo_of number ws) (omega arith) (undo_most number ws)

pub most_behind : (number : ℕ) (old : List Owned) (ws : List Write) → All (λ o. o.number ≤ number) old → All (λ o. o.number ≤ number) (old ++ undo_of number ws)
most_behind number old ws h = All-append (λ o. o.number ≤ number) old (undo_of number ws) h (undo_most number ws)

pub undo_more : (n : ℕ) (rs : List Record) (r : Record) → undo_of_all n (rs ++ r ∷ []) ≡ undo_of_all n rs ++ undo_of (n + length rs) r.writes
undo_more n [] r = append-nil (undo_of n r.writes) ∙ ap (λ m. undo_of m r.writes) (let e : n ≡ n + 0 = omega arith in e)
undo_more n (q ∷ rs) r =
    ap (λ os. undo_of n q.writes ++ os) (undo_more (n + 1) rs r)
    ∙ (sym (append_assoc (undo_of n q.writes) (undo_of_all (n + 1) rs) (undo_of (n + 1 + length rs) r.writes))
    ∙ ap (λ m. (undo_of n q.writes ++ undo_of_all (n + 1) rs) ++ undo_of m r.writes) (let e : n + 1 + length rs ≡ n + length (q ∷ rs) = omega arith in e))

pub undo_below : (n : ℕ) (rs : List Record) → All (λ o. o.number < n + length rs) (undo_of_all n rs)
undo_below n [] = All-nil (λ (o : Owned). o.number < n + 0)
undo_below n (r ∷ rs) =
    All-append (λ (o : Owned). o.number < n + length (r ∷ rs)) (undo_of n r.writes) (undo_of_all (n + 1) rs)
    (All-weaker (λ (o : Owned). o.number ≤ n) (λ o. o.number < n + length (r ∷ rs)) (λ o le. omega (arith, le)) (undo_of n r.writes) (undo_most n r.writes))
    (All-weaker (λ (o : Owned). o.number < n + 1 + length rs) (λ o. o.number < n + length (r ∷ rs)) (λ o lt. omega (arith, lt)) (undo_of_all (n + 1) rs) (undo_below (n + 1) rs))

-- Earlier writes

-- the writes that are earlier than a number, in two lists
earlier_both : (number : ℕ) (xs ys : List Owned) → earlier number (xs ++ ys) ≡ earlier number xs ++ earlier number ys
earlier_both number [] ys = refl
earlier_both number (x ∷ xs) ys = by (nat_lt x.number number) (earlier_both number xs ys)
  where
    by : (b : Bool) → earlier number (xs ++ ys) ≡ earlier number xs ++ earlier number ys → map (λ (o : Owned). o.write) (if b then x ∷ before number (xs ++ ys) else before number (xs ++ ys))
        ≡ map (λ (o : Owned). o.write) (if b then x ∷ before number xs else before number xs) ++ earlier number ys
    by true h = ap (λ ws. x.write ∷ ws) h
    by false h = h

-- all writes of a record with a smaller number are, and none of a later one
earlier_undo : (number n : ℕ) (ws : List Write) → n < number → earlier number (undo_of n ws) ≡ ws
earlier_undo number n [] lt = refl
earlier_undo number n (w ∷ ws) lt =
    ap (λ b. let o : Owned = record { number = n; write = w } in map (λ (o : Owned). o.write) (if b then o ∷ before number (undo_of n ws) else before number (undo_of n ws))) (lt-ltb n number lt)
    ∙ ap (λ vs. w ∷ vs) (earlier_undo number n ws lt)

later_undo : (number n : ℕ) (ws : List Write) → number ≤ n → earlier number (undo_of n ws) ≡ []
later_undo number n [] le = refl
later_undo number n (w ∷ ws) le =
    ap (λ b. let o : Owned = record { number = n; write = w } in map (λ (o : Owned). o.write) (if b then o ∷ before number (undo_of n ws) else before number (undo_of n ws))) (le-ltb n number le)
    ∙ later_undo number n ws le

none_earlier : (number n : ℕ) (rs : List Record) → number ≤ n → earlier number (undo_of_all n rs) ≡ []
none_earlier number n [] le = refl
none_earlier number n (r ∷ rs) le =
    earlier_both number (undo_of n r.writes) (undo_of_all (n + 1) rs)
    ∙ (ap (λ ws. ws ++ earlier number (undo_of_all (n + 1) rs)) (later_undo number n r.writes le) ∙ none_earlier number (n + 1) rs (omega (arith, le)))

-- so it is for the writes with their numbers

before_undo : (number n : ℕ) (ws : List Write) → n < number → before number (undo_of n ws) ≡ undo_of n ws
before_undo number n [] lt = refl
before_undo number n (w ∷ ws) lt =
    ap (λ b. let o : Owned = record { number = n; write = w } in if b then o ∷ before number (undo_of n ws) else before number (undo_of n ws)) (lt-ltb n number lt)
    ∙ ap (λ os. (let o : Owned = record { number = n; write = w } in o) ∷ os) (before_undo number n ws lt)

later_before : (number n : ℕ) (ws : List Write) → number ≤ n → before number (undo_of n ws) ≡ []
later_before number n [] le = refl
later_before number n (w ∷ ws) le =
    ap (λ b. let o : Owned = record { number = n; write = w } in if b then o ∷ before number (undo_of n ws) else before number (undo_of n ws)) (le-ltb n number le) ∙ later_before number n ws le

none_before : (number n : ℕ) (rs : List Record) → number ≤ n → before number (undo_of_all n rs) ≡ []
none_before number n [] le = refl
none_before number n (r ∷ rs) le =
    filter-append (λ (o : Owned). nat_lt o.number number) (undo_of n r.writes) (undo_of_all (n + 1) rs)
    ∙ (ap (λ os. os ++ before number (undo_of_all (n + 1) rs)) (later_before number n r.writes le) ∙ none_before number (n + 1) rs (omega (arith, le)))

pub first_before : (n k : ℕ) (rs : List Record) → before (n + k) (undo_of_all n rs) ≡ undo_of_all n (take k rs)
first_before n zero [] = refl
first_before n (suc k) [] = refl
first_before n zero (r ∷ rs) = none_before (n + 0) n (r ∷ rs) (omega arith)
first_before n (suc k) (r ∷ rs) =
    filter-append (λ (o : Owned). nat_lt o.number (n + suc k)) (undo_of n r.writes) (undo_of_all (n + 1) rs)
    ∙ (ap (λ os. os ++ before (n + suc k) (undo_of_all (n + 1) rs)) (before_undo (n + suc k) n r.writes (omega arith))
    ∙ ap (λ os. undo_of n r.writes ++ os) (ap (λ m. before m (undo_of_all (n + 1) rs)) (let e : n + suc k ≡ n + 1 + k = omega arith in e) ∙ first_before (n + 1) k rs))

-- of records, of which the first has a number, those are earlier that the first records have
first_earlier : (n k : ℕ) (rs : List Record) → earlier (n + k) (undo_of_all n rs) ≡ writes_in (take k rs)
first_earlier n zero [] = refl
first_earlier n (suc k) [] = refl
first_earlier n zero (r ∷ rs) = none_earlier (n + 0) n (r ∷ rs) (omega arith)
first_earlier n (suc k) (r ∷ rs) =
    earlier_both (n + suc k) (undo_of n r.writes) (undo_of_all (n + 1) rs)
    ∙ (ap (λ ws. ws ++ earlier (n + suc k) (undo_of_all (n + 1) rs)) (earlier_undo (n + suc k) n r.writes (omega arith))
    ∙ ap (λ ws. r.writes ++ ws) (ap (λ m. earlier m (undo_of_all (n + 1) rs)) (let e : n + suc k ≡ n + 1 + k = omega arith in e) ∙ first_earlier (n + 1) k rs))

-- before each record they are those of the records before it
pub has_writes : (undo : List Owned) (rs : List Record) → undo ≡ undo_of_all 0 rs → HasWritesOf undo rs
has_writes undo rs h number le =
    ap (earlier number) h ∙ (ap (λ n. earlier n (undo_of_all 0 rs)) (let e : number ≡ 0 + number = omega arith in e) ∙ first_earlier 0 number rs)

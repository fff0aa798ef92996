-- Laws of versions.
use Rattle.std.proofs.Common.{◌≡◌, ◌∷◌, ◌++◌, ◌<◌, ◌≤◌, ℕ, true, false, inl, inr, List, [], Option, Some, None, refl, ap, sym, ◌∙◌, arith, rules}
use Rattle.std.specs.Prelude.{nat_le, ◌==◌, All}
use Rattle.std.proofs.lemmas.Bool.{cases_Bool, eqb-true, ne_eqb, eq-eqb}
use Rattle.std.proofs.lemmas.List.Elements.{All-head, All-tail, All-weaker}
use Rattle.mv_values.specs.declared.value.Value.{Value}
use Rattle.mv_values.specs.declared.patch.Patch.{Patch}
use Rattle.mv_values.specs.declared.patch.Patch.TheVariants.{Insert, Set, Delete}
use Rattle.mv_values.specs.Patching.{patched}
use Rattle.mv_values.proofs.Setting.{columns_append}
use Rattle.mv_chain.specs.declared.pending.Pending.{Pending}
use Rattle.mv_chain.specs.Versions.{Versions, Commit, row_after, row_at, newest_of, newest, own_of, patched_by_own, without, with_own, joined, stamped, stamped_by, IsAboveAll}
use Rattle.mv_chain.proofs.Compact.{compact_is}

-- the joined patch does what the first does and then what the second does
joined_is : (p q : Patch) (row : Option (List Value)) → patched (joined p q) row ≡ patched q (patched p row)
joined_is p (Insert made) row = refl
joined_is (Insert made) (Set items) row = refl
joined_is (Set earlier) (Set items) None = refl
joined_is (Set earlier) (Set items) (Some row) = ap (λ r. Some r) (compact_is (earlier ++ items) row ∙ columns_append earlier items row)
joined_is Delete (Set items) row = refl
joined_is (Insert made) Delete row = refl
joined_is (Set earlier) Delete row = refl
joined_is Delete Delete row = refl

pub composes : (call : ℕ) (patch : Patch) (own : List Pending) (row : Option (List Value)) → patched_by_own (own_of call (with_own call patch own)) row ≡ patched patch (patched_by_own (own_of call own) row)
composes call patch [] row = rw (same_call call) refl
  where
    same_call : (n : ℕ) → (n == n) ≡ true
    same_call n = eq-eqb n n refl
composes call patch (p ∷ ps) row = elim (cases_Bool (p.call == call)) [
  | inl t ↦ rw (t, t) (joined_is p.patch patch row)
  | inr f ↦ rw (f, f) (composes call patch ps row)
]

pub others_stay : (call other : ℕ) (patch : Patch) (own : List Pending) → (call ≡ other → ⊥) → own_of other (with_own call patch own) ≡ own_of other own
others_stay call other patch [] h = rw (ne_eqb call other h) refl
others_stay call other patch (p ∷ ps) h = elim (cases_Bool (p.call == call)) [
  | inl t ↦
      let elsewhere : (p.call == other) ≡ false = ne_eqb p.call other (λ e. h (sym (eqb-true p.call call t) ∙ e)) in
      rw (t, elsewhere) refl
  | inr f ↦ rw f (elim (cases_Bool (p.call == other)) [
    | inl t ↦ rw t refl
    | inr g ↦ rw g (others_stay call other patch ps h)
  ])
]

pub is_dropped : (call : ℕ) (own : List Pending) → own_of call (without call own) ≡ None
is_dropped call [] = refl
is_dropped call (p ∷ ps) = elim (cases_Bool (p.call == call)) [
  | inl t ↦ rw t (is_dropped call ps)
  | inr f ↦ rw (f, f) (is_dropped call ps)
]

pub others_are_kept : (call other : ℕ) (own : List Pending) → (call ≡ other → ⊥) → own_of other (without call own) ≡ own_of other own
others_are_kept call other [] h = refl
others_are_kept call other (p ∷ ps) h = elim (cases_Bool (p.call == call)) [
  | inl t ↦
      let elsewhere : (p.call == other) ≡ false = ne_eqb p.call other (λ e. h (sym (eqb-true p.call call t) ∙ e)) in
      rw (t, elsewhere) (others_are_kept call other ps h)
  | inr f ↦ rw f (elim (cases_Bool (p.call == other)) [
    | inl t ↦ rw t refl
    | inr g ↦ rw g (others_are_kept call other ps h)
  ])
]

-- Reads after a stamp

last_before : (m : ℕ) (row : Option (List Value)) (cs : List Commit) (c : Commit) → m < c.number → row_after m row (cs ++ c ∷ []) ≡ row_after m row cs
last_before m row [] c h = let over : nat_le c.number m ≡ false = search (rules, h) in rw over refl
last_before m row (d ∷ ds) c h = elim (cases_Bool (nat_le d.number m)) [
  | inl t ↦ rw t (last_before m d.row ds c h)
  | inr f ↦ rw f refl
]

last_after : (m : ℕ) (row : Option (List Value)) (cs : List Commit) (c : Commit) → All (λ d. d.number < c.number) cs → c.number ≤ m → row_after m row (cs ++ c ∷ []) ≡ c.row
last_after m row [] c next h = let within : nat_le c.number m ≡ true = search (rules, h) in rw within refl
last_after m row (d ∷ ds) c next h =
    let small : d.number < c.number = All-head (λ e. e.number < c.number) d ds next in
    let le : d.number ≤ m = omega (arith, small, h) in
    let within : nat_le d.number m ≡ true = search (rules, le) in
    rw within (last_after m d.row ds c (All-tail (λ e. e.number < c.number) d ds next) h)

pub all_read : (m : ℕ) (row : Option (List Value)) (cs : List Commit) → All (λ c. c.number ≤ m) cs → row_after m row cs ≡ newest_of row cs
all_read m row [] h = refl
all_read m row (c ∷ cs) h =
    let le : c.number ≤ m = All-head (λ d. d.number ≤ m) c cs h in
    let within : nat_le c.number m ≡ true = search (rules, le) in
    rw within (all_read m c.row cs (All-tail (λ d. d.number ≤ m) c cs h))

pub read_before : (call n m : ℕ) (v : Versions) → m < n → row_at (stamped call n v) m ≡ row_at v m
read_before call n m v h = by (own_of call v.own)
  where
    by : (found : Option Patch) → row_at (stamped_by found call n v) m ≡ row_at v m
    by None = refl
    by (Some patch) = last_before m v.base v.commits (record { number = n; row = patched patch (newest v) }) h

pub read_after : (call n m : ℕ) (v : Versions) → IsAboveAll n v → n ≤ m → row_at (stamped call n v) m ≡ patched_by_own (own_of call v.own) (newest v)
read_after call n m v next h = by (own_of call v.own)
  where
    by : (found : Option Patch) → row_at (stamped_by found call n v) m ≡ patched_by_own found (newest v)
    by None = all_read m v.base v.commits (All-weaker (λ c. c.number < n) (λ c. c.number ≤ m) (λ c lt. omega (arith, lt, h)) v.commits next)
    by (Some patch) = last_after m v.base v.commits (record { number = n; row = patched patch (newest v) }) next h

-- The columns that are indexed, added one after another.
use Rattle.std.proofs.Common.{◌≡◌, ◌<◌, ◌≤◌, ◌+◌, ◌==◌, ℕ, Bool, true, false, List, [], ◌∷◌, ◌++◌, length, take, slice_index_or, refl, sym, ap, ◌∙◌, arith}
use Rattle.std.specs.Prelude.{◌&&◌, ◌||◌, not, nat_lt}
use Rattle.std.specs.List.{list_any}
use Rattle.std.proofs.lemmas.Bool.{eqb-true, eqb-false, and_parts, lt-ltb, le-ltb, ltb-true, ltb-false}
use Rattle.std.proofs.lemmas.List.{take_all}
use Rattle.std.proofs.lemmas.List.Folds.{list_any-append, list_any_more}
use Rattle.mv_values.specs.declared.schema.TableInfo.{TableInfo}
use Rattle.mv_values.specs.declared.tested.Tested.{Tested}
use Rattle.mv_values.specs.Testing.{are_tested}
use Rattle.mv_script.specs.Columns.{leads_key, is_indexed_by}

or_none : (a b : Bool) → (b ≡ true → a ≡ true) → a ≡ (a || b)
or_none true b f = refl
or_none false false f = refl
or_none false true f = f refl

or_last : (a b d : Bool) → (b ≡ true → d ≡ true) → (a || (b || false)) ≡ (a || (b && d))
or_last true b d f = refl
or_last false false d f = refl
or_last false true d f = sym (f refl)

none_left : (b d : Bool) → (b ≡ true → d ≡ true) → (b && not d) ≡ true → false ≡ true
none_left false d f h = h
none_left true true f h = h
none_left true false f h = f refl

-- a column that leads its table's key isn't added
pub passed_over : (all : List Tested) (tables : List TableInfo) (x : Tested) → leads_key tables x.table x.column ≡ true → (t c : ℕ) → are_tested all t c ≡ (are_tested all t c || is_indexed_by tables t c x)
passed_over all tables x leads t c = or_none (are_tested all t c) (is_indexed_by tables t c x) (λ h. absurd (no (none_left ((x.table == t) && (x.column == c)) (leads_key tables t c) at h)))
  where
    no : false ≡ true → ⊥
    no e = cc

    at : ((x.table == t) && (x.column == c)) ≡ true → leads_key tables t c ≡ true
    at e =
        let own = and_parts (x.table == t) (x.column == c) e in
        ap (λ n. leads_key tables n c) (sym (eqb-true x.table t own.0)) ∙ (ap (leads_key tables x.table) (sym (eqb-true x.column c own.1)) ∙ leads)

-- one that is there isn't added again
pub there_already : (all : List Tested) (tables : List TableInfo) (x : Tested) → are_tested all x.table x.column ≡ true → (t c : ℕ) → are_tested all t c ≡ (are_tested all t c || is_indexed_by tables t c x)
there_already all tables x there t c = or_none (are_tested all t c) (is_indexed_by tables t c x) (λ h.
    let own = and_parts (x.table == t) (x.column == c) (and_parts ((x.table == t) && (x.column == c)) (not (leads_key tables t c)) h).0 in
    ap (λ n. are_tested all n c) (sym (eqb-true x.table t own.0)) ∙ (ap (are_tested all x.table) (sym (eqb-true x.column c own.1)) ∙ there))

pub added : (all new : List Tested) (tables : List TableInfo) (x : Tested) → leads_key tables x.table x.column ≡ false → new ≡ all ++ x ∷ [] → (t c : ℕ) → are_tested new t c ≡ (are_tested all t c || is_indexed_by tables t c x)
added all new tables x leads is t c =
    ap (λ l. are_tested l t c) is
    ∙ (list_any-append (λ (y : Tested). (y.table == t) && (y.column == c)) all (x ∷ [])
    ∙ or_last (are_tested all t c) ((x.table == t) && (x.column == c)) (not (leads_key tables t c)) (λ e.
    let own = and_parts (x.table == t) (x.column == c) e in
    ap not (ap (λ n. leads_key tables n c) (sym (eqb-true x.table t own.0)) ∙ (ap (leads_key tables x.table) (sym (eqb-true x.column c own.1)) ∙ leads))))

or_no : (b : Bool) → b ≡ (b || false)
or_no true = refl
or_no false = refl

or_assoc : (a b d : Bool) → ((a || b) || d) ≡ (a || (b || d))
or_assoc true b d = refl
or_assoc false b d = refl

-- one of a list more
pub one_more : {A : Type 0} (p : A → Bool) (xs : List A) (at : ℕ) (x : A) (first now new : Bool) → at < length xs → x ≡ slice_index_or xs at x → now ≡ (first || list_any p (take at xs)) → new ≡ (now || p x) → new ≡ (first || list_any p (take (at + 1) xs))
one_more p xs at x first now new lt is before after =
    after
    ∙ (ap (λ b. b || p x) before
    ∙ (or_assoc first (list_any p (take at xs)) (p x) ∙ sym (ap (λ b. first || b) (list_any_more p xs at x lt ∙ ap (λ y. list_any p (take at xs) || p y) (sym is)))))

-- one column more
pub tested_more : (tables : List TableInfo) (t c : ℕ) (xs : List Tested) (x : Tested) (first now new : Bool) → now ≡ (first || list_any (is_indexed_by tables t c) xs) → new ≡ (now || is_indexed_by tables t c x)
    → new ≡ (first || list_any (is_indexed_by tables t c) (xs ++ x ∷ []))
tested_more tables t c xs x first now new before after =
    let p = is_indexed_by tables t c in
    after
    ∙ (ap (λ b. b || p x) before
    ∙ (or_assoc first (list_any p xs) (p x) ∙ ap (λ b. first || b) (ap (λ b. list_any p xs || b) (or_no (p x)) ∙ sym (list_any-append p xs (x ∷ [])))))

pub all_of : {A : Type 0} (p : A → Bool) (xs : List A) (at : ℕ) (first now : Bool) → length xs ≤ at → now ≡ (first || list_any p (take at xs)) → now ≡ (first || list_any p xs)
all_of p xs at first now le h = h ∙ ap (λ l. first || list_any p l) (take_all at xs le)

pub none_of : {A : Type 0} (p : A → Bool) (xs : List A) (first : Bool) → first ≡ (first || list_any p (take 0 xs))
none_of p xs true = refl
none_of p xs false = refl

-- Columns by which children are looked for

-- one that isn't is not added
pub no_child : (b : Bool) (now indexed : Bool) → b ≡ false → now ≡ (now || (b && indexed))
no_child b true indexed e = refl
no_child true false indexed e = cc
no_child false false indexed e = refl

pub a_child : (b : Bool) (now new indexed : Bool) → b ≡ true → new ≡ (now || indexed) → new ≡ (now || (b && indexed))
a_child true now new indexed e h = h
a_child false now new indexed e h = cc

no_and : (b : Bool) → b && false ≡ false
no_and true = refl
no_and false = refl

-- a number below the next one is below this one, or is it
below_next : (c n : ℕ) → nat_lt c (n + 1) ≡ (nat_lt c n || (n == c))
below_next c n = by (nat_lt c n) refl (n == c) refl
  where
    by : (a : Bool) → nat_lt c n ≡ a → (b : Bool) → (n == c) ≡ b → nat_lt c (n + 1) ≡ (a || b)
    by true h b e = let lt = ltb-true c n h in lt-ltb c (n + 1) (omega (arith, lt))
    by false h true e = let is = eqb-true n c e in lt-ltb c (n + 1) (omega (arith, is))
    by false h false e = let le = ltb-false c n h in let other = eqb-false n c e in le-ltb c (n + 1) (omega (arith, le, other))

-- those of a table up to a column, and the next column
pub next_column : (f l : ℕ → ℕ → Bool) (table column t c : ℕ) (first now new : Bool) → now ≡ (first || (((table == t) && nat_lt c column) && (f t c && not (l t c))))
    → new ≡ (now || (f table column && (((table == t) && (column == c)) && not (l t c)))) → new ≡ (first || (((table == t) && nat_lt c (column + 1)) && (f t c && not (l t c))))
next_column f l table column t c first now new before after =
    after
    ∙ (ap (λ b. b || (f table column && (((table == t) && (column == c)) && not (l t c)))) before
    ∙ (by (table == t) refl (column == c) refl ∙ ap (λ b. first || (((table == t) && b) && (f t c && not (l t c)))) (sym (below_next c column))))
  where
    -- the one that comes has the same numbers, where it counts
    joined : (b y z : Bool) → ((first || (b && (y && z))) || (y && z)) ≡ (first || ((b || true) && (y && z)))
    joined b y z = by-first first b (y && z)
      where
        by-first : (o b x : Bool) → ((o || (b && x)) || x) ≡ (o || ((b || true) && x))
        by-first true b x = refl
        by-first false true true = refl
        by-first false true false = refl
        by-first false false x = refl

    kept : (b x y : Bool) → ((first || (b && x)) || (y && false)) ≡ (first || ((b || false) && x))
    kept b x y = by-first first b x y
      where
        by-first : (o b x y : Bool) → ((o || (b && x)) || (y && false)) ≡ (o || ((b || false) && x))
        by-first true b x y = refl
        by-first false true true y = refl
        by-first false true false y = no_and y
        by-first false false x y = no_and y

    by : (a : Bool) → (table == t) ≡ a → (b : Bool) → (column == c) ≡ b
        → ((first || ((a && nat_lt c column) && (f t c && not (l t c)))) || (f table column && ((a && b) && not (l t c)))) ≡ (first || ((a && (nat_lt c column || b)) && (f t c && not (l t c))))
    by false e b e' = kept false (f t c && not (l t c)) (f table column)
    by true e false e' = kept (nat_lt c column) (f t c && not (l t c)) (f table column)
    by true e true e' =
        ap (λ n. (first || (nat_lt c column && (f t c && not (l t c)))) || (f n column && not (l t c))) (eqb-true table t e)
        ∙ (ap (λ n. (first || (nat_lt c column && (f t c && not (l t c)))) || (f t n && not (l t c))) (eqb-true column c e') ∙ joined (nat_lt c column) (f t c) (not (l t c)))

pub no_column : (a x first : Bool) (c : ℕ) → first ≡ (first || ((a && nat_lt c 0) && x))
no_column a x first c = or_no first ∙ ap (λ b. first || (b && x)) (sym (ap (λ b. a && b) (le-ltb c 0 (omega arith)) ∙ no_and a))

pub all_columns : (a x : Bool) (first now : Bool) (c n : ℕ) → c < n → now ≡ (first || ((a && nat_lt c n) && x)) → now ≡ (first || (a && x))
all_columns a x first now c n lt h = h ∙ ap (λ b. first || (b && x)) (ap (λ b. a && b) (lt-ltb c n lt) ∙ and_yes a)
  where
    and_yes : (b : Bool) → b && true ≡ b
    and_yes true = refl
    and_yes false = refl

-- those of the tables before one, and of this one
pub next_table : (x : Bool) (table t : ℕ) (first now new : Bool) → now ≡ (first || (nat_lt t table && x)) → new ≡ (now || ((table == t) && x)) → new ≡ (first || (nat_lt t (table + 1) && x))
next_table x table t first now new before after =
    after ∙ (ap (λ b. b || ((table == t) && x)) before ∙ (by first (nat_lt t table) (table == t) x ∙ ap (λ b. first || (b && x)) (sym (below_next t table))))
  where
    by : (o a b x : Bool) → ((o || (a && x)) || (b && x)) ≡ (o || ((a || b) && x))
    by true a b x = refl
    by false true b true = refl
    by false true b false = no_and b
    by false false b x = refl

pub no_table : (x first : Bool) (t : ℕ) → first ≡ (first || (nat_lt t 0 && x))
no_table x first t = or_no first ∙ ap (λ b. first || (b && x)) (sym (le-ltb t 0 (omega arith)))

pub all_tables : (x first now : Bool) (t n : ℕ) → t < n → now ≡ (first || (nat_lt t n && x)) → now ≡ (first || x)
all_tables x first now t n lt h = h ∙ ap (λ b. first || (b && x)) (lt-ltb t n lt)

pub then_children : (first mid new tested children : Bool) → mid ≡ (first || tested) → new ≡ (mid || children) → new ≡ (first || (tested || children))
then_children first mid new tested children one two = two ∙ (ap (λ b. b || children) one ∙ or_assoc first tested children)

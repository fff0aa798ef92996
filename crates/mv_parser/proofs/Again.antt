-- What is in the grammar is read, whatever follows that doesn't go on with it.
use Rattle.std.proofs.Common.{◌≡◌, ℕ, zero, suc, ◌+◌, ◌≤◌, Bool, true, false, cond, not, List, [], ◌∷◌, ◌++◌, Ok, inl, inr, length, refl, sym, ap, subst, ◌∙◌, append_assoc, length-append, arith}
use Rattle.std.proofs.lemmas.Bool.{not-true}
use Rattle.mv_ast.specs.declared.lexeme.Lexeme.{Lexeme}
use Rattle.mv_ast.specs.declared.lexeme.Terminal.{Terminal}
use Rattle.mv_ast.specs.declared.lexeme.Terminal.TheVariants as word
use Rattle.mv_ast.specs.declared.tree.Expr.{Expr}
use Rattle.mv_ast.specs.declared.tree.Stmt.{Stmt}
use Rattle.mv_ast.specs.Parts.{Part, give, one, both, either, left, expression, statement, Inner, Is, Pieces, joined}
use Rattle.mv_parser.specs.Reading.{Read, Inside, read, more, first, is_nullable, is_among, starts_with, expression_words, statement_words}
use Rattle.mv_parser.proofs.Basics.{and_true, kind_same, among_left, among_right, not_starting, are_apart, apart_not}

-- the kinds with which something that is whole can go on
abbrev pub expression_tail : List Terminal
expression_tail = word.Or ∷ word.And ∷ word.Equal ∷ word.NotEqual ∷ word.Less ∷ word.LessOrEqual ∷ word.Greater ∷ word.GreaterOrEqual
    ∷ word.Plus ∷ word.Minus ∷ word.Bars ∷ word.Star ∷ word.Slash ∷ word.Percent ∷ word.Dot ∷ []

abbrev pub tail : {A : Type 0} → Part A → List Terminal
tail (give a) = []
tail (one t) = []
tail (both f p q) = cond (is_nullable q) (tail q ++ tail p) (tail q)
tail (either p q) = cond (is_nullable q) (tail p ++ (tail q ++ first p)) (tail p ++ tail q)
tail (left f p q) = tail p ++ (tail q ++ first q)
tail expression = expression_tail
tail statement = []

-- one token ahead tells what to read
abbrev pub is_clear : {A : Type 0} → Part A → Bool
is_clear (give a) = true
is_clear (one t) = true
is_clear (both f p q) = cond (is_clear p) (cond (is_clear q) (are_apart (first q) (tail p)) false) false
is_clear (either p q) = cond (is_clear p) (cond (is_clear q) (cond (not (is_nullable p)) (are_apart (first q) (first p)) false) false) false
is_clear (left f p q) = cond (is_clear p) (cond (is_clear q) (cond (not (is_nullable q)) (cond (are_apart (first q) (tail p)) (are_apart (first q) (tail q)) false) false) false) false
is_clear expression = true
is_clear statement = true

-- what the first token of a part can be
abbrev pub Heads : Bool → List Terminal → List Lexeme → Type 0
Heads empty ks [] = empty ≡ true
Heads empty ks (l ∷ ts) = is_among ks l.kind ≡ true

abbrev pub HeadOf : {A : Type 0} → Part A → List Lexeme → Type 0
HeadOf p ts = Heads (is_nullable p) (first p) ts

pub record InnerHeads (R : Inner) : Type 0 where
  pub expr : (ts : List Lexeme) (v : Expr) → R.is_expression ts v → Heads false expression_words ts
  pub stmt : (ts : List Lexeme) (v : Stmt) → R.is_statement ts v → Heads false statement_words ts

-- of two parts, one behind the other
heads_both : (m n : Bool) (js ks : List Terminal) (xs ys : List Lexeme) → Heads m js xs → Heads n ks ys → Heads (cond m n false) (cond m (js ++ ks) js) (xs ++ ys)
heads_both true n js ks [] [] h i = i
heads_both true n js ks [] (l ∷ ys) h i = among_right js ks l.kind i
heads_both true n js ks (l ∷ xs) ys h i = among_left js ks l.kind h
heads_both false n js ks [] ys h i = cc
heads_both false n js ks (l ∷ xs) ys h i = h

pub heads_left : (m n : Bool) (js ks : List Terminal) (ts : List Lexeme) → Heads m js ts → Heads (cond m true n) (js ++ ks) ts
heads_left true n js ks [] h = refl
heads_left false n js ks [] h = cc
heads_left m n js ks (l ∷ ts) h = among_left js ks l.kind h

pub heads_right : (m n : Bool) (js ks : List Terminal) (ts : List Lexeme) → Heads n ks ts → Heads (cond m true n) (js ++ ks) ts
heads_right true n js ks [] h = refl
heads_right false n js ks [] h = h
heads_right m n js ks (l ∷ ts) h = among_right js ks l.kind h

-- of a part and pieces behind it
pub heads_pieces : {B : Type 0} (m n : Bool) (js ks : List Terminal) (P : List Lexeme → B → Type 0) → ((ts : List Lexeme) (b : B) → P ts b → Heads n ks ts)
    → (bs : List B) (ys : List Lexeme) → Pieces P ys bs → Heads true ks ys
heads_pieces m n js ks P h [] ys p = subst (Heads true ks) (sym p) refl
heads_pieces m n js ks P h (b ∷ bs) ys p =
    subst (Heads true ks) (sym p.2) (go n p.0 (h p.0 b p.3) (heads_pieces m n js ks P h bs p.1 p.4))
  where
    go : (n : Bool) (xs : List Lexeme) → Heads n ks xs → Heads true ks p.1 → Heads true ks (xs ++ p.1)
    go n [] a b = b
    go n (l ∷ xs) a b = a

pub heads_more : (m : Bool) (js ks : List Terminal) (xs ys : List Lexeme) → Heads m js xs → Heads true ks ys → Heads m (cond m (js ++ ks) js) (xs ++ ys)
heads_more true js ks [] [] h i = refl
heads_more true js ks [] (l ∷ ys) h i = among_right js ks l.kind i
heads_more true js ks (l ∷ xs) ys h i = among_left js ks l.kind h
heads_more false js ks [] ys h i = cc
heads_more false js ks (l ∷ xs) ys h i = h

pub heads : {A : Type 0} (R : Inner) → InnerHeads R → (p : Part A) (ts : List Lexeme) (v : A) → Is R p ts v → HeadOf p ts
heads R s (give a) ts v i = subst (Heads true []) (sym i.0) refl
heads R s (one t) ts v i = subst (Heads false (t ∷ [])) (sym i.0) (rw (kind_same v.kind t i.1) refl)
heads R s (both f p q) ts v i =
    subst (HeadOf (both f p q)) (sym i.4) (heads_both (is_nullable p) (is_nullable q) (first p) (first q) i.0 i.1 (heads R s p i.0 i.2 i.5) (heads R s q i.1 i.3 i.6))
heads R s (either p q) ts v i =
    elim i [
      | inl w ↦ heads_left (is_nullable p) (is_nullable q) (first p) (first q) ts (heads R s p ts v w)
      | inr w ↦ heads_right (is_nullable p) (is_nullable q) (first p) (first q) ts (heads R s q ts v w)
    ]
heads R s (left f p q) ts v i =
    subst (HeadOf (left f p q)) (sym i.4)
    (heads_more (is_nullable p) (first p) (first q) i.0 i.1 (heads R s p i.0 i.2 i.5)
    (heads_pieces (is_nullable p) (is_nullable q) (first p) (first q) (Is R q) (λ us b j. heads R s q us b j) i.3 i.1 i.6))
heads R s expression ts v i = s.expr ts v i
heads R s statement ts v i = s.stmt ts v i

-- what can't go on with a part, before another part and what follows that
pub stays_free : {A : Type 0} (q : Part A) (ks : List Terminal) (ys rest : List Lexeme) → HeadOf q ys → are_apart (first q) ks ≡ true
    → (is_nullable q ≡ true → starts_with ks rest ≡ false) → starts_with ks (ys ++ rest) ≡ false
stays_free q ks [] rest h a e = e h
stays_free q ks (l ∷ ys) rest h a e = apart_not (first q) ks l.kind a h

pub starts_first : {A : Type 0} (p : Part A) (ts rest : List Lexeme) → is_nullable p ≡ false → HeadOf p ts → starts_with (first p) (ts ++ rest) ≡ true
starts_first p [] rest n h = cc
starts_first p (l ∷ ts) rest n h = h

tail_both : {A B C : Type 0} (f : A → B → C) (p : Part A) (q : Part B) (rest : List Lexeme) → starts_with (tail (both f p q)) rest ≡ false
    → (starts_with (tail q) rest ≡ false) × (is_nullable q ≡ true → starts_with (tail p) rest ≡ false)
tail_both f p q rest h = go (is_nullable q) h
  where
    go : (n : Bool) → starts_with (cond n (tail q ++ tail p) (tail q)) rest ≡ false → (starts_with (tail q) rest ≡ false) × (n ≡ true → starts_with (tail p) rest ≡ false)
    go true e = let s = not_starting (tail q) (tail p) rest e in (s.0, λ _. s.1)
    go false e = (e, λ n. cc)

tail_either : {A : Type 0} (p q : Part A) (rest : List Lexeme) → starts_with (tail (either p q)) rest ≡ false
    → (starts_with (tail p) rest ≡ false) × (starts_with (tail q) rest ≡ false) × (is_nullable q ≡ true → starts_with (first p) rest ≡ false)
tail_either p q rest h = go (is_nullable q) h
  where
    go : (n : Bool) → starts_with (cond n (tail p ++ (tail q ++ first p)) (tail p ++ tail q)) rest ≡ false
        → (starts_with (tail p) rest ≡ false) × (starts_with (tail q) rest ≡ false) × (n ≡ true → starts_with (first p) rest ≡ false)
    go true e = let s = not_starting (tail p) (tail q ++ first p) rest e in let t = not_starting (tail q) (first p) rest s.1 in (s.0, t.0, λ _. t.1)
    go false e = let s = not_starting (tail p) (tail q) rest e in (s.0, s.1, λ n. cc)

-- the front of pieces
pieces_free : {B : Type 0} (R : Inner) → InnerHeads R → (q : Part B) (ks : List Terminal) (ys rest : List Lexeme) (bs : List B) → Pieces (Is R q) ys bs
    → are_apart (first q) ks ≡ true → is_nullable q ≡ false → starts_with ks rest ≡ false → starts_with ks (ys ++ rest) ≡ false
pieces_free R s q ks ys rest [] p a n e = subst (λ zs. starts_with ks (zs ++ rest) ≡ false) (sym p) e
pieces_free R s q ks ys rest (b ∷ bs) p a n e =
    subst (λ zs. starts_with ks zs ≡ false) (sym (ap (λ zs. zs ++ rest) p.2 ∙ append_assoc p.0 p.1 rest))
    (stays_free q ks p.0 (p.1 ++ rest) (heads R s q p.0 b p.3) a (λ t. let c : true ≡ false = sym t ∙ n in cc))

more_ends : {A B : Type 0} (m : ℕ) (f : A → B → A) (ks : List Terminal) (piece : List Lexeme → Read B) (a : A) (ts : List Lexeme)
    → starts_with ks ts ≡ false → more m f ks piece a ts ≡ Ok (a, ts)
unfolding more
more_ends zero f ks piece a ts h = refl
more_ends (suc m) f ks piece a ts h = rw h refl

pub more_turns : {A B : Type 0} (m : ℕ) (f : A → B → A) (ks : List Terminal) (piece : List Lexeme → Read B) (a : A) (ts us : List Lexeme) (b : B)
    → starts_with ks ts ≡ true → piece ts ≡ Ok (b, us) → more (suc m) f ks piece a ts ≡ more m f ks piece (f a b) us
unfolding more
more_turns m f ks piece a ts us b h r = rw (h, r) refl

-- a piece is no token at all, or there is a first one
pub length_first : {A : Type 0} (p : Part A) (ts : List Lexeme) → is_nullable p ≡ false → HeadOf p ts → 1 ≤ length ts
length_first p [] n h = cc
length_first p (l ∷ ts) n h = omega arith

abbrev pub ReadsAgain : {A : Type 0} → (List Lexeme → A → Type 0) → List Terminal → (List Lexeme → Read A) → Type 0
ReadsAgain {A = A} P ks f = (ts : List Lexeme) (v : A) → P ts v → (rest : List Lexeme) → starts_with ks rest ≡ false → f (ts ++ rest) ≡ Ok (v, rest)

more_again : {A B : Type 0} (R : Inner) (I : Inside) → InnerHeads R → (f : A → B → A) (q : Part B) → ReadsAgain (Is R q) (tail q) (read I q)
    → is_nullable q ≡ false → are_apart (first q) (tail q) ≡ true → (bs : List B) (m : ℕ) (a : A) (ys rest : List Lexeme) → Pieces (Is R q) ys bs → length (ys ++ rest) ≤ m
    → starts_with (first q) rest ≡ false → starts_with (tail q) rest ≡ false → more m f (first q) (read I q) a (ys ++ rest) ≡ Ok (joined f a bs, rest)
more_again R I s f q r n d [] m a ys rest p le h t =
    subst (λ zs. more m f (first q) (read I q) a (zs ++ rest) ≡ Ok (a, rest)) (sym p) (more_ends m f (first q) (read I q) a rest h)
more_again R I s f q r n d (b ∷ bs) zero a ys rest p le h t =
    let one_more = length_first q p.0 n (heads R s q p.0 b p.3) in
    let e = ap (λ zs. length (zs ++ rest)) p.2 ∙ ap length (append_assoc p.0 p.1 rest) ∙ length-append p.0 (p.1 ++ rest) in
    absurd (omega arith)
more_again R I s f q r n d (b ∷ bs) (suc m) a ys rest p le h t =
    let hd = heads R s q p.0 b p.3 in
    let one_more = length_first q p.0 n hd in
    let e : ys ++ rest ≡ p.0 ++ (p.1 ++ rest) = ap (λ zs. zs ++ rest) p.2 ∙ append_assoc p.0 p.1 rest in
    let len : length (ys ++ rest) ≡ length p.0 + length (p.1 ++ rest) = ap length e ∙ length-append p.0 (p.1 ++ rest) in
    let here = r p.0 b p.3 (p.1 ++ rest) (pieces_free R s q (tail q) p.1 rest bs p.4 d n t) in
    subst (λ zs. more (suc m) f (first q) (read I q) a zs ≡ Ok (joined f (f a b) bs, rest)) (sym e)
    (more_turns m f (first q) (read I q) a (p.0 ++ (p.1 ++ rest)) (p.1 ++ rest) b (starts_first q p.0 (p.1 ++ rest) n hd) here
    ∙ more_again R I s f q r n d bs m (f a b) p.1 rest p.4 (omega arith) h t)

pub record InnerAgain (R : Inner) (I : Inside) : Type 0 where
  pub expr : ReadsAgain R.is_expression expression_tail I.expr
  pub stmt : ReadsAgain R.is_statement [] I.stmt

pub again : {A : Type 0} (R : Inner) (I : Inside) → InnerHeads R → InnerAgain R I → (p : Part A) → is_clear p ≡ true → ReadsAgain (Is R p) (tail p) (read I p)
again R I s c (give a) k ts v i rest h = let e : ts ++ rest ≡ rest = ap (λ zs. zs ++ rest) i.0 in rw (e, i.1) refl
again R I s c (one t) k ts v i rest h = rw (i.0, kind_same v.kind t i.1) refl
again R I s c (both f p q) k ts v i rest h =
    let k1 = and_true (is_clear p) (cond (is_clear q) (are_apart (first q) (tail p)) false) k in
    let k2 = and_true (is_clear q) (are_apart (first q) (tail p)) k1.1 in
    let t = tail_both f p q rest h in
    let free = stays_free q (tail p) i.1 rest (heads R s q i.1 i.3 i.6) k2.1 t.1 in
    let a = again R I s c p k1.0 i.0 i.2 i.5 (i.1 ++ rest) free in
    let b = again R I s c q k2.0 i.1 i.3 i.6 rest t.0 in
    let e : ts ++ rest ≡ i.0 ++ (i.1 ++ rest) = ap (λ zs. zs ++ rest) i.4 ∙ append_assoc i.0 i.1 rest in
    rw (e, a, b, i.7) refl
again R I s c (either p q) k ts v i rest h =
    let k1 = and_true (is_clear p) (cond (is_clear q) (cond (not (is_nullable p)) (are_apart (first q) (first p)) false) false) k in
    let k2 = and_true (is_clear q) (cond (not (is_nullable p)) (are_apart (first q) (first p)) false) k1.1 in
    let k3 = and_true (not (is_nullable p)) (are_apart (first q) (first p)) k2.1 in
    let t = tail_either p q rest h in
    elim i [
      | inl w ↦ (let b = starts_first p ts rest (not-true (is_nullable p) k3.0) (heads R s p ts v w) in
          rw (b, again R I s c p k1.0 ts v w rest t.0) refl)
      | inr w ↦ (let b = stays_free q (first p) ts rest (heads R s q ts v w) k3.1 t.2 in
          rw (b, again R I s c q k2.0 ts v w rest t.1) refl)
    ]
again R I s c (left f p q) k ts v i rest h =
    let k1 = and_true (is_clear p) (cond (is_clear q) (cond (not (is_nullable q)) (cond (are_apart (first q) (tail p)) (are_apart (first q) (tail q)) false) false) false) k in
    let k2 = and_true (is_clear q) (cond (not (is_nullable q)) (cond (are_apart (first q) (tail p)) (are_apart (first q) (tail q)) false) false) k1.1 in
    let k3 = and_true (not (is_nullable q)) (cond (are_apart (first q) (tail p)) (are_apart (first q) (tail q)) false) k2.1 in
    let k4 = and_true (are_apart (first q) (tail p)) (are_apart (first q) (tail q)) k3.1 in
    let n = not-true (is_nullable q) k3.0 in
    let t = not_starting (tail p) (tail q ++ first q) rest h in
    let u = not_starting (tail q) (first q) rest t.1 in
    let a = again R I s c p k1.0 i.0 i.2 i.5 (i.1 ++ rest) (pieces_free R s q (tail p) i.1 rest i.3 i.6 k4.0 n t.0) in
    let b = more_again R I s f q (again R I s c q k2.0) n k4.1 i.3 (length (i.1 ++ rest)) i.2 i.1 rest i.6 (omega arith) u.1 u.0 in
    let e : ts ++ rest ≡ i.0 ++ (i.1 ++ rest) = ap (λ zs. zs ++ rest) i.4 ∙ append_assoc i.0 i.1 rest in
    rw (e, a, b, i.7) refl
again R I s c expression k ts v i rest h = c.expr ts v i rest h
again R I s c statement k ts v i rest h = c.stmt ts v i rest h

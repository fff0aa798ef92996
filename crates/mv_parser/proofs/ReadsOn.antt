-- What begins a part is read to its end, whatever follows.
use Rattle.std.proofs.Common.{◌≡◌, ℕ, zero, suc, ◌+◌, ◌≤◌, Bool, true, false, cond, not, List, [], ◌∷◌, ◌++◌, Ok, Err, ◌⊎◌, inl, inr, length, refl, sym, ap, subst, ◌∙◌, append_assoc, length-append, arith}
use Rattle.std.proofs.lemmas.Bool.{not-true}
use Rattle.mv_ast.specs.declared.lexeme.Lexeme.{Lexeme}
use Rattle.mv_ast.specs.declared.lexeme.Terminal.{Terminal}
use Rattle.mv_ast.specs.Parts.{Part, give, one, both, either, left, expression, statement, Inner, Is, Begins, Pieces}
use Rattle.mv_parser.specs.Reading.{◌>>=◌, Read, Inside, read, read_one, more, first, is_nullable, starts_with}
use Rattle.mv_parser.proofs.Basics.{and_true, kind_same, are_apart, apart_not}
use Rattle.mv_parser.proofs.Takes.{TakesAll, InnerTakes, takes}
use Rattle.mv_parser.proofs.Stops.{StopsAll, InnerStops, stops}
use Rattle.mv_parser.proofs.Again.{tail, is_clear, Heads, InnerHeads, heads, heads_pieces, starts_first, length_first, more_turns, InnerAgain, again}
use Rattle.mv_parser.proofs.Begun.{InnerBegun, whole_begins, begun_heads, heads_append}

-- no more than n tokens are left, behind what was read or from the stop on
abbrev pub Past : {A : Type 0} → ℕ → Read A → Type 0
Past n (Ok x) = length x.1 ≤ n
Past n (Err k) = k ≤ n

past_later : {A : Type 0} (m n : ℕ) (r : Read A) → m ≤ n → Past m r → Past n r
past_later m n (Ok x) h p = omega arith
past_later m n (Err k) h p = omega arith

past_bind : {A B : Type 0} (n : ℕ) (r : Read A) (f : A × List Lexeme → Read B) → Past n r → ((x : A × List Lexeme) → Past (length x.1) (f x)) → Past n (r >>= f)
past_bind n (Ok x) f p g = past_later (length x.1) n (f x) p (g x)
past_bind n (Err k) f p g = p

chosen_past : {A : Type 0} (n : ℕ) (b : Bool) (x y : Read A) → Past n x → Past n y → Past n (cond b x y)
chosen_past n true x y p q = p
chosen_past n false x y p q = q

abbrev pub ReadsWithin : {A : Type 0} → (List Lexeme → Read A) → Type 0
ReadsWithin f = (ts : List Lexeme) → Past (length ts) (f ts)

abbrev pub ReadsOn : {A : Type 0} → (List Lexeme → Type 0) → (List Lexeme → Read A) → Type 0
ReadsOn P f = (ts : List Lexeme) → P ts → (post : List Lexeme) → Past (length post) (f (ts ++ post))

-- what is known of what stands inside
pub record Level (R : Inner) (I : Inside) : Type 0 where
  pub takes : InnerTakes R I
  pub stops : InnerStops R I
  pub heads : InnerHeads R
  pub again : InnerAgain R I
  pub begun : InnerBegun R
  pub expr_on : ReadsOn R.begins_expression I.expr
  pub stmt_on : ReadsOn R.begins_statement I.stmt

within : {A : Type 0} (P : List Lexeme → A → Type 0) (Q : List Lexeme → Type 0) (f : List Lexeme → Read A) → TakesAll P f → StopsAll Q f → ReadsWithin f
within {A = A} P Q f t s ts = go (f ts) refl
  where
    go : (r : Read A) → f ts ≡ r → Past (length ts) r
    go (Ok x) e = let i = t ts x.0 x.1 e in let n = ap length i.1 ∙ length-append i.0 x.1 in omega arith
    go (Err k) e = let i = s ts k e in let n = ap length i.2 ∙ length-append i.0 i.1 in let m = i.3 in omega arith

part_within : {A : Type 0} (R : Inner) (I : Inside) → Level R I → (p : Part A) → ReadsWithin (read I p)
part_within R I c p = within (Is R p) (Begins R p) (read I p) (takes R I c.takes p) (stops R I c.takes c.stops p)

more_within : {A B : Type 0} (m : ℕ) (f : A → B → A) (ks : List Terminal) (piece : List Lexeme → Read B) → ReadsWithin piece → (a : A) → ReadsWithin (more m f ks piece a)
unfolding more
more_within zero f ks piece w a ts = omega arith
more_within (suc m) f ks piece w a ts =
    chosen_past (length ts) (starts_with ks ts) (piece ts >>= (λ x. more m f ks piece (f a x.0) x.1)) (Ok (a, ts))
    (past_bind (length ts) (piece ts) (λ x. more m f ks piece (f a x.0) x.1) (w ts) (λ x. more_within m f ks piece w (f a x.0) x.1)) (omega arith)

more_on_turn : {A B : Type 0} (m n : ℕ) (f : A → B → A) (ks : List Terminal) (piece : List Lexeme → Read B) (a : A) (ts : List Lexeme) → ReadsWithin piece
    → starts_with ks ts ≡ true → Past n (piece ts) → Past n (more (suc m) f ks piece a ts)
unfolding more
more_on_turn m n f ks piece a ts w s p = rw s (past_bind n (piece ts) (λ x. more m f ks piece (f a x.0) x.1) p (λ x. more_within m f ks piece w (f a x.0) x.1))

-- no tokens, or what can't go on with something else
none_or_free : (js ks : List Terminal) (us post : List Lexeme) → Heads true js us → are_apart js ks ≡ true → (us ≡ []) ⊎ (starts_with ks (us ++ post) ≡ false)
none_or_free js ks [] post h d = inl refl
none_or_free js ks (l ∷ us) post h d = inr (apart_not js ks l.kind d h)

pub none_both : (xs ys : List Lexeme) → xs ++ ys ≡ [] → (xs ≡ []) × (ys ≡ [])
none_both [] ys h = (refl, h)
none_both (l ∷ xs) ys h = cc

one_on : (R : Inner) (t : Terminal) → ReadsWithin (read_one t) → ReadsOn (Begins R (one t)) (read_one t)
one_on R t w ts b post =
    elim b [
      | inl e ↦ subst (λ zs. Past (length post) (read_one t (zs ++ post))) (sym e) (w post)
      | inr x ↦ subst (λ zs. Past (length post) (read_one t (zs ++ post))) (sym x.1) (rw (kind_same x.0.kind t x.2) (omega arith))
    ]

-- two parts, from where the first is read to
both_past : {A B C : Type 0} (I : Inside) (f : A → B → C) (p : Part A) (q : Part B) (n : ℕ) (ts : List Lexeme) → ReadsWithin (read I q) → Past n (read I p ts) → Past n (read I (both f p q) ts)
both_past I f p q n ts w h =
    past_bind n (read I p ts) (λ x. read I q x.1 >>= (λ y. Ok (f x.0 y.0, y.1))) h
    (λ x. past_bind (length x.1) (read I q x.1) (λ y. Ok (f x.0 y.0, y.1)) (w x.1) (λ y. omega arith))

both_behind : {A B C : Type 0} (I : Inside) (f : A → B → C) (p : Part A) (q : Part B) (n : ℕ) (ts us : List Lexeme) (a : A) → read I p ts ≡ Ok (a, us) → Past n (read I q us)
    → Past n (read I (both f p q) ts)
both_behind I f p q n ts us a e h = rw e (past_bind n (read I q us) (λ y. Ok (f a y.0, y.1)) h (λ y. omega arith))

both_on : {A B C : Type 0} (R : Inner) (I : Inside) → Level R I → (f : A → B → C) (p : Part A) (q : Part B) → is_clear p ≡ true → are_apart (first q) (tail p) ≡ true
    → ReadsOn (Begins R p) (read I p) → ReadsOn (Begins R q) (read I q)
    → (xs ys post : List Lexeme) (a : A) → Is R p xs a → Begins R q ys → Past (length post) (read I (both f p q) (xs ++ (ys ++ post)))
both_on R I c f p q k d rp rq xs ys post a i b =
    elim (none_or_free (first q) (tail p) ys post (begun_heads R c.heads c.begun q ys b) d) [
      | inl e ↦ subst (λ zs. Past (length post) (read I (both f p q) (xs ++ (zs ++ post)))) (sym e)
          (both_past I f p q (length post) (xs ++ post) (part_within R I c q) (rp xs (whole_begins R c.begun p xs a i) post))
      | inr free ↦ both_behind I f p q (length post) (xs ++ (ys ++ post)) (ys ++ post) a (again R I c.heads c.again p k xs a i (ys ++ post) free) (rq ys b post)
    ]

either_on : {A : Type 0} (R : Inner) (I : Inside) → Level R I → (p q : Part A) → are_apart (first q) (first p) ≡ true
    → ReadsOn (Begins R p) (read I p) → ReadsOn (Begins R q) (read I q) → ReadsOn (Begins R (either p q)) (read I (either p q))
either_on R I c p q d rp rq [] b post = part_within R I c (either p q) post
either_on R I c p q d rp rq (l ∷ ts) b post =
    elim b [
      | inl w ↦ (let s = begun_heads R c.heads c.begun p (l ∷ ts) w in rw s (rp (l ∷ ts) w post))
      | inr w ↦ (let s = apart_not (first q) (first p) l.kind d (begun_heads R c.heads c.begun q (l ∷ ts) w) in rw s (rq (l ∷ ts) w post))
    ]

-- more pieces
more_on : {A B : Type 0} (R : Inner) (I : Inside) → Level R I → (f : A → B → A) (q : Part B) → is_clear q ≡ true → is_nullable q ≡ false → are_apart (first q) (tail q) ≡ true
    → ReadsOn (Begins R q) (read I q) → (bs : List B) (m : ℕ) (a : A) (ys zs post : List Lexeme) → Pieces (Is R q) ys bs → Begins R q zs → length (ys ++ (zs ++ post)) ≤ m
    → Past (length post) (more m f (first q) (read I q) a (ys ++ (zs ++ post)))
more_on R I c f q k n d rq [] m a ys zs post p b le =
    subst (λ us. Past (length post) (more m f (first q) (read I q) a (us ++ (zs ++ post)))) (sym p) (go zs b m enough)
  where
    enough : length (zs ++ post) ≤ m
    enough = subst (λ us. length (us ++ (zs ++ post)) ≤ m) p le

    go : (zs : List Lexeme) → Begins R q zs → (m : ℕ) → length (zs ++ post) ≤ m → Past (length post) (more m f (first q) (read I q) a (zs ++ post))
    go [] b m le = more_within m f (first q) (read I q) (part_within R I c q) a post
    go (l ∷ zs) b zero le = absurd (omega arith)
    go (l ∷ zs) b (suc m) le = more_on_turn m (length post) f (first q) (read I q) a (l ∷ (zs ++ post)) (part_within R I c q) (begun_heads R c.heads c.begun q (l ∷ zs) b) (rq (l ∷ zs) b post)
more_on R I c f q k n d rq (v ∷ bs) zero a ys zs post p b le =
    let one_more = length_first q p.0 n (heads R c.heads q p.0 v p.3) in
    let e = ap (λ us. length (us ++ (zs ++ post))) p.2 ∙ ap length (append_assoc p.0 p.1 (zs ++ post)) ∙ length-append p.0 (p.1 ++ (zs ++ post)) in
    absurd (omega arith)
more_on R I c f q k n d rq (v ∷ bs) (suc m) a ys zs post p b le =
    let hd = heads R c.heads q p.0 v p.3 in
    let one_more = length_first q p.0 n hd in
    let us = p.1 ++ (zs ++ post) in
    let e : ys ++ (zs ++ post) ≡ p.0 ++ us = ap (λ us. us ++ (zs ++ post)) p.2 ∙ append_assoc p.0 p.1 (zs ++ post) in
    let len : length (ys ++ (zs ++ post)) ≡ length p.0 + length us = ap length e ∙ length-append p.0 us in
    let s = starts_first q p.0 us n hd in
    let hs = heads_append (first q) p.1 zs (heads_pieces true (is_nullable q) [] (first q) (Is R q) (λ us w j. heads R c.heads q us w j) bs p.1 p.4) (begun_heads R c.heads c.begun q zs b) in
    subst (λ us. Past (length post) (more (suc m) f (first q) (read I q) a us)) (sym e)
    (elim (none_or_free (first q) (tail q) (p.1 ++ zs) post hs d) [
      | inl o ↦ (
          let none = none_both p.1 zs o in
          let last : us ≡ post = ap (λ r. r ++ (zs ++ post)) none.0 ∙ ap (λ r. r ++ post) none.1 in
          more_on_turn m (length post) f (first q) (read I q) a (p.0 ++ us) (part_within R I c q) s
          (subst (λ r. Past (length post) (read I q (p.0 ++ r))) (sym last) (rq p.0 (whole_begins R c.begun q p.0 v p.3) post)))
      | inr o ↦ (
          let free = subst (λ r. starts_with (tail q) r ≡ false) (append_assoc p.1 zs post) o in
          let here = again R I c.heads c.again q k p.0 v p.3 us free in
          subst (Past (length post)) (sym (more_turns m f (first q) (read I q) a (p.0 ++ us) us v s here))
          (more_on R I c f q k n d rq bs m (f a v) p.1 zs post p.4 b (omega arith)))
    ])

left_past : {A B : Type 0} (I : Inside) (f : A → B → A) (p : Part A) (q : Part B) (n : ℕ) (ts : List Lexeme) → ReadsWithin (read I q) → Past n (read I p ts) → Past n (read I (left f p q) ts)
left_past I f p q n ts w h =
    past_bind n (read I p ts) (λ x. more (length x.1) f (first q) (read I q) x.0 x.1) h (λ x. more_within (length x.1) f (first q) (read I q) w x.0 x.1)

left_behind : {A B : Type 0} (I : Inside) (f : A → B → A) (p : Part A) (q : Part B) (n : ℕ) (ts us : List Lexeme) (a : A) → read I p ts ≡ Ok (a, us)
    → Past n (more (length us) f (first q) (read I q) a us) → Past n (read I (left f p q) ts)
left_behind I f p q n ts us a e h = rw e h

left_on : {A B : Type 0} (R : Inner) (I : Inside) → Level R I → (f : A → B → A) (p : Part A) (q : Part B) → is_clear p ≡ true → is_clear q ≡ true → is_nullable q ≡ false
    → are_apart (first q) (tail p) ≡ true → are_apart (first q) (tail q) ≡ true → ReadsOn (Begins R p) (read I p) → ReadsOn (Begins R q) (read I q)
    → (xs ys zs post : List Lexeme) (a : A) (bs : List B) → Is R p xs a → Pieces (Is R q) ys bs → Begins R q zs
    → Past (length post) (read I (left f p q) (xs ++ (ys ++ (zs ++ post))))
left_on R I c f p q kp kq n dp dq rp rq xs ys zs post a bs i j b =
    let us = ys ++ (zs ++ post) in
    let hs = heads_append (first q) ys zs (heads_pieces true (is_nullable q) [] (first q) (Is R q) (λ us w j. heads R c.heads q us w j) bs ys j) (begun_heads R c.heads c.begun q zs b) in
    elim (none_or_free (first q) (tail p) (ys ++ zs) post hs dp) [
      | inl o ↦ (
          let none = none_both ys zs o in
          let last : us ≡ post = ap (λ r. r ++ (zs ++ post)) none.0 ∙ ap (λ r. r ++ post) none.1 in
          subst (λ r. Past (length post) (read I (left f p q) (xs ++ r))) (sym last)
          (left_past I f p q (length post) (xs ++ post) (part_within R I c q) (rp xs (whole_begins R c.begun p xs a i) post)))
      | inr o ↦ (
          let free = subst (λ r. starts_with (tail p) r ≡ false) (append_assoc ys zs post) o in
          left_behind I f p q (length post) (xs ++ us) us a (again R I c.heads c.again p kp xs a i us free)
          (more_on R I c f q kq n dq rq bs (length us) a ys zs post j b (omega arith)))
    ]

pub reads_on : {A : Type 0} (R : Inner) (I : Inside) → Level R I → (p : Part A) → is_clear p ≡ true → ReadsOn (Begins R p) (read I p)
reads_on R I c (give a) k ts b post = subst (λ zs. length (zs ++ post) ≤ length post) (sym b) (omega arith)
reads_on R I c (one t) k ts b post = one_on R t (part_within R I c (one t)) ts b post
reads_on R I c (both f p q) k ts b post =
    let k1 = and_true (is_clear p) (cond (is_clear q) (are_apart (first q) (tail p)) false) k in
    let k2 = and_true (is_clear q) (are_apart (first q) (tail p)) k1.1 in
    elim b [
      | inl w ↦ both_past I f p q (length post) (ts ++ post) (part_within R I c q) (reads_on R I c p k1.0 ts w post)
      | inr x ↦ subst (λ zs. Past (length post) (read I (both f p q) zs)) (sym (ap (λ zs. zs ++ post) x.3 ∙ append_assoc x.0 x.1 post))
          (both_on R I c f p q k1.0 k2.1 (reads_on R I c p k1.0) (reads_on R I c q k2.0) x.0 x.1 post x.2 x.4 x.5)
    ]
reads_on R I c (either p q) k ts b post =
    let k1 = and_true (is_clear p) (cond (is_clear q) (cond (not (is_nullable p)) (are_apart (first q) (first p)) false) false) k in
    let k2 = and_true (is_clear q) (cond (not (is_nullable p)) (are_apart (first q) (first p)) false) k1.1 in
    let k3 = and_true (not (is_nullable p)) (are_apart (first q) (first p)) k2.1 in
    either_on R I c p q k3.1 (reads_on R I c p k1.0) (reads_on R I c q k2.0) ts b post
reads_on R I c (left f p q) k ts b post =
    let k1 = and_true (is_clear p) (cond (is_clear q) (cond (not (is_nullable q)) (cond (are_apart (first q) (tail p)) (are_apart (first q) (tail q)) false) false) false) k in
    let k2 = and_true (is_clear q) (cond (not (is_nullable q)) (cond (are_apart (first q) (tail p)) (are_apart (first q) (tail q)) false) false) k1.1 in
    let k3 = and_true (not (is_nullable q)) (cond (are_apart (first q) (tail p)) (are_apart (first q) (tail q)) false) k2.1 in
    let k4 = and_true (are_apart (first q) (tail p)) (are_apart (first q) (tail q)) k3.1 in
    elim b [
      | inl w ↦ left_past I f p q (length post) (ts ++ post) (part_within R I c q) (reads_on R I c p k1.0 ts w post)
      | inr x ↦ (
          let e : ts ++ post ≡ x.0 ++ (x.1 ++ (x.2 ++ post)) =
          ap (λ zs. zs ++ post) x.5 ∙ append_assoc x.0 (x.1 ++ x.2) post ∙ ap (λ zs. x.0 ++ zs) (append_assoc x.1 x.2 post) in
          subst (λ zs. Past (length post) (read I (left f p q) zs)) (sym e)
          (left_on R I c f p q k1.0 k2.0 (not-true (is_nullable q) k3.0) k4.0 k4.1 (reads_on R I c p k1.0) (reads_on R I c q k2.0) x.0 x.1 x.2 post x.3 x.4 x.6 x.7 x.8))
    ]
reads_on R I c expression k ts b post = c.expr_on ts b post
reads_on R I c statement k ts b post = c.stmt_on ts b post

-- Printed pieces are read as parts of the grammar, part by part.
use Rattle.std.proofs.Common.{◌≡◌, ℕ, suc, ◌+◌, ◌≤◌, Bool, true, List, [], ◌∷◌, ◌++◌, length, false, map, refl, sym, ap, subst, ◌∙◌, append_assoc, append-nil, arith, inl, inr, ◌⊎◌}
use Rattle.std.proofs.lemmas.List.{map-append}
use Rattle.std.specs.List.{list_all}
use Rattle.mv_lex.specs.Bytes.{is_allowed, is_blank}
use Rattle.mv_lex.specs.Tokens.{IsLongest}
use Rattle.mv_lex.specs.declared.token.Kind.{Kind}
use Rattle.mv_ast.specs.declared.lexeme.Lexeme.{Lexeme}
use Rattle.mv_ast.specs.declared.lexeme.Terminal.{Terminal}
use Rattle.mv_ast.specs.declared.lexeme.Terminal.TheVariants as word
use Rattle.mv_ast.specs.Texts.{spelling, number_from}
use Rattle.mv_ast.specs.Lexemes.{kind_of}
use Rattle.mv_ast.specs.Limits.{together, own_passes, is_size}
use Rattle.mv_ast.specs.Parts.{Part, give, one, both, either, left, Is, Pieces, joined}
use Rattle.mv_ast.specs.Grammar.{inner, added, place, ◌⊛◌, ◌◂◌, ◌▸◌}
use Rattle.mv_print.specs.Printing.{Piece}
use Rattle.mv_print.proofs.Light.{kinds, BehindEnd, Light, light_none, light_joined, light_raised, light_ends}

-- the token stands for the piece
pub record Fits (text : List ℕ) (l : Lexeme) (p : Piece) : Type 0 where
  pub kind : l.kind ≡ p.kind
  pub spells : spelling text l ≡ p.text
  pub len : l.len ≡ length p.text

abbrev pub Spelled : List ℕ → List Lexeme → List Piece → Type 0
Spelled text [] [] = Unit {0}
Spelled text (l ∷ ls) (p ∷ ps) = Fits text l p × Spelled text ls ps
Spelled text [] (p ∷ ps) = ⊥
Spelled text (l ∷ ls) [] = ⊥

-- the piece is a token of this kind, whatever follows the blank behind it, and passes no limit of its own
pub record Base (p : Piece) : Type 0 where
  pub token : Kind
  pub longest : (rest : List ℕ) → IsLongest token p.text (p.gap ++ rest)
  pub is : kind_of token p.text ≡ p.kind
  pub allowed : list_all is_allowed p.text ≡ true
  pub gaps : list_all is_blank p.gap ≡ true
  pub own : (n : ℕ) → own_passes p.kind p.text n ≡ []

abbrev pub is_type : Terminal → Bool
is_type word.Text = true
is_type t = false

-- such a piece that isn't the word TEXT
pub record Sound (p : Piece) : Type 0 where
  pub base : Base p
  pub plain : is_type p.kind ≡ false

-- the size of a TEXT column stands behind the next piece
abbrev pub SizeBehind : List Piece → Type 0
SizeBehind [] = ⊥
SizeBehind (q ∷ []) = ⊥
SizeBehind (q ∷ r ∷ ps) = is_size (number_from 0 r.text) ≡ true

abbrev pub Sounded : Piece → List Piece → Type 0
Sounded p ps = Sound p ⊎ (Base p × SizeBehind ps)

pub base_of : (p : Piece) (ps : List Piece) → Sounded p ps → Base p
base_of p ps (inl s) = s.base
base_of p ps (inr s) = s.0

abbrev pub Sounds : List Piece → Type 0
Sounds [] = Unit {0}
Sounds (p ∷ ps) = Sounded p ps × Sounds ps

size_more : (ps qs : List Piece) → SizeBehind ps → SizeBehind (ps ++ qs)
size_more [] qs h = absurd h
size_more (p ∷ []) qs h = absurd h
size_more (p ∷ r ∷ ps) qs h = h

sounded_more : (p : Piece) (ps qs : List Piece) → Sounded p ps → Sounded p (ps ++ qs)
sounded_more p ps qs (inl s) = inl s
sounded_more p ps qs (inr s) = inr (s.0, size_more ps qs s.1)

pub sounds_joined : (ps qs : List Piece) → Sounds ps → Sounds qs → Sounds (ps ++ qs)
sounds_joined [] qs h k = k
sounds_joined (p ∷ ps) qs h k = (sounded_more p ps qs h.0, sounds_joined ps qs h.1 k)

abbrev pub Apart : List ℕ → List Lexeme → List Piece → List Piece → Type 0
Apart text ls ps qs = (xs : List Lexeme) × (ys : List Lexeme) × (ls ≡ xs ++ ys) × Spelled text xs ps × Spelled text ys qs

pub apart : (text : List ℕ) (ls : List Lexeme) (ps qs : List Piece) → Spelled text ls (ps ++ qs) → Apart text ls ps qs
apart text ls [] qs s = ([], ls, refl, tt, s)
apart text [] (p ∷ ps) qs s = absurd s
apart text (l ∷ ls) (p ∷ ps) qs s = let i = apart text ls ps qs s.1 in (l ∷ i.0, i.1, ap (λ r. l ∷ r) i.2, (s.0, i.3), i.4)

pub none_spelled : (text : List ℕ) (ls : List Lexeme) → Spelled text ls [] → ls ≡ []
none_spelled text [] s = refl
none_spelled text (l ∷ ls) s = absurd s

pub one_spelled : (text : List ℕ) (ls : List Lexeme) (p : Piece) → Spelled text ls (p ∷ []) → (l : Lexeme) × (ls ≡ l ∷ []) × Fits text l p
one_spelled text [] p s = absurd s
one_spelled text (l ∷ ls) p s = (l, ap (λ r. l ∷ r) (none_spelled text ls s.1), s.0)

-- the tokens are this part, for such a value
abbrev pub Reading : {A : Type 0} → List ℕ → Part A → (A → Type 0) → ℕ → List Lexeme → Type 0
Reading {A = A} text p Q d ls = (w : A) × Is (inner text d) p ls w × Q w

-- tokens that stand for the pieces are this part, for such a value
pub record Prints {A : Type 0} (text : List ℕ) (p : Part A) (Q : A → Type 0) (ps : List Piece) : Type 0 where
  pub sounds : Sounds ps
  pub levels : ℕ
  pub reads : (d : ℕ) (ls : List Lexeme) → levels ≤ d → Spelled text ls ps → Reading text p Q d ls

pub prints_give : {A : Type 0} {text : List ℕ} {Q : A → Type 0} (v : A) → Q v → Prints text (give v) Q []
prints_give {text = text} v q = record { sounds = tt; levels = 0; reads = λ d ls h s. (v, (none_spelled text ls s, refl), q) }

pub one_read : {text : List ℕ} (d : ℕ) (t : Terminal) (p : Piece) (ls : List Lexeme) → p.kind ≡ t → Spelled text ls (p ∷ []) → Reading text (one t) (λ l. Fits text l p) d ls
one_read {text = text} d t p ls e s =
    let i = one_spelled text ls p s in (i.0, (i.1, i.2.kind ∙ e), i.2)

pub prints_one : {text : List ℕ} {t : Terminal} (p : Piece) → Sound p → p.kind ≡ t → Prints text (one t) (λ l. Fits text l p) (p ∷ [])
prints_one {text = text} {t = t} p s e = record { sounds = (inl s, tt); levels = 0; reads = λ d ls h z. one_read d t p ls e z }

pub both_read : {A B C : Type 0} {text : List ℕ} {P : A → Type 0} {Q : B → Type 0} {S : C → Type 0} {ps qs : List Piece} (f : A → B → C) (p : Part A) (q : Part B) (d : ℕ) (ls : List Lexeme)
    → ((a : A) (b : B) → P a → Q b → S (f a b))
    → ((ls : List Lexeme) → Spelled text ls ps → Reading text p P d ls) → ((ls : List Lexeme) → Spelled text ls qs → Reading text q Q d ls)
    → Spelled text ls (ps ++ qs) → Reading text (both f p q) S d ls
both_read {text = text} {ps = ps} {qs = qs} f p q d ls k rx ry s =
    let i = apart text ls ps qs s in
    let a = rx i.0 i.3 in
    let b = ry i.1 i.4 in
    (f a.0 b.0, (i.0, i.1, a.0, b.0, i.2, a.1, b.1, refl), k a.0 b.0 a.2 b.2)

pub prints_both : {A B C : Type 0} {text : List ℕ} {P : A → Type 0} {Q : B → Type 0} {S : C → Type 0} {ps qs : List Piece} {f : A → B → C} {p : Part A} {q : Part B}
    → Prints text p P ps → Prints text q Q qs → ((a : A) (b : B) → P a → Q b → S (f a b)) → Prints text (both f p q) S (ps ++ qs)
prints_both {ps = ps} {qs = qs} {f = f} {p = p} {q = q} x y k = record {
  sounds = sounds_joined ps qs x.sounds y.sounds;
  levels = x.levels + y.levels;
  reads = λ d ls h s. (let m = x.levels in let n = y.levels in both_read f p q d ls k (λ r z. x.reads d r (omega arith) z) (λ r z. y.reads d r (omega arith) z) s);
}

pub prints_inl : {A : Type 0} {text : List ℕ} {Q : A → Type 0} {ps : List Piece} {p q : Part A} → Prints text p Q ps → Prints text (either p q) Q ps
prints_inl x = record { sounds = x.sounds; levels = x.levels; reads = λ d ls h s. (let r = x.reads d ls h s in (r.0, inl r.1, r.2)) }

pub prints_inr : {A : Type 0} {text : List ℕ} {Q : A → Type 0} {ps : List Piece} {p q : Part A} → Prints text q Q ps → Prints text (either p q) Q ps
prints_inr x = record { sounds = x.sounds; levels = x.levels; reads = λ d ls h s. (let r = x.reads d ls h s in (r.0, inr r.1, r.2)) }

-- for what is so of more values
pub prints_for : {A : Type 0} {text : List ℕ} {P Q : A → Type 0} {ps : List Piece} {p : Part A} → ((a : A) → P a → Q a) → Prints text p P ps → Prints text p Q ps
prints_for k x = record { sounds = x.sounds; levels = x.levels; reads = λ d ls h s. (let r = x.reads d ls h s in (r.0, r.1, k r.0 r.2)) }

-- What is so of each token of a source, and of each three tokens.
pub record Goodness : Type 1 where
  pub one_good : Lexeme → Type 0
  pub three_good : Lexeme → Lexeme → Lexeme → Type 0

abbrev pub Triple : (Lexeme → Lexeme → Lexeme → Type 0) → Lexeme → List Lexeme → Type 0
Triple T l [] = Unit {0}
Triple T l (b ∷ []) = Unit {0}
Triple T l (b ∷ c ∷ ls) = T l b c

abbrev pub AllGood : Goodness → List Lexeme → Type 0
AllGood G [] = Unit {0}
AllGood G (l ∷ ls) = G.one_good l × Triple G.three_good l ls × AllGood G ls

triple_first : (T : Lexeme → Lexeme → Lexeme → Type 0) (l : Lexeme) (xs ys : List Lexeme) → Triple T l (xs ++ ys) → Triple T l xs
triple_first T l [] ys h = tt
triple_first T l (b ∷ []) ys h = tt
triple_first T l (b ∷ c ∷ xs) ys h = h

pub each_apart : (G : Goodness) (xs ys : List Lexeme) → AllGood G (xs ++ ys) → AllGood G xs × AllGood G ys
each_apart G [] ys h = (tt, h)
each_apart G (x ∷ xs) ys h = let i = each_apart G xs ys h.2 in ((h.0, triple_first G.three_good x xs ys h.1, i.0), i.1)

abbrev pub marks : List Piece → List Terminal
marks ps = map (λ p. p.kind) ps

-- tokens behind tokens, and pieces behind pieces
pub light_both : (l m n : ℕ) (ts xs ys : List Lexeme) (ps qs : List Piece) → ts ≡ xs ++ ys → Light l m (kinds xs) (marks ps) → Light m n (kinds ys) (marks qs) → Light l n (kinds ts) (marks (ps ++ qs))
light_both l m n ts xs ys ps qs e x y =
    let r : Light l n (kinds xs ++ kinds ys) (marks ps ++ marks qs) = light_joined l m n (kinds xs) (kinds ys) (marks ps) (marks qs) x y in
    subst (λ z. Light l n (kinds z) (marks (ps ++ qs))) (sym e)
    (subst (λ z. Light l n z (marks (ps ++ qs))) (sym (map-append (λ (l : Lexeme). l.kind) xs ys)) (subst (λ z. Light l n (kinds xs ++ kinds ys) z) (sym (map-append (λ (p : Piece). p.kind) ps qs)) r))

-- one token and its piece
pub light_token : (m n : ℕ) (t : Terminal) (ts : List Lexeme) (l : Lexeme) (x : Piece) → ts ≡ l ∷ [] → l.kind ≡ t → x.kind ≡ t → Light m n (t ∷ []) (t ∷ []) → Light m n (kinds ts) (marks (x ∷ []))
light_token m n t ts l x e f g h =
    subst (λ z. Light m n (kinds z) (x.kind ∷ [])) (sym e) (subst (λ z. Light m n (z ∷ []) (x.kind ∷ [])) (sym f) (subst (λ z. Light m n (t ∷ []) (z ∷ [])) (sym g) h))

pub light_nothing : (n : ℕ) (ts : List Lexeme) → ts ≡ [] → Light n n (kinds ts) []
light_nothing n ts e = subst (λ z. Light n n (kinds z) []) (sym e) (light_none n)

-- a value that was read from these tokens has these pieces, and they are read as one that is the same but for places; they go from one level to another
pub record TurnedTo {A : Type 0} (m n : ℕ) (text : List ℕ) (p : Part A) (K : List Piece → Type 0) (Q : A → Type 0) (ts : List Lexeme) : Type 0 where
  pub pieces : List Piece
  pub is : K pieces
  pub prints : Prints text p Q pieces
  pub light : Light m n (kinds ts) (marks pieces)

abbrev pub Turned : {A : Type 0} → List ℕ → Part A → (List Piece → Type 0) → (A → Type 0) → List Lexeme → Type 0
Turned text p K Q ts = TurnedTo 0 0 text p K Q ts

pub record TurnsTo {A : Type 0} (m n : ℕ) (G : Goodness) (bytes text : List ℕ) (d : ℕ) (p q : Part A) (K : A → List Piece → Type 0) (R : A → A → Type 0) : Type 0 where
  pub turn : (ts : List Lexeme) (v : A) → AllGood G ts → Is (inner bytes d) p ts v → TurnedTo m n text q (K v) (R v) ts

abbrev pub Turns : {A : Type 0} → Goodness → List ℕ → List ℕ → ℕ → Part A → Part A → (A → List Piece → Type 0) → (A → A → Type 0) → Type 0
Turns G bytes text d p q K R = TurnsTo 0 0 G bytes text d p q K R

pub turns_give : {A : Type 0} {n : ℕ} {G : Goodness} {bytes text : List ℕ} {d : ℕ} {K : A → List Piece → Type 0} {R : A → A → Type 0} {u v : A}
    → K u [] → R u v → TurnsTo n n G bytes text d (give u) (give v) K R
turns_give {n = n} {text = text} {K = K} {R = R} {u = u} {v = v} k r = record {
  turn = λ ts w g i. subst (λ x. TurnedTo n n text (give v) (K x) (R x) ts) (sym i.1) (record { pieces = []; is = k; prints = prints_give v r; light = light_nothing n ts i.0 });
}

-- a level further in
pub turns_raised : {A : Type 0} (n : ℕ) {G : Goodness} {bytes text : List ℕ} {d : ℕ} {p p' : Part A} {K : A → List Piece → Type 0} {R : A → A → Type 0}
    → TurnsTo 0 0 G bytes text d p p' K R → TurnsTo n n G bytes text d p p' K R
turns_raised n x = record { turn = λ ts v g i. (let a = x.turn ts v g i in record { pieces = a.pieces; is = a.is; prints = a.prints; light = light_raised n (kinds ts) (marks a.pieces) a.light }) }

-- a function and then its next argument, each from one level to another
pub turns_level : {A B : Type 0} {m k n : ℕ} {G : Goodness} {bytes text : List ℕ} {d : ℕ} {K : B → List Piece → Type 0} {R : B → B → Type 0} {p p' : Part (A → B)} {q q' : Part A}
    {L : A → List Piece → Type 0} {Q : A → A → Type 0}
    → TurnsTo k n G bytes text d q q' L Q
    → TurnsTo m k G bytes text d p p' (λ h ps. (a : A) (qs : List Piece) → L a qs → K (h a) (ps ++ qs)) (λ h j. (a x : A) → Q a x → R (h a) (j x))
    → TurnsTo m n G bytes text d (p ⊛ q) (p' ⊛ q') K R
turns_level {m = m} {k = c} {n = n} {G = G} {text = text} {K = K} {R = R} {p' = p'} {q' = q'} y x = record {
  turn = λ ts v g i. (
      let g' = each_apart G i.0 i.1 (subst (AllGood G) i.4 g) in
      let a = x.turn i.0 i.2 g'.0 i.5 in
      let b = y.turn i.1 i.3 g'.1 i.6 in
      let r : TurnedTo m n text (p' ⊛ q') (K (i.2 i.3)) (R (i.2 i.3)) ts = record {
        pieces = a.pieces ++ b.pieces;
        is = a.is i.3 b.pieces b.is;
        prints = prints_both a.prints b.prints (λ j w h k. h i.3 w k);
        light = light_both m c n ts i.0 i.1 a.pieces b.pieces i.4 a.light b.light;
      } in
      subst (λ w. TurnedTo m n text (p' ⊛ q') (K w) (R w) ts) (sym i.7) r);
}

pub turns_then : {A B : Type 0} {m n : ℕ} {G : Goodness} {bytes text : List ℕ} {d : ℕ} {K : B → List Piece → Type 0} {R : B → B → Type 0} {p p' : Part (A → B)} {q q' : Part A}
    {L : A → List Piece → Type 0} {Q : A → A → Type 0} → TurnsTo 0 0 G bytes text d q q' L Q
    → TurnsTo m n G bytes text d p p' (λ h ps. (a : A) (qs : List Piece) → L a qs → K (h a) (ps ++ qs)) (λ h j. (a x : A) → Q a x → R (h a) (j x))
    → TurnsTo m n G bytes text d (p ⊛ q) (p' ⊛ q') K R
turns_then {n = n} y x = turns_level (turns_raised n y) x

-- the pieces of the argument hang on its value
known : {A B : Type 0} {m n : ℕ} {G : Goodness} {bytes text : List ℕ} {d : ℕ} (K : B → List Piece → Type 0) {S : (A → B) → (A → B) → Type 0} {p p' : Part (A → B)} {fq : A → List Piece}
    → TurnsTo m n G bytes text d p p' (λ h ps. (a : A) → K (h a) (ps ++ fq a)) S → TurnsTo m n G bytes text d p p' (λ h ps. (a : A) (qs : List Piece) → qs ≡ fq a → K (h a) (ps ++ qs)) S
known K x = record {
  turn = λ ts v g i. (let t = x.turn ts v g i in record { pieces = t.pieces; is = λ a qs e. subst (λ r. K (v a) (t.pieces ++ r)) (sym e) (t.is a); prints = t.prints; light = t.light });
}

pub turns_next : {A B : Type 0} {m n : ℕ} {G : Goodness} {bytes text : List ℕ} {d : ℕ} {K : B → List Piece → Type 0} {R : B → B → Type 0} {p p' : Part (A → B)} {q q' : Part A}
    {fq : A → List Piece} {Q : A → A → Type 0}
    → TurnsTo 0 0 G bytes text d q q' (λ b qs. qs ≡ fq b) Q
    → TurnsTo m n G bytes text d p p' (λ h ps. (a : A) → K (h a) (ps ++ fq a)) (λ h j. (a x : A) → Q a x → R (h a) (j x))
    → TurnsTo m n G bytes text d (p ⊛ q) (p' ⊛ q') K R
turns_next {K = K} y x = turns_then y (known K x)

-- the argument goes from one level to another
pub turns_deeper : {A B : Type 0} {m k n : ℕ} {G : Goodness} {bytes text : List ℕ} {d : ℕ} {K : B → List Piece → Type 0} {R : B → B → Type 0} {p p' : Part (A → B)} {q q' : Part A}
    {fq : A → List Piece} {Q : A → A → Type 0}
    → TurnsTo k n G bytes text d q q' (λ b qs. qs ≡ fq b) Q
    → TurnsTo m k G bytes text d p p' (λ h ps. (a : A) → K (h a) (ps ++ fq a)) (λ h j. (a x : A) → Q a x → R (h a) (j x))
    → TurnsTo m n G bytes text d (p ⊛ q) (p' ⊛ q') K R
turns_deeper {K = K} y x = turns_level y (known K x)

-- one token, whose piece hangs on nothing
pub turns_mark : {m n : ℕ} {G : Goodness} {bytes text : List ℕ} {d : ℕ} {t : Terminal} (x : Piece) → Sound x → x.kind ≡ t → Light m n (t ∷ []) (t ∷ [])
    → TurnsTo m n G bytes text d (one t) (one t) (λ l ps. ps ≡ x ∷ []) (λ l m. Unit {0})
turns_mark {m = m} {n = n} {t = t} x s e l = record { turn = λ ts v g i. record { pieces = x ∷ []; is = refl; prints = prints_for (λ l h. tt) (prints_one x s e); light = light_token m n t ts v x i.0 i.1 e l } }

-- a part and a token behind it
pub turns_skip : {A : Type 0} {m k n : ℕ} {G : Goodness} {bytes text : List ℕ} {d : ℕ} {t : Terminal} {K : A → List Piece → Type 0} {R : A → A → Type 0} {p p' : Part A}
    (x : Piece) → Sound x → x.kind ≡ t → Light k n (t ∷ []) (t ∷ [])
    → TurnsTo m k G bytes text d p p' (λ a ps. K a (ps ++ x ∷ [])) R → TurnsTo m n G bytes text d (p ◂ one t) (p' ◂ one t) K R
turns_skip {m = m} {k = c} {n = n} {G = G} {text = text} {t = t} {K = K} {R = R} {p' = p'} x s e l z = record {
  turn = λ ts v g i. (
      let g' = each_apart G i.0 i.1 (subst (AllGood G) i.4 g) in
      let a = z.turn i.0 i.2 g'.0 i.5 in
      let r : TurnedTo m n text (p' ◂ one t) (K i.2) (R i.2) ts = record {
        pieces = a.pieces ++ x ∷ [];
        is = a.is;
        prints = prints_both a.prints (prints_one x s e) (λ w y h k. h);
        light = light_both m c n ts i.0 i.1 a.pieces (x ∷ []) i.4 a.light (light_token c n t i.1 i.3 x i.6.0 i.6.1 e l);
      } in
      subst (λ w. TurnedTo m n text (p' ◂ one t) (K w) (R w) ts) (sym i.7) r);
}

-- a part, END and a token behind it
pub turns_ends : {A : Type 0} {m n : ℕ} {G : Goodness} {bytes text : List ℕ} {d : ℕ} {t : Terminal} {K : A → List Piece → Type 0} {R : A → A → Type 0} {p p' : Part A}
    (w x : Piece) → Sound w → Sound x → w.kind ≡ word.End → x.kind ≡ t → BehindEnd t
    → TurnsTo m (suc n) G bytes text d p p' (λ a ps. K a ((ps ++ w ∷ []) ++ x ∷ [])) R → TurnsTo m n G bytes text d (p ◂ one word.End ◂ one t) (p' ◂ one word.End ◂ one t) K R
turns_ends {m = m} {n = n} {G = G} {text = text} {t = t} {K = K} {R = R} {p' = p'} w x q s f e l z = record {
  turn = λ ts v g i. (
      let g' = each_apart G i.0 i.1 (subst (AllGood G) i.4 g) in
      let j = i.5 in
      let h' = each_apart G j.0 j.1 (subst (AllGood G) j.4 g'.0) in
      let a = z.turn j.0 j.2 h'.0 j.5 in
      let all : ts ≡ j.0 ++ (j.3 ∷ i.3 ∷ []) = i.4 ∙ (ap (λ r. r ++ i.1) (j.4 ∙ ap (λ r. j.0 ++ r) j.6.0) ∙ (ap (λ r. (j.0 ++ j.3 ∷ []) ++ r) i.6.0 ∙ append_assoc j.0 (j.3 ∷ []) (i.3 ∷ []))) in
      let two : Light (suc n) n (j.3.kind ∷ i.3.kind ∷ []) (w.kind ∷ x.kind ∷ []) =
      subst (λ r. Light (suc n) n (r ∷ i.3.kind ∷ []) (w.kind ∷ x.kind ∷ [])) (sym j.6.1) (subst (λ r. Light (suc n) n (word.End ∷ r ∷ []) (w.kind ∷ x.kind ∷ [])) (sym i.6.1)
      (subst (λ r. Light (suc n) n (word.End ∷ t ∷ []) (r ∷ x.kind ∷ [])) (sym f) (subst (λ r. Light (suc n) n (word.End ∷ t ∷ []) (word.End ∷ r ∷ [])) (sym e) (light_ends n t l)))) in
      let r : TurnedTo m n text (p' ◂ one word.End ◂ one t) (K j.2) (R j.2) ts = record {
        pieces = (a.pieces ++ w ∷ []) ++ x ∷ [];
        is = a.is;
        prints = prints_both (prints_both a.prints (prints_one w q f) (λ w y h k. h)) (prints_one x s e) (λ w y h k. h);
        light = subst (λ r. Light m n (kinds ts) (marks r)) (sym (append_assoc a.pieces (w ∷ []) (x ∷ [])))
            (light_both m (suc n) n ts j.0 (j.3 ∷ i.3 ∷ []) a.pieces (w ∷ x ∷ []) all a.light two);
      } in
      subst (λ w. TurnedTo m n text (p' ◂ one word.End ◂ one t) (K w) (R w) ts) (sym (i.7 ∙ j.7)) r);
}

-- the number of a token
pub turns_place : {m n : ℕ} {G : Goodness} {bytes text : List ℕ} {d : ℕ} {t : Terminal} (x : Piece) → Sound x → x.kind ≡ t → Light m n (t ∷ []) (t ∷ [])
    → TurnsTo m n G bytes text d (place t) (place t) (λ n ps. ps ≡ x ∷ []) (λ n m. Unit {0})
turns_place x s e l = turns_level (turns_mark x s e l) (turns_give (λ a qs h. h) (λ a b h. tt))

-- a token and the part behind it
pub turns_behind : {A : Type 0} {m k n : ℕ} {G : Goodness} {bytes text : List ℕ} {d : ℕ} {t : Terminal} {K : A → List Piece → Type 0} {R : A → A → Type 0} {p p' : Part A}
    (x : Piece) → Sound x → x.kind ≡ t → Light m k (t ∷ []) (t ∷ [])
    → TurnsTo k n G bytes text d p p' (λ a ps. K a (x ∷ ps)) R → TurnsTo m n G bytes text d (one t ▸ p) (one t ▸ p') K R
turns_behind {m = m} {k = c} {n = n} {G = G} {text = text} {t = t} {K = K} {R = R} {p' = p'} x s e l z = record {
  turn = λ ts v g i. (
      let g' = each_apart G i.0 i.1 (subst (AllGood G) i.4 g) in
      let b = z.turn i.1 i.3 g'.1 i.6 in
      let r : TurnedTo m n text (one t ▸ p') (K i.3) (R i.3) ts = record {
        pieces = x ∷ b.pieces;
        is = b.is;
        prints = prints_both (prints_one x s e) b.prints (λ a y h k. k);
        light = light_both m c n ts i.0 i.1 (x ∷ []) b.pieces i.4 (light_token m c t i.0 i.2 x i.5.0 i.5.1 e l) b.light;
      } in
      subst (λ w. TurnedTo m n text (one t ▸ p') (K w) (R w) ts) (sym i.7) r);
}

pub turns_either : {A : Type 0} {m n : ℕ} {G : Goodness} {bytes text : List ℕ} {d : ℕ} {K : A → List Piece → Type 0} {R : A → A → Type 0} {p p' q q' : Part A}
    → TurnsTo m n G bytes text d p p' K R → TurnsTo m n G bytes text d q q' K R → TurnsTo m n G bytes text d (either p q) (either p' q') K R
turns_either {m = m} {n = n} {text = text} {K = K} {R = R} {p' = p'} {q' = q'} x y = record {
  turn = λ ts v g i. elim i as (λ j. TurnedTo m n text (either p' q') (K v) (R v) ts) [
    | inl h ↦ (let a = x.turn ts v g h in record { pieces = a.pieces; is = a.is; prints = prints_inl a.prints; light = a.light })
    | inr h ↦ (let a = y.turn ts v g h in record { pieces = a.pieces; is = a.is; prints = prints_inr a.prints; light = a.light })
  ];
}

-- with other words for the pieces and for the value
pub turns_as : {A : Type 0} {m n : ℕ} {G : Goodness} {bytes text : List ℕ} {d : ℕ} {K L : A → List Piece → Type 0} {R S : A → A → Type 0} {p p' : Part A}
    → ((v : A) (ps : List Piece) → K v ps → L v ps) → ((v w : A) → R v w → S v w) → TurnsTo m n G bytes text d p p' K R → TurnsTo m n G bytes text d p p' L S
turns_as k r x = record {
  turn = λ ts v g i. (let a = x.turn ts v g i in record { pieces = a.pieces; is = k v a.pieces a.is; prints = prints_for (λ w h. r v w h) a.prints; light = a.light });
}

-- Lists: one behind another.
pub joined_added : {A : Type 0} (xs ys : List A) → joined added xs ys ≡ xs ++ ys
joined_added xs [] = sym (append-nil xs)
joined_added xs (y ∷ ys) = joined_added (xs ++ y ∷ []) ys ∙ append_assoc xs (y ∷ []) ys

abbrev pub Readings : {A : Type 0} → List ℕ → Part A → (List A → Type 0) → ℕ → List Lexeme → Type 0
Readings {A = A} text p Q d ls = (ws : List A) × Pieces (Is (inner text d) p) ls ws × Q ws

pub record More {A B : Type 0} (text : List ℕ) (p : Part A) (c : A → B) (vs : List A) (ps : List Piece) (ts : List Lexeme) : Type 0 where
  pub sounds : Sounds ps
  pub light : Light 0 0 (kinds ts) (marks ps)
  pub levels : ℕ
  pub reads : (d : ℕ) (ls : List Lexeme) → levels ≤ d → Spelled text ls ps → Readings text p (λ ws. map c vs ≡ map c ws) d ls

pub more_read : {A B : Type 0} (text : List ℕ) (p : Part A) (c : A → B) (v : A) (vs : List A) (ps qs : List Piece) (d : ℕ) (ls : List Lexeme)
    → ((ls : List Lexeme) → Spelled text ls ps → Reading text p (λ w. c v ≡ c w) d ls)
    → ((ls : List Lexeme) → Spelled text ls qs → Readings text p (λ ws. map c vs ≡ map c ws) d ls)
    → Spelled text ls (ps ++ qs) → Readings text p (λ ws. map c (v ∷ vs) ≡ map c ws) d ls
more_read text p c v vs ps qs d ls f g s =
    let i = apart text ls ps qs s in
    let a = f i.0 i.3 in
    let b = g i.1 i.4 in
    (a.0 ∷ b.0, (i.0, i.1, i.2, a.1, b.1), ap (λ r. r ∷ map c vs) a.2 ∙ ap (λ r. c a.0 ∷ r) b.2)

more_turned : {A B : Type 0} (G : Goodness) (bytes text : List ℕ) (d : ℕ) (p p' : Part A) (f : A → List Piece) (c : A → B)
    → Turns G bytes text d p p' (λ v ps. ps ≡ f v) (λ v w. c v ≡ c w)
    → (vs : List A) (ts : List Lexeme) → AllGood G ts → Pieces (Is (inner bytes d) p) ts vs → More text p' c vs (together (map f vs)) ts
more_turned G bytes text d p p' f c x [] ts g i = record { sounds = tt; light = light_nothing 0 ts i; levels = 0; reads = λ e ls h s. ([], none_spelled text ls s, refl) }
more_turned G bytes text d p p' f c x (v ∷ vs) ts g i =
    let g' = each_apart G i.0 i.1 (subst (AllGood G) i.2 g) in
    let t = x.turn i.0 v g'.0 i.3 in
    let a : Prints text p' (λ w. c v ≡ c w) (f v) = subst (λ r. Prints text p' (λ w. c v ≡ c w) r) t.is t.prints in
    let b = more_turned G bytes text d p p' f c x vs i.1 g'.1 i.4 in
    let l : Light 0 0 (kinds i.0) (marks (f v)) = subst (λ r. Light 0 0 (kinds i.0) (marks r)) t.is t.light in
    record {
      sounds = sounds_joined (f v) (together (map f vs)) a.sounds b.sounds;
      light = light_both 0 0 0 ts i.0 i.1 (f v) (together (map f vs)) i.2 l b.light;
      levels = a.levels + b.levels;
      reads = λ e ls h s. (let m = a.levels in let n = b.levels in
          more_read text p' c v vs (f v) (together (map f vs)) e ls (λ r z. a.reads e r (omega arith) z) (λ r z. b.reads e r (omega arith) z) s);
    }

left_read : {A B : Type 0} (text : List ℕ) (p : Part (List A)) (q : Part A) (c : A → B) (a vs : List A) (ps qs : List Piece) (d : ℕ) (ls : List Lexeme)
    → ((ls : List Lexeme) → Spelled text ls ps → Reading text p (λ ws. map c a ≡ map c ws) d ls)
    → ((ls : List Lexeme) → Spelled text ls qs → Readings text q (λ ws. map c vs ≡ map c ws) d ls)
    → Spelled text ls (ps ++ qs) → Reading text (left added p q) (λ ws. map c (a ++ vs) ≡ map c ws) d ls
left_read text p q c a vs ps qs d ls f g s =
    let i = apart text ls ps qs s in
    let x = f i.0 i.3 in
    let y = g i.1 i.4 in (
      joined added x.0 y.0,
      (i.0, i.1, x.0, y.0, i.2, x.1, y.1, refl),
      map-append c a vs ∙ (ap (λ r. r ++ map c vs) x.2 ∙ (ap (λ r. map c x.0 ++ r) y.2 ∙ (sym (map-append c x.0 y.0) ∙ ap (map c) (sym (joined_added x.0 y.0))))),
    )

pub turns_left : {A B : Type 0} {G : Goodness} {bytes text : List ℕ} {d : ℕ} {K : List A → List Piece → Type 0} {p p' : Part (List A)} {q q' : Part A} {f : A → List Piece} {c : A → B}
    → Turns G bytes text d q q' (λ v ps. ps ≡ f v) (λ v w. c v ≡ c w)
    → Turns G bytes text d p p' (λ vs ps. (ws : List A) → K (vs ++ ws) (ps ++ together (map f ws))) (λ v w. map c v ≡ map c w)
    → Turns G bytes text d (left added p q) (left added p' q') K (λ v w. map c v ≡ map c w)
turns_left {G = G} {bytes = bytes} {text = text} {d = d} {K = K} {p' = p'} {q = q} {q' = q'} {f = f} {c = c} y x = record {
  turn = λ ts v g i. (
      let g' = each_apart G i.0 i.1 (subst (AllGood G) i.4 g) in
      let a = x.turn i.0 i.2 g'.0 i.5 in
      let b = more_turned G bytes text d q q' f c y i.3 i.1 g'.1 i.6 in
      let e : i.2 ++ i.3 ≡ v = sym (joined_added i.2 i.3) ∙ sym i.7 in
      let r : Turned text (left added p' q') (K (i.2 ++ i.3)) (λ w. map c (i.2 ++ i.3) ≡ map c w) ts = record {
        pieces = a.pieces ++ together (map f i.3);
        is = a.is i.3;
        prints = record {
          sounds = sounds_joined a.pieces (together (map f i.3)) a.prints.sounds b.sounds;
          levels = a.prints.levels + b.levels;
          reads = λ e ls h s. (let m = a.prints.levels in let n = b.levels in
              left_read text p' q' c i.2 i.3 a.pieces (together (map f i.3)) e ls (λ r z. a.prints.reads e r (omega arith) z) (λ r z. b.reads e r (omega arith) z) s);
        };
        light = light_both 0 0 0 ts i.0 i.1 a.pieces (together (map f i.3)) i.4 a.light b.light;
      } in
      subst (λ w. Turned text (left added p' q') (K w) (λ z. map c w ≡ map c z) ts) e r);
}

-- The same for pieces alone: a function and its next argument; a token before or behind; the number of a token.
pub prints_next : {A B : Type 0} {text : List ℕ} {P : A → Type 0} {Q : B → Type 0} {ps qs : List Piece} {p : Part (A → B)} {q : Part A}
    → Prints text p (λ f. (a : A) → P a → Q (f a)) ps → Prints text q P qs → Prints text (p ⊛ q) Q (ps ++ qs)
prints_next x y = prints_both x y (λ f a h k. h a k)

pub prints_behind : {A : Type 0} {text : List ℕ} {Q : A → Type 0} {ps : List Piece} {t : Terminal} {p : Part A} (x : Piece) → Sound x → x.kind ≡ t
    → Prints text p Q ps → Prints text (one t ▸ p) Q (x ∷ ps)
prints_behind x s e y = prints_both (prints_one x s e) y (λ a b h k. k)

pub prints_skip : {A : Type 0} {text : List ℕ} {Q : A → Type 0} {ps : List Piece} {t : Terminal} {p : Part A} (x : Piece) → Sound x → x.kind ≡ t
    → Prints text p Q ps → Prints text (p ◂ one t) Q (ps ++ x ∷ [])
prints_skip x s e y = prints_both y (prints_one x s e) (λ a b h k. h)

pub prints_place : {text : List ℕ} {t : Terminal} (x : Piece) → Sound x → x.kind ≡ t → Prints text (place t) (λ n. Unit {0}) (x ∷ [])
prints_place x s e = prints_next (prints_give (λ (l : Lexeme). l.number) (λ l h. tt)) (prints_one x s e)

-- one more piece at the end of a repetition
joined_more : {A B : Type 0} (f : A → B → A) (a : A) (bs : List B) (b : B) → f (joined f a bs) b ≡ joined f a (bs ++ b ∷ [])
joined_more f a [] b = refl
joined_more f a (c ∷ bs) b = joined_more f (f a c) bs b

pieces_more : {B : Type 0} (P : List Lexeme → B → Type 0) (ys zs : List Lexeme) (bs : List B) (b : B) → Pieces P ys bs → P zs b → Pieces P (ys ++ zs) (bs ++ b ∷ [])
pieces_more P ys zs [] b h k = subst (λ r. Pieces P (r ++ zs) (b ∷ [])) (sym h) (zs, [], sym (append-nil zs), k, refl)
pieces_more P ys zs (c ∷ bs) b h k = (h.0, h.1 ++ zs, ap (λ r. r ++ zs) h.2 ∙ append_assoc h.0 h.1 zs, h.3, pieces_more P h.1 zs bs b h.4 k)

left_more : {A B : Type 0} (text : List ℕ) (f : A → B → A) (p : Part A) (q : Part B) (d : ℕ) (xs ys ls : List Lexeme) (a : A) (b : B) → ls ≡ xs ++ ys
    → Is (inner text d) (left f p q) xs a → Is (inner text d) q ys b → Is (inner text d) (left f p q) ls (f a b)
left_more text f p q d xs ys ls a b e i j = (
  i.0,
  i.1 ++ ys,
  i.2,
  i.3 ++ b ∷ [],
  e ∙ (ap (λ r. r ++ ys) i.4 ∙ append_assoc i.0 i.1 ys),
  i.5,
  pieces_more (Is (inner text d) q) i.1 ys i.3 b i.6 j,
  ap (λ r. f r b) i.7 ∙ joined_more f i.2 i.3 b,
)

left_more_read : {A B : Type 0} {text : List ℕ} {P : A → Type 0} {Q : B → Type 0} {S : A → Type 0} {ps qs : List Piece} (f : A → B → A) (p : Part A) (q : Part B) (d : ℕ) (ls : List Lexeme)
    → ((a : A) (b : B) → P a → Q b → S (f a b))
    → ((ls : List Lexeme) → Spelled text ls ps → Reading text (left f p q) P d ls) → ((ls : List Lexeme) → Spelled text ls qs → Reading text q Q d ls)
    → Spelled text ls (ps ++ qs) → Reading text (left f p q) S d ls
left_more_read {text = text} {ps = ps} {qs = qs} f p q d ls k rx ry s =
    let i = apart text ls ps qs s in
    let a = rx i.0 i.3 in
    let b = ry i.1 i.4 in
    (f a.0 b.0, left_more text f p q d i.0 i.1 ls a.0 b.0 i.2 a.1 b.1, k a.0 b.0 a.2 b.2)

pub prints_more : {A B : Type 0} {text : List ℕ} {P : A → Type 0} {Q : B → Type 0} {S : A → Type 0} {ps qs : List Piece} {f : A → B → A} {p : Part A} {q : Part B}
    → Prints text (left f p q) P ps → Prints text q Q qs → ((a : A) (b : B) → P a → Q b → S (f a b)) → Prints text (left f p q) S (ps ++ qs)
prints_more {ps = ps} {qs = qs} {f = f} {p = p} {q = q} x y k = record {
  sounds = sounds_joined ps qs x.sounds y.sounds;
  levels = x.levels + y.levels;
  reads = λ d ls h s. (let m = x.levels in let n = y.levels in left_more_read f p q d ls k (λ r z. x.reads d r (omega arith) z) (λ r z. y.reads d r (omega arith) z) s);
}

-- what is so of each value that is read from good tokens as this part
pub record Gives {A : Type 0} (G : Goodness) (bytes : List ℕ) (d : ℕ) (p : Part A) (H : List Lexeme → A → Type 0) : Type 0 where
  pub given : (ts : List Lexeme) (v : A) → AllGood G ts → Is (inner bytes d) p ts v → H ts v

pub gives_give : {A : Type 0} {G : Goodness} {bytes : List ℕ} {d : ℕ} {H : List Lexeme → A → Type 0} {u : A} → H [] u → Gives G bytes d (give u) H
gives_give {H = H} h = record { given = λ ts v g i. subst (λ r. H r v) (sym i.0) (subst (H []) (sym i.1) h) }

pub gives_one : {G : Goodness} {bytes : List ℕ} {d : ℕ} {t : Terminal} {H : List Lexeme → Lexeme → Type 0} → ((l : Lexeme) → G.one_good l → l.kind ≡ t → H (l ∷ []) l) → Gives G bytes d (one t) H
gives_one {G = G} {H = H} h = record { given = λ ts v g i. subst (λ r. H r v) (sym i.0) (h v (subst (AllGood G) i.0 g).0 i.1) }

pub gives_both : {A B C : Type 0} {G : Goodness} {bytes : List ℕ} {d : ℕ} {P : List Lexeme → A → Type 0} {Q : List Lexeme → B → Type 0} {H : List Lexeme → C → Type 0}
    {f : A → B → C} {p : Part A} {q : Part B}
    → Gives G bytes d p P → Gives G bytes d q Q → ((xs ys : List Lexeme) (a : A) (b : B) → P xs a → Q ys b → H (xs ++ ys) (f a b)) → Gives G bytes d (both f p q) H
gives_both {G = G} {H = H} {f = f} x y k = record {
  given = λ ts v g i. (
      let g' = each_apart G i.0 i.1 (subst (AllGood G) i.4 g) in
      subst (λ r. H r v) (sym i.4) (subst (H (i.0 ++ i.1)) (sym i.7) (k i.0 i.1 i.2 i.3 (x.given i.0 i.2 g'.0 i.5) (y.given i.1 i.3 g'.1 i.6))));
}

pub gives_next : {A B : Type 0} {G : Goodness} {bytes : List ℕ} {d : ℕ} {P : List Lexeme → A → Type 0} {H : List Lexeme → B → Type 0} {p : Part (A → B)} {q : Part A}
    → Gives G bytes d p (λ xs f. (ys : List Lexeme) (a : A) → P ys a → H (xs ++ ys) (f a)) → Gives G bytes d q P → Gives G bytes d (p ⊛ q) H
gives_next x y = gives_both x y (λ xs ys f a h k. h ys a k)

pub gives_either : {A : Type 0} {G : Goodness} {bytes : List ℕ} {d : ℕ} {H : List Lexeme → A → Type 0} {p q : Part A}
    → Gives G bytes d p H → Gives G bytes d q H → Gives G bytes d (either p q) H
gives_either {H = H} x y = record { given = λ ts v g i. elim i as (λ j. H ts v) [ inl h ↦ x.given ts v g h | inr h ↦ y.given ts v g h ] }

-- a property that each further piece keeps
abbrev Kept : {A B : Type 0} → (A → B → A) → (List Lexeme → A → Type 0) → (List Lexeme → B → Type 0) → Type 0
Kept {A = A} {B = B} f P Q = (xs ys : List Lexeme) (a : A) (b : B) → P xs a → Q ys b → P (xs ++ ys) (f a b)

gives_pieces : {A B : Type 0} (G : Goodness) (bytes : List ℕ) (d : ℕ) (P : List Lexeme → A → Type 0) (Q : List Lexeme → B → Type 0) (f : A → B → A) (q : Part B)
    → Gives G bytes d q Q → Kept f P Q → (bs : List B) (xs ys : List Lexeme) (a : A) → P xs a → AllGood G ys → Pieces (Is (inner bytes d) q) ys bs → P (xs ++ ys) (joined f a bs)
gives_pieces G bytes d P Q f q y k [] xs ys a h g i = subst (λ r. P r a) (sym (append-nil xs) ∙ ap (λ r. xs ++ r) (sym i)) h
gives_pieces G bytes d P Q f q y k (b ∷ bs) xs ys a h g i =
    let g' = each_apart G i.0 i.1 (subst (AllGood G) i.2 g) in
    let r = gives_pieces G bytes d P Q f q y k bs (xs ++ i.0) i.1 (f a b) (k xs i.0 a b h (y.given i.0 b g'.0 i.3)) g'.1 i.4 in
    subst (λ z. P z (joined f (f a b) bs)) (append_assoc xs i.0 i.1 ∙ ap (λ z. xs ++ z) (sym i.2)) r

pub gives_left : {A B : Type 0} {G : Goodness} {bytes : List ℕ} {d : ℕ} {P : List Lexeme → A → Type 0} {Q : List Lexeme → B → Type 0} {f : A → B → A} {p : Part A} {q : Part B}
    → Gives G bytes d p P → Gives G bytes d q Q → Kept f P Q → Gives G bytes d (left f p q) P
gives_left {G = G} {bytes = bytes} {d = d} {P = P} {Q = Q} {f = f} {q = q} x y k = record {
  given = λ ts v g i. (
      let g' = each_apart G i.0 i.1 (subst (AllGood G) i.4 g) in
      subst (λ r. P r v) (sym i.4) (subst (P (i.0 ++ i.1)) (sym i.7) (gives_pieces G bytes d P Q f q y k i.3 i.0 i.1 i.2 (x.given i.0 i.2 g'.0 i.5) g'.1 i.6)));
}

pub gives_any : {A : Type 0} {G : Goodness} {bytes : List ℕ} {d : ℕ} {p : Part A} → Gives G bytes d p (λ ts v. Unit {0})
gives_any = record { given = λ ts v g i. tt }

-- what hangs on nothing, and the part behind it
pub turns_after : {A X : Type 0} {m n : ℕ} {G : Goodness} {bytes text : List ℕ} {d : ℕ} {K : A → List Piece → Type 0} {R : A → A → Type 0} {q q' : Part X} {p p' : Part A}
    (xs : List Piece) → TurnsTo m m G bytes text d q q' (λ x ps. ps ≡ xs) (λ x y. Unit {0})
    → TurnsTo m n G bytes text d p p' (λ a ps. K a (xs ++ ps)) R → TurnsTo m n G bytes text d (q ▸ p) (q' ▸ p') K R
turns_after {m = m} {n = n} {G = G} {text = text} {K = K} {R = R} {q' = q'} {p' = p'} xs y z = record {
  turn = λ ts v g i. (
      let g' = each_apart G i.0 i.1 (subst (AllGood G) i.4 g) in
      let a = y.turn i.0 i.2 g'.0 i.5 in
      let b = z.turn i.1 i.3 g'.1 i.6 in
      let r : TurnedTo m n text (q' ▸ p') (K i.3) (R i.3) ts = record {
        pieces = a.pieces ++ b.pieces;
        is = subst (λ r. K i.3 (r ++ b.pieces)) (sym a.is) b.is;
        prints = prints_both a.prints b.prints (λ x w h k. k);
        light = light_both m m n ts i.0 i.1 a.pieces b.pieces i.4 a.light b.light;
      } in
      subst (λ w. TurnedTo m n text (q' ▸ p') (K w) (R w) ts) (sym i.7) r);
}

pub gives_for : {A : Type 0} {G : Goodness} {bytes : List ℕ} {d : ℕ} {p : Part A} {P Q : List Lexeme → A → Type 0} → ((ts : List Lexeme) (v : A) → P ts v → Q ts v) → Gives G bytes d p P → Gives G bytes d p Q
gives_for k x = record { given = λ ts v g i. k ts v (x.given ts v g i) }

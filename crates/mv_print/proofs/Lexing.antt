-- The tokens of a source, and those of printed pieces.
use Rattle.std.proofs.Common.{◌≡◌, ℕ, ◌+◌, ◌-◌, Bool, true, false, ◌&&◌, not, List, [], ◌∷◌, ◌++◌, ◌⊎◌, length, take, drop, slice_range, refl, sym, ap, subst, ◌∙◌, append_assoc, append-nil, length-append, arith, inl, inr}
use Rattle.std.specs.List.{list_all}
use Rattle.std.proofs.lemmas.Bool.{and_parts, and_from, and_left}
use Rattle.std.proofs.lemmas.Bool.Decides.{nat_tests}
use Rattle.std.proofs.lemmas.List.{take_at, drop_at}
use Rattle.mv_print.proofs.Sounding.{none_when}
use Rattle.mv_lex.specs.Bytes.{is_allowed, is_blank}
use Rattle.mv_lex.specs.Spelling.{IsSpelled}
use Rattle.mv_lex.specs.Tokens.{IsLongest, Lexes, stop, blank, comment, token, token_at}
use Rattle.mv_lex.specs.declared.token.Kind.{Kind}
use Rattle.mv_lex.specs.declared.token.Kind.TheVariants as kind
use Rattle.mv_lex.specs.declared.token.Token.{Token}
use Rattle.mv_lex.proofs.Pieces.{some_bytes}
use Rattle.mv_ast.specs.declared.lexeme.Lexeme.{Lexeme}
use Rattle.mv_ast.specs.declared.lexeme.Terminal.TheVariants as word
use Rattle.mv_ast.specs.declared.lexeme.Terminal.{Terminal}
use Rattle.mv_ast.specs.declared.limit.Which.TheVariants as limit
use Rattle.mv_ast.specs.Limits.{at_token, own_passes, size_passes, is_size_of, is_size, token_passes}
use Rattle.mv_ast.specs.Texts.{spelling, number_from}
use Rattle.mv_ast.specs.Lexemes.{kind_of, lexeme_of, lexemes_from}
use Rattle.mv_ast.proofs.Limited.{nothing_left}
use Rattle.mv_print.specs.Printing.{Piece, put, written}
use Rattle.mv_print.proofs.Light.{kinds}
use Rattle.mv_print.proofs.Building.{marks, Fits, Spelled, is_type, Sounded, base_of, Sounds, Triple, AllGood}
use Rattle.mv_print.proofs.Meaning.{Meant, Good, kind_behind, behind, never_when}
use Rattle.mv_print.proofs.Scripts.{LastOpen, Last, Ended, allowed_parts, allowed_joined}

-- the bytes at a place
at_place : (before text rest bytes : List ℕ) (n : ℕ) → bytes ≡ before ++ (text ++ rest) → n ≡ length before → slice_range bytes n (n + length text) ≡ text
at_place before text rest bytes n e h =
    let c : n + length text - n ≡ length text = omega arith in
    ap (λ (k : ℕ). take k (drop n bytes)) c ∙ (ap (λ r. take (length text) (drop n r)) e ∙ (ap (take (length text)) (drop_at before (text ++ rest) n (sym h)) ∙ take_at text rest (length text) refl))

-- a token of the source
token_meant : (bytes before text rest : List ℕ) (n place : ℕ) (k : Kind) → bytes ≡ before ++ (text ++ rest) → place ≡ length before → list_all is_allowed text ≡ true → IsSpelled k text rest
    → Meant bytes (lexeme_of n bytes (token_at k place text))
token_meant bytes before text rest n place k e h a s =
    let i = at_place before text rest bytes place e h in
    record {
      token = k;
      after = rest;
      spelled = subst (λ r. IsSpelled k r rest) (sym i) s;
      is = refl;
      len = sym (ap length i);
      allowed = ap (list_all is_allowed) i ∙ a;
    }

-- all tokens of the source
abbrev pub AllMeant : List ℕ → List Lexeme → Type 0
AllMeant bytes [] = Unit {0}
AllMeant bytes (l ∷ ls) = Meant bytes l × AllMeant bytes ls

pub all_meant : {place end : ℕ} {bytes rest : List ℕ} {tokens : List Token} (n : ℕ) (all before : List ℕ) → all ≡ before ++ bytes → place ≡ length before → list_all is_allowed bytes ≡ true
    → Lexes place bytes tokens end rest → AllMeant all (lexemes_from n all tokens)
all_meant n all before e h a stop = tt
all_meant n all before e h a (blank {b = b} {bytes = bytes} i r) =
    all_meant n all (before ++ b ∷ []) (e ∙ sym (append_assoc before (b ∷ []) bytes)) (omega (arith, length-append before (b ∷ []))) (allowed_parts (b ∷ []) bytes a).1 r
all_meant n all before e h a (comment line bytes l i r) =
    let front = 45 ∷ 45 ∷ line in
    all_meant n all (before ++ front) (e ∙ sym (append_assoc before front bytes)) (omega (arith, length-append before front)) (allowed_parts front bytes a).1 r
all_meant n all before e h a (token {place = place} k text bytes l r) = (
  token_meant all before text bytes n place k e h (allowed_parts text bytes a).0 l.spelled,
  all_meant (n + 1) all (before ++ text) (e ∙ sym (append_assoc before text bytes)) (omega (arith, length-append before text)) (allowed_parts text bytes a).1 r,
)

-- no token is left at the end
none_left : {place end : ℕ} {bytes rest : List ℕ} {tokens : List Token} → Lexes place bytes tokens end rest → bytes ≡ [] → tokens ≡ []
none_left stop e = refl
none_left (blank i r) e = cc
none_left (comment line bytes l i r) e = cc
none_left (token k text bytes l r) e = absurd (omega (arith, some_bytes k text bytes l.spelled, ap length e, length-append text bytes))

pub last_open : {place end : ℕ} {bytes rest : List ℕ} {tokens : List Token} (n : ℕ) (all : List ℕ) → Lexes place bytes tokens end rest → LastOpen (lexemes_from n all tokens)
last_open n all stop = tt
last_open n all (blank i r) = last_open n all r
last_open n all (comment line bytes l i r) = last_open n all r
last_open n all (token {place = place} {tokens = tokens} k text bytes l r) = (
  (λ e. ap (lexemes_from (n + 1) all) (none_left r (ends k text bytes (sym (behind k (slice_range all place (place + length text))) ∙ ap kind_behind e) l.spelled))),
  last_open (n + 1) all r,
)
  where
    ends : (k : Kind) (text bytes : List ℕ) → k ≡ kind.OpenBlock → IsSpelled k text bytes → bytes ≡ []
    ends k text bytes e s = (subst (λ j. IsSpelled j text bytes) e s).1

-- Printed pieces, one behind another.
abbrev pub flat : List Piece → List ℕ
flat [] = []
flat (p ∷ ps) = (p.text ++ p.gap) ++ flat ps

pub written_flat : (before : List ℕ) (ps : List Piece) → written before ps ≡ before ++ flat ps
unfolding written put
written_flat before [] = sym (append-nil before)
written_flat before (p ∷ ps) = written_flat (before ++ (p.text ++ p.gap)) ps ∙ append_assoc before (p.text ++ p.gap) (flat ps)

-- the pieces are tokens behind these bytes
pub record Lexed (before : List ℕ) (ps : List Piece) : Type 0 where
  pub tokens : List Token
  pub reads : Lexes (length before) (flat ps) tokens (length (before ++ flat ps)) []
  pub spelled : (n : ℕ) → Spelled (before ++ flat ps) (lexemes_from n (before ++ flat ps) tokens) ps
  pub allowed : list_all is_allowed (flat ps) ≡ true

lexed_none : (before : List ℕ) → Lexed before []
lexed_none before = record {
  tokens = [];
  reads = subst (λ (r : ℕ). Lexes (length before) [] [] r []) (ap length (sym (append-nil before))) stop;
  spelled = λ n. tt;
  allowed = refl;
}

blanks_read : (gap bytes : List ℕ) (place end : ℕ) (tokens : List Token) → list_all is_blank gap ≡ true → Lexes (place + length gap) bytes tokens end [] → Lexes place (gap ++ bytes) tokens end []
blanks_read [] bytes place end tokens h r = let e : place + 0 ≡ place = omega arith in subst (λ (n : ℕ). Lexes n bytes tokens end []) e r
blanks_read (b ∷ gap) bytes place end tokens h r =
    let k = and_parts (is_blank b) (list_all is_blank gap) h in
    let e : place + length (b ∷ gap) ≡ place + 1 + length gap = omega arith in
    blank k.0 (blanks_read gap bytes (place + 1) end tokens k.1 (subst (λ (n : ℕ). Lexes n bytes tokens end []) e r))

blank_allowed : (gap : List ℕ) → list_all is_blank gap ≡ true → list_all is_allowed gap ≡ true
blank_allowed [] h = refl
blank_allowed (b ∷ gap) h = let k = and_parts (is_blank b) (list_all is_blank gap) h in and_from (is_allowed b) (list_all is_allowed gap) (one b k.0) (blank_allowed gap k.1)
  where
    one : (b : ℕ) → is_blank b ≡ true → is_allowed b ≡ true
    one b h = grind (arith, nat_tests)

piece_fits : (before rest : List ℕ) (n : ℕ) (k : Kind) (p : Piece) → kind_of k p.text ≡ p.kind → Fits (before ++ (p.text ++ rest)) (lexeme_of n (before ++ (p.text ++ rest)) (token_at k (length before) p.text)) p
piece_fits before rest n k p e =
    let i = at_place before p.text rest (before ++ (p.text ++ rest)) (length before) refl refl in
    record { kind = ap (kind_of k) i ∙ e; spells = i; len = refl }

-- with a token more in front
lexed_more : (before : List ℕ) (k : Kind) (p : Piece) (ps : List Piece) → IsLongest k p.text (p.gap ++ flat ps) → kind_of k p.text ≡ p.kind → list_all is_allowed p.text ≡ true → list_all is_blank p.gap ≡ true
    → Lexed (before ++ (p.text ++ p.gap)) ps → Lexed before (p ∷ ps)
lexed_more before k p ps l e a g x =
    let bytes = before ++ ((p.text ++ p.gap) ++ flat ps) in
    let whole : (before ++ (p.text ++ p.gap)) ++ flat ps ≡ bytes = append_assoc before (p.text ++ p.gap) (flat ps) in
    let inner : p.text ++ (p.gap ++ flat ps) ≡ (p.text ++ p.gap) ++ flat ps = sym (append_assoc p.text p.gap (flat ps)) in
    let at' : length (before ++ (p.text ++ p.gap)) ≡ length before + length p.text + length p.gap = omega (arith, length-append before (p.text ++ p.gap), length-append p.text p.gap) in
    let r : Lexes (length before + length p.text + length p.gap) (flat ps) x.tokens (length bytes) [] =
    subst (λ (m : ℕ). Lexes m (flat ps) x.tokens (length bytes) []) at' (subst (λ b. Lexes (length (before ++ (p.text ++ p.gap))) (flat ps) x.tokens (length b) []) whole x.reads) in
    let t : Lexes (length before) (p.text ++ (p.gap ++ flat ps)) (token_at k (length before) p.text ∷ x.tokens) (length bytes) [] =
    token k p.text (p.gap ++ flat ps) l (blanks_read p.gap (flat ps) (length before + length p.text) (length bytes) x.tokens g r) in
    record {
      tokens = token_at k (length before) p.text ∷ x.tokens;
      reads = subst (λ b. Lexes (length before) b (token_at k (length before) p.text ∷ x.tokens) (length bytes) []) inner t;
      spelled = λ n. (
        subst (λ b. Fits (before ++ b) (lexeme_of n (before ++ b) (token_at k (length before) p.text)) p) inner (piece_fits before (p.gap ++ flat ps) n k p e),
        subst (λ b. Spelled b (lexemes_from (n + 1) b x.tokens) ps) whole (x.spelled (n + 1)),
      );
      allowed = allowed_joined (p.text ++ p.gap) (flat ps) (allowed_joined p.text p.gap a (blank_allowed p.gap g)) x.allowed;
    }

lexed_by : (before : List ℕ) (ps qs : List Piece) → Sounds ps → ((b : List ℕ) → Lexed b qs) → Lexed before (ps ++ qs)
lexed_by before [] qs s x = x before
lexed_by before (p ∷ ps) qs s x =
    let b = base_of p ps s.0 in
    lexed_more before b.token p (ps ++ qs) (b.longest (flat (ps ++ qs))) b.is b.allowed b.gaps (lexed_by (before ++ (p.text ++ p.gap)) ps qs s.1 x)

lexed_last : (p : Piece) → Last p → (before : List ℕ) → Lexed before (p ∷ [])
lexed_last p h before =
    let l : IsLongest kind.OpenBlock p.text (p.gap ++ []) = subst (λ r. IsLongest kind.OpenBlock p.text (r ++ [])) (sym h.gap) h.longest in
    lexed_more before kind.OpenBlock p [] l (sym h.kind) h.allowed (ap (list_all is_blank) h.gap) (lexed_none (before ++ (p.text ++ p.gap)))

-- the pieces of a whole script are tokens
pub lexed : (ps : List Piece) → Sounds ps ⊎ Ended ps → Lexed [] ps
lexed ps (inl s) = subst (Lexed []) (append-nil ps) (lexed_by [] ps [] s lexed_none)
lexed ps (inr e) = subst (Lexed []) (sym e.2) (lexed_by [] e.0 (e.1 ∷ []) e.3 (lexed_last e.1 e.4))

-- the kinds of the tokens are those of the pieces
pub kinds_spelled : (text : List ℕ) (ls : List Lexeme) (ps : List Piece) → Spelled text ls ps → kinds ls ≡ marks ps
kinds_spelled text [] [] s = refl
kinds_spelled text (l ∷ ls) (p ∷ ps) s = ap (λ r. r ∷ kinds ls) s.0.kind ∙ ap (λ r. p.kind ∷ r) (kinds_spelled text ls ps s.1)
kinds_spelled text [] (p ∷ ps) s = absurd s
kinds_spelled text (l ∷ ls) [] s = absurd s

-- Tokens that pass no limit of their own.
size_true : (a b : Bool) → (a && not b) ≡ false → a ≡ true → b ≡ true
size_true true true h k = refl
size_true true false h k = cc
size_true false b h k = cc

triple_good : (bytes : List ℕ) (l : Lexeme) (ls : List Lexeme) → size_passes bytes (l ∷ ls) ≡ [] → Triple (Good bytes).three_good l ls
triple_good bytes l [] h = tt
triple_good bytes l (b ∷ []) h = tt
triple_good bytes l (b ∷ c ∷ ls) h =
    λ k. size_true (is_size_of l.kind b.kind c.kind) (is_size (number_from 0 (spelling bytes c))) (never_when (is_size_of l.kind b.kind c.kind && not (is_size (number_from 0 (spelling bytes c)))) (at_token limit.Text c.number) h) k

pub all_good : (bytes : List ℕ) (ls : List Lexeme) → AllMeant bytes ls → token_passes bytes ls ≡ [] → AllGood (Good bytes) ls
unfolding token_passes
all_good bytes [] m h = tt
all_good bytes (l ∷ ls) m h =
    let two = nothing_left (own_passes l.kind (spelling bytes l) l.number ++ size_passes bytes (l ∷ ls)) (token_passes bytes ls) h in
    let one = nothing_left (own_passes l.kind (spelling bytes l) l.number) (size_passes bytes (l ∷ ls)) two.0 in
    ((m.0, one.0), triple_good bytes l ls one.1, all_good bytes ls m.1 two.1)

-- and so for printed tokens
no_type : (a b c : Terminal) → is_type a ≡ false → is_size_of a b c ≡ false
no_type word.Text b c h = cc
no_type a b c h = refl

and_true : (a b : Bool) → b ≡ true → (a && not b) ≡ false
and_true true b h = rw h refl
and_true false b h = refl

size_none : (text : List ℕ) (l : Lexeme) (ls : List Lexeme) (p : Piece) (ps qs : List Piece) → Fits text l p → Spelled text ls (ps ++ qs) → Sounded p ps → size_passes text (l ∷ ls) ≡ []
size_none text l [] p ps qs f s h = refl
size_none text l (b ∷ []) p ps qs f s h = refl
size_none text l (b ∷ c ∷ ls) p ps qs f s (inl h) =
    none_when (is_size_of l.kind b.kind c.kind && not (is_size (number_from 0 (spelling text c)))) (at_token limit.Text c.number)
    (and_left (is_size_of l.kind b.kind c.kind) (not (is_size (number_from 0 (spelling text c)))) (no_type l.kind b.kind c.kind (ap is_type f.kind ∙ h.plain)))
size_none text l (b ∷ c ∷ ls) p [] qs f s (inr h) = absurd h.1
size_none text l (b ∷ c ∷ ls) p (q ∷ []) qs f s (inr h) = absurd h.1
size_none text l (b ∷ c ∷ ls) p (q ∷ r ∷ ps) qs f s (inr h) =
    none_when (is_size_of l.kind b.kind c.kind && not (is_size (number_from 0 (spelling text c)))) (at_token limit.Text c.number)
    (and_true (is_size_of l.kind b.kind c.kind) (is_size (number_from 0 (spelling text c))) (ap (λ t. is_size (number_from 0 t)) s.1.0.spells ∙ h.1))

own_none : (text : List ℕ) (l : Lexeme) (p : Piece) → Fits text l p → ((n : ℕ) → own_passes p.kind p.text n ≡ []) → own_passes l.kind (spelling text l) l.number ≡ []
own_none text l p f h = subst (λ k. own_passes k (spelling text l) l.number ≡ []) (sym f.kind) (subst (λ t. own_passes p.kind t l.number ≡ []) (sym f.spells) (h l.number))

joined_none : {A : Type 0} (xs ys zs : List A) → xs ≡ [] → ys ≡ [] → zs ≡ [] → (xs ++ ys) ++ zs ≡ []
joined_none xs ys zs h k l = rw (h, k, l) refl

passes_by : (text : List ℕ) (ps qs : List Piece) (ls : List Lexeme) → Sounds ps → ((ls : List Lexeme) → Spelled text ls qs → token_passes text ls ≡ []) → Spelled text ls (ps ++ qs) → token_passes text ls ≡ []
unfolding token_passes
passes_by text [] qs ls s x z = x ls z
passes_by text (p ∷ ps) qs [] s x z = absurd z
passes_by text (p ∷ ps) qs (l ∷ ls) s x z =
    joined_none (own_passes l.kind (spelling text l) l.number) (size_passes text (l ∷ ls)) (token_passes text ls)
    (own_none text l p z.0 (base_of p ps s.0).own) (size_none text l ls p ps qs z.0 z.1 s.0) (passes_by text ps qs ls s.1 x z.1)

last_passes : (text : List ℕ) (p : Piece) (ls : List Lexeme) → Last p → Spelled text ls (p ∷ []) → token_passes text ls ≡ []
unfolding token_passes
last_passes text p [] h z = absurd z
last_passes text p (l ∷ []) h z = joined_none (own_passes l.kind (spelling text l) l.number) [] [] (subst (λ k. own_passes k (spelling text l) l.number ≡ []) (sym (z.0.kind ∙ h.kind)) refl) refl refl
last_passes text p (l ∷ m ∷ ls) h z = absurd z.1

none_passes : (text : List ℕ) (ls : List Lexeme) → Spelled text ls [] → token_passes text ls ≡ []
unfolding token_passes
none_passes text [] z = refl
none_passes text (l ∷ ls) z = absurd z

pub passes_none : (text : List ℕ) (ps : List Piece) (ls : List Lexeme) → Sounds ps ⊎ Ended ps → Spelled text ls ps → token_passes text ls ≡ []
passes_none text ps ls (inl s) z = passes_by text ps [] ls s (none_passes text) (subst (Spelled text ls) (sym (append-nil ps)) z)
passes_none text ps ls (inr e) z = passes_by text e.0 (e.1 ∷ []) ls e.3 (λ ms y. last_passes text e.1 ms e.4 y) (subst (Spelled text ls) e.2 z)

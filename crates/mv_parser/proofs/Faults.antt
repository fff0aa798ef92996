-- The token that a fault names.
use Rattle.std.proofs.Common.{◌≡◌, ◌⊎◌, inl, inr, ℕ, ◌+◌, ◌-◌, ◌≤◌, List, [], ◌∷◌, ◌++◌, Option, Some, None, Result, Ok, Err, length, take, drop, refl, sym, ap, subst, ◌∙◌, arith, length-append}
use Rattle.std.specs.Prelude.{IfOk, MatchResult}
use Rattle.std.proofs.Math.Seq.{take-append_seam}
use Rattle.std.proofs.lemmas.Bool.{cases_lt}
use Rattle.std.proofs.lemmas.List.{take-append-drop, take-append-le, length-drop}
use Rattle.std.proofs.lemmas.Option.{none-some}
use Rattle.mv_lex.specs.declared.token.Token.{Token}
use Rattle.mv_ast.specs.declared.lexeme.Lexeme.{Lexeme}
use Rattle.mv_ast.specs.declared.tree.Script.{Script}
use Rattle.mv_ast.specs.Parts.{Is, Begins}
use Rattle.mv_ast.specs.Grammar.{script, inner}
use Rattle.mv_ast.specs.Lexemes.{lexemes, IsByGrammar, IsScript, PassesLimit, BeginScript, CannotStand}
use Rattle.mv_ast.specs.Limits.{at_token, first_early, first_late}
use Rattle.mv_ast.specs.declared.limit.PassedLimit.{PassedLimit}
use Rattle.mv_ast.specs.declared.limit.Which.{Which}
use Rattle.mv_parser.specs.declared.fault.ParseFault.{ParseFault}
use Rattle.mv_parser.specs.declared.fault.ParseFault.TheVariants.{Syntax, Limit, NoMemory}
use Rattle.mv_parser.specs.Reading.{inside, read}
use Rattle.mv_parser.specs.Whole.{whole, parsed, ParsesTo}
use Rattle.mv_parser.proofs.Basics.{bind_err}
use Rattle.mv_parser.proofs.Stops.{IsStop, stops}
use Rattle.mv_parser.proofs.Begun.{whole_begins}
use Rattle.mv_parser.proofs.ReadsOn.{Past, reads_on}
use Rattle.mv_parser.proofs.Shorter.{shorter}
use Rattle.mv_parser.proofs.Whole.{script_takes, script_clear}
use Rattle.mv_parser.proofs.Levels.{level, inner_begun, inner_shorter}
use Rattle.mv_parser.proofs.Enough.{enough, enough_begin}
use Rattle.mv_parser.proofs.Parsing.{answers_found, same_answer, no_fault}
use Rattle.mv_ast.proofs.Counting.{length_lexemes}

whole_err : {A : Type 0} (v : A) (ts : List Lexeme) (n : ℕ) → whole v ts ≡ Err n → length ts ≡ n
whole_err v [] n h = cc
whole_err {A = A} v (l ∷ ts) n h = let same : ◌≡◌ {A = Result A ℕ} (Err (length (l ∷ ts))) (Err n) = h in cc

abbrev pub Begin : List ℕ → ℕ → List Lexeme → Type 0
Begin bytes d ts = Begins (inner bytes d) (script bytes) ts

-- the tokens before a fault begin a script
pub script_stops : (bytes : List ℕ) (d : ℕ) (ts : List Lexeme) (n : ℕ) → parsed bytes d ts ≡ Err n → IsStop (Begin bytes d) ts n
script_stops bytes d ts n h =
    elim (bind_err (read (inside bytes d) (script bytes) ts) (λ x. whole x.0 x.1) n h) [
      | inl e ↦ stops (inner bytes d) (inside bytes d) (level bytes d).takes (level bytes d).stops (script bytes) ts n e
      | inr x ↦ (
          let i = script_takes bytes d ts x.0.0 x.0.1 x.1 in
          (i.0, x.0.1, i.1, whole_err x.0.0 x.0.1 n x.2, whole_begins (inner bytes d) (inner_begun bytes d) (script bytes) i.0 x.0.0 i.2))
    ]

-- a fault lies behind each front that begins a script
script_on : (bytes : List ℕ) (d : ℕ) (front post : List Lexeme) (n : ℕ) → Begin bytes d front → parsed bytes d (front ++ post) ≡ Err n → n ≤ length post
script_on bytes d front post n b h =
    let p = reads_on (inner bytes d) (inside bytes d) (level bytes d) (script bytes) (script_clear bytes) front b post in
    elim (bind_err (read (inside bytes d) (script bytes) (front ++ post)) (λ x. whole x.0 x.1) n h) [
      | inl e ↦ subst (Past {A = Script} (length post)) e p
      | inr x ↦ (
          let q : length x.0.1 ≤ length post = subst (Past {A = Script} (length post)) x.1 p in
          let same = whole_err x.0.0 x.0.1 n x.2 in
          omega arith)
    ]

on_front : (bytes : List ℕ) (d m : ℕ) (ts : List Lexeme) (n : ℕ) → Begin bytes d (take m ts) → parsed bytes d ts ≡ Err n → n ≤ length ts - m
on_front bytes d m ts n b h =
    let r = script_on bytes d (take m ts) (drop m ts) n b (ap (parsed bytes d) (take-append-drop m ts) ∙ h) in
    omega (arith, length-drop m ts)

stands_before : (bytes : List ℕ) (d : ℕ) (ts : List Lexeme) (n : ℕ) → parsed bytes d ts ≡ Err n → (n ≤ length ts) × Begin bytes d (take (length ts - n) ts)
stands_before bytes d ts n h =
    let i = script_stops bytes d ts n h in
    let len : length ts ≡ length i.0 + length i.1 = ap length i.2 ∙ length-append i.0 i.1 in
    let count : length ts - n ≡ length i.0 = omega (arith, i.3) in
    let front : take (length ts - n) ts ≡ i.0 = ap (λ k. take k ts) count ∙ (ap (take (length i.0)) i.2 ∙ take-append_seam i.0 i.1) in
    (omega (arith, i.3), subst (Begin bytes d) (sym front) i.4)

front_within : (m : ℕ) (ts : List Lexeme) → length (take m ts) ≤ length ts
front_within m ts = omega (arith, ap length (take-append-drop m ts), length-append (take m ts) (drop m ts))

-- reading all of the tokens, to as many levels as there are tokens
abbrev pub reading : List ℕ → List Token → Result Script ℕ
reading bytes tokens = parsed bytes (length (lexemes bytes tokens)) (lexemes bytes tokens)

-- as many levels as there are tokens are enough
front_begins : (bytes : List ℕ) (tokens : List Token) (t : ℕ) → BeginScript bytes tokens t → Begin bytes (length (lexemes bytes tokens)) (take t (lexemes bytes tokens))
front_begins bytes tokens t b = let ts = lexemes bytes tokens in enough_begin bytes b.0 (length ts) (take t ts) (front_within t ts) b.1

all_is : (bytes : List ℕ) (tokens : List Token) (s : Script) → IsByGrammar bytes tokens s
    → Is (inner bytes (length (lexemes bytes tokens))) (script bytes) (lexemes bytes tokens) s
all_is bytes tokens s i = let ts = lexemes bytes tokens in enough bytes i.0 (length ts) ts s (omega arith) i.1

-- what is read is a script by the grammar, and only that
read_is : (bytes : List ℕ) (tokens : List Token) (s : Script) → reading bytes tokens ≡ Ok s → IsByGrammar bytes tokens s
read_is bytes tokens s h = let ts = lexemes bytes tokens in (length ts, answers_found bytes (length ts) ts s h)

same_script : (bytes : List ℕ) (tokens : List Token) (s x : Script) → IsByGrammar bytes tokens s → reading bytes tokens ≡ Ok x → x ≡ s
same_script bytes tokens s x i h = let ts = lexemes bytes tokens in same_answer bytes (length ts) ts s x (all_is bytes tokens s i) h

no_stop : (bytes : List ℕ) (tokens : List Token) (s : Script) (left : ℕ) → IsByGrammar bytes tokens s → reading bytes tokens ≡ Err left → ⊥
no_stop bytes tokens s left i h = let ts = lexemes bytes tokens in no_fault bytes (length ts) ts s left (all_is bytes tokens s i) h

names_token : (bytes : List ℕ) (tokens : List Token) (left t : ℕ) → first_early (lexemes bytes tokens) ≡ None → reading bytes tokens ≡ Err left
    → t ≡ length (lexemes bytes tokens) - left + 1 → CannotStand bytes tokens t
names_token bytes tokens left t early h is =
    let ts = lexemes bytes tokens in
    let d = length ts in
    let len : length ts ≡ length tokens = length_lexemes 1 bytes tokens in
    let b = stands_before bytes d ts left h in
    let within = b.0 in
    let place : length ts - left ≡ t - 1 = omega arith in
    record {
      early = early;
      counted = (omega arith, omega arith);
      before = (d, subst (λ k. Begin bytes d (take k ts)) place b.1);
      with_it = λ there begun. let further = on_front bytes d t ts left (front_begins bytes tokens t begun) h in omega arith;
      no_script = λ s i. no_stop bytes tokens s left i h;
    }

-- there is only one such token
one_token : (bytes : List ℕ) (tokens : List Token) (left t : ℕ) → reading bytes tokens ≡ Err left → CannotStand bytes tokens t → t ≡ length (lexemes bytes tokens) - left + 1
one_token bytes tokens left t h c =
    let ts = lexemes bytes tokens in
    let d = length ts in
    let len : length ts ≡ length tokens = length_lexemes 1 bytes tokens in
    let counted = c.counted in
    let behind = on_front bytes d (t - 1) ts left (front_begins bytes tokens (t - 1) c.before) h in
    let i = script_stops bytes d ts left h in
    let split : length ts ≡ length i.0 + length i.1 = ap length i.2 ∙ length-append i.0 i.1 in
    let last = i.3 in
    elim (cases_lt (length i.0) t) [
      | inl after ↦ omega arith
      | inr before ↦ (
          let front : take t ts ≡ take t i.0 = ap (take t) i.2 ∙ take-append-le t i.0 i.1 before in
          let begun : Begin bytes d (take t i.0) =
          shorter (inner bytes d) (inner_begun bytes d) (inner_shorter bytes d) (script bytes) i.0 (take t i.0) (drop t i.0) i.4 (sym (take-append-drop t i.0)) in
          absurd (c.with_it (omega arith) (d, subst (Begin bytes d) (sym front) begun)))
    ]

-- what follows from what is told
abbrev pub IsTold : List ℕ → List Token → Result Script ParseFault → Type 0
IsTold bytes tokens r = ParsesTo bytes (lexemes bytes tokens) (reading bytes tokens) r

same_passed : (o : Option PassedLimit) (v w : Which) (k token : ℕ) → o ≡ Some (at_token v k) → o ≡ Some (at_token w token) → (v ≡ w) × (k ≡ token)
same_passed o v w k token h i = let e : at_token v k ≡ at_token w token = cc in (ap (λ (p : PassedLimit). p.which) e, ap (λ (p : PassedLimit). p.token) e)

pub tells_found : (bytes : List ℕ) (tokens : List Token) (r : Result Script ParseFault) → IsTold bytes tokens r → IfOk r (λ s. IsScript bytes tokens s)
tells_found bytes tokens (Ok s) t = record { grammar = read_is bytes tokens s t.1; early = t.0; late = t.2 }
tells_found bytes tokens (Err e) t = tt

pub tells_only : (bytes : List ℕ) (tokens : List Token) (r : Result Script ParseFault) → IsTold bytes tokens r
    → (s : Script) → IsScript bytes tokens s → MatchResult r (λ answer. answer ≡ s) (λ fault. fault ≡ NoMemory)
tells_only bytes tokens (Ok x) t s i = same_script bytes tokens s x i.grammar t.1
tells_only bytes tokens (Err NoMemory) t s i = refl
tells_only bytes tokens (Err (Syntax k)) t s i = absurd (no_stop bytes tokens s t.1 i.grammar t.2)
tells_only bytes tokens (Err (Limit w k)) t s i =
    elim t [
      | inl p ↦ absurd (none-some (at_token w k) (sym i.early ∙ p))
      | inr p ↦ absurd (none-some (at_token w k) (sym i.late ∙ (subst (λ x. first_late bytes (lexemes bytes tokens) x ≡ Some (at_token w k)) (same_script bytes tokens s p.1 i.grammar p.2) p.3)))
    ]

pub tells_syntax : (bytes : List ℕ) (tokens : List Token) (r : Result Script ParseFault) → IsTold bytes tokens r
    → (token : ℕ) → r ≡ Err (Syntax token) → CannotStand bytes tokens token
tells_syntax bytes tokens (Ok x) t token h = cc
tells_syntax bytes tokens (Err NoMemory) t token h = cc
tells_syntax bytes tokens (Err (Syntax k)) t token h = let same : k ≡ token = cc in subst (CannotStand bytes tokens) same (names_token bytes tokens t.1 k t.0 t.2 t.3)
tells_syntax bytes tokens (Err (Limit w k)) t token h = cc

pub tells_syntax_told : (bytes : List ℕ) (tokens : List Token) (r : Result Script ParseFault) → IsTold bytes tokens r
    → (token : ℕ) → CannotStand bytes tokens token → (r ≡ Err (Syntax token)) ⊎ (r ≡ Err NoMemory)
tells_syntax_told bytes tokens (Ok x) t token c = absurd (c.no_script x (read_is bytes tokens x t.1))
tells_syntax_told bytes tokens (Err NoMemory) t token c = inr refl
tells_syntax_told bytes tokens (Err (Syntax k)) t token c = inl (ap (λ n. Err (Syntax n)) (t.3 ∙ sym (one_token bytes tokens t.1 token t.2 c)))
tells_syntax_told bytes tokens (Err (Limit w k)) t token c =
    elim t [
      | inl p ↦ absurd (none-some (at_token w k) (sym c.early ∙ p))
      | inr p ↦ absurd (c.no_script p.1 (read_is bytes tokens p.1 p.2))
    ]

pub tells_limit : (bytes : List ℕ) (tokens : List Token) (r : Result Script ParseFault) → IsTold bytes tokens r
    → (which : Which) (token : ℕ) → r ≡ Err (Limit which token) → PassesLimit bytes tokens which token
tells_limit bytes tokens (Ok x) t which token h = cc
tells_limit bytes tokens (Err NoMemory) t which token h = cc
tells_limit bytes tokens (Err (Syntax k)) t which token h = cc
tells_limit bytes tokens (Err (Limit w k)) t which token h =
    let same_which : w ≡ which = cc in
    let same_token : k ≡ token = cc in
    subst (λ v. PassesLimit bytes tokens v token) same_which (subst (λ n. PassesLimit bytes tokens w n) same_token
    (elim t [
      | inl p ↦ inl p
      | inr p ↦ inr (p.0, p.1, read_is bytes tokens p.1 p.2, p.3)
    ]))

told_limit : (bytes : List ℕ) (tokens : List Token) (o : Option PassedLimit) (w which : Which) (k token : ℕ) → o ≡ Some (at_token w k) → o ≡ Some (at_token which token)
    → ◌≡◌ {A = Result Script ParseFault} (Err (Limit w k)) (Err (Limit which token))
told_limit bytes tokens o w which k token h i = let same = same_passed o w which k token h i in rw (same.0, same.1) refl

pub tells_limit_told : (bytes : List ℕ) (tokens : List Token) (r : Result Script ParseFault) → IsTold bytes tokens r
    → (which : Which) (token : ℕ) → PassesLimit bytes tokens which token → (r ≡ Err (Limit which token)) ⊎ (r ≡ Err NoMemory)
tells_limit_told bytes tokens (Ok x) t which token c =
    elim c [
      | inl q ↦ absurd (none-some (at_token which token) (sym t.0 ∙ q))
      | inr q ↦ absurd (none-some (at_token which token) (sym t.2 ∙ (subst (λ s. first_late bytes (lexemes bytes tokens) s ≡ Some (at_token which token)) (sym (same_script bytes tokens q.1 x q.2 t.1)) q.3)))
    ]
tells_limit_told bytes tokens (Err NoMemory) t which token c = inr refl
tells_limit_told bytes tokens (Err (Syntax k)) t which token c =
    elim c [
      | inl q ↦ absurd (none-some (at_token which token) (sym t.0 ∙ q))
      | inr q ↦ absurd (no_stop bytes tokens q.1 t.1 q.2 t.2)
    ]
tells_limit_told bytes tokens (Err (Limit w k)) t which token c =
    elim t [
      | inl p ↦ elim c [
        | inl q ↦ inl (told_limit bytes tokens (first_early (lexemes bytes tokens)) w which k token p q)
        | inr q ↦ absurd (none-some (at_token w k) (sym q.0 ∙ p))
      ]
      | inr p ↦ elim c [
        | inl q ↦ absurd (none-some (at_token which token) (sym p.0 ∙ q))
        | inr q ↦ inl (told_limit bytes tokens (first_late bytes (lexemes bytes tokens) p.1) w which k token p.3
            (subst (λ s. first_late bytes (lexemes bytes tokens) s ≡ Some (at_token which token)) (sym (same_script bytes tokens q.1 p.1 q.2 p.2)) q.3))
      ]
    ]

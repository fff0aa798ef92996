-- One piece of an input after another.
use Rattle.std.proofs.Common.{◌≡◌, ◌⊎◌, inl, inr, ℕ, ◌+◌, ◌<◌, ◌≤◌, true, ◌==◌, ◌&&◌, ◌||◌, List, [], ◌∷◌, ◌++◌, Option, Some, None, length, refl, sym, ap, ◌∙◌, arith}
use Rattle.std.specs.List.{list_all}
use Rattle.std.proofs.lemmas.Bool.{and_parts, or_cases, eqb-true, not-false, not_from_true, cases_lt}
use Rattle.mv_lex.specs.Bytes.{is_blank, is_in_line}
use Rattle.mv_lex.specs.Spelling.{IsSpelled}
use Rattle.mv_lex.specs.Tokens.{IsLongest, ends_line}
use Rattle.mv_lex.specs.Reading.{token_of, gap_len, piece_from, piece_of, found}
use Rattle.mv_lex.specs.declared.token.Kind.{Kind}
use Rattle.mv_lex.specs.declared.token.Kind.TheVariants.{Word, Number, Text, Variable, Symbol, Block, OpenBlock}
use Rattle.mv_lex.specs.declared.piece.Piece.TheVariants.{Gap, Found as Token_found}
use Rattle.mv_lex.proofs.Runs.{Stops, run_exact}
use Rattle.mv_lex.proofs.Fronts.{same_token, chosen, token_takes, token_found}

-- a token has a byte
has_byte : (kind : Kind) (after : List ℕ) → IsSpelled kind [] after → ⊥
has_byte Word after h = cc
has_byte Number after h = cc
has_byte Text after h = let e = h.written in cc
has_byte Variable after h = cc
has_byte Symbol after h = cc
has_byte Block after h = let e = h.written in cc
has_byte OpenBlock after (inl h, e) = let e' = h.written in cc
has_byte OpenBlock after (inr h, e) = let e' = h.written in cc

pub some_bytes : (kind : Kind) (text after : List ℕ) → IsSpelled kind text after → 0 < length text
some_bytes kind [] after h = absurd (has_byte kind after h)
some_bytes kind (b ∷ text) after h = omega arith

-- the token that is found is the longest
pub found_longest : (kind : Kind) (n : ℕ) (text after : List ℕ) → token_of (text ++ after) ≡ Some (kind, n) → n ≡ length text → IsSpelled kind text after → IsLongest kind text after
found_longest kind n text after h e s = record {
  spelled = s;
  longest = λ other front rest same longer spelled.
      (let f = token_found other front rest spelled in
      let i = f.is in
      let p = same_token other kind f.len n (sym i ∙ (ap token_of same ∙ h)) in
      let q = p.1 in
      let r = f.reaches in
      omega arith);
}

longest_by : (kind : Kind) (len : ℕ) (text after front rest : List ℕ) → text ++ after ≡ front ++ rest → len ≡ length front → IsSpelled kind front rest
    → IsLongest kind text after → token_of (text ++ after) ≡ Some (kind, len) → length text ≤ len → token_of (text ++ after) ≡ Some (kind, length text)
longest_by kind len text after front rest e c s l h r =
    elim (cases_lt (length text) (length front)) [
      | inl lt ↦ absurd (l.longest kind front rest (sym e) lt s)
      | inr ge ↦ (let same : len ≡ length text = omega arith in h ∙ ap (λ n. Some (kind, n)) same)
    ]

-- and the longest is found
pub longest_found : (kind : Kind) (text after : List ℕ) → IsLongest kind text after → token_of (text ++ after) ≡ Some (kind, length text)
longest_found kind text after l =
    let f = token_found kind text after l.spelled in
    let t = token_takes kind f.len (text ++ after) f.is in
    longest_by kind f.len text after t.text t.after t.splits t.count t.spelled l f.is f.reaches

pub none_found : (bytes : List ℕ) → token_of bytes ≡ None → (kind : Kind) (text rest : List ℕ) → text ++ rest ≡ bytes → IsSpelled kind text rest → ⊥
none_found bytes h kind text rest e s = let f = token_found kind text rest s in let i = f.is in let j = ap token_of e in cc

-- where a blank or a comment begins, no token does
blank_first : (b : ℕ) (bytes : List ℕ) → (b ≡ 9) ⊎ ((b ≡ 10) ⊎ ((b ≡ 13) ⊎ (b ≡ 32))) → token_of (b ∷ bytes) ≡ None
unfolding token_of
blank_first b [] (inl e) = rw e refl
blank_first b [] (inr (inl e)) = rw e refl
blank_first b [] (inr (inr (inl e))) = rw e refl
blank_first b [] (inr (inr (inr e))) = rw e refl
blank_first b (c ∷ bytes) (inl e) = rw e refl
blank_first b (c ∷ bytes) (inr (inl e)) = rw e refl
blank_first b (c ∷ bytes) (inr (inr (inl e))) = rw e refl
blank_first b (c ∷ bytes) (inr (inr (inr e))) = rw e refl

pub blank_cases : (b : ℕ) → is_blank b ≡ true → (b ≡ 9) ⊎ ((b ≡ 10) ⊎ ((b ≡ 13) ⊎ (b ≡ 32)))
blank_cases b h =
    elim (or_cases (b == 9 || b == 10 || b == 13) (b == 32) h) [
      | inr e ↦ inr (inr (inr (eqb-true b 32 e)))
      | inl g ↦ elim (or_cases (b == 9 || b == 10) (b == 13) g) [
        | inr e ↦ inr (inr (inl (eqb-true b 13 e)))
        | inl f ↦ elim (or_cases (b == 9) (b == 10) f) [ inl e ↦ inl (eqb-true b 9 e) | inr e ↦ inr (inl (eqb-true b 10 e)) ]
      ]
    ]

comment_first : (a b : ℕ) (bytes : List ℕ) → (a ≡ 45) × (b ≡ 45) → token_of (a ∷ b ∷ bytes) ≡ None
unfolding token_of
comment_first a b bytes e = rw (e.0, e.1) refl

pub dashes : (a b : ℕ) → (a == 45 && b == 45) ≡ true → (a ≡ 45) × (b ≡ 45)
dashes a b h = let p = and_parts (a == 45) (b == 45) h in (eqb-true a 45 p.0, eqb-true b 45 p.1)

gap_no_token : (n : ℕ) (bytes : List ℕ) → gap_len bytes ≡ Some n → token_of bytes ≡ None
gap_no_token n [] h = cc
gap_no_token n (b ∷ []) h =
    elim (chosen (is_blank b) _ _ _ h) [ inl p ↦ blank_first b [] (blank_cases b p.0) | inr p ↦ absurd (let q = p.1 in cc) ]
gap_no_token n (b ∷ c ∷ bytes) h =
    elim (chosen (is_blank b) _ _ _ h) [
      | inl p ↦ blank_first b (c ∷ bytes) (blank_cases b p.0)
      | inr p ↦ elim (chosen (b == 45 && c == 45) _ _ _ p.1) [ inl q ↦ comment_first b c bytes (dashes b c q.0) | inr q ↦ absurd (let r = q.1 in cc) ]
    ]

token_no_gap : (bytes : List ℕ) (kind : Kind) (n : ℕ) (gap : Option ℕ) → gap_len bytes ≡ gap → token_of bytes ≡ Some (kind, n) → gap ≡ None
token_no_gap bytes kind n None g h = refl
token_no_gap bytes kind n (Some m) g h = let e = gap_no_token m bytes g in cc

gap_blank : (b : ℕ) (bytes : List ℕ) → is_blank b ≡ true → gap_len (b ∷ bytes) ≡ Some 1
gap_blank b bytes h = rw h refl

-- the piece at each kind of front
pub piece_blank : (b : ℕ) (bytes : List ℕ) → is_blank b ≡ true → piece_of (b ∷ bytes) ≡ Gap 1
piece_blank b bytes h = ap (λ o. piece_from o (token_of (b ∷ bytes))) (gap_blank b bytes h)

ends_stop : (bytes : List ℕ) → ends_line bytes ≡ true → Stops is_in_line bytes
ends_stop [] h = tt
ends_stop (b ∷ bytes) h = not_from_true (b == 10) h

pub stop_ends : (bytes : List ℕ) → Stops is_in_line bytes → ends_line bytes ≡ true
stop_ends [] h = refl
stop_ends (b ∷ bytes) h = not-false (b == 10) h

pub piece_comment : (line bytes : List ℕ) → list_all is_in_line line ≡ true → ends_line bytes ≡ true → piece_of (45 ∷ 45 ∷ (line ++ bytes)) ≡ Gap (2 + length line)
piece_comment line bytes l e =
    let r = run_exact is_in_line line bytes l (ends_stop bytes e) in
    rw r refl

pub piece_token : (kind : Kind) (text after : List ℕ) → IsLongest kind text after → piece_of (text ++ after) ≡ Token_found kind (length text)
piece_token kind text after l =
    let t = longest_found kind text after l in
    let g = token_no_gap (text ++ after) kind (length text) (gap_len (text ++ after)) refl t in
    ap (λ o. piece_from o (token_of (text ++ after))) g ∙ ap found t

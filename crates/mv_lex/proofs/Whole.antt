-- The pieces of a whole input.
use Rattle.std.proofs.Common.{◌≡◌, inl, inr, ℕ, ◌+◌, ◌-◌, ◌<◌, ◌≤◌, Bool, true, false, ◌==◌, ◌&&◌, List, [], ◌∷◌, ◌++◌, Option, Some, None, length, take, drop, get_or, refl, sym, ap, subst, ◌∙◌, arith, append-nil, length-append, length-drop}
use Rattle.std.specs.List.{prefix_len}
use Rattle.std.proofs.lemmas.List.{drop_more, take_rest, drop-drop, drop_at}
use Rattle.mv_lex.specs.Bytes.{is_blank, is_in_line}
use Rattle.mv_lex.specs.Spelling.{IsSpelled}
use Rattle.mv_lex.specs.Tokens.{begins_comment, token_at, Lexes, stop, blank, comment, token, BeginsNothing}
use Rattle.mv_lex.specs.Reading.{token_of, gap_len, piece_from, piece_of, found}
use Rattle.mv_lex.specs.declared.token.Kind.{Kind}
use Rattle.mv_lex.specs.declared.token.Token.{Token}
use Rattle.mv_lex.specs.declared.piece.Piece.{Piece}
use Rattle.mv_lex.specs.declared.piece.Piece.TheVariants.{Gap, Found as Token_found, Nothing}
use Rattle.mv_lex.proofs.Runs.{run_of}
use Rattle.mv_lex.proofs.Fronts.{token_takes, chosen}
use Rattle.mv_lex.proofs.Pieces.{some_bytes, found_longest, none_found, piece_blank, piece_comment, piece_token, stop_ends, dashes}

-- one stretch after another
pub reads_on : {place middle end : ℕ} {bytes between rest : List ℕ} {tokens : List Token} (more : List Token)
    → Lexes place bytes tokens middle between → Lexes middle between more end rest → Lexes place bytes (tokens ++ more) end rest
reads_on more stop r = r
reads_on more (blank b s) r = blank b (reads_on more s r)
reads_on more (comment line bytes l e s) r = comment line bytes l e (reads_on more s r)
reads_on more (token kind text bytes l s) r = token kind text bytes l (reads_on more s r)

-- what comes next where nothing begins at the end
abbrev pub Next : ℕ → List ℕ → List Token → ℕ → List ℕ → Piece → Type 0
Next place bytes tokens end rest (Gap n) = Lexes (place + n) (drop n bytes) tokens end rest
Next place bytes tokens end rest (Token_found kind n) = (more : List Token) × (tokens ≡ record { kind = kind; at = place; len = n } ∷ more) × Lexes (place + n) (drop n bytes) more end rest
Next place bytes tokens end rest Nothing = (tokens ≡ []) × (place ≡ end) × (bytes ≡ rest)

next_at : (place end : ℕ) (bytes rest : List ℕ) (tokens : List Token) (p q : Piece) → p ≡ q → Next place bytes tokens end rest q → Next place bytes tokens end rest p
next_at place end bytes rest tokens p q e n = subst (λ x. Next place bytes tokens end rest x) (sym e) n

past_comment : (line bytes : List ℕ) → bytes ≡ drop (2 + length line) (45 ∷ 45 ∷ (line ++ bytes))
past_comment line bytes = sym (drop_at (45 ∷ 45 ∷ line) bytes (2 + length line) (omega arith))

past_token : (text bytes : List ℕ) → bytes ≡ drop (length text) (text ++ bytes)
past_token text bytes = sym (drop_at text bytes (length text) refl)

pub goes : {place end : ℕ} {bytes rest : List ℕ} {tokens : List Token} → Lexes place bytes tokens end rest → piece_of rest ≡ Nothing → Next place bytes tokens end rest (piece_of bytes)
goes (stop {place = place} {bytes = bytes}) h = next_at place place bytes bytes [] (piece_of bytes) Nothing h (refl, refl, refl)
goes (blank {place = place} {end = end} {b = b} {bytes = bytes} {rest = rest} {tokens = tokens} i s) h =
    next_at place end (b ∷ bytes) rest tokens (piece_of (b ∷ bytes)) (Gap 1) (piece_blank b bytes i) s
goes (comment {place = place} {end = end} {rest = rest} {tokens = tokens} line bytes l e s) h =
    next_at place end (45 ∷ 45 ∷ (line ++ bytes)) rest tokens (piece_of (45 ∷ 45 ∷ (line ++ bytes))) (Gap (2 + length line)) (piece_comment line bytes l e)
    (subst (λ xs. Lexes (place + (2 + length line)) xs tokens end rest) (past_comment line bytes) s)
goes (token {place = place} {end = end} {rest = rest} {tokens = tokens} kind text bytes l s) h =
    next_at place end (text ++ bytes) rest (token_at kind place text ∷ tokens) (piece_of (text ++ bytes)) (Token_found kind (length text)) (piece_token kind text bytes l)
    (tokens, refl, subst (λ xs. Lexes (place + length text) xs tokens end rest) (past_token text bytes) s)

-- of two readings, the one that goes to where nothing begins goes on from the other
abbrev pub TokensGoOn : List Token → ℕ → List ℕ → List Token → ℕ → List ℕ → Type 0
TokensGoOn tokens end rest all last over = (more : List Token) × (all ≡ tokens ++ more) × Lexes end rest more last over

pub goes_on : {place end : ℕ} {bytes rest : List ℕ} {tokens : List Token} (all : List Token) (last : ℕ) (over : List ℕ)
    → Lexes place bytes tokens end rest → Lexes place bytes all last over → piece_of over ≡ Nothing → TokensGoOn tokens end rest all last over
goes_on all last over stop r h = (all, refl, r)
goes_on all last over (blank {place = place} {b = b} {bytes = bytes} i s) r h =
    let n = subst (λ x. Next place (b ∷ bytes) all last over x) (piece_blank b bytes i) (goes r h) in
    goes_on all last over s n h
goes_on all last over (comment {place = place} line bytes l e s) r h =
    let n = subst (λ x. Next place (45 ∷ 45 ∷ (line ++ bytes)) all last over x) (piece_comment line bytes l e) (goes r h) in
    goes_on all last over s (subst (λ xs. Lexes (place + (2 + length line)) xs all last over) (sym (past_comment line bytes)) n) h
goes_on all last over (token {place = place} kind text bytes l s) r h =
    let n = subst (λ x. Next place (text ++ bytes) all last over x) (piece_token kind text bytes l) (goes r h) in
    let m = goes_on n.0 last over s (subst (λ xs. Lexes (place + length text) xs n.0 last over) (sym (past_token text bytes)) n.2) h in
    (m.0, n.1 ∙ ap (λ ts. token_at kind place text ∷ ts) m.1, m.2)

-- a whole reading is the only one
pub one_reading : {place end last : ℕ} {bytes rest over : List ℕ} {tokens all : List Token} → Lexes place bytes tokens end rest → piece_of rest ≡ Nothing
    → Lexes place bytes all last over → piece_of over ≡ Nothing → (all ≡ tokens) × (end ≡ last) × (rest ≡ over)
one_reading {end = end} {last = last} {rest = rest} {over = over} {tokens = tokens} {all = all} s h r i =
    let g = goes_on all last over s r i in
    let n = subst (λ x. Next end rest g.0 last over x) h (goes g.2 i) in
    (g.1 ∙ (ap (λ ts. tokens ++ ts) n.0 ∙ append-nil tokens), n.1, n.2)

-- where nothing begins
begins_none : (b : ℕ) (bytes : List ℕ) → BeginsNothing (b ∷ bytes) → gap_len (b ∷ bytes) ≡ None
begins_none b bytes n = rw (n.0, n.1) refl

token_none : (bytes : List ℕ) (o : Option (Kind × ℕ)) → token_of bytes ≡ o → ((kind : Kind) (text rest : List ℕ) → text ++ rest ≡ bytes → IsSpelled kind text rest → ⊥) → o ≡ None
token_none bytes None e f = refl
token_none bytes (Some (kind, n)) e f = let t = token_takes kind n bytes e in absurd (f kind t.text t.after (sym t.splits) t.spelled)

pub nothing_from : (bytes : List ℕ) → BeginsNothing bytes → piece_of bytes ≡ Nothing
nothing_from [] n = absurd n
nothing_from (b ∷ bytes) n =
    ap (λ o. piece_from o (token_of (b ∷ bytes))) (begins_none b bytes n) ∙ ap found (token_none (b ∷ bytes) (token_of (b ∷ bytes)) refl n.2)

pub nothing_at_end : piece_of [] ≡ Nothing
unfolding token_of
nothing_at_end = refl

found_none : (o : Option (Kind × ℕ)) → found o ≡ Nothing → o ≡ None
found_none None h = refl
found_none (Some p) h = cc

piece_none : (gap : Option ℕ) (o : Option (Kind × ℕ)) → piece_from gap o ≡ Nothing → (gap ≡ None) × (o ≡ None)
piece_none None o h = (refl, found_none o h)
piece_none (Some n) o h = cc

no_gap : (b : ℕ) (bytes : List ℕ) (p q : Bool) → is_blank b ≡ p → begins_comment (b ∷ bytes) ≡ q → gap_len (b ∷ bytes) ≡ None → (p ≡ false) × (q ≡ false)
no_gap b bytes true q e f h = let g = rw e at h in cc
no_gap b bytes false true e f h = let g = rw (e, f) at h in cc
no_gap b bytes false false e f h = (refl, refl)

pub nothing_to : (b : ℕ) (bytes : List ℕ) → piece_of (b ∷ bytes) ≡ Nothing → BeginsNothing (b ∷ bytes)
nothing_to b bytes h =
    let p = piece_none (gap_len (b ∷ bytes)) (token_of (b ∷ bytes)) h in
    let g = no_gap b bytes (is_blank b) (begins_comment (b ∷ bytes)) refl refl p.0 in
    (g.0, g.1, none_found (b ∷ bytes) p.1)

-- one piece
pub record GapStep (place n : ℕ) (bytes : List ℕ) : Type 0 where
  pub some : 0 < n
  pub within : n ≤ length bytes
  pub reads : Lexes place bytes [] (place + n) (drop n bytes)

comment_by : (place n : ℕ) (bytes : List ℕ) → n ≡ 2 + prefix_len is_in_line bytes → GapStep place n (45 ∷ 45 ∷ bytes)
comment_by place n bytes e =
    let r = run_of is_in_line bytes in
    let c = r.count in
    let m : n ≡ 2 + length r.front = omega arith in
    let s : Lexes place (45 ∷ 45 ∷ (r.front ++ r.rest)) [] (place + (2 + length r.front)) r.rest = comment r.front r.rest r.all (stop_ends r.rest r.stops) stop in
    let t : Lexes place (45 ∷ 45 ∷ (r.front ++ r.rest)) [] (place + (2 + length r.front)) (drop (2 + length r.front) (45 ∷ 45 ∷ (r.front ++ r.rest)))
    = subst (λ xs. Lexes place (45 ∷ 45 ∷ (r.front ++ r.rest)) [] (place + (2 + length r.front)) xs) (past_comment r.front r.rest) s in
    record {
      some = omega arith;
      within = omega (arith, ap length r.splits, length-append r.front r.rest);
      reads = subst (λ (k : ℕ). Lexes place (45 ∷ 45 ∷ bytes) [] (place + k) (drop k (45 ∷ 45 ∷ bytes))) (sym m)
          (subst (λ xs. Lexes place (45 ∷ 45 ∷ xs) [] (place + (2 + length r.front)) (drop (2 + length r.front) (45 ∷ 45 ∷ xs))) (sym r.splits) t);
    }

blank_by : (place n b : ℕ) (bytes : List ℕ) → is_blank b ≡ true → Some 1 ≡ Some n → GapStep place n (b ∷ bytes)
blank_by place n b bytes h e =
    let i : 1 ≡ n = cc in
    subst (λ (k : ℕ). GapStep place k (b ∷ bytes)) i (record { some = omega arith; within = omega arith; reads = blank h stop })

pub gap_reads : (place n : ℕ) (bytes : List ℕ) → gap_len bytes ≡ Some n → GapStep place n bytes
gap_reads place n [] h = cc
gap_reads place n (b ∷ []) h =
    elim (chosen (is_blank b) _ _ _ h) [ inl p ↦ blank_by place n b [] p.0 p.1 | inr p ↦ absurd (let q = p.1 in cc) ]
gap_reads place n (b ∷ c ∷ bytes) h =
    elim (chosen (is_blank b) _ _ _ h) [
      | inl p ↦ blank_by place n b (c ∷ bytes) p.0 p.1
      | inr p ↦ elim (chosen (b == 45 && c == 45) _ _ _ p.1) [
        | inl q ↦ (
            let d = dashes b c q.0 in
            let i : 2 + prefix_len is_in_line bytes ≡ n = (let j = q.1 in cc) in
            rw (d.0, d.1) (comment_by place n bytes (sym i)))
        | inr q ↦ absurd (let r = q.1 in cc)
      ]
    ]

pub record TokenStep (kind : Kind) (place n : ℕ) (bytes : List ℕ) : Type 0 where
  pub some : 0 < n
  pub within : n ≤ length bytes
  pub reads : Lexes place bytes (record { kind = kind; at = place; len = n } ∷ []) (place + n) (drop n bytes)

token_by : (kind : Kind) (place n : ℕ) (text after : List ℕ) → n ≡ length text → IsSpelled kind text after → token_of (text ++ after) ≡ Some (kind, n) → TokenStep kind place n (text ++ after)
token_by kind place n text after e s h =
    let l = found_longest kind n text after h e s in
    let r : Lexes place (text ++ after) (token_at kind place text ∷ []) (place + length text) after = token kind text after l stop in
    subst (λ (k : ℕ). TokenStep kind place k (text ++ after)) (sym e) (record {
      some = some_bytes kind text after s;
      within = omega (arith, length-append text after);
      reads = subst (λ xs. Lexes place (text ++ after) (token_at kind place text ∷ []) (place + length text) xs) (past_token text after) r;
    })

pub token_reads : (kind : Kind) (place n : ℕ) (bytes : List ℕ) → token_of bytes ≡ Some (kind, n) → TokenStep kind place n bytes
token_reads kind place n bytes h =
    let t = token_takes kind n bytes h in
    subst (λ xs. TokenStep kind place n xs) (sym t.splits) (token_by kind place n t.text t.after t.count t.spelled (sym (ap token_of t.splits) ∙ h))

piece_is_gap : (n : ℕ) (gap : Option ℕ) (o : Option (Kind × ℕ)) → piece_from gap o ≡ Gap n → gap ≡ Some n
piece_is_gap n (Some m) o h = (let e : m ≡ n = cc in ap Some e)
piece_is_gap n None None h = cc
piece_is_gap n None (Some p) h = cc

piece_is_token : (kind : Kind) (n : ℕ) (gap : Option ℕ) (o : Option (Kind × ℕ)) → piece_from gap o ≡ Token_found kind n → o ≡ Some (kind, n)
piece_is_token kind n (Some m) o h = cc
piece_is_token kind n None None h = cc
piece_is_token kind n None (Some p) h =
    let e : p.0 ≡ kind = cc in
    let f : p.1 ≡ n = cc in
    ap (λ k. Some (k, p.1)) e ∙ ap (λ m. Some (kind, m)) f

pub gap_step : (place n : ℕ) (bytes : List ℕ) → piece_of bytes ≡ Gap n → GapStep place n bytes
gap_step place n bytes h = gap_reads place n bytes (piece_is_gap n (gap_len bytes) (token_of bytes) h)

pub token_step : (kind : Kind) (place n : ℕ) (bytes : List ℕ) → piece_of bytes ≡ Token_found kind n → TokenStep kind place n bytes
token_step kind place n bytes h = token_reads kind place n bytes (piece_is_token kind n (gap_len bytes) (token_of bytes) h)

-- the reading so far goes on by a piece
at_rest : (bytes : List ℕ) (at' : ℕ) (p : Piece) → p ≡ piece_of (take (length bytes - at') (drop at' bytes)) → piece_of (drop at' bytes) ≡ p
at_rest bytes at' p e = ap piece_of (sym (take_rest bytes at')) ∙ sym e

pub gap_so_far : (bytes : List ℕ) (at' n : ℕ) (tokens : List Token) → Lexes 0 bytes tokens at' (drop at' bytes) → Gap n ≡ piece_of (take (length bytes - at') (drop at' bytes))
    → Lexes 0 bytes tokens (at' + n) (drop (at' + n) bytes)
gap_so_far bytes at' n tokens r e =
    let s = gap_step at' n (drop at' bytes) (at_rest bytes at' (Gap n) e) in
    let t : Lexes 0 bytes (tokens ++ []) (at' + n) (drop n (drop at' bytes)) = reads_on [] r s.reads in
    subst (λ xs. Lexes 0 bytes tokens (at' + n) xs) (drop-drop n at' bytes) (subst (λ ts. Lexes 0 bytes ts (at' + n) (drop n (drop at' bytes))) (append-nil tokens) t)

pub token_so_far : (bytes : List ℕ) (at' n : ℕ) (kind : Kind) (tokens : List Token) → Lexes 0 bytes tokens at' (drop at' bytes) → Token_found kind n ≡ piece_of (take (length bytes - at') (drop at' bytes))
    → Lexes 0 bytes (tokens ++ record { kind = kind; at = at'; len = n } ∷ []) (at' + n) (drop (at' + n) bytes)
token_so_far bytes at' n kind tokens r e =
    let s = token_step kind at' n (drop at' bytes) (at_rest bytes at' (Token_found kind n) e) in
    let t = reads_on (record { kind = kind; at = at'; len = n } ∷ []) r s.reads in
    subst (λ xs. Lexes 0 bytes (tokens ++ record { kind = kind; at = at'; len = n } ∷ []) (at' + n) xs) (drop-drop n at' bytes) t

pub still_within : (bytes : List ℕ) (at' n : ℕ) → at' ≤ length bytes → n ≤ length (take (length bytes - at') (drop at' bytes)) → at' + n ≤ length bytes
still_within bytes at' n l h = omega (arith, ap length (take_rest bytes at'), length-drop at' bytes)

pub nothing_there : (bytes : List ℕ) (at' : ℕ) → at' < length bytes → Nothing ≡ piece_of (take (length bytes - at') (drop at' bytes)) → BeginsNothing (drop at' bytes)
nothing_there bytes at' l e =
    let f = drop_more bytes at' 0 l in
    let h = sym (ap piece_of f) ∙ at_rest bytes at' Nothing e in
    subst BeginsNothing (sym f) (nothing_to (get_or bytes at' 0) (drop (at' + 1) bytes) h)

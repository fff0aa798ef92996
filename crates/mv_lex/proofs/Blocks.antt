-- Blocks are read as they are written.
use Rattle.std.proofs.Common.{◌≡◌, inl, inr, ℕ, Bool, true, false, ◌==◌, List, [], ◌∷◌, ◌++◌, Some, None, length, refl, sym, subst}
use Rattle.std.specs.List.{list_all}
use Rattle.std.proofs.lemmas.Bool.{and_parts, eqb-true, not-true}
use Rattle.mv_lex.specs.Bytes.{is_in_line}
use Rattle.mv_lex.specs.Spelling.{IsInnerLine, IsLastLine, IsClosing}
use Rattle.mv_lex.specs.Reading.{mark_len, closing_len}

seen_line_feed : (after : List ℕ) → closing_len (62 ∷ 62 ∷ 10 ∷ after) ≡ Some 3
seen_line_feed [] = refl
seen_line_feed (a ∷ after) = refl

-- what closes a block is seen
pub closing_seen : (closing after : List ℕ) → IsClosing closing after → closing_len (closing ++ after) ≡ Some (length closing)
closing_seen closing after (inl e) = rw e (seen_line_feed after)
closing_seen closing after (inr (inl e)) = rw e refl
closing_seen closing after (inr (inr p)) = rw (p.0, p.1) refl

-- what is seen so closes a block
pub record Closes (bytes : List ℕ) (n : ℕ) : Type 0 where
  pub closing : List ℕ
  pub after : List ℕ
  pub splits : bytes ≡ closing ++ after
  pub count : n ≡ length closing
  pub closes : IsClosing closing after

with_line_feed : (n : ℕ) (after : List ℕ) → Some 3 ≡ Some n → Closes (62 ∷ 62 ∷ 10 ∷ after) n
with_line_feed n after h = record { closing = 62 ∷ 62 ∷ 10 ∷ []; after = after; splits = refl; count = (let e : 3 ≡ n = cc in sym e); closes = inl refl }

mark_one : (c n : ℕ) (q : Bool) → (c == 10) ≡ q → mark_len (c ∷ []) ≡ Some n → Closes (62 ∷ 62 ∷ c ∷ []) n
mark_one c n true q h = let e = rw q at h in rw (eqb-true c 10 q) (with_line_feed n [] e)
mark_one c n false q h = let e = rw q at h in cc

mark_two : (c d n : ℕ) (bs : List ℕ) (q r s : Bool) → (c == 10) ≡ q → (c == 13) ≡ r → (d == 10) ≡ s → mark_len (c ∷ d ∷ bs) ≡ Some n → Closes (62 ∷ 62 ∷ c ∷ d ∷ bs) n
mark_two c d n bs true r s q' r' s' h = let e = rw q' at h in rw (eqb-true c 10 q') (with_line_feed n (d ∷ bs) e)
mark_two c d n bs false true true q' r' s' h =
    let e = rw (q', r', s') at h in
    rw (eqb-true c 13 r', eqb-true d 10 s') (record { closing = 62 ∷ 62 ∷ 13 ∷ 10 ∷ []; after = bs; splits = refl; count = (let i : 4 ≡ n = cc in sym i); closes = inr (inl refl) })
mark_two c d n bs false true false q' r' s' h = let e = rw (q', r', s') at h in cc
mark_two c d n bs false false s q' r' s' h = let e = rw (q', r') at h in cc

mark_takes : (bytes : List ℕ) (n : ℕ) → mark_len bytes ≡ Some n → Closes (62 ∷ 62 ∷ bytes) n
mark_takes [] n h = record { closing = 62 ∷ 62 ∷ []; after = []; splits = refl; count = (let e : 2 ≡ n = cc in sym e); closes = inr (inr (refl, refl)) }
mark_takes (c ∷ []) n h = mark_one c n (c == 10) refl h
mark_takes (c ∷ d ∷ bs) n h = mark_two c d n bs (c == 10) (c == 13) (d == 10) refl refl refl h

two_marks : (a b n : ℕ) (bs : List ℕ) (q r : Bool) → (a == 62) ≡ q → (b == 62) ≡ r → closing_len (a ∷ b ∷ bs) ≡ Some n → Closes (a ∷ b ∷ bs) n
two_marks a b n bs true true q' r' h = let e = rw (q', r') at h in rw (eqb-true a 62 q', eqb-true b 62 r') (mark_takes bs n e)
two_marks a b n bs true false q' r' h = let e = rw (q', r') at h in cc
two_marks a b n bs false r q' r' h = let e = rw q' at h in cc

pub closing_takes : (bytes : List ℕ) (n : ℕ) → closing_len bytes ≡ Some n → Closes bytes n
closing_takes [] n h = cc
closing_takes (a ∷ []) n h = cc
closing_takes (a ∷ b ∷ bs) n h = two_marks a b n bs (a == 62) (b == 62) refl refl h

-- no other line is seen as one that closes
two_others : (a b : ℕ) (bs : List ℕ) (q r : Bool) → (a == 62) ≡ q → (b == 62) ≡ r → (a ≡ 62 → b ≡ 62 → mark_len bs ≡ None) → closing_len (a ∷ b ∷ bs) ≡ None
two_others a b bs true true q' r' f = rw (q', r') (f (eqb-true a 62 q') (eqb-true b 62 r'))
two_others a b bs true false q' r' f = rw (q', r') refl
two_others a b bs false r q' r' f = rw q' refl

pub in_line : (b : ℕ) (bs : List ℕ) → list_all is_in_line (b ∷ bs) ≡ true → ((b == 10) ≡ false) × (list_all is_in_line bs ≡ true)
in_line b bs h = let p = and_parts (is_in_line b) (list_all is_in_line bs) h in (not-true (b == 10) p.0, p.1)

mark_else : (c d : ℕ) (bs : List ℕ) (r : Bool) → (c == 10) ≡ false → (c == 13) ≡ r → (c ≡ 13 → (d == 10) ≡ false) → mark_len (c ∷ d ∷ bs) ≡ None
mark_else c d bs true h r' f = rw (h, r', f (eqb-true c 13 r')) refl
mark_else c d bs false h r' f = rw (h, r') refl

-- a line that doesn't close, with its LF
pub inner_unseen : (line rest : List ℕ) → IsInnerLine line → closing_len (line ++ 10 ∷ rest) ≡ None
inner_unseen [] [] i = refl
inner_unseen [] (r ∷ rest) i = refl
inner_unseen (a ∷ []) rest i = two_others a 10 rest (a == 62) false refl refl (λ e f. cc)
inner_unseen (a ∷ b ∷ []) rest i =
    two_others a b (10 ∷ rest) (a == 62) (b == 62) refl refl (λ e f. absurd (i.no_end (rw (e, f) refl)))
inner_unseen (a ∷ b ∷ c ∷ []) rest i =
    let l = in_line c [] (in_line b (c ∷ []) (in_line a (b ∷ c ∷ []) i.one_line).1).1 in
    two_others a b (c ∷ 10 ∷ rest) (a == 62) (b == 62) refl refl
    (λ e f. mark_else c 10 rest (c == 13) l.0 refl (λ g. absurd (i.no_end_with_return (rw (e, f, g) refl))))
inner_unseen (a ∷ b ∷ c ∷ d ∷ line) rest i =
    let l = in_line c (d ∷ line) (in_line b (c ∷ d ∷ line) (in_line a (b ∷ c ∷ d ∷ line) i.one_line).1).1 in
    let m = in_line d line l.1 in
    two_others a b (c ∷ d ∷ (line ++ 10 ∷ rest)) (a == 62) (b == 62) refl refl (λ e f. mark_else c d (line ++ 10 ∷ rest) (c == 13) l.0 refl (λ g. m.0))

-- the same of a last line, which has none
pub last_unseen : (line : List ℕ) → IsLastLine line → closing_len line ≡ None
last_unseen [] i = refl
last_unseen (a ∷ []) i = refl
last_unseen (a ∷ b ∷ []) i = two_others a b [] (a == 62) (b == 62) refl refl (λ e f. absurd (i.no_end (rw (e, f) refl)))
last_unseen (a ∷ b ∷ c ∷ []) i =
    let l = in_line c [] (in_line b (c ∷ []) (in_line a (b ∷ c ∷ []) i.one_line).1).1 in
    two_others a b (c ∷ []) (a == 62) (b == 62) refl refl (λ e f. rw l.0 refl)
last_unseen (a ∷ b ∷ c ∷ d ∷ line) i =
    let l = in_line c (d ∷ line) (in_line b (c ∷ d ∷ line) (in_line a (b ∷ c ∷ d ∷ line) i.one_line).1).1 in
    let m = in_line d line l.1 in
    two_others a b (c ∷ d ∷ line) (a == 62) (b == 62) refl refl (λ e f. mark_else c d line (c == 13) l.0 refl (λ g. m.0))

-- a line that isn't seen as closing doesn't close
pub inner_from : (line rest : List ℕ) → list_all is_in_line line ≡ true → closing_len (line ++ 10 ∷ rest) ≡ None → IsInnerLine line
inner_from line rest l h = record {
  one_line = l;
  no_end = λ e. (let f = subst (λ (xs : List ℕ). closing_len (xs ++ 10 ∷ rest) ≡ None) e h in let g = seen_line_feed rest in cc);
  no_end_with_return = λ e. (let f : closing_len (62 ∷ 62 ∷ 13 ∷ 10 ∷ rest) ≡ None = subst (λ (xs : List ℕ). closing_len (xs ++ 10 ∷ rest) ≡ None) e h in cc);
}

pub last_from : (line : List ℕ) → list_all is_in_line line ≡ true → closing_len line ≡ None → IsLastLine line
last_from line l h = record { one_line = l; no_end = λ e. (let f : closing_len (62 ∷ 62 ∷ []) ≡ None = subst (λ (xs : List ℕ). closing_len xs ≡ None) e h in cc) }

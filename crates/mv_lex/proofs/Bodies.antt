-- The lines of a block, up to the one that closes it.
use Rattle.std.proofs.Common.{◌≡◌, ◌⊎◌, inl, inr, ℕ, zero, suc, ◌+◌, ◌≤◌, true, false, ◌==◌, List, [], ◌∷◌, ◌++◌, Option, Some, None, length, refl, sym, ap, subst, ◌∙◌, arith, append_assoc, append-nil, length-append}
use Rattle.std.specs.List.{list_all, AllByRecursion}
use Rattle.std.proofs.lemmas.Bool.{eqb-true, not-false}
use Rattle.mv_values.specs.Texts.{lines_text}
use Rattle.mv_lex.specs.Bytes.{is_in_line}
use Rattle.mv_lex.specs.Spelling.{IsInnerLine, IsLastLine, IsClosing}
use Rattle.mv_lex.specs.Reading.{past, closing_len, block_len}
use Rattle.mv_lex.proofs.Runs.{Stops, run_of}
use Rattle.mv_lex.proofs.Blocks.{in_line, closing_seen, closing_takes, inner_unseen, last_unseen, inner_from, last_from}

past_more : (i j m : ℕ) (o : Option ℕ) → m ≡ i + j → past i (past j o) ≡ past m o
past_more i j m None e = refl
past_more i j m (Some k) e = ap Some (omega arith)

past_none : (o : Option ℕ) → o ≡ past 0 o
past_none None = refl
past_none (Some k) = ap Some (omega arith)

-- within a line
line_passed : (front rest : List ℕ) → list_all is_in_line front ≡ true → block_len false (front ++ 10 ∷ rest) ≡ past (length front + 1) (block_len true rest)
unfolding block_len
line_passed [] rest l = refl
line_passed (b ∷ front) rest l =
    let p = in_line b front l in
    rw (p.0, line_passed front rest p.1) (past_more 1 (length front + 1) _ (block_len true rest) (omega arith))

line_over : (line : List ℕ) → list_all is_in_line line ≡ true → block_len false line ≡ None
unfolding block_len
line_over [] l = refl
line_over (b ∷ line) l = let p = in_line b line l in rw (p.0, line_over line p.1) refl

-- where a line begins
inner_passed : (line rest : List ℕ) → IsInnerLine line → block_len true (line ++ 10 ∷ rest) ≡ past (length line + 1) (block_len true rest)
unfolding block_len
inner_passed [] rest i = let e : closing_len (10 ∷ rest) ≡ None = inner_unseen [] rest i in rw e refl
inner_passed (b ∷ line) rest i =
    let e : closing_len (b ∷ (line ++ 10 ∷ rest)) ≡ None = inner_unseen (b ∷ line) rest i in
    let p = in_line b line i.one_line in
    rw (e, p.0, line_passed line rest p.1) (past_more 1 (length line + 1) _ (block_len true rest) (omega arith))

last_over : (line : List ℕ) → IsLastLine line → block_len true line ≡ None
unfolding block_len
last_over [] i = refl
last_over (b ∷ line) i =
    let p = in_line b line i.one_line in
    rw (last_unseen (b ∷ line) i, p.0, line_over line p.1) refl

closing_found : (bytes : List ℕ) (n : ℕ) → closing_len bytes ≡ Some n → block_len true bytes ≡ Some n
unfolding block_len
closing_found [] n h = cc
closing_found (b ∷ bytes) n h = rw h refl

line_regroup : (line more rest : List ℕ) → (line ++ 10 ∷ []) ++ more ++ rest ≡ line ++ 10 ∷ (more ++ rest)
line_regroup line more rest = append_assoc (line ++ 10 ∷ []) more rest ∙ append_assoc line (10 ∷ []) (more ++ rest)

lines_passed : (lines : List (List ℕ)) (rest : List ℕ) → AllByRecursion IsInnerLine lines → block_len true (lines_text lines ++ rest) ≡ past (length (lines_text lines)) (block_len true rest)
lines_passed [] rest a = past_none (block_len true rest)
lines_passed (line ∷ lines) rest a =
    ap (block_len true) (line_regroup line (lines_text lines) rest)
    ∙ (inner_passed line (lines_text lines ++ rest) a.0
    ∙ (ap (past (length line + 1)) (lines_passed lines rest a.1)
    ∙ past_more (length line + 1) (length (lines_text lines)) _ (block_len true rest) (simp length-append (omega arith))))

-- the two ways in which the bytes behind the first line go on
pub record Closed (bytes : List ℕ) : Type 0 where
  pub lines : List (List ℕ)
  pub closing : List ℕ
  pub after : List ℕ
  pub inner : AllByRecursion IsInnerLine lines
  pub closes : IsClosing closing after
  pub splits : bytes ≡ lines_text lines ++ (closing ++ after)

pub record Unended (bytes : List ℕ) : Type 0 where
  pub lines : List (List ℕ)
  pub last : List ℕ
  pub inner : AllByRecursion IsInnerLine lines
  pub is_last : IsLastLine last
  pub splits : bytes ≡ lines_text lines ++ last

pub closed_len : (lines : List (List ℕ)) (closing after : List ℕ) → AllByRecursion IsInnerLine lines → IsClosing closing after
    → block_len true (lines_text lines ++ (closing ++ after)) ≡ Some (length (lines_text lines) + length closing)
closed_len lines closing after a c =
    lines_passed lines (closing ++ after) a
    ∙ ap (past (length (lines_text lines))) (closing_found (closing ++ after) (length closing) (closing_seen closing after c))

pub unended_len : (lines : List (List ℕ)) (last : List ℕ) → AllByRecursion IsInnerLine lines → IsLastLine last → block_len true (lines_text lines ++ last) ≡ None
unended_len lines last a c = lines_passed lines last a ∙ ap (past (length (lines_text lines))) (last_over last c)

add_line : (line rest : List ℕ) → IsInnerLine line → Closed rest ⊎ Unended rest → Closed (line ++ 10 ∷ rest) ⊎ Unended (line ++ 10 ∷ rest)
add_line line rest i (inl c) = inl (record {
  lines = line ∷ c.lines;
  closing = c.closing;
  after = c.after;
  inner = (i, c.inner);
  closes = c.closes;
  splits = ap (λ xs. line ++ 10 ∷ xs) c.splits ∙ sym (line_regroup line (lines_text c.lines) (c.closing ++ c.after));
})
add_line line rest i (inr u) = inr (record {
  lines = line ∷ u.lines;
  last = u.last;
  inner = (i, u.inner);
  is_last = u.is_last;
  splits = ap (λ xs. line ++ 10 ∷ xs) u.splits ∙ sym (line_regroup line (lines_text u.lines) u.last);
})

body_line : (k : ℕ) (front rest : List ℕ) → list_all is_in_line front ≡ true → Stops is_in_line rest → closing_len (front ++ rest) ≡ None
    → length (front ++ rest) ≤ suc k → ((bytes : List ℕ) → length bytes ≤ k → Closed bytes ⊎ Unended bytes) → Closed (front ++ rest) ⊎ Unended (front ++ rest)
body_line k front [] a s h l f =
    let e = append-nil front in
    inr (record { lines = []; last = front; inner = tt; is_last = last_from front a (rw e at h); splits = e })
body_line k front (c ∷ rest) a s h l f =
    let e : c ≡ 10 = eqb-true c 10 (not-false (c == 10) s) in
    let h' : closing_len (front ++ 10 ∷ rest) ≡ None = subst (λ (x : ℕ). closing_len (front ++ x ∷ rest) ≡ None) e h in
    let shorter : length rest ≤ k = omega (arith, length-append front (c ∷ rest)) in
    subst (λ (x : ℕ). Closed (front ++ x ∷ rest) ⊎ Unended (front ++ x ∷ rest)) (sym e) (add_line front rest (inner_from front rest a h') (f rest shorter))

body_by : (k : ℕ) (bytes : List ℕ) (o : Option ℕ) → closing_len bytes ≡ o → length bytes ≤ suc k
    → ((bytes : List ℕ) → length bytes ≤ k → Closed bytes ⊎ Unended bytes) → Closed bytes ⊎ Unended bytes
body_by k bytes (Some n) h l f =
    let c = closing_takes bytes n h in
    inl (record { lines = []; closing = c.closing; after = c.after; inner = tt; closes = c.closes; splits = c.splits })
body_by k bytes None h l f =
    let r = run_of is_in_line bytes in
    let e = r.splits in
    let go = body_line k r.front r.rest r.all r.stops (rw e at h) (rw e at l) f in
    subst (λ xs. Closed xs ⊎ Unended xs) (sym e) go

bodies : (k : ℕ) (bytes : List ℕ) → length bytes ≤ k → Closed bytes ⊎ Unended bytes
bodies zero [] l = inr (record { lines = []; last = []; inner = tt; is_last = last_from [] refl refl; splits = refl })
bodies zero (b ∷ bytes) l = absurd (omega arith)
bodies (suc k) bytes l = body_by k bytes (closing_len bytes) refl l (bodies k)

pub body_is : (bytes : List ℕ) → Closed bytes ⊎ Unended bytes
body_is bytes = bodies (length bytes) bytes (omega arith)

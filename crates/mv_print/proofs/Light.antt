-- Tokens that stand no deeper, and in no longer stretches, than others.
use Rattle.std.proofs.Common.{◌≡◌, ℕ, suc, ◌+◌, ◌-◌, ◌≤◌, Bool, true, false, cond, List, [], ◌∷◌, ◌++◌, Some, None, map, refl, sym, ap, subst, ◌∙◌, arith, nat_lt}
use Rattle.std.proofs.lemmas.Bool.{ltb-false, le-ltb}
use Rattle.mv_ast.specs.declared.limit.Which.TheVariants as limit
use Rattle.mv_ast.specs.declared.lexeme.Lexeme.{Lexeme}
use Rattle.mv_ast.specs.declared.lexeme.Terminal.{Terminal}
use Rattle.mv_ast.specs.declared.lexeme.Terminal.TheVariants as word
use Rattle.mv_ast.specs.Limits.{is_end, is_behind_end, is_opening, is_closing, is_stop, deeper, depth, stretch, at_token, over, or_else, first_behind}

-- where a front of tokens ends: how deep, how far behind the last token that ends a stretch, and whether behind END
pub record At : Type 0 where
  pub depth : ℕ
  pub stretch : ℕ
  pub behind : Bool

abbrev pub longer : Bool → ℕ → ℕ
longer true n = 0
longer false n = n + 1

abbrev pub step : Terminal → At → At
step t s = record { depth = deeper t s.behind s.depth; stretch = longer (is_stop t) s.stretch; behind = is_end t }

abbrev pub after : At → List Terminal → At
after s [] = s
after s (t ∷ ts) = after (step t s) ts

-- depth and stretch are kept all along
abbrev pub Keeps : At → List Terminal → Type 0
Keeps s [] = Unit {0}
Keeps s (t ∷ ts) = ((step t s).depth ≤ 32) × ((step t s).stretch ≤ 1000) × Keeps (step t s) ts

after_joined : (s : At) (xs ys : List Terminal) → after s (xs ++ ys) ≡ after (after s xs) ys
after_joined s [] ys = refl
after_joined s (x ∷ xs) ys = after_joined (step x s) xs ys

keeps_apart : (s : At) (xs ys : List Terminal) → Keeps s (xs ++ ys) → Keeps s xs × Keeps (after s xs) ys
keeps_apart s [] ys h = (tt, h)
keeps_apart s (x ∷ xs) ys h = let i = keeps_apart (step x s) xs ys h.2 in ((h.0, h.1, i.0), i.1)

keeps_joined : (s : At) (xs ys : List Terminal) → Keeps s xs → Keeps (after s xs) ys → Keeps s (xs ++ ys)
keeps_joined s [] ys h k = k
keeps_joined s (x ∷ xs) ys h k = (h.0, h.1, keeps_joined (step x s) xs ys h.2 k)

-- one place is at least so many levels within the other, and the first at least so deep
pub record Under (least levels : ℕ) (r s : At) : Type 0 where
  pub least_deep : least ≤ r.depth
  pub within : r.depth + levels ≤ s.depth
  pub shorter : r.stretch ≤ s.stretch
  pub first : r.behind ≡ false
  pub second : s.behind ≡ false

-- the second tokens pass no limit where the first don't; they begin at one level and end at another
abbrev pub Light : ℕ → ℕ → List Terminal → List Terminal → Type 0
Light m n ts ps = (b k : ℕ) (r s : At) → Under (b + m) k r s → Keeps s ts → Keeps r ps × Under (b + n) k (after r ps) (after s ts)

pub light_none : (n : ℕ) → Light n n [] []
light_none n b k r s u h = (tt, u)

pub light_joined : (l m n : ℕ) (xs ys ps qs : List Terminal) → Light l m xs ps → Light m n ys qs → Light l n (xs ++ ys) (ps ++ qs)
light_joined l m n xs ys ps qs x y b k r s u h =
    let i = keeps_apart s xs ys h in
    let a = x b k r s u i.0 in
    let c = y b k (after r ps) (after s xs) a.1 i.1 in
    (keeps_joined r ps qs a.0 c.0, subst (λ z. Under (b + n) k z (after s (xs ++ ys))) (sym (after_joined r ps qs)) (subst (λ z. Under (b + n) k (after (after r ps) qs) z) (sym (after_joined s xs ys)) c.1))

under_less : (b c k : ℕ) (r s : At) → c ≡ b → Under b k r s → Under c k r s
under_less b c k r s e u = subst (λ (z : ℕ). Under z k r s) (sym e) u

pub light_raised : (n : ℕ) (ts ps : List Terminal) → Light 0 0 ts ps → Light n n ts ps
light_raised n ts ps x b k r s u h =
    let a = x (b + n) k r s (under_less (b + n) (b + n + 0) k r s (omega arith) u) h in
    (a.0, under_less (b + n + 0) (b + n) k (after r ps) (after s ts) (omega arith) a.1)

-- a token that is no end, and changes no level
pub record Plain (t : Terminal) : Type 0 where
  pub opens : is_opening t false ≡ false
  pub closes : is_closing t ≡ false
  pub ends : is_end t ≡ false

longer_less : (b : Bool) (m n : ℕ) → m ≤ n → longer b m ≤ longer b n
longer_less true m n h = omega arith
longer_less false m n h = omega arith

plain_step : (t : Terminal) (p : Plain t) (s : At) → s.behind ≡ false → step t s ≡ record { depth = s.depth; stretch = longer (is_stop t) s.stretch; behind = false }
plain_step t p s h = rw (h, p.opens, p.closes, p.ends) refl

-- one token, which is in both
one_token : (t : Terminal) (b k : ℕ) (r s x y : At) → step t r ≡ x → step t s ≡ y → Under b k x y → Keeps s (t ∷ []) → Keeps r (t ∷ []) × Under b k (step t r) (step t s)
one_token t b k r s x y e f u h =
    let v : Under b k (step t r) (step t s) = subst (λ z. Under b k z (step t s)) (sym e) (subst (λ z. Under b k x z) (sym f) u) in
    let w = v.within in
    let l = v.shorter in
    let d = h.0 in
    let n = h.1 in
    ((omega arith, omega arith, tt), v)

pub light_plain : (n : ℕ) (t : Terminal) → Plain t → Light n n (t ∷ []) (t ∷ [])
light_plain n t p b k r s u h =
    one_token t (b + n) k r s _ _ (plain_step t p r u.first) (plain_step t p s u.second)
    (record { least_deep = u.least_deep; within = u.within; shorter = longer_less (is_stop t) r.stretch s.stretch u.shorter; first = refl; second = refl }) h

-- a token that begins a level
pub record Opens (t : Terminal) : Type 0 where
  pub opens : is_opening t false ≡ true
  pub ends : is_end t ≡ false

opens_step : (t : Terminal) (p : Opens t) (s : At) → s.behind ≡ false → step t s ≡ record { depth = s.depth + 1; stretch = longer (is_stop t) s.stretch; behind = false }
opens_step t p s h = rw (h, p.opens, p.ends) refl

pub light_opens : (n : ℕ) (t : Terminal) → Opens t → Light n (suc n) (t ∷ []) (t ∷ [])
light_opens n t p b k r s u h =
    let g = u.least_deep in
    let w = u.within in
    one_token t (b + suc n) k r s _ _ (opens_step t p r u.first) (opens_step t p s u.second)
    (record { least_deep = omega arith; within = omega arith; shorter = longer_less (is_stop t) r.stretch s.stretch u.shorter; first = refl; second = refl }) h

-- `)` ends one
close_step : (s : At) → step word.Close s ≡ record { depth = s.depth - 1; stretch = s.stretch + 1; behind = false }
close_step s = refl

pub light_close : (n : ℕ) → Light (suc n) n (word.Close ∷ []) (word.Close ∷ [])
light_close n b k r s u h =
    let g = u.least_deep in
    let w = u.within in
    let l = u.shorter in
    one_token word.Close (b + n) k r s _ _ (close_step r) (close_step s) (record { least_deep = omega arith; within = omega arith; shorter = omega arith; first = refl; second = refl }) h

-- END and what stands behind it
pub record BehindEnd (t : Terminal) : Type 0 where
  pub opens : is_opening t true ≡ false
  pub closes : is_closing t ≡ false
  pub ends : is_end t ≡ false

behind_step : (t : Terminal) (p : BehindEnd t) (s : At) → step t (step word.End s) ≡ record { depth = s.depth - 1; stretch = longer (is_stop t) (s.stretch + 1); behind = false }
behind_step t p s = rw (p.opens, p.closes, p.ends) refl

pub light_ends : (n : ℕ) (t : Terminal) → BehindEnd t → Light (suc n) n (word.End ∷ t ∷ []) (word.End ∷ t ∷ [])
light_ends n t p b k r s u h =
    let g = u.least_deep in
    let w = u.within in
    let l = u.shorter in
    let more = longer_less (is_stop t) (r.stretch + 1) (s.stretch + 1) (omega arith) in
    let v : Under (b + n) k (step t (step word.End r)) (step t (step word.End s)) = subst (λ z. Under (b + n) k z (step t (step word.End s))) (sym (behind_step t p r))
    (subst (λ z. Under (b + n) k (record { depth = r.depth - 1; stretch = longer (is_stop t) (r.stretch + 1); behind = false }) z) (sym (behind_step t p s))
    (record { least_deep = omega arith; within = omega arith; shorter = more; first = refl; second = refl })) in
    let w' = v.within in
    let l' = v.shorter in
    let d = h.0 in
    let m = h.1 in
    let d' = h.2.0 in
    let m' = h.2.1 in
    ((omega arith, omega arith, (omega arith, omega arith, tt)), v)

-- a plain token that the second tokens lack
pub light_drop : (n : ℕ) (t : Terminal) → Plain t → is_stop t ≡ false → Light n n (t ∷ []) []
light_drop n t p q b k r s u h =
    let e : step t s ≡ record { depth = s.depth; stretch = s.stretch + 1; behind = false } = plain_step t p s u.second ∙ ap (λ (c : Bool). (let x : At = record { depth = s.depth; stretch = longer c s.stretch; behind = false } in x)) q in
    let l = u.shorter in
    (tt, subst (λ z. Under (b + n) k r z) (sym e) (record { least_deep = u.least_deep; within = u.within; shorter = omega arith; first = u.first; second = refl }))

-- parentheses that the second tokens lack
pub light_parens : (ts ps : List Terminal) → Light 0 0 ts ps → Light 0 0 (word.Open ∷ (ts ++ word.Close ∷ [])) ps
light_parens ts ps x b k r s u h =
    let g = u.least_deep in
    let w = u.within in
    let l = u.shorter in
    let s1 = step word.Open s in
    let e : s1 ≡ record { depth = s.depth + 1; stretch = s.stretch + 1; behind = false } = opens_step word.Open (record { opens = refl; ends = refl }) s u.second in
    let u1 : Under (b + 0) (suc k) r s1 = subst (λ z. Under (b + 0) (suc k) r z) (sym e) (record { least_deep = g; within = omega arith; shorter = omega arith; first = u.first; second = refl }) in
    let i = keeps_apart s1 ts (word.Close ∷ []) h.2 in
    let a = x b (suc k) r s1 u1 i.0 in
    let g' = a.1.least_deep in
    let w' = a.1.within in
    let l' = a.1.shorter in
    let v : Under (b + 0) k (after r ps) (step word.Close (after s1 ts)) = record { least_deep = g'; within = omega arith; shorter = omega arith; first = a.1.first; second = refl } in
    (a.0, subst (λ z. Under (b + 0) k (after r ps) z) (sym (after_joined s1 ts (word.Close ∷ []))) v)

-- in parentheses that both have
pub light_within : (ts ps : List Terminal) → Light 0 0 ts ps → Light 0 0 (word.Open ∷ (ts ++ word.Close ∷ [])) (word.Open ∷ (ps ++ word.Close ∷ []))
light_within ts ps x =
    light_joined 0 1 0 (word.Open ∷ []) (ts ++ word.Close ∷ []) (word.Open ∷ []) (ps ++ word.Close ∷ []) (light_opens 0 word.Open (record { opens = refl; ends = refl }))
    (light_joined 1 1 0 ts (word.Close ∷ []) ps (word.Close ∷ []) (light_raised 1 ts ps x) (light_close 0))

-- one after another
pub light_through : (m n : ℕ) (ts us ps : List Terminal) → Light m n ts us → Light m n us ps → Light m n ts ps
light_through m n ts us ps x y b k r s u h =
    let g = u.least_deep in
    let w = u.within in
    let a = x b 0 s s (record { least_deep = omega arith; within = omega arith; shorter = omega arith; first = u.second; second = u.second }) h in
    let c = y b k r s u a.0 in
    let w0 = a.1.within in
    let w1 = c.1.within in
    let l0 = a.1.shorter in
    let l1 = c.1.shorter in
    (c.0, record { least_deep = c.1.least_deep; within = omega arith; shorter = omega arith; first = c.1.first; second = a.1.second })

-- From the tokens' fronts.
abbrev pub front_at : List Lexeme → At
front_at before = record { depth = depth before; stretch = stretch before; behind = is_behind_end before }

abbrev pub kinds : List Lexeme → List Terminal
kinds ls = map (λ l. l.kind) ls

longer_is : (b : Bool) (n : ℕ) → cond b 0 (n + 1) ≡ longer b n
longer_is true n = refl
longer_is false n = refl

front_step : (l : Lexeme) (before : List Lexeme) → front_at (l ∷ before) ≡ step l.kind (front_at before)
front_step l before = ap (λ (n : ℕ). (let x : At = record { depth = deeper l.kind (is_behind_end before) (depth before); stretch = n; behind = is_end l.kind } in x)) (longer_is (is_stop l.kind) (stretch before))

kept_depth : (token : ℕ) (front : List Lexeme) (rest : List Lexeme) → or_else (over token front) (first_behind front rest) ≡ None → (depth front ≤ 32) × (stretch front ≤ 1000) × (first_behind front rest ≡ None)
kept_depth token front rest h = go (nat_lt 32 (depth front)) (nat_lt 1000 (stretch front)) refl refl h
  where
    go : (p q : Bool) → nat_lt 32 (depth front) ≡ p → nat_lt 1000 (stretch front) ≡ q
        → or_else (cond p (Some (at_token limit.Depth token)) (cond q (Some (at_token limit.Stretch token)) None)) (first_behind front rest) ≡ None
        → (depth front ≤ 32) × (stretch front ≤ 1000) × (first_behind front rest ≡ None)
    go true q e f k = cc
    go false true e f k = cc
    go false false e f k = (ltb-false 32 (depth front) e, ltb-false 1000 (stretch front) f, k)

pub keeps_of : (before ls : List Lexeme) → first_behind before ls ≡ None → Keeps (front_at before) (kinds ls)
unfolding first_behind
keeps_of before [] h = tt
keeps_of before (l ∷ ls) h =
    let k = kept_depth l.number (l ∷ before) ls h in
    let r = keeps_of (l ∷ before) ls k.2 in
    let all : ((front_at (l ∷ before)).depth ≤ 32) × ((front_at (l ∷ before)).stretch ≤ 1000) × Keeps (front_at (l ∷ before)) (kinds ls) = (k.0, k.1, r) in
    subst (λ z. (z.depth ≤ 32) × (z.stretch ≤ 1000) × Keeps z (kinds ls)) (front_step l before) all

pub first_of : (before ls : List Lexeme) → Keeps (front_at before) (kinds ls) → first_behind before ls ≡ None
unfolding first_behind
first_of before [] h = refl
first_of before (l ∷ ls) h =
    let all = subst (λ z. (z.depth ≤ 32) × (z.stretch ≤ 1000) × Keeps z (kinds ls)) (sym (front_step l before)) h in
    let d = le-ltb 32 (depth (l ∷ before)) all.0 in
    let t = le-ltb 1000 (stretch (l ∷ before)) all.1 in
    rw (d, t) (first_of (l ∷ before) ls all.2)

use Rattle.std.proofs.Common.{◌≡◌, ◌<◌, ℕ, ◌+◌, List, [], ◌∷◌, ◌++◌, sym, ap, ◌∙◌, length, drop, get_or, append_assoc, if◌then◌else◌}
use Rattle.std.proofs.lemmas.Bool.{ne_eqb}
use Rattle.std.proofs.lemmas.List.{drop_more}
use Rattle.mv_values.specs.Texts.{doubled}
use Rattle.mv_print.proofs.pieces.write_doubled.Goals as goal
use Rattle.mv_print.proofs.pieces.write_doubled.Goals.{then-byte-eq39+in_ok-push, else-byte-eq39}

quote_turn : (xs : List ℕ) (k : ℕ) (old mid new all : List ℕ) → k < length xs → get_or xs k 0 ≡ 39 → mid ≡ old ++ 39 ∷ [] → new ≡ mid ++ get_or xs k 0 ∷ []
    → old ++ doubled (drop k xs) ≡ all → new ++ doubled (drop (k + 1) xs) ≡ all
quote_turn xs k old mid new all h is f g i =
    let rest = doubled (drop (k + 1) xs) in
    let d : doubled (drop k xs) ≡ 39 ∷ 39 ∷ rest = ap doubled (drop_more xs k 0 h ∙ ap (λ (b : ℕ). b ∷ drop (k + 1) xs) is) in
    let e : new ≡ (old ++ 39 ∷ []) ++ 39 ∷ [] = g ∙ (ap (λ (b : ℕ). mid ++ b ∷ []) is ∙ ap (λ (r : List ℕ). r ++ 39 ∷ []) f) in
    ap (λ (r : List ℕ). r ++ rest) e ∙ (append_assoc (old ++ 39 ∷ []) (39 ∷ []) rest ∙ (append_assoc old (39 ∷ []) (39 ∷ rest) ∙ (ap (λ (r : List ℕ). old ++ r) (sym d) ∙ i)))

byte_turn : (xs : List ℕ) (k : ℕ) (old new all : List ℕ) → k < length xs → (get_or xs k 0 ≡ 39 → ⊥) → new ≡ old ++ get_or xs k 0 ∷ []
    → old ++ doubled (drop k xs) ≡ all → new ++ doubled (drop (k + 1) xs) ≡ all
byte_turn xs k old new all h isnt g i =
    let rest = doubled (drop (k + 1) xs) in
    let b = get_or xs k 0 in
    let d : doubled (drop k xs) ≡ b ∷ rest = ap doubled (drop_more xs k 0 h) ∙ ap (λ z. if z then 39 ∷ 39 ∷ rest else b ∷ rest) (ne_eqb b 39 isnt) in
    ap (λ (r : List ℕ). r ++ rest) g ∙ (append_assoc old (b ∷ []) rest ∙ (ap (λ (r : List ℕ). old ++ r) (sym d) ∙ i))

pub loop-byte-preserved : goal.loop-byte-preserved
loop-byte-preserved c =
    elim c.if-byte-eq39.branch [
      | then-byte-eq39+in_ok-push w ↦
          quote_turn c.args.content.now c.loop-byte.byte-index c.loop-byte.text w.push.new.self c.push-in-loop-byte.new.self _ c.loop-byte-test.true w.if-byte-eq39.true w.in_ok-push.ensures.ok
          (rw w.text-is at c.in_ok-push-2.ensures.ok) c.loop-byte.invariant
      | else-byte-eq39 w ↦
          byte_turn c.args.content.now c.loop-byte.byte-index c.loop-byte.text c.push-in-loop-byte.new.self _ c.loop-byte-test.true w.if-byte-eq39.false
          (rw w.text-is at c.in_ok-push-2.ensures.ok) c.loop-byte.invariant
    ]

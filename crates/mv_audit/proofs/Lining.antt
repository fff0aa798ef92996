-- Whether lines begin with words.
use Rattle.std.proofs.Common.{◌≡◌, ℕ, ◌<◌, ◌≤◌, ◌+◌, true, false, List, [], ◌∷◌, length, drop, get_or, refl, ap, ◌∙◌}
use Rattle.std.specs.Prelude.{◌==◌, ◌&&◌}
use Rattle.std.proofs.lemmas.List.{drop_more, drop_all}
use Rattle.mv_report.specs.JournalLines.{begins_with}

-- the line ends before the word does
pub too_short : (i : ℕ) (line word : List ℕ) → length line ≤ i → i < length word → begins_with (drop i line) (drop i word) ≡ false
too_short i line word le lt = ap (λ x. begins_with x (drop i word)) (drop_all i line le) ∙ ap (begins_with []) (drop_more word i 0 lt)

-- two bytes differ
pub other_byte : (i : ℕ) (line word : List ℕ) → i < length line → i < length word → (get_or line i 0 == get_or word i 0) ≡ false → begins_with (drop i line) (drop i word) ≡ false
other_byte i line word ll lw is =
    ap (λ x. begins_with x (drop i word)) (drop_more line i 0 ll)
    ∙ (ap (begins_with (get_or line i 0 ∷ drop (i + 1) line)) (drop_more word i 0 lw)
    ∙ ap (λ b. b && begins_with (drop (i + 1) line) (drop (i + 1) word)) is)

empty : (line : List ℕ) → begins_with line [] ≡ true
empty [] = refl
empty (a ∷ line) = refl

-- the word has ended
pub whole_word : (i : ℕ) (line word : List ℕ) → length word ≤ i → begins_with (drop i line) (drop i word) ≡ true
whole_word i line word le = ap (begins_with (drop i line)) (drop_all i word le) ∙ empty (drop i line)

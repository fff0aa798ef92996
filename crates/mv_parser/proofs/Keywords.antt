-- Looking a word up in a table.
use Rattle.std.proofs.Common.{◌≡◌, ℕ, suc, ◌+◌, ◌<◌, ◌≤◌, Bool, true, false, cond, IsTrue, nat_eq, List, [], ◌∷◌, length, drop, get_or, refl, sym, ap, subst, ◌∙◌, add-one, arith}
use Rattle.std.specs.Borrow.{Bor}
use Rattle.std.specs.Cmp.Lexicographic.{pointwise, same_text, other_text}
use Rattle.std.specs.Char.{to_ascii_lowercase}
use Rattle.std.proofs.Math.Seq.{drop-cons}
use Rattle.std.proofs.lemmas.List.{drop_all}
use Rattle.mv_ast.specs.declared.lexeme.Terminal.{Terminal}
use Rattle.mv_ast.specs.declared.lexeme.Terminal.TheVariants as word
use Rattle.mv_ast.specs.Lexemes.{keywords, listed}
use Rattle.mv_ast.specs.Texts.{lower}
use Rattle.mv_parser.specs.Words.{table, Serves}

-- a comparison tells that texts are the same, and that they are not
same_words : (xs ys : List ℕ) → xs ≡ ys → pointwise nat_eq xs ys ≡ true
same_words xs ys h = go (pointwise nat_eq xs ys) refl
  where
    go : (b : Bool) → pointwise nat_eq xs ys ≡ b → b ≡ true
    go true e = refl
    go false e = absurd (other_text xs ys (sym e) h)

other_words : (xs ys : List ℕ) (found : Bool) → (xs ≡ ys → IsTrue found) → found ≡ false → pointwise nat_eq xs ys ≡ false
other_words xs ys found h e = go (pointwise nat_eq xs ys) refl
  where
    go : (b : Bool) → pointwise nat_eq xs ys ≡ b → b ≡ false
    go false w = refl
    go true w = let f = h (same_text xs ys (sym w)) in cc

-- the word at a place is the text, it is not, or no word is left
pub word_here : (words : List (Bor (List ℕ) × Terminal)) (at : ℕ) (d : Bor (List ℕ) × Terminal) (text : List ℕ) (kind : Terminal) → at < length words
    → lower (get_or words at d).0.now ≡ lower text → listed (table (drop at words)) word.Name (lower text) ≡ kind
    → (get_or words at d).1 ≡ kind
unfolding listed
word_here words at d text kind h e i =
    let j = subst (λ ws. listed (table ws) word.Name (lower text) ≡ kind) (drop-cons words at d h) i in
    subst (λ c. cond c (get_or words at d).1 (listed (table (drop (suc at) words)) word.Name (lower text)) ≡ kind) (same_words (lower (get_or words at d).0.now) (lower text) e) j

pub word_further : (words : List (Bor (List ℕ) × Terminal)) (at : ℕ) (d : Bor (List ℕ) × Terminal) (text : List ℕ) (kind : Terminal) (found : Bool) → at < length words
    → (lower (get_or words at d).0.now ≡ lower text → IsTrue found) → found ≡ false → listed (table (drop at words)) word.Name (lower text) ≡ kind
    → listed (table (drop (at + 1) words)) word.Name (lower text) ≡ kind
unfolding listed
word_further words at d text kind found h m e i =
    let j = subst (λ ws. listed (table ws) word.Name (lower text) ≡ kind) (drop-cons words at d h) i in
    let k = subst (λ c. cond c (get_or words at d).1 (listed (table (drop (suc at) words)) word.Name (lower text)) ≡ kind) (other_words (lower (get_or words at d).0.now) (lower text) found m e) j in
    ap (λ n. listed (table (drop n words)) word.Name (lower text)) (add-one at) ∙ k

pub word_nowhere : (words : List (Bor (List ℕ) × Terminal)) (at : ℕ) (text : List ℕ) (kind : Terminal) → length words ≤ at
    → listed (table (drop at words)) word.Name (lower text) ≡ kind → word.Name ≡ kind
unfolding listed
word_nowhere words at text kind h i = subst (λ ws. listed (table ws) word.Name (lower text) ≡ kind) (drop_all at words h) i

-- the words with the first letter of a text are enough
pub by_first : (words : List (List ℕ × Terminal)) (kind : Terminal) (first : ℕ) (rest : List ℕ) → kind ≡ listed words word.Name (lower (first ∷ rest))
    → Serves (to_ascii_lowercase first) words → kind ≡ listed keywords word.Name (lower (first ∷ rest))
by_first words kind first rest h i = h ∙ i (lower rest)

pub no_word : (text : List ℕ) → length text < 1 → word.Name ≡ listed keywords word.Name (lower text)
unfolding keywords listed
no_word [] h = refl
no_word (b ∷ bs) h = absurd (omega arith)

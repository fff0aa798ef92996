-- Well-formed XML: what a document and its parts are, after the grammar of XML 1.0, as far as pictures need it. The forms that
-- are left out (comments, instructions, sections of raw text) make fewer texts well-formed.
use Rattle.std.specs.Prelude.{◌≡◌, ℕ, Bool, true, false, ◌==◌, ◌&&◌, ◌||◌, not, List, [], ◌∷◌, ◌++◌, codes, nat_le, IsTrue, ◌⊎◌}
use Rattle.std.specs.List.{list_all}
use Rattle.mv_svg.specs.Escapes.{is_plain}

abbrev pub is_letter : ℕ → Bool
is_letter b = (nat_le 65 b && nat_le b 90) || (nat_le 97 b && nat_le b 122)

abbrev pub is_in_name : ℕ → Bool
is_in_name b = is_letter b || (nat_le 48 b && nat_le b 57)

-- a name: a letter, and after it letters and digits
abbrev pub is_name : List ℕ → Bool
is_name [] = false
is_name (b ∷ bs) = is_letter b && list_all is_in_name bs

-- the five references that each document may have
abbrev pub IsReference : List ℕ → Type 0
IsReference text = (text ≡ codes "&lt;") ⊎ ((text ≡ codes "&gt;") ⊎ ((text ≡ codes "&amp;") ⊎ ((text ≡ codes "&quot;") ⊎ (text ≡ codes "&apos;"))))

-- characters: plain bytes and references
pub data IsCharacters : List ℕ → Type 0 where
  no_characters : IsCharacters []
  plain : {rest : List ℕ} (b : ℕ) → IsTrue (is_plain b) → IsCharacters rest → IsCharacters (b ∷ rest)
  refers : {rest : List ℕ} (text : List ℕ) → IsReference text → IsCharacters rest → IsCharacters (text ++ rest)

-- the bytes are the same
abbrev pub same_bytes : List ℕ → List ℕ → Bool
same_bytes [] [] = true
same_bytes [] (b ∷ bs) = false
same_bytes (a ∷ more) [] = false
same_bytes (a ∷ more) (b ∷ others) = a == b && same_bytes more others

-- none of the names is this one
abbrev pub is_new : List (List ℕ) → List ℕ → Bool
is_new names name = list_all (λ other. not (same_bytes other name)) names

-- `AreAttributes names text`: the text is attributes, whose names differ and are none of these
pub data AreAttributes : List (List ℕ) → List ℕ → Type 0 where
  no_attributes : {names : List (List ℕ)} → AreAttributes names []
  attribute : {names : List (List ℕ)} {rest : List ℕ} (name value : List ℕ) → IsTrue (is_name name) → IsTrue (is_new names name) → IsCharacters value
      → AreAttributes (name ∷ names) rest → AreAttributes names (32 ∷ (name ++ (61 ∷ 34 ∷ (value ++ (34 ∷ rest)))))

-- what may be within an element: characters and elements, one after another
pub data IsContent : List ℕ → Type 0 where
  no_content : IsContent []
  characters : {text rest : List ℕ} → IsCharacters text → IsContent rest → IsContent (text ++ rest)
  nested : {attributes content rest : List ℕ} (name : List ℕ) → IsTrue (is_name name) → AreAttributes [] attributes → IsContent content → IsContent rest
      → IsContent (60 ∷ (name ++ (attributes ++ (62 ∷ (content ++ (60 ∷ 47 ∷ (name ++ (62 ∷ rest))))))))

-- a document: one element, and an LF
pub record IsDocument (text : List ℕ) : Type 0 where
  pub name : List ℕ
  pub attributes : List ℕ
  pub content : List ℕ
  pub named : IsTrue (is_name name)
  pub has : AreAttributes [] attributes
  pub holds : IsContent content
  pub text_is : text ≡ 60 ∷ (name ++ (attributes ++ (62 ∷ (content ++ (60 ∷ 47 ∷ (name ++ (62 ∷ 10 ∷ [])))))))

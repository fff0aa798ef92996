-- Elements with attributes that differ are content.
use Rattle.std.proofs.Common.{◌≡◌, ℕ, List, [], ◌∷◌, ◌++◌, codes, refl, sym, subst, append_assoc, append-nil}
use Rattle.std.specs.Prelude.{IsTrue}
use Rattle.mv_svg.specs.Shapes.{Attribute, attribute_text, attributes_text, inside, element}
use Rattle.mv_svg.specs.Xml.{is_name, is_new, IsCharacters, AreAttributes, no_attributes, attribute, IsContent, no_content, characters, nested}

-- the attributes have names that differ, and none of these
abbrev pub Differ : List (List ℕ) → List Attribute → Type 0
Differ names [] = Unit {0}
Differ names (a ∷ more) = IsTrue (is_name a.name) × IsTrue (is_new names a.name) × IsCharacters a.value × Differ (a.name ∷ names) more

pub attributes_are : (names : List (List ℕ)) (all : List Attribute) → Differ names all → AreAttributes names (attributes_text all)
attributes_are names [] h = no_attributes
attributes_are names (a ∷ more) h =
    let rest = attributes_are (a.name ∷ names) more h.3 in
    let whole : AreAttributes names (32 ∷ (a.name ++ (61 ∷ 34 ∷ (a.value ++ (34 ∷ attributes_text more))))) = attribute a.name a.value h.0 h.1 h.2 rest in
    subst (AreAttributes names) (joined a (attributes_text more)) whole
  where
    joined : (a : Attribute) (rest : List ℕ) → (32 ∷ (a.name ++ (61 ∷ 34 ∷ (a.value ++ (34 ∷ rest))))) ≡ attribute_text a ++ rest
    joined a rest = simp append_assoc

-- content after content is content
pub both : (a b : List ℕ) → IsContent a → IsContent b → IsContent (a ++ b)
both a b no_content h = h
both a b (characters {text = text} {rest = rest} are after) h = subst IsContent (sym (append_assoc text rest b)) (characters are (both rest b after h))
both a b (nested {attributes = attributes} {content = inner} {rest = rest} name named has holds after) h =
    subst IsContent (moved name attributes inner rest b) (nested name named has holds (both rest b after h))
  where
    moved : (name attributes inner rest b : List ℕ) → (60 ∷ (name ++ (attributes ++ (62 ∷ (inner ++ (60 ∷ 47 ∷ (name ++ (62 ∷ (rest ++ b)))))))))
        ≡ (60 ∷ (name ++ (attributes ++ (62 ∷ (inner ++ (60 ∷ 47 ∷ (name ++ (62 ∷ rest)))))))) ++ b
    moved name attributes inner rest b = simp append_assoc

-- an element is content
pub element_is : (name : List ℕ) (all : List Attribute) (inner : List ℕ) → IsTrue (is_name name) → Differ [] all → IsContent inner → IsContent (element name all inner)
element_is name all inner named differ holds =
    subst IsContent (ended name (attributes_text all) inner) (nested name named (attributes_are [] all differ) holds no_content)
  where
    ended : (name attributes inner : List ℕ) → (60 ∷ (name ++ (attributes ++ (62 ∷ (inner ++ (60 ∷ 47 ∷ (name ++ (62 ∷ []))))))))
        ≡ codes "<" ++ (name ++ (attributes ++ inside name inner))
    ended name attributes inner = refl

-- characters are content
pub characters_are : (text : List ℕ) → IsCharacters text → IsContent text
characters_are text h = subst IsContent (append-nil text) (characters h no_content)

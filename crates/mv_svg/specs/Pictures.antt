-- How a whole picture is written.
use Rattle.std.specs.Prelude.{◌≡◌, ℕ, List, [], ◌∷◌, ◌++◌, codes}
use Rattle.mv_svg.specs.Escapes.{escaped}
use Rattle.mv_svg.specs.Shapes.{Attribute, attributes_text, inside, element, number_attribute, pair_text}

-- the part of the plane that is shown
abbrev pub view_attribute : ℕ → ℕ → Attribute
view_attribute width height = record { name = codes "viewBox"; value = codes "0 0 " ++ pair_text width height }

-- the attributes of a picture: the language that its elements are of, and its size
unfoldable pub frame_attributes : ℕ → ℕ → List Attribute
frame_attributes width height = record { name = codes "xmlns"; value = codes "http://www.w3.org/2000/svg" } ∷ (record { name = codes "version"; value = codes "1.1" }
    ∷ (number_attribute (codes "width") width ∷ (number_attribute (codes "height") height
    ∷ (view_attribute width height ∷ []))))

-- the content of a picture: its style sheet, and what is drawn
abbrev pub styled_text : List ℕ → List ℕ → List ℕ
styled_text style drawn = element (codes "style") [] (escaped style) ++ drawn

-- a picture with this content
abbrev pub picture_text : ℕ → ℕ → List ℕ → List ℕ
picture_text width height content = codes "<" ++ (codes "svg" ++ (attributes_text (frame_attributes width height) ++ (inside (codes "svg") content ++ codes "\n")))

-- the content is what is drawn, after some style sheet
abbrev pub IsStyled : List ℕ → List ℕ → Type 0
IsStyled drawn content = (style : List ℕ) × (content ≡ styled_text style drawn)

-- the text is a picture of this size, of what is drawn
abbrev pub IsPicture : ℕ → ℕ → List ℕ → List ℕ → Type 0
IsPicture width height drawn text = (style : List ℕ) × (text ≡ picture_text width height (styled_text style drawn))

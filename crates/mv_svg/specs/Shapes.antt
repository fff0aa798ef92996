-- How shapes and words are written as elements.
use Rattle.std.specs.Prelude.{ℕ, List, [], ◌∷◌, ◌++◌, codes, decimal}
use Rattle.mv_svg.specs.declared.look.Look.{Look}
use Rattle.mv_svg.specs.declared.look.Look.TheVariants as look
use Rattle.mv_svg.specs.declared.shape.Shape.{Shape}
use Rattle.mv_svg.specs.declared.shape.Shape.TheVariants.{Rect, Line, Triangle, Diamond, Arc}

pub record Attribute : Type 0 where
  pub name : List ℕ
  pub value : List ℕ

-- an attribute: a space, its name, `=`, and its value in double quotes
abbrev pub attribute_text : Attribute → List ℕ
attribute_text a = codes " " ++ (a.name ++ (codes "=\"" ++ (a.value ++ codes "\"")))

abbrev pub attributes_text : List Attribute → List ℕ
attributes_text [] = []
attributes_text (a ∷ more) = attribute_text a ++ attributes_text more

-- an element of this name from the end of its attributes on
abbrev pub inside : List ℕ → List ℕ → List ℕ
inside name content = codes ">" ++ (content ++ (codes "</" ++ (name ++ codes ">")))

-- an element with this name, these attributes and this content
abbrev pub element : List ℕ → List Attribute → List ℕ → List ℕ
element name attributes content = codes "<" ++ (name ++ (attributes_text attributes ++ inside name content))

abbrev pub number_attribute : List ℕ → ℕ → Attribute
number_attribute name value = record { name = name; value = decimal value }

-- the class of each look
abbrev pub look_name : Look → List ℕ
look_name look.Head = codes "head"
look_name look.Note = codes "note"
look_name look.Label = codes "label"
look_name look.Side = codes "side"
look_name look.Strong = codes "strong"
look_name look.Tick = codes "tick"
look_name look.Code = codes "code"
look_name look.Grid = codes "grid"
look_name look.Guide = codes "guide"
look_name look.First = codes "first"
look_name look.Again = codes "again"
look_name look.Undone = codes "undone"
look_name look.Mark = codes "mark"
look_name look.Live = codes "live"
look_name look.Control = codes "control"
look_name look.Variable = codes "variable"
look_name look.Table = codes "table"

abbrev pub look_attribute : Look → Attribute
look_attribute l = record { name = codes "class"; value = look_name l }

abbrev pub tag_of : Shape → List ℕ
tag_of (Rect x y width height) = codes "rect"
tag_of (Line x1 y1 x2 y2) = codes "line"
tag_of (Triangle x y) = codes "path"
tag_of (Diamond x y) = codes "path"
tag_of (Arc x from to bend) = codes "path"

-- two numbers, with a space between them
abbrev pub pair_text : ℕ → ℕ → List ℕ
pair_text first second = decimal first ++ (codes " " ++ decimal second)

-- the command of a curve, up to its end
abbrev pub curve_text : ℕ → ℕ → ℕ → List ℕ
curve_text bend from to = codes "C" ++ (pair_text bend from ++ (codes " " ++ (pair_text bend to ++ codes " ")))

-- a path by its commands
abbrev pub path_attribute : List ℕ → Attribute
path_attribute commands = record { name = codes "d"; value = codes "M" ++ commands }

-- the attributes that say where a shape is
abbrev pub places : Shape → List Attribute
places (Rect x y width height) = number_attribute (codes "x") x ∷ (number_attribute (codes "y") y ∷ (number_attribute (codes "width") width ∷ (number_attribute (codes "height") height ∷ [])))
places (Line x1 y1 x2 y2) = number_attribute (codes "x1") x1 ∷ (number_attribute (codes "y1") y1 ∷ (number_attribute (codes "x2") x2 ∷ (number_attribute (codes "y2") y2 ∷ [])))
places (Triangle x y) = path_attribute (pair_text x y ++ codes "l5 9h-10z") ∷ []
places (Diamond x y) = path_attribute (pair_text x y ++ codes "l5 5l-5 5l-5-5z") ∷ []
places (Arc x from to bend) = path_attribute (pair_text x from ++ (curve_text bend from to ++ pair_text x to)) ∷ []

-- a shape, with content such as its title
abbrev pub shape_text : Look → Shape → List ℕ → List ℕ
shape_text l shape content = element (tag_of shape) (look_attribute l ∷ places shape) content

-- words at a place, as the content of their element
abbrev pub words_text : Look → ℕ → ℕ → List ℕ → List ℕ
words_text l x y content = element (codes "text") (look_attribute l ∷ (number_attribute (codes "x") x ∷ (number_attribute (codes "y") y ∷ []))) content

-- The rows of a time line: one for each call, with its title and its bar. Their form is this project's own.
use Rattle.std.specs.Prelude.{◌≡◌, ℕ, ◌+◌, List, [], ◌++◌, codes, decimal}
use Rattle.mv_svg.specs.declared.look.Look.{Look}
use Rattle.mv_svg.specs.declared.shape.Shape.{Shape}
use Rattle.mv_svg.specs.declared.shape.Shape.TheVariants.{Rect, Line, Triangle, Diamond, Arc}
use Rattle.mv_svg.specs.Escapes.{escaped}
use Rattle.mv_svg.specs.Shapes.{element, shape_text}

-- the title names the call on its first line
abbrev pub IsTitle : ℕ → List ℕ → Type 0
IsTitle call title = (story : List ℕ) × (title ≡ codes "call " ++ (decimal call ++ (codes "\n" ++ story)))

abbrev pub IsRect : Shape → Type 0
IsRect (Rect x y width height) = Unit {0}
IsRect (Line x1 y1 x2 y2) = ⊥
IsRect (Triangle x y) = ⊥
IsRect (Diamond x y) = ⊥
IsRect (Arc x from to bend) = ⊥

-- the row of this call: a title that names it, its bar, and the rest
pub record IsRow (call : ℕ) (row : List ℕ) : Type 0 where
  pub title : List ℕ
  pub look : Look
  pub bar : Shape
  pub rest : List ℕ
  pub names : IsTitle call title
  pub is_rect : IsRect bar
  pub row_is : row ≡ (element (codes "title") [] (escaped title) ++ shape_text look bar []) ++ rest

-- the rows of so many calls, by their numbers from 0, each as a group
pub data AreRows : ℕ → List ℕ → Type 0 where
  no_row : AreRows 0 []
  one_more : {calls : ℕ} {rows : List ℕ} (row : List ℕ) → AreRows calls rows → IsRow calls row → AreRows (calls + 1) (rows ++ element (codes "g") [] row)

-- the part stands in the text
abbrev pub Holds : List ℕ → List ℕ → Type 0
Holds text part = (front : List ℕ) × (back : List ℕ) × (text ≡ front ++ (part ++ back))

-- the text has the rows of so many calls
abbrev pub ShowsRows : ℕ → List ℕ → Type 0
ShowsRows calls text = (rows : List ℕ) × AreRows calls rows × Holds text rows

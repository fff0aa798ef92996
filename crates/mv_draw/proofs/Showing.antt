-- Rows that stand in a picture.
use Rattle.std.proofs.Common.{◌≡◌, ℕ, List, [], ◌++◌, Result, Ok, Err, codes, sym, ap, subst, ◌∙◌, append_assoc, append-nil}
use Rattle.std.specs.Prelude.{IfOk, decimal}
use Rattle.mv_svg.specs.declared.look.Look.{Look}
use Rattle.mv_svg.specs.declared.shape.Shape.{Shape}
use Rattle.mv_svg.specs.Escapes.{escaped}
use Rattle.mv_svg.specs.Shapes.{Attribute, attributes_text, inside, element, shape_text}
use Rattle.mv_svg.specs.Pictures.{frame_attributes, picture_text, styled_text, IsPicture}
use Rattle.mv_draw.specs.Rows.{AreRows, Holds, ShowsRows}

whole : (part : List ℕ) → Holds part part
whole part = ([], [], sym (append-nil part))

at_left : (part a b : List ℕ) → Holds a part → Holds (a ++ b) part
at_left part a b h = (h.0, h.1 ++ b, ap (λ t. t ++ b) h.2 ∙ (append_assoc h.0 (part ++ h.1) b ∙ ap (λ t. h.0 ++ t) (append_assoc part h.1 b)))

at_right : (part a b : List ℕ) → Holds b part → Holds (a ++ b) part
at_right part a b h = (a ++ h.0, h.1, ap (λ t. a ++ t) h.2 ∙ sym (append_assoc a h.0 (part ++ h.1)))

in_inside : (part name inner : List ℕ) → Holds inner part → Holds (inside name inner) part
in_inside part name inner h = at_right part (codes ">") (inner ++ (codes "</" ++ (name ++ codes ">"))) (at_left part inner (codes "</" ++ (name ++ codes ">")) h)

in_element : (part name : List ℕ) (attributes : List Attribute) (inner : List ℕ) → Holds inner part → Holds (element name attributes inner) part
in_element part name attributes inner h =
    at_right part (codes "<") (name ++ (attributes_text attributes ++ inside name inner))
    (at_right part name (attributes_text attributes ++ inside name inner) (at_right part (attributes_text attributes) (inside name inner) (in_inside part name inner h)))

in_picture : (part : List ℕ) (width height : ℕ) (style drawn : List ℕ) → Holds drawn part → Holds (picture_text width height (styled_text style drawn)) part
in_picture part width height style drawn h =
    let content = styled_text style drawn in
    let frame = attributes_text (frame_attributes width height) in
    let held = in_inside part (codes "svg") content (at_right part (element (codes "style") [] (escaped style)) drawn h) in
    at_right part (codes "<") (codes "svg" ++ (frame ++ (inside (codes "svg") content ++ codes "\n")))
    (at_right part (codes "svg") (frame ++ (inside (codes "svg") content ++ codes "\n")) (at_right part frame (inside (codes "svg") content ++ codes "\n") (at_left part (inside (codes "svg") content) (codes "\n") held)))

-- rows in a group, with a group after it
pub in_groups : (before first second rows marks : List ℕ) → first ≡ before ++ element (codes "g") [] rows → second ≡ first ++ element (codes "g") [] marks → Holds second rows
in_groups before first second rows marks p q =
    let one : Holds first rows = subst (λ t. Holds t rows) (sym p) (at_right rows before (element (codes "g") [] rows) (in_element rows (codes "g") [] rows (whole rows))) in
    subst (λ t. Holds t rows) (sym q) (at_left rows first (element (codes "g") [] marks) one)

-- a picture of what has the rows
pub shows : {E : Type 0} (r : Result (List ℕ) E) (calls width height : ℕ) (drawn rows : List ℕ) → AreRows calls rows → Holds drawn rows → IfOk r (IsPicture width height drawn) → IfOk r (ShowsRows calls)
shows (Ok text) calls width height drawn rows are h e = (rows, are, subst (λ t. Holds t rows) (sym e.1) (in_picture rows width height e.0 drawn h))
shows (Err x) calls width height drawn rows are h e = tt

-- rows of as many calls
pub shows_as_many : {E : Type 0} (r : Result (List ℕ) E) (n m : ℕ) → n ≡ m → IfOk r (ShowsRows n) → IfOk r (ShowsRows m)
shows_as_many r n m e h = subst (λ calls. IfOk r (ShowsRows calls)) e h

-- a title that was put together
pub titled : (call : ℕ) (new one two three story : List ℕ) → new ≡ [] → one ≡ new ++ (codes "call " ++ decimal call) → two ≡ one ++ codes "\n" → three ≡ two ++ story
    → three ≡ codes "call " ++ (decimal call ++ (codes "\n" ++ story))
titled call new one two three story a b c d =
    let begun : one ≡ codes "call " ++ decimal call = b ∙ ap (λ t. t ++ (codes "call " ++ decimal call)) a in
    let line : two ≡ (codes "call " ++ decimal call) ++ codes "\n" = c ∙ ap (λ t. t ++ codes "\n") begun in
    d ∙ (ap (λ t. t ++ story) line ∙ ap (λ t. codes "call " ++ t) (append_assoc (decimal call) (codes "\n") story))

-- a row that was put together
pub rowed : (zero one two front : List ℕ) (look : Look) (bar : Shape) (none rest : List ℕ) → zero ≡ front → one ≡ zero ++ shape_text look bar none → none ≡ [] → two ≡ one ++ rest
    → two ≡ (front ++ shape_text look bar []) ++ rest
rowed zero one two front look bar none rest a b c d = d ∙ ap (λ t. t ++ rest) (b ∙ (ap (λ t. t ++ shape_text look bar none) a ∙ ap (λ t. front ++ shape_text look bar t) c))

-- Shapes, words and titles are content, and a picture is a document.
use Rattle.std.proofs.Common.{◌≡◌, ℕ, List, [], ◌∷◌, ◌++◌, Result, Ok, Err, OnOk, OnErr, codes, refl, sym, ap, subst, ◌∙◌, append_assoc}
use Rattle.std.proofs.Math.Logic.{∥∥₁_map, ∥∥₁_elim, ∥∥₁_prop}
use Rattle.std.specs.Prelude.{IsTrue, decimal}
use Rattle.mv_svg.specs.declared.look.Look.{Look}
use Rattle.mv_svg.specs.declared.look.Look.TheVariants as look
use Rattle.mv_svg.specs.declared.shape.Shape.{Shape}
use Rattle.mv_svg.specs.declared.shape.Shape.TheVariants.{Rect, Line, Triangle, Diamond, Arc}
use Rattle.mv_svg.specs.Escapes.{escaped, is_plain}
use Rattle.mv_svg.specs.Shapes.{Attribute, number_attribute, attributes_text, inside, element, look_name, look_attribute, tag_of, pair_text, curve_text, places, shape_text, words_text}
use Rattle.mv_svg.specs.Pictures.{frame_attributes, picture_text}
use Rattle.mv_svg.specs.Xml.{is_name, IsCharacters, no_characters, plain, IsContent, IsDocument}
use Rattle.std.specs.List.{list_all}
use Rattle.std.proofs.lemmas.Bool.{and_parts}
use Rattle.mv_svg.proofs.Characters.{escaped_is, decimal_is, both}
use Rattle.mv_svg.proofs.Elements.{Differ, attributes_are, element_is, characters_are, both as both_contents}

-- plain bytes are characters
pub plain_are : (text : List ℕ) → IsTrue (list_all is_plain text) → IsCharacters text
plain_are [] h = no_characters
plain_are (b ∷ bs) h = let parts = and_parts (is_plain b) (list_all is_plain bs) h in plain b parts.0 (plain_are bs parts.1)

pair_is : (a b : ℕ) → IsCharacters (pair_text a b)
pair_is a b = both (decimal a) _ (decimal_is a) (both (codes " ") _ (plain_are (codes " ") refl) (decimal_is b))

curve_is : (bend from to : ℕ) → IsCharacters (curve_text bend from to)
curve_is bend from to =
    both (codes "C") _ (plain_are _ refl) (both (pair_text bend from) _ (pair_is bend from) (both (codes " ") _ (plain_are _ refl) (both (pair_text bend to) _ (pair_is bend to) (plain_are _ refl))))

look_is : (l : Look) → IsCharacters (look_name l)
look_is look.Head = plain_are _ refl
look_is look.Note = plain_are _ refl
look_is look.Label = plain_are _ refl
look_is look.Side = plain_are _ refl
look_is look.Strong = plain_are _ refl
look_is look.Tick = plain_are _ refl
look_is look.Code = plain_are _ refl
look_is look.Grid = plain_are _ refl
look_is look.Guide = plain_are _ refl
look_is look.First = plain_are _ refl
look_is look.Again = plain_are _ refl
look_is look.Undone = plain_are _ refl
look_is look.Mark = plain_are _ refl
look_is look.Live = plain_are _ refl
look_is look.Control = plain_are _ refl
look_is look.Variable = plain_are _ refl
look_is look.Table = plain_are _ refl

path_is : (commands : List ℕ) → IsCharacters commands → IsCharacters (codes "M" ++ commands)
path_is commands h = both (codes "M") commands (plain_are _ refl) h

differ : (l : Look) (shape : Shape) → Differ [] (look_attribute l ∷ places shape)
differ l (Rect x y width height) = (refl, refl, look_is l, (refl, refl, decimal_is x, (refl, refl, decimal_is y, (refl, refl, decimal_is width, (refl, refl, decimal_is height, tt)))))
differ l (Line x1 y1 x2 y2) = (refl, refl, look_is l, (refl, refl, decimal_is x1, (refl, refl, decimal_is y1, (refl, refl, decimal_is x2, (refl, refl, decimal_is y2, tt)))))
differ l (Triangle x y) = (refl, refl, look_is l, (refl, refl, path_is _ (both (pair_text x y) _ (pair_is x y) (plain_are _ refl)), tt))
differ l (Diamond x y) = (refl, refl, look_is l, (refl, refl, path_is _ (both (pair_text x y) _ (pair_is x y) (plain_are _ refl)), tt))
differ l (Arc x from to bend) = (refl, refl, look_is l, (refl, refl, path_is _ (both (pair_text x from) _ (pair_is x from) (both (curve_text bend from to) _ (curve_is bend from to) (pair_is x to))), tt))

tag_is : (shape : Shape) → IsTrue (is_name (tag_of shape))
tag_is (Rect x y width height) = refl
tag_is (Line x1 y1 x2 y2) = refl
tag_is (Triangle x y) = refl
tag_is (Diamond x y) = refl
tag_is (Arc x from to bend) = refl

words_are : (words : List ℕ) → IsContent (escaped words)
words_are words = characters_are (escaped words) (escaped_is words)

pub shape_is : (l : Look) (shape : Shape) (inner : List ℕ) → IsContent inner → IsContent (shape_text l shape inner)
shape_is l shape inner h = element_is (tag_of shape) (look_attribute l ∷ places shape) inner (tag_is shape) (differ l shape) h

pub words_is : (l : Look) (x y : ℕ) (words : List ℕ) → IsContent (words_text l x y (escaped words))
words_is l x y words =
    let all : List Attribute = look_attribute l ∷ (number_attribute (codes "x") x ∷ (number_attribute (codes "y") y ∷ [])) in
    let differ_so : Differ [] all = (refl, refl, look_is l, (refl, refl, decimal_is x, (refl, refl, decimal_is y, tt))) in
    element_is (codes "text") all (escaped words) refl differ_so (words_are words)

-- an element without attributes
pub bare_is : (tag inner : List ℕ) → IsTrue (is_name tag) → IsContent inner → IsContent (element tag [] inner)
bare_is tag inner named h = element_is tag [] inner named tt h

pub title_is : (words : List ℕ) → IsContent (element (codes "title") [] (escaped words))
title_is words = bare_is (codes "title") (escaped words) refl (words_are words)

frame_differs : (width height : ℕ) → Differ [] (frame_attributes width height)
unfolding frame_attributes
frame_differs width height = (
  refl,
  refl,
  plain_are _ refl,
  (
    refl,
    refl,
    plain_are _ refl,
    (
      refl,
      refl,
      decimal_is width,
      (
        refl,
        refl,
        decimal_is height,
        (refl, refl, both (codes "0 0 ") _ (plain_are _ refl) (pair_is width height), tt),
      ),
    ),
  ),
)

-- a picture of content is a document
pub picture_is : (width height : ℕ) (inner : List ℕ) → IsContent inner → IsDocument (picture_text width height inner)
picture_is width height inner h = record {
  name = codes "svg";
  attributes = attributes_text (frame_attributes width height);
  content = inner;
  named = refl;
  has = attributes_are [] (frame_attributes width height) (frame_differs width height);
  holds = h;
  text_is = ended (attributes_text (frame_attributes width height)) inner;
}
  where
    ended : (attributes inner : List ℕ) → codes "<" ++ (codes "svg" ++ (attributes ++ (inside (codes "svg") inner ++ codes "\n")))
        ≡ 60 ∷ (codes "svg" ++ (attributes ++ (62 ∷ (inner ++ (60 ∷ 47 ∷ (codes "svg" ++ (62 ∷ 10 ∷ [])))))))
    ended attributes inner = simp append_assoc

-- the content of a picture: its style, and what was drawn
pub styled : (style drawn : List ℕ) → IsContent drawn → IsContent (element (codes "style") [] (escaped style) ++ drawn)
styled style drawn h = both_contents (element (codes "style") [] (escaped style)) drawn (bare_is (codes "style") (escaped style) refl (words_are style)) h

-- a text that was begun anew, through the slice that borrows it
pub anew : (slice text first piece : List ℕ) → slice ≡ text → text ≡ first ++ piece → first ≡ [] → slice ≡ piece
anew slice text first piece a b c = a ∙ (b ∙ ap (λ t. t ++ piece) c)

-- a piece after content that is well-formed
pub grew : (before after piece : List ℕ) → after ≡ before ++ piece → IsContent piece → IsContent before → IsContent after
grew before after piece e p b = subst IsContent (sym e) (both_contents before piece b p)

-- content after an attempt to add a piece: with the piece, or as it was
pub grew_by : {T E : Type 0} (r : Result T E) (before after piece : List ℕ) → OnOk r (after ≡ before ++ piece) → OnErr r (after ≡ before) → ∥ IsContent piece ∥₁ → ∥ IsContent before ∥₁ → ∥ IsContent after ∥₁
grew_by (Ok x) before after piece ok err p b = ∥∥₁_elim p ∥∥₁_prop (λ q. ∥∥₁_map b (grew before after piece ok q))
grew_by (Err x) before after piece ok err p b = ∥∥₁_map b (subst IsContent (sym err))

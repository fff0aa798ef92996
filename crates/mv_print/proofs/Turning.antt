-- Parts of the grammar by the roles of their tokens.
use Rattle.std.proofs.Common.{◌≡◌, ℕ, suc, List, [], ◌∷◌, ◌++◌, Option, Some, None, map, refl, ap}
use Rattle.std.specs.Option.{option_map}
use Rattle.mv_ast.specs.declared.lexeme.Terminal.{Terminal}
use Rattle.mv_ast.specs.declared.lexeme.Terminal.TheVariants as word
use Rattle.mv_ast.specs.Limits.{together}
use Rattle.mv_ast.specs.Parts.{Part, one}
use Rattle.mv_ast.specs.Grammar.{place, many, separated, commas, optional, in_parens, ◌◂◌, ◌▸◌}
use Rattle.mv_print.specs.Printing.{Piece, key, line_end, separated as printed_separated}
use Rattle.mv_print.proofs.Light.{kinds, Plain, Opens, BehindEnd, Light, light_plain, light_opens, light_close}
use Rattle.mv_print.proofs.Building.{Goodness, Sound, Prints, marks, Turns, Gives, turns_give, turns_next, turns_skip, turns_place, turns_behind, turns_either, turns_as, turns_left, turns_then, turns_raised, turns_after, turns_mark, turns_ends, TurnsTo}
use Rattle.mv_print.proofs.Sounding.{sound_key, sound_end}

-- Keywords and symbols that change no level.
pub record PlainKey (t : Terminal) : Type 0 where
  pub sound : Sound (key t)
  pub plain : Plain t

abbrev pub KeyFor : Terminal → Type 0
KeyFor word.Name = Unit {0}
KeyFor word.Number = Unit {0}
KeyFor word.Quoted = Unit {0}
KeyFor word.Variable = Unit {0}
KeyFor word.Block = Unit {0}
KeyFor word.OpenBlock = Unit {0}
KeyFor word.Text = Unit {0}
KeyFor word.Open = Unit {0}
KeyFor word.Close = Unit {0}
KeyFor word.Begin = Unit {0}
KeyFor word.End = Unit {0}
KeyFor word.If = Unit {0}
KeyFor word.For = Unit {0}
KeyFor t = PlainKey t

pub plain_key : (t : Terminal) → KeyFor t
plain_key word.Name = tt
plain_key word.Number = tt
plain_key word.Quoted = tt
plain_key word.Variable = tt
plain_key word.Block = tt
plain_key word.OpenBlock = tt
plain_key word.Text = tt
plain_key word.Open = tt
plain_key word.Close = tt
plain_key word.Begin = tt
plain_key word.End = tt
plain_key word.If = tt
plain_key word.For = tt
plain_key t = record { sound = sound_key t; plain = record { opens = refl; closes = refl; ends = refl } }

-- Turns by the role of a token: behind a part, before one, or its number.
pub skip : {A : Type 0} {m n : ℕ} {G : Goodness} {bytes text : List ℕ} {d : ℕ} {t : Terminal} {K : A → List Piece → Type 0} {R : A → A → Type 0} {p p' : Part A}
    → PlainKey t → TurnsTo m n G bytes text d p p' (λ a ps. K a (ps ++ key t ∷ [])) R → TurnsTo m n G bytes text d (p ◂ one t) (p' ◂ one t) K R
skip {n = n} {t = t} s x = turns_skip (key t) s.sound refl (light_plain n t s.plain) x

-- a token that begins a level
pub skip_open : {A : Type 0} {m n : ℕ} {G : Goodness} {bytes text : List ℕ} {d : ℕ} {t : Terminal} {K : A → List Piece → Type 0} {R : A → A → Type 0} {p p' : Part A}
    → Sound (key t) → Opens t → TurnsTo m n G bytes text d p p' (λ a ps. K a (ps ++ key t ∷ [])) R → TurnsTo m (suc n) G bytes text d (p ◂ one t) (p' ◂ one t) K R
skip_open {n = n} {t = t} s o x = turns_skip (key t) s refl (light_opens n t o) x

pub skip_close : {A : Type 0} {m n : ℕ} {G : Goodness} {bytes text : List ℕ} {d : ℕ} {K : A → List Piece → Type 0} {R : A → A → Type 0} {p p' : Part A}
    → TurnsTo m (suc n) G bytes text d p p' (λ a ps. K a (ps ++ key word.Close ∷ [])) R → TurnsTo m n G bytes text d (p ◂ one word.Close) (p' ◂ one word.Close) K R
skip_close {n = n} x = turns_skip (key word.Close) (sound_key word.Close) refl (light_close n) x

-- `;` at the end of a line
pub skip_end : {A : Type 0} {m n : ℕ} {G : Goodness} {bytes text : List ℕ} {d : ℕ} {K : A → List Piece → Type 0} {R : A → A → Type 0} {p p' : Part A}
    → TurnsTo m n G bytes text d p p' (λ a ps. K a (ps ++ line_end ∷ [])) R → TurnsTo m n G bytes text d (p ◂ one word.Semicolon) (p' ◂ one word.Semicolon) K R
skip_end {n = n} x = turns_skip line_end sound_end refl (light_plain n word.Semicolon (record { opens = refl; closes = refl; ends = refl })) x

-- END and a word, and END and `;` at the end of a line
pub skip_ends : {A : Type 0} {m n : ℕ} {G : Goodness} {bytes text : List ℕ} {d : ℕ} {t : Terminal} {K : A → List Piece → Type 0} {R : A → A → Type 0} {p p' : Part A}
    → Sound (key t) → BehindEnd t
    → TurnsTo m (suc n) G bytes text d p p' (λ a ps. K a ((ps ++ key word.End ∷ []) ++ key t ∷ [])) R → TurnsTo m n G bytes text d (p ◂ one word.End ◂ one t) (p' ◂ one word.End ◂ one t) K R
skip_ends {t = t} s b x = turns_ends (key word.End) (key t) (sound_key word.End) s refl refl b x

pub skip_end_line : {A : Type 0} {m n : ℕ} {G : Goodness} {bytes text : List ℕ} {d : ℕ} {K : A → List Piece → Type 0} {R : A → A → Type 0} {p p' : Part A}
    → TurnsTo m (suc n) G bytes text d p p' (λ a ps. K a ((ps ++ key word.End ∷ []) ++ line_end ∷ [])) R
    → TurnsTo m n G bytes text d (p ◂ one word.End ◂ one word.Semicolon) (p' ◂ one word.End ◂ one word.Semicolon) K R
skip_end_line x = turns_ends (key word.End) line_end (sound_key word.End) sound_end refl refl (record { opens = refl; closes = refl; ends = refl }) x

pub behind_key : {A : Type 0} {m n : ℕ} {G : Goodness} {bytes text : List ℕ} {d : ℕ} {t : Terminal} {K : A → List Piece → Type 0} {R : A → A → Type 0} {p p' : Part A}
    → PlainKey t → TurnsTo m n G bytes text d p p' (λ a ps. K a (key t ∷ ps)) R → TurnsTo m n G bytes text d (one t ▸ p) (one t ▸ p') K R
behind_key {m = m} {t = t} s x = turns_behind (key t) s.sound refl (light_plain m t s.plain) x

pub place_key : {n : ℕ} {G : Goodness} {bytes text : List ℕ} {d : ℕ} {t : Terminal} → PlainKey t → TurnsTo n n G bytes text d (place t) (place t) (λ n ps. ps ≡ key t ∷ []) (λ n m. Unit {0})
place_key {n = n} {t = t} s = turns_place (key t) s.sound refl (light_plain n t s.plain)

pub place_open : {n : ℕ} {G : Goodness} {bytes text : List ℕ} {d : ℕ} {t : Terminal} → Sound (key t) → Opens t → TurnsTo n (suc n) G bytes text d (place t) (place t) (λ n ps. ps ≡ key t ∷ []) (λ n m. Unit {0})
place_open {n = n} {t = t} s o = turns_place (key t) s refl (light_opens n t o)

pub turns_parens : {A : Type 0} {G : Goodness} {bytes text : List ℕ} {d : ℕ} {K : A → List Piece → Type 0} {R : A → A → Type 0} {p p' : Part A}
    → TurnsTo 0 0 G bytes text d p p' (λ a ps. K a (key word.Open ∷ (ps ++ key word.Close ∷ []))) R → TurnsTo 0 0 G bytes text d (in_parens p) (in_parens p') K R
turns_parens x = skip_close (turns_behind (key word.Open) (sound_key word.Open) refl (light_opens 0 word.Open (record { opens = refl; ends = refl })) (turns_raised 1 x))

pub turns_many : {A B : Type 0} {G : Goodness} {bytes text : List ℕ} {d : ℕ} {K : List A → List Piece → Type 0} {p p' : Part A} {f : A → List Piece} {c : A → B}
    → Turns G bytes text d p p' (λ v ps. ps ≡ f v) (λ v w. c v ≡ c w) → ((vs : List A) → K vs (together (map f vs)))
    → Turns G bytes text d (many p) (many p') K (λ v w. map c v ≡ map c w)
turns_many x k = turns_left x (turns_give k refl)

pub turns_separated : {A B : Type 0} {G : Goodness} {bytes text : List ℕ} {d : ℕ} {t : Terminal} {K : List A → List Piece → Type 0} {p p' : Part A} {f : A → List Piece} {c : A → B}
    → PlainKey t → Turns G bytes text d p p' (λ v ps. ps ≡ f v) (λ v w. c v ≡ c w) → ((v : A) (vs : List A) → K (v ∷ vs) (printed_separated t f (v ∷ vs)))
    → Turns G bytes text d (separated (one t) p) (separated (one t) p') K (λ v w. map c v ≡ map c w)
turns_separated {t = t} s x k =
    turns_left (behind_key s (turns_as (λ v ps h. ap (λ r. key t ∷ r) h) (λ v w h. h) x)) (turns_next x (turns_give k (λ a b h. ap (λ r. r ∷ []) h)))

pub turns_commas : {A B : Type 0} {G : Goodness} {bytes text : List ℕ} {d : ℕ} {K : List A → List Piece → Type 0} {p p' : Part A} {f : A → List Piece} {c : A → B}
    → Turns G bytes text d p p' (λ v ps. ps ≡ f v) (λ v w. c v ≡ c w) → ((v : A) (vs : List A) → K (v ∷ vs) (printed_separated word.Comma f (v ∷ vs)))
    → Turns G bytes text d (commas p) (commas p') K (λ v w. map c v ≡ map c w)
turns_commas x k = turns_separated (plain_key word.Comma) x k

pub turns_optional : {A B : Type 0} {G : Goodness} {bytes text : List ℕ} {d : ℕ} {K : Option A → List Piece → Type 0} {c : A → B} {p p' : Part A}
    → Turns G bytes text d p p' (λ a ps. K (Some a) ps) (λ v w. c v ≡ c w) → K None []
    → Turns G bytes text d (optional p) (optional p') K (λ v w. option_map c v ≡ option_map c w)
turns_optional x k = turns_either (turns_then x (turns_give (λ a qs h. h) (λ a b h. ap Some h))) (turns_give k refl)

-- a part whose values are known, with pieces of their own
pub turns_found : {A : Type 0} {G : Goodness} {bytes text : List ℕ} {d : ℕ} {H : A → Type 0} {f : A → List Piece} {R : A → A → Type 0} {p p' : Part A}
    → Gives G bytes d p (λ ts v. H v × Light 0 0 (kinds ts) (marks (f v))) → ((v : A) → H v → Prints text p' (R v) (f v)) → Turns G bytes text d p p' (λ v ps. ps ≡ f v) R
turns_found {f = f} x k = record { turn = λ ts v g i. (let h = x.given ts v g i in record { pieces = f v; is = refl; prints = k v h.0; light = h.1 }) }

-- two tokens and the part behind them
pub behind_keys : {A : Type 0} {G : Goodness} {bytes text : List ℕ} {d : ℕ} {t u : Terminal} {K : A → List Piece → Type 0} {R : A → A → Type 0} {p p' : Part A}
    → PlainKey t → PlainKey u → Turns G bytes text d p p' (λ a ps. K a (key t ∷ key u ∷ ps)) R → Turns G bytes text d (one t ▸ one u ▸ p) (one t ▸ one u ▸ p') K R
behind_keys {t = t} {u = u} s r x =
    turns_after (key t ∷ key u ∷ []) (turns_behind (key t) s.sound refl (light_plain 0 t s.plain)
    (turns_as (λ l ps h. ap (λ z. key t ∷ z) h) (λ l m h. h) (turns_mark (key u) r.sound refl (light_plain 0 u r.plain)))) x

-- Writes that leave the same row, whatever row was there.
use Rattle.std.proofs.Common.{◌≡◌, Bool, true, false, List, [], ◌∷◌, Option, Some, None, refl, sym, ap, ◌∙◌}
use Rattle.std.specs.Prelude.{◌||◌}
use Rattle.mv_values.specs.declared.value.Value.{Value}
use Rattle.mv_values.specs.declared.patch.Patch.{Patch}
use Rattle.mv_values.specs.declared.patch.Patch.TheVariants.{Insert, Set, Delete}
use Rattle.mv_values.specs.declared.patch.Write.{Write}
use Rattle.mv_values.specs.Patching.{patched, with_columns}
use Rattle.mv_record.specs.Writes.{patched_by}
use Rattle.mv_undo.specs.Owning.{is_whole, is_fixed}
use Rattle.mv_undo.specs.Indexing.{IsComposedOf}

none-some : (row : List Value) → None ≡ Some row → ⊥
none-some row h = cc

-- With a whole patch

whole_same : (p : Patch) (was other : Option (List Value)) → is_whole p ≡ true → patched p was ≡ patched p other
whole_same (Insert row) was other h = refl
whole_same (Set items) was other h = cc
whole_same Delete was other h = refl

fixed_same : (ws : List Write) (was other : Option (List Value)) → is_fixed ws ≡ true → patched_by ws was ≡ patched_by ws other
fixed_same [] was other h = cc
fixed_same (w ∷ ws) was other h = by (is_whole w.patch) refl h (fixed_same ws (patched w.patch was) (patched w.patch other))
  where
    by : (b : Bool) → is_whole w.patch ≡ b → b || is_fixed ws ≡ true → (is_fixed ws ≡ true → patched_by ws (patched w.patch was) ≡ patched_by ws (patched w.patch other)) → patched_by ws (patched w.patch was) ≡ patched_by ws (patched w.patch other)
    by true e h more = ap (patched_by ws) (whole_same w.patch was other e)
    by false e h more = more h

-- the row before may be another one where writes fix the row
pub fixed_or_same : (ws : List Write) (was other : Option (List Value)) → (is_fixed ws ≡ false → was ≡ other) → patched_by ws was ≡ patched_by ws other
fixed_or_same ws was other h = by (is_fixed ws) refl
  where
    by : (b : Bool) → is_fixed ws ≡ b → patched_by ws was ≡ patched_by ws other
    by true e = fixed_same ws was other e
    by false e = ap (patched_by ws) (h e)

-- With none

set_none : (p : Patch) → is_whole p ≡ false → patched p None ≡ None
set_none (Insert row) h = cc
set_none (Set items) h = refl
set_none Delete h = cc

set_some : (p : Patch) (row : List Value) → is_whole p ≡ false → (later : List Value) × (patched p (Some row) ≡ Some later)
set_some (Insert first) row h = cc
set_some (Set items) row h = (with_columns items row, refl)
set_some Delete row h = cc

-- no row stays none
open_none : (ws : List Write) → is_fixed ws ≡ false → patched_by ws None ≡ None
open_none [] h = refl
open_none (w ∷ ws) h = by (is_whole w.patch) refl h (open_none ws)
  where
    by : (b : Bool) → is_whole w.patch ≡ b → b || is_fixed ws ≡ false → (is_fixed ws ≡ false → patched_by ws None ≡ None) → patched_by ws (patched w.patch None) ≡ None
    by true e h more = cc
    by false e h more = ap (patched_by ws) (set_none w.patch e) ∙ more h

-- a row stays a row
open_some : (ws : List Write) (row : List Value) → is_fixed ws ≡ false → (later : List Value) × (patched_by ws (Some row) ≡ Some later)
open_some [] row h = (row, refl)
open_some (w ∷ ws) row h = by (is_whole w.patch) refl h (open_some ws)
  where
    by : (b : Bool) → is_whole w.patch ≡ b → b || is_fixed ws ≡ false → ((made : List Value) → is_fixed ws ≡ false → (later : List Value) × (patched_by ws (Some made) ≡ Some later)) → (later : List Value) × (patched_by ws (patched w.patch (Some row)) ≡ Some later)
    by true e h more = cc
    by false e h more =
        let made = set_some w.patch row e in
        let last = more made.0 h in
        (last.0, ap (patched_by ws) made.1 ∙ last.1)

-- the patch that does what writes do is whole exactly if they fix the row
pub whole_fixed : (p : Patch) (ws : List Write) → IsComposedOf p ws → is_whole p ≡ is_fixed ws
whole_fixed p ws does = by p (is_fixed ws) refl does
  where
    by : (p : Patch) (b : Bool) → is_fixed ws ≡ b → IsComposedOf p ws → is_whole p ≡ is_fixed ws
    by (Insert row) true e does = sym e
    by (Insert row) false e does = absurd (none-some row (sym (does None ∙ open_none ws e)))
    by (Set items) true e does = absurd (none-some (with_columns items []) (does None ∙ (fixed_same ws None (Some []) e ∙ sym (does (Some [])))))
    by (Set items) false e does = sym e
    by Delete true e does = sym e
    by Delete false e does = let later = open_some ws [] e in absurd (none-some later.0 (does (Some []) ∙ later.1))

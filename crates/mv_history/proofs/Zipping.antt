-- Records with their paths.
use Rattle.std.proofs.Common.{◌≡◌, suc, List, [], ◌∷◌, map, length, refl, ap, arith}
use Rattle.mv_record.specs.declared.record.Record.{Record}
use Rattle.mv_history.specs.Kept.{Path, Placed, zip_paths}

pub long_zip : (ps : List Path) (rs : List Record) → length ps ≡ length rs → length (zip_paths ps rs) ≡ length rs
long_zip [] [] h = refl
long_zip [] (r ∷ rs) h = cc
long_zip (p ∷ ps) [] h = cc
long_zip (p ∷ ps) (r ∷ rs) h = ap suc (long_zip ps rs (let e : length ps ≡ length rs = omega (arith, h) in e))

pub zip_its : (ps : List Path) (rs : List Record) → length ps ≡ length rs → map (λ (p : Placed). p.it) (zip_paths ps rs) ≡ rs
zip_its [] [] h = refl
zip_its [] (r ∷ rs) h = cc
zip_its (p ∷ ps) [] h = cc
zip_its (p ∷ ps) (r ∷ rs) h = ap (λ l. r ∷ l) (zip_its ps rs (let e : length ps ≡ length rs = omega (arith, h) in e))

pub zip_firsts : (ps : List Path) (rs : List Record) → length ps ≡ length rs → map (λ (p : Placed). p.path) (zip_paths ps rs) ≡ ps
zip_firsts [] [] h = refl
zip_firsts [] (r ∷ rs) h = cc
zip_firsts (p ∷ ps) [] h = cc
zip_firsts (p ∷ ps) (r ∷ rs) h = ap (λ l. p ∷ l) (zip_firsts ps rs (let e : length ps ≡ length rs = omega (arith, h) in e))

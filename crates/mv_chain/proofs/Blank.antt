-- Versions without rows and patches.
use Rattle.std.proofs.Common.{◌≡◌, ◌∷◌, ℕ, true, false, List, [], length, Option, Some, None, refl, ap, sym, arith}
use Rattle.std.specs.Prelude.{◌==◌, ◌&&◌, not}
use Rattle.std.specs.List.{position}
use Rattle.std.specs.Option.{is_some}
use Rattle.mv_values.specs.declared.value.Value.{Value}
use Rattle.mv_chain.specs.declared.undo.Undo.{Undo}
use Rattle.mv_chain.specs.declared.pending.Pending.{Pending}
use Rattle.mv_chain.specs.Versions.{Versions, Commit, blank, is_blank, own_of, newest_of, newest}
use Rattle.mv_chain.specs.Holding.{is_plain}
use Rattle.std.proofs.lemmas.Bool.{ne_eqb, and_parts}
use Rattle.mv_chain.specs.Undoing.{before, commits_of}
use Rattle.mv_chain.proofs.Versions.{shown}
use Rattle.mv_chain.proofs.Places.{absent, at_spot, none_there, there}

pub nonzero : {A : Type 0} (x : A) (xs : List A) → (length (x ∷ xs) == 0) ≡ false
nonzero x xs = ne_eqb (length (x ∷ xs)) 0 (λ e. absurd (omega (arith, e)))

pub blank_is : (us : List Undo) (now : Option (List Value)) (own : List Pending) → (length us == 0) && (length own == 0) && not (is_some now) ≡ is_blank (shown us now own)
blank_is [] now own = refl
blank_is (u ∷ us) now own = rw (nonzero u us, nonzero (record { number = u.commit; row = before us now }) (commits_of us now)) refl

pub plain_is : (us : List Undo) (now : Option (List Value)) (own : List Pending) → (length us == 0) && (length own == 0) ≡ is_plain (shown us now own)
plain_is [] now own = refl
plain_is (u ∷ us) now own = rw (nonzero u us, nonzero (record { number = u.commit; row = before us now }) (commits_of us now)) refl

empty : {A : Type 0} (xs : List A) → (length xs == 0) ≡ true → xs ≡ []
empty [] e = refl
empty (x ∷ xs) e = let f : false ≡ true = rw (nonzero x xs) at e in cc

-- versions that are plain have one row, or none
pub row_alone : (v : Versions) → is_plain v ≡ true → ◌≡◌ {A = Versions} (record { base = newest v; commits = []; own = [] }) v
row_alone v h =
    let e = and_parts (length v.commits == 0) (length v.own == 0) h in
    by v.base v.commits v.own (empty v.commits e.0) (empty v.own e.1)
  where
    by : (base : Option (List Value)) (commits : List Commit) (own : List Pending) → commits ≡ [] → own ≡ [] → ◌≡◌ {A = Versions} (record { base = newest_of base commits; commits = []; own = [] }) (record { base = base; commits = commits; own = own })
    by base [] [] c o = refl
    by base (c ∷ cs) own ce o = cc
    by base [] (p ∷ ps) ce o = cc

-- versions that are blank have nothing
pub blank_only : (v : Versions) → is_blank v ≡ true → v ≡ blank
blank_only v h = by v.base v.commits v.own h
  where
    by : (base : Option (List Value)) (commits : List Commit) (own : List Pending) → is_blank (record { base = base; commits = commits; own = own }) ≡ true → ◌≡◌ {A = Versions} (record { base = base; commits = commits; own = own }) blank
    by None [] [] e = refl
    by (Some row) [] [] e = cc
    by base [] (p ∷ ps) e = let f : false ≡ true = rw (nonzero p ps) at e in cc
    by base (c ∷ cs) own e = let f : false ≡ true = rw (nonzero c cs) at e in cc

pub has_is : (call : ℕ) (ps : List Pending) (o : Option ℕ) → o ≡ position (λ p. p.call == call) ps → is_some o ≡ is_some (own_of call ps)
has_is call ps None h = sym (ap is_some (none_there call ps (absent call ps (sym h))))
has_is call [] (Some at) h = cc
has_is call (p ∷ ps) (Some at) h = sym (ap is_some (there call (p ∷ ps) at p (at_spot call at (p ∷ ps) (sym h))))

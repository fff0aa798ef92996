-- The first change that hits a record.
use Rattle.std.proofs.Common.{◌≡◌, ℕ, Bool, true, false, List, [], ◌∷◌, Option, Some, None, if◌then◌else◌, refl, sym, ap, ◌∙◌}
use Rattle.std.specs.Option.{option_or, is_some}
use Rattle.mv_record.specs.declared.record.Record.{Record}
use Rattle.mv_history.specs.declared.change.Change.{Change}
use Rattle.mv_history.specs.Hits.{hits}
use Rattle.mv_changes.specs.declared.recent.Committed.{Committed}
use Rattle.mv_why.specs.declared.cause.Reason.{Reason}
use Rattle.mv_why.specs.declared.cause.Reason.TheVariants.{Hit}
use Rattle.mv_why.specs.Causes.{hit_in, hit}

-- one change after another

pub hit_here : (n : ℕ) (cs rest : List Change) (c : Change) (before : List Record) (o : Record) → cs ≡ c ∷ rest → hits before o c ≡ true → hit_in n cs before o ≡ Some (Hit n c.table c.key)
hit_here n cs rest c before o is h = ap (λ l. hit_in n l before o) is ∙ ap (λ b. if b then Some (Hit n c.table c.key) else hit_in n rest before o) h

pub hit_later : (n : ℕ) (cs rest : List Change) (c : Change) (before : List Record) (o : Record) → cs ≡ c ∷ rest → hits before o c ≡ false → hit_in n cs before o ≡ hit_in n rest before o
hit_later n cs rest c before o is h = ap (λ l. hit_in n l before o) is ∙ ap (λ b. if b then Some (Hit n c.table c.key) else hit_in n rest before o) h

-- one commit after another

next_commit : (rest later : List Committed) (c : Committed) (before : List Record) (o : Record) (found : Option Reason) → rest ≡ c ∷ later → found ≡ hit_in c.commit c.changes before o
    → hit rest before o ≡ option_or found (hit later before o)
next_commit rest later c before o found is h = ap (λ l. hit l before o) is ∙ ap (λ x. option_or x (hit later before o)) (sym h)

pub commit_here : (since rest later : List Committed) (c : Committed) (before : List Record) (o : Record) (found : Option Reason) → rest ≡ c ∷ later → found ≡ hit_in c.commit c.changes before o → is_some found ≡ true
    → hit rest before o ≡ hit since before o → found ≡ hit since before o
commit_here since rest later c before o found is h some more = first found some ∙ (sym (next_commit rest later c before o found is h) ∙ more)
  where
    first : (x : Option Reason) → is_some x ≡ true → x ≡ option_or x (hit later before o)
    first (Some reason) e = refl
    first None e = cc

pub commit_later : (since rest later : List Committed) (c : Committed) (before : List Record) (o : Record) (found : Option Reason) → rest ≡ c ∷ later → found ≡ hit_in c.commit c.changes before o → is_some found ≡ false
    → hit rest before o ≡ hit since before o → hit later before o ≡ hit since before o
commit_later since rest later c before o found is h none more = second found none ∙ (sym (next_commit rest later c before o found is h) ∙ more)
  where
    second : (x : Option Reason) → is_some x ≡ false → hit later before o ≡ option_or x (hit later before o)
    second (Some reason) e = cc
    second None e = refl

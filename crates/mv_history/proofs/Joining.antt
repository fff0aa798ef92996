-- Changes one after another, and the places of the first records of a run.
use Rattle.std.proofs.Common.{◌≡◌, List, [], ◌∷◌, ◌++◌, Option, map, refl, sym, ap, subst, ◌∙◌, append_assoc, append-nil}
use Rattle.std.proofs.lemmas.List.Elements.{filter-append}
use Rattle.std.specs.List.{filter}
use Rattle.mv_values.specs.declared.value.Value.{Value}
use Rattle.mv_values.specs.declared.rows.Keyed.{Keyed}
use Rattle.mv_values.specs.Patching.{row_of}
use Rattle.mv_values.specs.Tables.{rows_at}
use Rattle.mv_record.specs.declared.record.Record.{Record}
use Rattle.mv_record.specs.Paths.{Nest, path, nest_of, nests_behind}
use Rattle.mv_history.specs.declared.change.Change.{Change}
use Rattle.mv_history.specs.Changes.{is_of, Leads, Covers}
use Rattle.mv_history.specs.Kept.{Placed, zip_paths, with_paths, next_placed}

leads_on : (cs ds : List Change) (a b c : Option (List Value)) → Leads cs a b → Leads ds b c → Leads (cs ++ ds) a c
leads_on [] ds a b c h k = subst (λ r. Leads ds r c) (sym h) k
leads_on (d ∷ cs) ds a b c h k = (h.0, leads_on cs ds d.after b c h.1 k)

-- changes that cover one step after another cover both
pub covers_join : (cs ds : List Change) (old mid new : List (List Keyed)) → Covers cs old mid → Covers ds mid new → Covers (cs ++ ds) old new
covers_join cs ds old mid new h k t key =
    subst (λ l. Leads l (row_of (rows_at old t) key) (row_of (rows_at new t) key)) (sym (filter-append (is_of t key) cs ds))
    (leads_on (filter (is_of t key) cs) (filter (is_of t key) ds) (row_of (rows_at old t) key) (row_of (rows_at mid t) key) (row_of (rows_at new t) key) (h t key) (k t key))

abbrev placed_behind : List Nest → List Record → List Placed
placed_behind ns rs = zip_paths (map path (nests_behind ns rs)) rs

placed_split : (ns : List Nest) (xs : List Record) (r : Record) (ys : List Record)
    → placed_behind ns (xs ++ r ∷ ys) ≡ placed_behind ns xs ++ record { path = path (nest_of (ns ++ nests_behind ns xs) r); it = r } ∷ placed_behind ((ns ++ nests_behind ns xs) ++ nest_of (ns ++ nests_behind ns xs) r ∷ []) ys
placed_split ns [] r ys =
    subst (λ l. placed_behind ns (r ∷ ys) ≡ record { path = path (nest_of l r); it = r } ∷ placed_behind (l ++ nest_of l r ∷ []) ys) (sym (append-nil ns)) refl
placed_split ns (x ∷ xs) r ys =
    let it : Nest = nest_of ns x in
    ap (λ l. record { path = path it; it = x } ∷ l) (placed_split (ns ++ it ∷ []) xs r ys
    ∙ ap (λ l. placed_behind (ns ++ it ∷ []) xs ++ record { path = path (nest_of l r); it = r } ∷ placed_behind (l ++ nest_of l r ∷ []) ys) (append_assoc ns (it ∷ []) (nests_behind (ns ++ it ∷ []) xs)))

-- the places of the first records of a list don't hang on those behind them
pub placed_front : (xs : List Record) (r : Record) (ys : List Record) → (more : List Placed) × (with_paths (xs ++ r ∷ ys) ≡ with_paths xs ++ next_placed xs r ∷ more)
placed_front xs r ys = (placed_behind (([] ++ nests_behind [] xs) ++ nest_of ([] ++ nests_behind [] xs) r ∷ []) ys, placed_split [] xs r ys)

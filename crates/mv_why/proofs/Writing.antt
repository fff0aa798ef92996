-- The own writes of a run are those of its records.
use Rattle.std.proofs.Common.{◌≡◌, ◌≤◌, ◌<◌, ◌+◌, ℕ, List, ◌++◌, Some, All, length, take, sym, ap, subst, ◌∙◌, arith}
use Rattle.std.specs.Prelude.{slice_get}
use Rattle.std.proofs.lemmas.List.{length-take}
use Rattle.std.proofs.lemmas.Option.{slice_get_within}
use Rattle.std.proofs.lemmas.List.Elements.{All-weaker}
use Rattle.mv_values.specs.declared.patch.Write.{Write}
use Rattle.mv_record.specs.declared.record.Record.{Record}
use Rattle.mv_undo.specs.Owned.{Owned}
use Rattle.mv_undo.specs.Owning.{undo_of, undo_of_all}
use Rattle.mv_undo.proofs.Writing.{undo_more, undo_below}
use Rattle.mv_why.proofs.Lists.{got_there}

-- of the first records, each write has a number below theirs
pub front_below : (rs : List Record) (n : ℕ) (undo : List Owned) → undo ≡ undo_of_all 0 (take n rs) → All (λ o. o.number ≤ n) undo
front_below rs n undo h =
    subst (All (λ (o : Owned). o.number ≤ n)) (sym h)
    (All-weaker (λ (o : Owned). o.number < 0 + length (take n rs)) (λ o. o.number ≤ n) (λ o lt. let long = length-take n rs in omega (arith, lt, long)) (undo_of_all 0 (take n rs)) (undo_below 0 (take n rs)))

-- a record more
pub written_more : (rs : List Record) (n : ℕ) (r : Record) (undo : List Owned) (ws : List Write) → slice_get rs n ≡ Some r → undo ≡ undo_of_all 0 (take n rs) → ws ≡ r.writes → undo ++ undo_of n ws ≡ undo_of_all 0 (take (n + 1) rs)
written_more rs n r undo ws there h w =
    ap (λ l. l ++ undo_of n ws) h
    ∙ (ap (λ vs. undo_of_all 0 (take n rs) ++ undo_of n vs) w
    ∙ (ap (λ m. undo_of_all 0 (take n rs) ++ undo_of m r.writes) number ∙ (sym (undo_more 0 (take n rs) r) ∙ ap (undo_of_all 0) (sym (got_there rs n r there)))))
  where
    number : n ≡ 0 + length (take n rs)
    number = let long = length-take n rs in let lt = slice_get_within rs n r there in omega (arith, long, lt)

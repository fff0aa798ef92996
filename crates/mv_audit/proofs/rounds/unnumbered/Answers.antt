use Rattle.std.proofs.Common.{◌≡◌, ◌∷◌, [], ◌++◌, ◌<◌, List, Option, None, false, true, length, refl, sym, ap, subst, ◌∙◌, arith, rules}
use Rattle.std.specs.Prelude.{◌↔◌, IsSome, option_to_list}
use Rattle.mv_journal.specs.declared.outcome.Round.{Round}
use Rattle.mv_lawful.specs.Rounds.{numbered}
use Rattle.mv_lawful.proofs.Numbers.{numbered_end}
use Rattle.mv_audit.proofs.rounds.unnumbered.Goals as goal

-- where no last round is found there is none
none_found : (old new : List Round) (o : Option Round) → old ≡ new ++ option_to_list o → o ≡ None → IsSome o ↔ (0 < length old) → new ≡ numbered None old
none_found [] [] o is none found = refl
none_found [] (x ∷ xs) o is none found = cc
none_found (r ∷ rs) new o is none found = let some : false ≡ true = subst IsSome none (found.1 (omega arith)) in absurd (search (rules, some))

pub returns-in_default : goal.returns-in_default
returns-in_default c = none_found c.args.rounds c.pop.new.self c.pop.result c.pop.ensures.items c.in_default.is c.pop.ensures.found

pub returns : goal.returns
returns c =
    c.in_ok-push.ensures.ok
    ∙ sym (ap (numbered None) (c.pop.ensures.items ∙ ap (λ o. c.pop.new.self ++ option_to_list o) c.in-Some.is) ∙ numbered_end None c.pop.new.self c.in-Some.last)

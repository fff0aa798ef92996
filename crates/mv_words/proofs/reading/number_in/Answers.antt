use Rattle.std.proofs.Common.{◌∙◌, ap, sym, map, option_map, []}
use Rattle.std.specs.Prelude.{unwrap_or}
use Rattle.clap.specs.Words.{found_of}
use Rattle.mv_words.specs.Program.{number_by}
use Rattle.mv_words.proofs.Found.{values_found}
use Rattle.mv_words.proofs.reading.number_in.Goals as goal

pub returns-in-Some : goal.returns-in-Some
returns-in-Some c =
    let found = values_found (found_of c.args.found.now) c.args.name.now c.get_strs.result c.get_strs.ensures in
    c.number_by.ensures ∙ ap (number_by c.args.least c.args.most) (sym (ap (λ o. unwrap_or (option_map (λ s. map (λ v. v.now) s.now) o) []) c.in-Some.is) ∙ found)

pub returns-in-None : goal.returns-in-None
returns-in-None c =
    let found = values_found (found_of c.args.found.now) c.args.name.now c.get_strs.result c.get_strs.ensures in
    ap (number_by c.args.least c.args.most) (sym (ap (λ o. unwrap_or (option_map (λ s. map (λ v. v.now) s.now) o) []) c.in-None.is) ∙ found)

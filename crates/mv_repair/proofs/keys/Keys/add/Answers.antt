use Rattle.std.proofs.Common.{◌≡◌, ◌<◌, true, List, length, slice_set, sym, ap, subst, ◌∙◌}
use Rattle.mv_repair.specs.Keys.{TableKeys, has_key}
use Rattle.mv_repair.proofs.Knowing.{key_put, keys_put, keys_still, keys_there}
use Rattle.mv_repair.proofs.keys.Keys.add.Goals as goal

pub returns-clause-added : goal.returns-clause-added
returns-clause-added c =
    let all : List TableKeys = c.self.inside.tables in
    let table = c.args.table in
    let keys : TableKeys = c.put.new.self in
    let is : c.set.new.self ≡ slice_set (slice_set all table c.new.result) table keys = c.set.ensures ∙ ap (λ (l : List TableKeys). slice_set l table keys) c.replace-keys.ensures.items in
    let there : table < length all = subst (λ (l : List TableKeys). table < length l) (sym c.self.view_is) c.in_ok-widen.ensures.there in
    subst (λ (l : List TableKeys). has_key l table c.args.key ≡ true) (sym is) (keys_there all table c.new.result keys c.args.key there (key_put c.replace-keys.result keys c.args.key c.in_ok-put.ensures.at))

pub returns-clause-still : goal.returns-clause-still
returns-clause-still c table key h =
    let all : List TableKeys = c.self.inside.tables in
    let keys : TableKeys = c.put.new.self in
    let is : c.set.new.self ≡ slice_set (slice_set all c.args.table c.new.result) c.args.table keys = c.set.ensures ∙ ap (λ (l : List TableKeys). slice_set l c.args.table keys) c.replace-keys.ensures.items in
    let here = subst (λ (l : List TableKeys). has_key l table key ≡ true) (sym c.self.view_is) (c.in_ok-widen.ensures.still table key h) in
    subst (λ (l : List TableKeys). has_key l table key ≡ true) (sym is)
    (keys_still all c.args.table c.replace-keys.result c.new.result keys c.replace-keys.ensures.back (keys_put c.replace-keys.result keys c.args.key c.in_ok-put.ensures.at) table key here)

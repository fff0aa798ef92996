use Rattle.std.proofs.Common.{◌≡◌, ◌<◌, length, List, Some, None, cond, sym, ap, subst, ◌∙◌}
use Rattle.std.specs.List.{position}
use Rattle.mv_index.specs.Indexing.{Column, is_of, is_indexed, keys_under, keys_in, keys_at}
use Rattle.mv_index.proofs.Parts.{is_first, no_first, no_part, first_part, lends_none, lends_some}
use Rattle.mv_index.proofs.index.Index.keys_in.Goals as goal

pub returns-in-None : goal.returns-in-None
returns-in-None c =
    let t = c.args.table in
    let n = c.args.column in
    let items = c.self.inside.columns.items in
    let none : position (is_of t n) items ≡ None = sym (ap (position (is_of t n)) c.as_slice.ensures.value) ∙ (sym c.place_of.ensures.place ∙ c.in-None.is) in
    subst (λ i. None ≡ cond (is_indexed i t n) (Some (keys_under i t n c.args.value.now)) None) c.self.view_is (lends_none (record { columns = items; key_lens = c.self.inside.key_lens.entries }) t n c.args.value.now (no_part items t n (no_first items t n none)))

pub returns-in-Some-keys_under : goal.returns-in-Some-keys_under
returns-in-Some-keys_under c =
    let t = c.args.table in
    let n = c.args.column in
    let v = c.args.value.now in
    let items = c.self.inside.columns.items in
    let part = c.index.result.now in
    let lt : c.in-Some.at < length items = subst (λ (l : List Column). c.in-Some.at < length l) c.as_slice.ensures.value (rw c.in-Some.is at c.place_of.ensures.within) in
    let found : position (is_of t n) items ≡ Some c.in-Some.at = sym (ap (position (is_of t n)) c.as_slice.ensures.value) ∙ (sym c.place_of.ensures.place ∙ c.in-Some.is) in
    subst (λ i. Some c.in-Some-keys_under.keys.now ≡ cond (is_indexed i t n) (Some (keys_under i t n v)) None) c.self.view_is
    (lends_some (record { columns = items; key_lens = c.self.inside.key_lens.entries }) t n v _ c.in-Some-keys_under.keys.now (first_part items t n c.in-Some.at part (is_first items t n c.in-Some.at lt found)) (ap keys_in c.in-Some-keys_under.ensures ∙ ap (λ (p : Column). keys_at p.entries v) c.index.ensures))

pub returns-in-None-keys_under : goal.returns-in-None-keys_under
returns-in-None-keys_under c =
    let t = c.args.table in
    let n = c.args.column in
    let v = c.args.value.now in
    let items = c.self.inside.columns.items in
    let part = c.index.result.now in
    let lt : c.in-Some.at < length items = subst (λ (l : List Column). c.in-Some.at < length l) c.as_slice.ensures.value (rw c.in-Some.is at c.place_of.ensures.within) in
    let found : position (is_of t n) items ≡ Some c.in-Some.at = sym (ap (position (is_of t n)) c.as_slice.ensures.value) ∙ (sym c.place_of.ensures.place ∙ c.in-Some.is) in
    subst (λ i. Some c.self.inside.no_keys ≡ cond (is_indexed i t n) (Some (keys_under i t n v)) None) c.self.view_is
    (lends_some (record { columns = items; key_lens = c.self.inside.key_lens.entries }) t n v _ c.self.inside.no_keys (first_part items t n c.in-Some.at part (is_first items t n c.in-Some.at lt found)) (c.self.invariant ∙ (ap keys_in c.in-None-keys_under.ensures ∙ ap (λ (p : Column). keys_at p.entries v) c.index.ensures)))

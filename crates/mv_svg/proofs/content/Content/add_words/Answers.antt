use Rattle.std.proofs.Common.{◌≡◌, ◌++◌, OnOk, sym, ap, subst, ◌∙◌}
use Rattle.mv_svg.specs.Escapes.{escaped}
use Rattle.mv_svg.specs.Shapes.{words_text}
use Rattle.mv_svg.specs.Xml.{IsContent}
use Rattle.mv_svg.proofs.Pieces.{anew, grew_by, words_is}
use Rattle.mv_svg.proofs.content.Content.add_words.Goals as goal

pub invariant_of-self : goal.invariant_of-self
invariant_of-self c =
    let words = escaped c.args.words.now in
    let inner : c.as_slice.result.now ≡ words = anew c.as_slice.result.now c.write_escaped.new.text c.new-inner.result words c.as_slice.ensures c.in_ok-write_escaped.ensures c.new-inner.ensures in
    let made = anew c.as_slice-2.result.now c.write_words.new.text c.new-piece.result (words_text c.args.look c.args.x c.args.y c.as_slice.result.now) c.as_slice-2.ensures c.in_ok-write_words.ensures c.new-piece.ensures in
    let is : IsContent c.as_slice-2.result.now = subst IsContent (sym (made ∙ ap (words_text c.args.look c.args.x c.args.y) inner)) (words_is c.args.look c.args.x c.args.y c.args.words.now) in
    record { well_formed = grew_by c.append.result c.args.self.now.text c.append.new.self c.as_slice-2.result.now c.append.ensures.ok c.append.ensures.err ∣ is ∣₁ c.args.self.now.well_formed }

pub returns-clause-ok : goal.returns-clause-ok
returns-clause-ok c =
    let words = escaped c.args.words.now in
    let inner : c.as_slice.result.now ≡ words = anew c.as_slice.result.now c.write_escaped.new.text c.new-inner.result words c.as_slice.ensures c.in_ok-write_escaped.ensures c.new-inner.ensures in
    let made = anew c.as_slice-2.result.now c.write_words.new.text c.new-piece.result (words_text c.args.look c.args.x c.args.y c.as_slice.result.now) c.as_slice-2.ensures c.in_ok-write_words.ensures c.new-piece.ensures in
    let piece : c.as_slice-2.result.now ≡ words_text c.args.look c.args.x c.args.y words = made ∙ ap (words_text c.args.look c.args.x c.args.y) inner in
    subst (λ piece. OnOk c.append.result (c.append.new.self ≡ c.args.self.now.text ++ piece)) piece c.append.ensures.ok

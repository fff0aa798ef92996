use Rattle.std.proofs.Common.{refl, rules, ◌∙◌}
use Rattle.mv_core.proofs.Stored.{shows_last, fresh_last, only_memory, like_last}
use Rattle.mv_core.proofs.commits.tell_last.Goals as goal

pub tell-requires : goal.tell-requires
tell-requires c = λ k. ((refl, tt), (search rules, ((shows_last c.args.book.now c.args.store.now c.last.result c.new-view.result c.requires.stored (c.last.ensures.last ∙ c.requires.stored.last) c.new-view.ensures), (search rules, search rules))))

pub no_memory-requires : goal.no_memory-requires
no_memory-requires c = only_memory c.new-view.result c.tell.new.view c.in-Err.why (fresh_last c.args.book.now c.args.store.now c.last.result c.new-view.result c.requires.stored (c.last.ensures.last ∙ c.requires.stored.last) c.new-view.ensures) c.in-Err.ensures.view

pub returns-in-Ok-clause-like : goal.returns-in-Ok-clause-like
returns-in-Ok-clause-like c = like_last c.args.book.now c.args.store.now c.requires.stored c.last.ensures.like

pub returns-in-Err-clause-like : goal.returns-in-Err-clause-like
returns-in-Err-clause-like c = like_last c.args.book.now c.args.store.now c.requires.stored c.last.ensures.like

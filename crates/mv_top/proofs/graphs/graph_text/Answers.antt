use Rattle.mv_top.proofs.graphs.graph_text.Goals as goal

pub compile-requires : goal.compile-requires
compile-requires c = c.requires.whole.text

-- The sites of statements in a run, as the code keeps them.
use Rattle.std.specs.Prelude.{map}
use Rattle.mv_recorded.specs.Reading.{Loop}
use Rattle.mv_recorded.specs.Recorded.{Site}
use Rattle.mv_recorder.specs.declared.sites.Loop.{Loop as Around}
use Rattle.mv_recorder.specs.declared.sites.Site.{Site as Kept}

abbrev pub loop_in : Around → Loop
loop_in around = record { row = around.row; number = around.number }

abbrev pub site_of : Kept → Site
site_of kept = record { parent = kept.parent; loops = map loop_in kept.loops; turns = kept.turns }

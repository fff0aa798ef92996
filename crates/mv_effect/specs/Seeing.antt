-- What a statement sees of the own writes in the log of its call.
use Rattle.std.specs.Prelude.{List}
use Rattle.mv_values.specs.declared.patch.Write.{Write}
use Rattle.mv_undo.specs.Owning.{earlier}
use Rattle.mv_log.specs.Logged.{Logged, owned}
use Rattle.mv_effect.specs.declared.context.Context.{Context}

-- the own writes that a statement sees
abbrev pub own_seen : Context → Logged → List Write
own_seen context log = earlier context.number (owned log)

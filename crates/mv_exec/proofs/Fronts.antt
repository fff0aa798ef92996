-- Running calls keep what they leave.
use Rattle.std.proofs.Common.{◌≡◌, ◌↔◌, ◌<◌, ◌^◌, ◌+◌, false, true, Bool, List, [], ◌∷◌, ◌++◌, Some, None, Option, Result, Ok, Err, OnOk, OnErr, length, refl, sym, ap, subst, ◌∙◌, arith, append_assoc, append-nil, rules}
use Rattle.mv_values.specs.declared.calls.Call.{Call}
use Rattle.mv_values.specs.declared.schema.TableInfo.{TableInfo}
use Rattle.mv_values.specs.Patching.{applied}
use Rattle.mv_values.specs.Tables.{KeysStand, Tables}
use Rattle.mv_catalog.specs.declared.resolved.ProcInfo.{ProcInfo}
use Rattle.mv_eval.specs.declared.state.Env.{Env}
use Rattle.mv_eval.specs.TableAfter.{entered}
use Rattle.mv_record.specs.declared.record.Record.{Record}
use Rattle.mv_record.specs.Runs.{writes_in}
use Rattle.mv_record.specs.Writes.{AreRising}
use Rattle.mv_recorded.specs.Recorded.{recorded, tell_statements, outside}
use Rattle.mv_log.specs.Logged.{Logged}
use Rattle.mv_view.specs.Viewing.{Sight}
use Rattle.mv_effect.specs.Looking.{AskedFor}
use Rattle.mv_graph.specs.declared.graph.Graph.{Graph}
use Rattle.mv_graph.specs.Nodes.{IsSound, meaning_of}
use Rattle.mv_exec.specs.Peeked.{Ahead}
use Rattle.mv_exec.specs.declared.task.Task.{Task}
use Rattle.mv_exec.specs.Tasks.{left_of, run_of, IsTask, StandsAsBefore, BeginsCall, TellsEnd, fresh_task}
use Rattle.mv_exec.specs.Running.{HasLeft, IsTaskOf, IsTaskOn, IsRunningOn, IsSameCall, IsSameCallOn, IsUnchanged, Peeks, IsAhead, HasContent, HasAdopted, GoesOnWith, HasRun, EndsExactly, count_left, first_preds}
use Rattle.mv_exec.specs.Ahead.{PeeksLeft, ahead_in}
use Rattle.mv_exec.specs.Recording.{IsAtRest}
use Rattle.mv_exec.specs.Steps.{HasAddedNext, HasAddedRecord, HasExecuted}
use Rattle.mv_exec.proofs.Beginning.{fresh_is_task, fresh_run}
use Rattle.mv_exec.proofs.Adopting.{added_before, none_ended, some_ahead}
use Rattle.mv_exec.proofs.Ending as ending

-- Records after those of a task

-- fewer records of a run leave more of it
less_leaves : (g : Graph) (call : Call) (db : Tables) (old new : Task) (more rest : List Record) → new.log.records ≡ old.log.records ++ more → HasLeft g call db new rest → HasLeft g call db old (more ++ rest)
less_leaves g call db old new more rest is h = h ∙ (ap (λ rs. rs ++ rest) is ∙ append_assoc old.log.records more rest)

more_leaves : (g : Graph) (call : Call) (db : Tables) (old new : Task) (more rest : List Record) → new.log.records ≡ old.log.records ++ more → HasLeft g call db old (more ++ rest) → HasLeft g call db new rest
more_leaves g call db old new more rest is h = h ∙ (sym (append_assoc old.log.records more rest) ∙ ap (λ rs. rs ++ rest) (sym is))

same_leaves : (g : Graph) (call : Call) (db : Tables) (old new : Task) (rest : List Record) → new.log.records ≡ old.log.records → HasLeft g call db new rest → HasLeft g call db old rest
same_leaves g call db old new rest is h = h ∙ ap (λ rs. rs ++ rest) is

-- The same call

-- a call that has done nothing
pub begins : (g : Graph) (call : Call) (task : Task) → length call.arguments ≡ length g.procedure.params → IsTask g.procedure task → BeginsCall task g.procedure call → task.variables.env.found ≡ (entered g.procedure call).found → task.log.records ≡ [] → IsAtRest task.log
    → ((tables : List TableInfo) (db : Tables) → run_of g.procedure tables task db ≡ recorded tables g.procedure call db) → IsTaskOf g call task
begins g call task fits whole start found none rest run = record {
  whole = whole;
  rest = rest;
  begins = start;
  fits = fits;
  found = found;
  left = λ db rest rise h.
      let all : left_of g.procedure g.tables task db ≡ recorded g.tables g.procedure call db = sym (ap (λ rs. rs ++ left_of g.procedure g.tables task db) none) ∙ run g.tables db in
      all ∙ (h ∙ ap (λ rs. rs ++ rest) none);
  keys = λ db rest base h. subst (λ (rs : List Record). KeysStand g.tables (applied (writes_in rs) db)) (sym none) base.keys;
}

-- on each database it leaves its whole full run
pub begins_on : (g : Graph) (call : Call) (task : Task) → IsTaskOf g call task → task.log.records ≡ [] → (db : Tables) → IsTaskOn g call db task
begins_on g call task is none db = record { is = is; rest = (meaning_of g call db).records; leaves = ap (λ rs. rs ++ (meaning_of g call db).records) (sym none) }

-- a call that is put back before its first statement, with a log of no records
pub restarted : (g : Graph) (call : Call) (old : Task) (log : Logged) (new : Task) → log.records ≡ [] → IsAtRest log → new ≡ fresh_task old.parameters old.variables.initial log old.empty
    → IsTaskOf g call old → IsTaskOf g call new
restarted g call old log new none rest back is =
    subst (IsTaskOf g call) (sym back)
    (begins g call (fresh_task old.parameters old.variables.initial log old.empty) is.fits (fresh_is_task g.procedure old.parameters old.variables.initial log old.empty none is.whole.empty)
    (is.begins.0, is.begins.1) (ap (λ (e : Env). e.found) is.begins.0) none rest
    (λ tables db. fresh_run g.procedure tables call db old.parameters old.variables.initial log old.empty none is.whole.empty is.begins.0 is.begins.1))

-- a call that stands as before
pub stays : (g : Graph) (call : Call) (old new : Task) → IsTask g.procedure new → StandsAsBefore g.procedure old new → IsAtRest new.log → new.variables.env.found ≡ old.variables.env.found → IsTaskOf g call old → IsTaskOf g call new
stays g call old new whole before rests found is = record {
  whole = whole;
  rest = rests;
  begins = (before.beginning ∙ is.begins.0, before.parameters ∙ is.begins.1);
  fits = is.fits;
  found = found ∙ is.found;
  left = λ db rest rise h. before.left g.tables db ∙ is.left db rest rise (same_leaves g call db old new rest before.records h);
  keys = λ db rest base h.
      subst (λ (rs : List Record). KeysStand g.tables (applied (writes_in rs) db)) (sym before.records) (is.keys db rest base (same_leaves g call db old new rest before.records h));
}

pub stays_on : (g : Graph) (db : Tables) (old new : Task) → IsSameCall g old new → new.log.records ≡ old.log.records → IsSameCallOn g db old new
stays_on g db old new same records call on = record { is = same call on.is; rest = on.rest; leaves = same_leaves g call db new old on.rest (sym records) on.leaves }

pub running_on : (g : Graph) (db : Tables) (old new : Task) → IsSameCallOn g db old new → IsRunningOn g db old → IsRunningOn g db new
running_on g db old new same on = (on.0, same on.0 on.1)

-- a call with one record more
pub grows : (g : Graph) (call : Call) (old new : Task) (r : Record) → IsTask g.procedure new → HasAddedRecord g.procedure old r new → IsAtRest new.log → new.variables.env.found ≡ old.variables.env.found → IsTaskOf g call old → IsTaskOf g call new
grows g call old new r whole added rests found is = record {
  whole = whole;
  rest = rests;
  begins = (added.beginning ∙ is.begins.0, added.parameters ∙ is.begins.1);
  fits = is.fits;
  found = found ∙ is.found;
  left = λ db rest rise h. added.left g.tables db rest rise (is.left db (r ∷ rest) rise (less_leaves g call db old new (r ∷ []) rest added.records h));
  keys = λ db rest base h.
      let before : HasLeft g call db old (r ∷ rest) = less_leaves g call db old new (r ∷ []) rest added.records h in
      added.keys g.tables db rest base.rising (is.left db (r ∷ rest) base.rising before) (is.keys db (r ∷ rest) base before);
}

-- of two calls that a task may be, the full runs are the same
pub one_run : (g : Graph) (c d : Call) (task : Task) (db : Tables) → IsTaskOf g c task → IsTaskOf g d task → (meaning_of g c db).records ≡ (meaning_of g d db).records
one_run g c d task db a b =
    ap (λ n. tell_statements g.tables n g.procedure.body 1 outside [] (record { env = entered g.procedure c; tables = db; lines = [] })) (sym a.begins.1 ∙ b.begins.1)
    ∙ ap (λ (e : Env). tell_statements g.tables (length d.arguments) g.procedure.body 1 outside [] (record { env = e; tables = db; lines = [] })) (sym a.begins.0 ∙ b.begins.0)

-- The end

pub ends_exactly : EndsExactly
ends_exactly g call db task rest is rise leaves =
    let exact : TellsEnd g.procedure task task.ended = ending.ends_exactly g.procedure task is.whole in
    let left : left_of g.procedure g.tables task db ≡ rest = is.left db rest rise leaves in
    (λ e. sym left ∙ (exact g.tables db).0 e, λ none. (exact g.tables db).1 (left ∙ none))

-- a call that has ended has all records of its full run
pub finished : (g : Graph) (db : Tables) (task : Task) → AreRising db → IsRunningOn g db task → task.ended ≡ true → (call : Call) → IsTaskOf g call task → task.log.records ≡ (meaning_of g call db).records
finished g db task rise on ended call is =
    let none : on.1.rest ≡ [] = (ends_exactly g on.0 db task on.1.rest on.1.is rise on.1.leaves).0 ended in
    sym (append-nil task.log.records) ∙ (ap (λ rs. task.log.records ++ rs) (sym none) ∙ (sym on.1.leaves ∙ one_run g on.0 call task db on.1.is is))

-- What is ahead

pub peeks : (g : Graph) (task : Task) (ahead : Option Ahead) → PeeksLeft g.procedure task ahead → IsAhead g task ahead
peeks g task ahead h call db rest is rise leaves = subst (Peeks ahead) (is.left db rest rise leaves) (h g.tables db)

-- nothing is ahead exactly of a call that has ended
pub none_ahead : (proc : ProcInfo) (task : Task) (ahead : Option Ahead) → IsTask proc task → PeeksLeft proc task ahead → (task.ended ≡ true) ↔ (ahead ≡ None)
none_ahead proc task None t h = (λ ended. refl, λ none. by task.ended refl)
  where
    by : (b : Bool) → task.ended ≡ b → task.ended ≡ true
    by true e = e
    by false e = absurd (some_ahead proc task t e h)
none_ahead proc task (Some ahead) t h = (λ ended. absurd (subst (Peeks (Some ahead)) (none_ended proc task ended [] []) (h [] [])), λ none. absurd (search (rules, none)))

-- What an answer tells

pub on_ok : {T E : Type 0} (r : Result T E) (P Q : Type 0) → (P → Q) → OnOk r P → OnOk r Q
on_ok (Ok x) P Q f h = f h
on_ok (Err e) P Q f h = h

pub both : {T E : Type 0} (r : Result T E) (P Q R : Type 0) → (P → Q → R) → OnOk r P → OnOk r Q → OnOk r R
both (Ok x) P Q R f p q = f p q
both (Err e) P Q R f p q = p

pub on_err : {T E : Type 0} (r : Result T E) (P Q : Type 0) → (P → Q) → OnErr r P → OnErr r Q
on_err (Ok x) P Q f h = h
on_err (Err e) P Q f h = f h

-- What stays as before

same_end : (proc : ProcInfo) (old new : Task) → IsTask proc old → IsTask proc new → StandsAsBefore proc old new → new.ended ≡ old.ended
same_end proc old new t u same = by old.ended refl new.ended refl
  where
    was : TellsEnd proc old old.ended
    was = ending.ends_exactly proc old t

    is : TellsEnd proc new new.ended
    is = ending.ends_exactly proc new u

    by : (a : Bool) → old.ended ≡ a → (b : Bool) → new.ended ≡ b → new.ended ≡ old.ended
    by true e true f = f ∙ sym e
    by false e false f = f ∙ sym e
    by true e false f = (is [] []).1 (same.left [] [] ∙ (was [] []).0 e) ∙ sym e
    by false e true f = f ∙ sym ((was [] []).1 (sym (same.left [] []) ∙ (is [] []).0 f))

pub unchanged : (proc : ProcInfo) (old new : Task) → IsTask proc old → IsTask proc new → StandsAsBefore proc old new → IsUnchanged old new
unchanged proc old new t u same = record { records = same.records; executed = same.executed; ended = same_end proc old new t u same }

-- a record that was added after the call came to its statement
pub executed_before : (proc : ProcInfo) (tables : List TableInfo) (old mid new : Task) (before after : Sight) → StandsAsBefore proc old mid → HasExecuted tables proc mid new before after
    → HasExecuted tables proc old new before after
executed_before proc tables old mid new before after same it = record {
  next = it.next;
  added = added_before proc old mid it.next new same it.added;
  left = sym (same.left tables before.database) ∙ it.left;
  asked = subst (λ (rs : List Record). AskedFor it.next.preds (writes_in rs) before after) same.records it.asked;
}

-- what was asked for the next record of a call that stands as before
pub asked_before : (proc : ProcInfo) (tables : List TableInfo) (old mid : Task) (db : Tables) (before after : Sight) → StandsAsBefore proc old mid → AskedFor (first_preds (left_of proc tables mid db)) (writes_in mid.log.records) before after
    → AskedFor (first_preds (left_of proc tables old db)) (writes_in old.log.records) before after
asked_before proc tables old mid db before after same h =
    subst (λ ps. AskedFor ps (writes_in old.log.records) before after) (ap first_preds (same.left tables db))
    (subst (λ (rs : List Record). AskedFor (first_preds (left_of proc tables mid db)) (writes_in rs) before after) same.records h)

pub asked_after : (proc : ProcInfo) (tables : List TableInfo) (old new : Task) (db : Tables) (before after : Sight) → StandsAsBefore proc old new → AskedFor (first_preds (left_of proc tables old db)) (writes_in old.log.records) before after
    → AskedFor (first_preds (left_of proc tables new db)) (writes_in new.log.records) before after
asked_after proc tables old new db before after same h =
    subst (λ ps. AskedFor ps (writes_in new.log.records) before after) (ap first_preds (sym (same.left tables db)))
    (subst (λ (rs : List Record). AskedFor (first_preds (left_of proc tables old db)) (writes_in rs) before after) (sym same.records) h)

-- A record that is adopted

same_in : (given : Record) (r q : Record) → HasContent given r → HasContent given q → r.spot ≡ q.spot → r.parent ≡ q.parent → r.reads ≡ q.reads → r ≡ q
same_in given r q hr hq s p e =
    hr ∙ (ap (λ v. record given { spot = v; parent = r.parent; reads = r.reads }) s
    ∙ (ap (λ v. record given { spot = q.spot; parent = v; reads = r.reads }) p
    ∙ (ap (λ v. record given { spot = q.spot; parent = q.parent; reads = v }) e ∙ sym hq)))

pub goes_on : (g : Graph) (old new : Task) (given : Record) → HasAdopted g old given new → GoesOnWith g old given new
goes_on g old new given has call db r rest is rise leaves content =
    let sees = has.place call db (r ∷ rest) is rise leaves in
    let same : r ≡ has.next = same_in given r has.next content has.content sees.0 sees.1 sees.2 in
    more_leaves g call db old new (has.next ∷ []) rest has.records (subst (λ q. HasLeft g call db old (q ∷ rest)) same leaves)

pub adopted : (g : Graph) (old new : Task) (given : Record) → HasAddedNext g.procedure old given new → new.executed ≡ old.executed → HasAdopted g old given new
adopted g old new given it executed = record {
  next = it.next;
  records = it.added.records;
  content = it.content;
  place = peeks g old (Some (ahead_in it.next)) it.ahead;
  executed = executed;
}

-- A record that is executed

pub executed_on : (g : Graph) (old new : Task) (before after : Sight) → AreRising before.database → IsSameCall g old new → HasExecuted g.tables g.procedure old new before after
    → IsSameCallOn g before.database old new
executed_on g old new before after rise same it call on =
    let left : on.rest ≡ it.next ∷ left_of g.procedure g.tables new before.database = sym (on.is.left before.database on.rest rise on.leaves) ∙ it.left in
    record {
      is = same call on.is;
      rest = left_of g.procedure g.tables new before.database;
      leaves = more_leaves g call before.database old new (it.next ∷ []) (left_of g.procedure g.tables new before.database) it.added.records (subst (HasLeft g call before.database old) left on.leaves);
    }

pub has_run : (g : Graph) (old new : Task) (before after : Sight) → HasExecuted g.tables g.procedure old new before after → new.executed ≡ old.executed + 1 → HasRun old new before after
has_run g old new before after it counted = record { next = it.next; records = it.added.records; executed = counted; asked = it.asked }

-- a call that has added the next record of its full run will still add fewer
pub fewer_left : (g : Graph) (call : Call) (db : Tables) (old new : Task) (r : Record) (rest : List Record) → AreRising db → IsTaskOf g call old → IsTaskOf g call new → HasLeft g call db old (r ∷ rest) → HasLeft g call db new rest
    → count_left g db new < count_left g db old
fewer_left g call db old new r rest rise was is before after = omega (arith, ap length (was.left db (r ∷ rest) rise before), ap length (is.left db rest rise after))

-- so has a call that has executed it
pub shorter : (g : Graph) (old new : Task) (db : Tables) (before after : Sight) → AreRising db → IsSameCallOn g db old new → IsRunningOn g db old → HasRun old new before after → count_left g db new < count_left g db old
shorter g old new db before after rise same was ran =
    let on : IsTaskOn g was.0 db new = same was.0 was.1 in
    fewer_left g was.0 db old new ran.next on.rest rise was.1.is on.is (less_leaves g was.0 db old new (ran.next ∷ []) on.rest ran.records on.leaves) on.leaves

-- How large its numbers are

pub small_found : (g : Graph) (call : Call) (task : Task) → IsSound g → IsTaskOf g call task → task.variables.env.found < 2 ^ 16
small_found g call task sound is =
    let found : task.variables.env.found ≡ length call.arguments + length g.procedure.defaults = is.found in
    omega (arith, found, is.fits, sound.procedure.few, sound.procedure.declared)

-- the variables that a call doesn't count among its reads are the parameters of its procedure
pub params_of : (g : Graph) (call : Call) (task : Task) → IsTaskOf g call task → task.parameters ≡ length g.procedure.params
params_of g call task is = is.begins.1 ∙ is.fits

-- What a call brings to the shards with its commit.
use Rattle.std.proofs.Common.{◌≡◌, ◌<◌, ◌+◌, ℕ, List, [], ◌∷◌, ◌++◌, Option, Some, None, length, take, get_or, refl, sym, ap, subst, ◌∙◌, rules, append-nil}
use Rattle.std.proofs.lemmas.List.{take_more}
use Rattle.std.proofs.lemmas.Grind.{flat_map-append}
use Rattle.mv_values.specs.declared.calls.End.{End}
use Rattle.mv_values.specs.declared.calls.Reply.{Reply}
use Rattle.mv_values.specs.declared.patch.Write.{Write}
use Rattle.mv_values.specs.Patching.{applied}
use Rattle.mv_values.specs.Tables.{Tables}
use Rattle.mv_record.specs.declared.record.Record.{Record}
use Rattle.mv_record.specs.Runs.{writes_in, end_in}
use Rattle.mv_history.specs.declared.change.Change.{Change}
use Rattle.mv_history.specs.Changes.{changes_between}
use Rattle.mv_lawful.specs.Batch.{records_at}
use Rattle.mv_seats.specs.Scripts.{BoardScript}
use Rattle.mv_seats.specs.Knowing.{Knows}
use Rattle.mv_script.specs.Scripts.{IsCompiledScript}
use Rattle.mv_shards.specs.Scripts.{script_in, batch}
use Rattle.mv_shards.specs.Histories.{tables_at}
use Rattle.mv_shards.specs.Installing.{Leads}
use Rattle.mv_shards.specs.Ledgers.{Entered}
use Rattle.mv_core.specs.Output.{reply_told, reply_with, writes_told, writes_with}
use Rattle.mv_core.proofs.Stored.{told_run, table_more}

-- The records whose writes count

ended : (rs : List Record) (o : Option End) (reply : Reply) (e : End) → end_in rs ≡ o → reply ≡ reply_told rs → reply.end ≡ Some e → writes_told rs ≡ []
ended rs None reply e at is end =
    let none : reply.end ≡ None = ap (λ (r : Reply). r.end) (is ∙ ap (λ x. reply_with x rs) at) in
    let no : None ≡ Some e = sym none ∙ end in
    absurd (search (rules, no))
ended rs (Some x) reply e at is end = ap (λ y. writes_with y rs) at

pub writes_none : (rs : List Record) (reply : Reply) (e : End) → reply ≡ reply_told rs → reply.end ≡ Some e → writes_in (take 0 rs) ≡ writes_told rs
writes_none rs reply e is end = sym (ended rs (end_in rs) reply e refl is end)

going : (rs : List Record) (o : Option End) (reply : Reply) → end_in rs ≡ o → reply ≡ reply_told rs → reply.end ≡ None → writes_told rs ≡ writes_in rs
going rs None reply at is end = ap (λ y. writes_with y rs) at
going rs (Some x) reply at is end =
    let some : reply.end ≡ Some x = ap (λ (r : Reply). r.end) (is ∙ ap (λ y. reply_with y rs) at) in
    let no : None ≡ Some x = sym end ∙ some in
    absurd (search (rules, no))

pub writes_all : (rs : List Record) (reply : Reply) → reply ≡ reply_told rs → reply.end ≡ None → writes_in rs ≡ writes_told rs
writes_all rs reply is end = sym (going rs (end_in rs) reply refl is end)

-- one record more
pub writes_more : (k : ℕ) (rs : List Record) (r : Record) (old new : List Write) → k < length rs → r ≡ get_or rs k r → old ≡ writes_in (take k rs) → new ≡ old ++ r.writes → new ≡ writes_in (take (k + 1) rs)
writes_more k rs r old new lt is was e =
    e
    ∙ (ap (λ ws. ws ++ r.writes) was
    ∙ sym (ap writes_in (take_more rs k r lt ∙ ap (λ x. take k rs ++ x ∷ []) (sym is)) ∙ (flat_map-append (λ (x : Record). x.writes) (take k rs) (r ∷ []) ∙ ap (λ ws. writes_in (take k rs) ++ ws) (append-nil r.writes))))

-- A commit

-- the reply of a full run, and the writes that lead to its tables
pub told_all : (s : BoardScript) (seen : List ℕ) (c n : ℕ) (rs : List Record) → IsCompiledScript (script_in s) → c < length s.calls → rs ≡ records_at (batch s) seen n c
    → (reply_told rs ≡ ((batch s).run c (tables_at s seen n)).reply) × (applied (writes_told rs) (tables_at s seen n) ≡ ((batch s).run c (tables_at s seen n)).tables)
told_all s seen c n rs sound there are = told_run (script_in s) seen c n rs sound there are

-- the tables after the call
pub after_call : (s : BoardScript) (seen : List ℕ) (c n : ℕ) → n ≡ length seen → tables_at s (seen ++ c ∷ []) (n + 1) ≡ ((batch s).run c (tables_at s seen n)).tables
after_call s seen c n all = table_more (batch s) seen c (n + 1) (ap (λ m. m + 1) all) ∙ ap (λ m. ((batch s).run c (tables_at s seen m)).tables) (sym all)

pub leads_on : (s : BoardScript) (k : Knows) (c n : ℕ) (ws : List Write) → n ≡ length k.seen → applied ws (tables_at s k.seen n) ≡ ((batch s).run c (tables_at s k.seen n)).tables → Leads s k c ws
leads_on s k c n ws all is =
    subst (λ m. applied ws (tables_at s k.seen m) ≡ tables_at s (k.seen ++ c ∷ []) (m + 1)) all (is ∙ sym (after_call s k.seen c n all))

pub changes_on : (s : BoardScript) (seen : List ℕ) (c n : ℕ) (ws : List Write) (changes : List Change) → n ≡ length seen → applied ws (tables_at s seen n) ≡ ((batch s).run c (tables_at s seen n)).tables
    → changes ≡ changes_between (tables_at s seen n) (applied ws (tables_at s seen n)) → changes ≡ changes_between (tables_at s seen n) (tables_at s (seen ++ c ∷ []) (n + 1))
changes_on s seen c n ws changes all is are = are ∙ ap (changes_between (tables_at s seen n)) (is ∙ sym (after_call s seen c n all))

-- What a call that has run whole after all commits brings

-- the tables after its writes
pub brings_tables : (s : BoardScript) (ledger : Entered) (c : ℕ) (rs : List Record) (ws : List Write) → IsCompiledScript (script_in s) → c < length s.calls → rs ≡ records_at (batch s) ledger.knows.seen ledger.commits c → ws ≡ writes_told rs
    → applied ws (tables_at s ledger.knows.seen ledger.commits) ≡ ((batch s).run c (tables_at s ledger.knows.seen ledger.commits)).tables
brings_tables s ledger c rs ws sound there are is = ap (λ x. applied x (tables_at s ledger.knows.seen ledger.commits)) is ∙ (told_all s ledger.knows.seen c ledger.commits rs sound there are).1

pub brings_lead : (s : BoardScript) (ledger now : Entered) (c : ℕ) (rs : List Record) (ws : List Write) → now ≡ ledger → IsCompiledScript (script_in s) → c < length s.calls → ledger.commits ≡ length ledger.knows.seen
    → rs ≡ records_at (batch s) ledger.knows.seen ledger.commits c → ws ≡ writes_told rs → Leads s now.knows c ws
brings_lead s ledger now c rs ws same sound there all are is =
    subst (λ (l : Entered). Leads s l.knows c ws) (sym same) (leads_on s ledger.knows c ledger.commits ws all (brings_tables s ledger c rs ws sound there are is))

-- the changes of its commit
pub brings_changes : (s : BoardScript) (ledger : Entered) (c : ℕ) (rs : List Record) (ws : List Write) (shown : Tables) (changes : List Change) → IsCompiledScript (script_in s) → c < length s.calls → rs ≡ records_at (batch s) ledger.knows.seen ledger.commits c → ws ≡ writes_told rs
    → shown ≡ tables_at s ledger.knows.seen ledger.commits → changes ≡ changes_between shown (applied ws shown)
    → changes ≡ changes_between (tables_at s ledger.knows.seen ledger.commits) ((batch s).run c (tables_at s ledger.knows.seen ledger.commits)).tables
brings_changes s ledger c rs ws shown changes sound there are is shows made =
    made ∙ (ap (λ db. changes_between db (applied ws db)) shows ∙ ap (changes_between (tables_at s ledger.knows.seen ledger.commits)) (brings_tables s ledger c rs ws sound there are is))

pub brings_next : (s : BoardScript) (ledger now : Entered) (c : ℕ) (changes : List Change) → now ≡ ledger → ledger.commits ≡ length ledger.knows.seen
    → changes ≡ changes_between (tables_at s ledger.knows.seen ledger.commits) ((batch s).run c (tables_at s ledger.knows.seen ledger.commits)).tables
    → changes ≡ changes_between (tables_at s now.knows.seen now.commits) (tables_at s (now.knows.seen ++ c ∷ []) (now.commits + 1))
brings_next s ledger now c changes same all are =
    subst (λ (l : Entered). changes ≡ changes_between (tables_at s l.knows.seen l.commits) (tables_at s (l.knows.seen ++ c ∷ []) (l.commits + 1))) (sym same)
    (are ∙ ap (changes_between (tables_at s ledger.knows.seen ledger.commits)) (sym (after_call s ledger.knows.seen c ledger.commits all)))

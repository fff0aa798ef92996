-- What a view of the shards shows, and why it refuses a query.
use Rattle.std.proofs.Common.{◌≡◌, ◌<◌, ◌≤◌, ℕ, zero, suc, List, [], Option, Some, None, Result, Ok, Err, length, refl, sym, ap, subst, ◌∙◌, arith, rules}
use Rattle.mv_values.specs.Tables.{Tables}
use Rattle.mv_view.specs.declared.view.Refused.{Refused}
use Rattle.mv_view.specs.declared.view.Refused.TheVariants.{NoMemory, Stale}
use Rattle.mv_view.specs.Viewing.{Sight}
use Rattle.mv_effect.specs.Looking.{OnlyAsks, IsSameView}
use Rattle.mv_changes.specs.Drafting.{HasAsked}
use Rattle.mv_lawful.specs.Rounds.{IsPast}
use Rattle.mv_seats.specs.Scripts.{BoardScript}
use Rattle.mv_script.specs.declared.script.CompiledScript.{CompiledScript}
use Rattle.mv_script.specs.Scripts.{IsCompiledScript}
use Rattle.mv_script.proofs.Databases.{table_database}
use Rattle.mv_shards.specs.Scripts.{script_in}
use Rattle.mv_shards.specs.Histories.{tables_at}
use Rattle.mv_shards.specs.Kept.{IsLow}
use Rattle.mv_core.specs.Cores.{IsDatabaseIn}
use Rattle.mv_core.proofs.Stored.{database_in}

-- what it takes to be told why a view of n commits refused
abbrev pub IsTold : ℕ → Sight → Refused → Type 0
IsTold n after why = (start low : ℕ) → why ≡ Stale start low → (n < low) × (after.last_low ≡ low)

-- the low of the last refusal lies below what the horizon keeps of what the view has seen
pub told_low : (horizon : Option ℕ) (n seen : ℕ) (after : Sight) (why : Refused) → IsTold n after why → IsLow horizon after.last_low seen → (start low : ℕ) → why ≡ Stale start low → (n < low) × IsLow horizon low seen
told_low horizon n seen after why output is start low e = let t = output start low e in (t.0, subst (λ l. IsLow horizon l seen) t.1 is)

pub asked_late : {A : Type 0} (before after : Sight) (r : Result A Refused) (why : Refused) (n : ℕ) → OnlyAsks before after r → r ≡ Err why → before.start ≡ n → IsTold n after why
asked_late before after (Ok x) why n asks e at start low is = absurd (search (rules, e))
asked_late before after (Err NoMemory) why n asks e at start low is =
    let one : NoMemory ≡ why = search (rules, e) in
    let no : NoMemory ≡ Stale start low = one ∙ is in
    absurd (search (rules, no))
asked_late before after (Err (Stale first l)) why n asks e at start low is =
    let one : Stale first l ≡ why = search (rules, e) in
    let both : Stale first l ≡ Stale start low = one ∙ is in
    let same : l ≡ low = search (rules, both) in
    let own = asks.may_refuse.own_start in
    let late = asks.may_refuse.too_late in
    (omega (arith, own, late, at, same), asks.passes_on.last_low ∙ same)

pub told_late : {A : Type 0} (count : ℕ) (before after : Sight) (r : Result A Refused) (why : Refused) (n : ℕ) → HasAsked count before after r → r ≡ Err why → before.start ≡ n → IsTold n after why
told_late count before after (Ok x) why n asks e at start low is = absurd (search (rules, e))
told_late count before after (Err NoMemory) why n asks e at start low is =
    let one : NoMemory ≡ why = search (rules, e) in
    let no : NoMemory ≡ Stale start low = one ∙ is in
    absurd (search (rules, no))
told_late count before after (Err (Stale first l)) why n asks e at start low is =
    let one : Stale first l ≡ why = search (rules, e) in
    let both : Stale first l ≡ Stale start low = one ∙ is in
    let same : l ≡ low = search (rules, both) in
    let own = asks.stale.own_start in
    let late = asks.stale.too_late in
    (omega (arith, own, late, at, same), ap (λ (s : Sight). s.last_low) asks.sight ∙ same)

-- the changes of a commit are asked of the view as it was
pub asked_same : {A : Type 0} (count : ℕ) (before after : Sight) (r : Result A Refused) → HasAsked count before after r → IsSameView before after
asked_same count before after (Ok x) asks = record { database = ap (λ (s : Sight). s.database) asks.sight; start = ap (λ (s : Sight). s.start) asks.sight; may_be_stale = ap (λ (s : Sight). s.may_be_stale) asks.sight }
asked_same count before after (Err NoMemory) asks = record { database = ap (λ (s : Sight). s.database) asks.sight; start = ap (λ (s : Sight). s.start) asks.sight; may_be_stale = ap (λ (s : Sight). s.may_be_stale) asks.sight }
asked_same count before after (Err (Stale first low)) asks = record { database = ap (λ (s : Sight). s.database) asks.sight; start = ap (λ (s : Sight). s.start) asks.sight; may_be_stale = ap (λ (s : Sight). s.may_be_stale) asks.sight }

-- no start lies further back than itself
pub not_past : (horizon : Option ℕ) (n : ℕ) → IsPast horizon n n → ⊥
not_past None n h = h
not_past (Some k) n h = omega (arith, h)

-- what it shows is a database of the script
pub shown_in : (s : BoardScript) (seen : List ℕ) (c n : ℕ) (script : CompiledScript) (db : Tables) → IsCompiledScript (script_in s) → script ≡ script_in s → db ≡ tables_at s seen n → IsDatabaseIn script c db
shown_in s seen c n script db sound is shows = subst (λ (x : CompiledScript). IsDatabaseIn x c db) (sym is) (database_in (script_in s) seen c n db sound shows)

-- it has as many tables as the script's opening database
pub size_shown : (s : BoardScript) (seen : List ℕ) (n : ℕ) (script : CompiledScript) (db : Tables) (count : ℕ) → IsCompiledScript (script_in s) → script ≡ script_in s → count ≡ length script.opening → db ≡ tables_at s seen n → count ≡ length db
size_shown s seen n script db count sound is many shows =
    many ∙ (ap (λ (x : CompiledScript). length x.opening) is ∙ (sound.1.opening.size ∙ (sym (table_database sound.0 (script_in s) seen n sound.1).size ∙ sym (ap length shows))))

-- they are at most 64, if the script has a call
pub few_shown : (s : BoardScript) (seen : List ℕ) (n : ℕ) (db : Tables) → IsCompiledScript (script_in s) → (length s.calls ≡ 0 → ⊥) → db ≡ tables_at s seen n → length db ≤ 64
few_shown s seen n db sound some shows =
    let all = ap length shows in
    let size = (table_database sound.0 (script_in s) seen n sound.1).size in
    let has = sound.1.there 0 (omega (arith, some)) in
    let can = sound.1.runs 0 has.0 has.1 has.2 in
    let few = can.sound.few in
    let over = ap length can.over in
    omega (arith, all, size, few, over)

-- without commits it is the opening database
pub opening_shown : (s : BoardScript) (seen : List ℕ) (n : ℕ) (script : CompiledScript) (db : Tables) → script ≡ script_in s → seen ≡ [] → db ≡ script.opening → db ≡ tables_at s seen n
opening_shown s seen n script db is none same = same ∙ (ap (λ (x : CompiledScript). x.opening) is ∙ sym (ap (λ (xs : List ℕ). tables_at s xs n) none ∙ empty n)) where
  empty : (k : ℕ) → tables_at s [] k ≡ s.opening
  empty zero = refl
  empty (suc k) = refl

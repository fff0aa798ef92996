-- The command that `clap` finds in words is the one that they say.
use Rattle.std.proofs.Common.{◌≡◌, ◌∙◌, ◌||◌, ◌++◌, Bool, cond, true, false, refl, sym, ap, ap₂, List, [], ◌∷◌, Option, None, Some, codes, map, length, true≢false, inl, inr}
use Rattle.std.specs.Prelude.{find, is_some, option_and_then, option_map, bytes_eq}
use Rattle.std.specs.Option.{option_map_or}
use Rattle.std.specs.List.{fold}
use Rattle.clap.specs.Lexer.{short_of}
use Rattle.clap.specs.Kinds.{Kinds, or_else}
use Rattle.clap.specs.Walk.{Held, Names, Outcome, Row, Rule, Step, Text, Walk, after_flag, answers_to, bundle, count_of, finished, has_row, idle, long_or_other, more_values, nothing_held, rows_after, settled, short_or_plain, subcommand_or_other, trailing, walk, walk_from, walked, with_default, with_values}
use Rattle.clap.specs.Faults.{bundle_fault, check_fault, defaults_fault, entered_fault, fault_of, flag_word_fault, level_fault, other_fault, settle_fault, step_fault, turn_fault, walk_fault}
use Rattle.clap.specs.Simple.{App, built, entered, names_of, subcommand_of}
use Rattle.clap.specs.declared.builder.value_parser.Reading.TheVariants.{WithoutMinus}
use Rattle.clap.specs.declared.parser.matches.ValueSource.TheVariants.{DefaultValue}
use Rattle.clap.proofs.WalkLemmas.{walk_stopped}
use Rattle.mv_words.specs.declared.reading.Given.{Given}
use Rattle.mv_words.specs.declared.command.Command.{Command}
use Rattle.mv_words.specs.Words.{command_of, command_with, given_by, nothing}
use Rattle.mv_words.specs.Program.{command_in, flag_by, given_in, given_of, has_escape, is_escape, number_by, program, values_of}
use Rattle.mv_words.proofs.Rows.{values_kept}
use Rattle.mv_words.proofs.Shapes.{Form, IsPlain, differs, escapes, form, names, stands}
use Rattle.mv_words.proofs.Turns.{if_none, leaf, left, letters, nothing_either, rule, rules, script}
use Rattle.mv_words.proofs.Following.{follows, nothing_then, pick}

-- ---- the options that words leave out

is_same : {X : Type 0} (b : Bool) (x : X) → cond b x x ≡ x
is_same true x = refl
is_same false x = refl

or_true : {X : Type 0} (b : Bool) (x y : X) → cond (b || true) x y ≡ x
or_true true x y = refl
or_true false x y = refl

count_same : (rows : List Row) → has_row (codes "script") rows ≡ false
    → count_of (codes "script") (with_values (codes "script") WithoutMinus DefaultValue (codes "0" ∷ []) rows) ≡ count_of (codes "script") rows
count_same [] none = refl
count_same (r ∷ rs) none = go (bytes_eq r.id (codes "script")) refl (count_same rs)
  where
    go : (b : Bool) → bytes_eq r.id (codes "script") ≡ b
        → (has_row (codes "script") rs ≡ false → count_of (codes "script") (with_values (codes "script") WithoutMinus DefaultValue (codes "0" ∷ []) rs) ≡ count_of (codes "script") rs)
        → count_of (codes "script") (cond b (more_values DefaultValue (codes "0" ∷ []) r ++ rs) (r ∷ with_values (codes "script") WithoutMinus DefaultValue (codes "0" ∷ []) rs)) ≡ count_of (codes "script") (r ∷ rs)
    go true e rest = let bad : true ≡ false = rw e at none in absurd (true≢false bad)
    go false e rest = let less : has_row (codes "script") rs ≡ false = rw e at none in rw e (rest less)

script_default : (rows : List Row) → given_in (with_default rows script) ≡ given_in rows
script_default rows = go (has_row (codes "script") rows) refl
  where
    go : (b : Bool) → has_row (codes "script") rows ≡ b → given_in (cond b rows (with_values (codes "script") WithoutMinus DefaultValue (codes "0" ∷ []) rows)) ≡ given_in rows
    go true e = refl
    go false e =
        let kept : (other : Text) → bytes_eq (codes "script") other ≡ false → values_of other (with_values (codes "script") WithoutMinus DefaultValue (codes "0" ∷ []) rows) ≡ values_of other rows =
        λ other apart. values_kept (codes "script") other WithoutMinus DefaultValue (codes "0" ∷ []) rows apart in
        λ i. given_of (number_by 1 64 (kept (codes "threads") refl i)) (number_by 0 100 (kept (codes "rounds") refl i)) (number_by 1 4294967295 (kept (codes "horizon") refl i))
        (number_by 1 16 (kept (codes "warehouses") refl i)) (number_by 0 40000 (kept (codes "calls") refl i)) (number_by 0 4294967295 (kept (codes "seed") refl i)) (flag_by (count_same rows e i))

abbrev with_rules : List Text → List Rule
with_rules ids = map rule ids ++ script ∷ []

faultless : (ids : List Text) (rows : List Row) → defaults_fault rows (with_rules ids) ≡ []
unfolding defaults_fault
faultless [] rows = ap (λ ks. or_else ks []) (is_same (has_row (codes "script") rows || false) [])
faultless (id ∷ ids) rows =
    ap (λ ks. or_else ks (defaults_fault (with_default rows (rule id)) (with_rules ids))) (or_true (has_row id rows) [] _)
    ∙ ap (λ now. defaults_fault now (with_rules ids)) (is_same (has_row id rows) rows) ∙ faultless ids rows

defaulted : (ids : List Text) (rows : List Row) → fold with_default rows (with_rules ids) ≡ with_default rows script
defaulted [] rows = refl
defaulted (id ∷ ids) rows = ap (λ now. fold with_default now (with_rules ids)) (is_same (has_row id rows) rows) ∙ defaulted ids rows

abbrev ids : List Text
ids = codes "threads" ∷ codes "rounds" ∷ codes "horizon" ∷ codes "warehouses" ∷ codes "calls" ∷ codes "seed" ∷ []

-- ---- the program's words

abbrev app : App
app = built program

abbrev all : Names
all = names_of app

abbrev start : Walk
start = walk_from nothing_held

-- after a command the words are its own
stopped_faultless : (w : Walk) (p : Text × List Text) (words : List Text) → walk_fault app.top all (record w { stopped = Some p }) words ≡ []
unfolding walk_fault walked
stopped_faultless w p [] = refl
stopped_faultless w p (x ∷ xs) = stopped_faultless w (p.0, p.1 ++ x ∷ []) xs

-- what a parse finds, by the walk over the words and its faults
abbrev found_by : Walk → Kinds → Option Command
found_by w ks =
    if_none (or_else ks (or_else (entered_fault app w.stopped) (or_else (settle_fault [] false w.held) (or_else (defaults_fault (settled [] w.held).rows []) (check_fault app.top (finished [] w.held) (is_some (entered app w.stopped)))))))
    (command_in (entered app w.stopped))

-- what is found of the command's own words
abbrev found_in : Text → List Text → Option Command
found_in name words =
    if_none (or_else (level_fault (leaf name) [] nothing_held words false []) (or_else [] (or_else [] []))) (command_in (Some (name, rows_after rules [] words)))

in_order : {A B : Type 0} (a b : Kinds) (f : A → Option B) (o : Option A) → if_none (or_else (or_else a (or_else b [])) []) (option_and_then f o) ≡ option_and_then f (if_none a (if_none b o))
in_order [] [] f o = refl
in_order [] (k ∷ ks) f o = refl
in_order (k ∷ ks) b f o = refl

abbrev ended : List Text → Held
ended words = (walk rules [] nothing_held words).held

own_words : (name : Text) (words : List Text) → found_in name words ≡ option_and_then (command_with name) (left name start words)
own_words name words =
    ap₂ (λ (ks : Kinds) (o : Option Given). if_none (or_else (or_else (walk_fault (leaf name) [] start words) (or_else [] (or_else (settle_fault rules false (ended words)) (or_else ks (check_fault (leaf name) (finished rules (ended words)) false))))) []) (option_and_then (command_with name) o))
    (faultless ids (settled rules (ended words)).rows) (ap given_in (defaulted ids (settled rules (ended words)).rows) ∙ script_default (settled rules (ended words)).rows)
    ∙ in_order (walk_fault (leaf name) [] start words) (settle_fault rules false (ended words)) (command_with name) (given_in (settled rules (ended words)).rows)

if_escape : {A B : Type 0} (b : Bool) (f : A → Option B) (o : Option A) → cond b None (option_and_then f o) ≡ option_and_then f (cond b None o)
if_escape true f o = refl
if_escape false f o = refl

-- the words of a command that the program has
module _ (name : Text) (words : List Text)
    (met : walked [] all start name ≡ record start { stopped = Some (name, []) })
    (no_fault : turn_fault app.top all start name ≡ [])
    (enters : found_by (record start { stopped = Some (name, words) }) [] ≡ found_in name words)
  where
    found_is : if_none (fault_of program (name ∷ words)) (command_in (subcommand_of program (name ∷ words))) ≡ found_in name words
    unfolding walk_fault
    found_is =
        ap₂ found_by (ap (λ w. fold (walked [] all) w words) met ∙ sym (walk_stopped [] all start name [] words))
        (ap₂ (λ ks w. or_else ks (walk_fault app.top all w words)) no_fault met ∙ stopped_faultless start (name, []) words)
        ∙ enters

    pub command_said : cond (has_escape words) None (if_none (fault_of program (name ∷ words)) (command_in (subcommand_of program (name ∷ words)))) ≡ option_and_then (command_with name) (given_by nothing words)
    command_said =
        ap (cond (has_escape words) None) (found_is ∙ own_words name words) ∙ if_escape (has_escape words) (command_with name) (left name start words)
        ∙ ap (option_and_then (command_with name)) ((follows name words).free [] [] None (record { faultless = refl; settles = refl }))

-- ---- words whose first names no command

-- the faults of a parse after those of its walk
abbrev rest_of : List Text → Kinds
rest_of words =
    let w : Walk = walk [] all nothing_held words in
    or_else (entered_fault app w.stopped) (or_else (settle_fault [] false w.held) (or_else (defaults_fault (settled [] w.held).rows []) (check_fault app.top (finished [] w.held) (is_some (entered app w.stopped)))))

module _ (word : Text) (words : List Text) (unmet : find (answers_to word) all ≡ None) (after rest : Kinds) (x : Option Command) where
  abbrev topped : Kinds → Held × Step → Option Command
  topped ks met = if_none (or_else (or_else (or_else ks (step_fault app.top 1 met.0 met.1)) after) rest) x

  abbrev by_name : Option (Text × List Text) → Option Command
  by_name o = topped (other_fault app.top (option_map (λ s. s.0) o) word nothing_held) (subcommand_or_other [] (option_map (λ s. s.0) o) idle 1 word nothing_held)

  abbrev by_form : Bool → Option (Text × Option Text) → Option Command
  by_form e l = topped (cond e [] (flag_word_fault [] false l word nothing_held)) (cond e (nothing_held, trailing 1) (long_or_other [] idle word l nothing_held))

  abbrev by_flags : Option Text → Option Command
  by_flags s = topped (option_map_or (λ flags. bundle_fault [] false flags nothing_held) s []) (short_or_plain [] idle word s nothing_held)

  flags_refused : (s : Option Text) → by_flags s ≡ None
  flags_refused None = refl
  flags_refused (Some flags) =
      let with_bundle : Kinds → Held × Outcome → Option Command = λ ks b. topped ks (after_flag [] idle word b.0 b.1) in
      elim (letters [] (λ c. refl) (length flags) flags nothing_held) [
        | inl e ↦ ap (λ ks. with_bundle ks (bundle [] flags nothing_held)) e
        | inr e ↦ ap₂ with_bundle e.0 e.1
      ]

  refused_plain : IsPlain word → by_name (find (answers_to word) all) ≡ None
  refused_plain plain = ap by_name unmet ∙ ap₂ by_form plain.escape plain.long ∙ flags_refused (short_of word)

refused_first : (word : Text) → Form word → (words : List Text) → find (answers_to word) all ≡ None → (x : Option Command)
    → cond (has_escape (word ∷ words)) None (if_none (fault_of program (word ∷ words)) x) ≡ None
unfolding walk_fault
refused_first _ escapes words unmet x = refl
refused_first _ (names c w) words unmet x =
    ap (cond (has_escape words) None) (ap (by_name (45 ∷ 45 ∷ c ∷ w) words unmet (walk_fault app.top all (walked [] all start (45 ∷ 45 ∷ c ∷ w)) words) (rest_of ((45 ∷ 45 ∷ c ∷ w) ∷ words)) x) unmet) ∙ nothing_either (has_escape words)
refused_first _ (stands word plain) words unmet x =
    ap (cond (is_escape word || has_escape words) None) (refused_plain word words unmet (walk_fault app.top all (walked [] all start word) words) (rest_of (word ∷ words)) x plain)
    ∙ nothing_either (is_escape word || has_escape words)

no_command : (word : Text) → bytes_eq word (codes "run") ≡ false → bytes_eq word (codes "replay") ≡ false → bytes_eq word (codes "tpcc") ≡ false → bytes_eq word (codes "audit") ≡ false → bytes_eq word (codes "why") ≡ false → bytes_eq word (codes "serial") ≡ false → bytes_eq word (codes "graph") ≡ false
    → (g : Given) → command_with word g ≡ None
no_command word run replay tpcc audit why serial graph g = rw (run, replay, tpcc, audit, why, serial, graph) refl

-- ---- all words

abbrev Said : List Text → Type 0
Said words = cond (has_escape words) None (if_none (fault_of program words) (command_in (subcommand_of program words))) ≡ command_of words

pub said : (words : List Text) → Said words
unfolding walk_fault walked defaults_fault
said [] = refl
said (word ∷ words) =
    pick (λ name. Said (name ∷ words)) word (codes "run") (command_said (codes "run") words refl refl refl) (λ run.
    pick (λ name. Said (name ∷ words)) word (codes "replay") (command_said (codes "replay") words refl refl refl) (λ replay.
    pick (λ name. Said (name ∷ words)) word (codes "serial") (command_said (codes "serial") words refl refl refl) (λ serial.
    pick (λ name. Said (name ∷ words)) word (codes "graph") (command_said (codes "graph") words refl refl refl) (λ graph.
    pick (λ name. Said (name ∷ words)) word (codes "tpcc") (command_said (codes "tpcc") words refl refl refl) (λ tpcc.
    pick (λ name. Said (name ∷ words)) word (codes "audit") (command_said (codes "audit") words refl refl refl) (λ audit.
    pick (λ name. Said (name ∷ words)) word (codes "why") (command_said (codes "why") words refl refl refl) (λ why.
    let unmet : find (answers_to word) all ≡ None = rw (differs word _ run, differs word _ replay, differs word _ serial, differs word _ graph, differs word _ tpcc, differs word _ audit, differs word _ why) refl in
    refused_first word (form word) words unmet (command_in (subcommand_of program (word ∷ words)))
    ∙ sym (nothing_then (command_with word) (given_by nothing words) (no_command word run replay tpcc audit why serial graph)))))))))

-- What `clap` makes of the words of a command, word by word, against what the definition of the words says.
use Rattle.std.proofs.Common.{◌≡◌, ◌∙◌, ◌+◌, ◌≤◌, ℕ, Bool, cond, true, false, zero, suc, refl, ap, ap₂, List, [], ◌∷◌, Option, None, Some, length, codes, min, nat_lt, arith, ◌⊎◌, inl, inr}
use Rattle.std.specs.Prelude.{drop, encode_utf8, option_and_then, slice_get, bytes_eq, pos}
use Rattle.std.specs.Option.{option_map_or}
use Rattle.std.specs.List.{fold}
use Rattle.std.specs.Str.{chars}
use Rattle.clap.specs.Matches.{count_text}
use Rattle.clap.specs.Lexer.{long_of}
use Rattle.clap.specs.Kinds.{Kinds, or_else, value_kinds}
use Rattle.clap.specs.Walk.{Held, Outcome, Row, Rule, Step, Text, Waiting, Walk, after_flag, after_step, arg_by_id, arg_by_short, bundle, bundle_met, bundle_step, count_of, idle, long_met, long_or_other, next, option, option_word, plain, settled, settled_rows, short_or_plain, takes_values, trailing, used_by_id, walked, with_count, with_values, without}
use Rattle.clap.specs.Faults.{bundle_fault, bundle_step_fault, flag_word_fault, flags_fault, long_fault, option_fault, react_fault, settle_fault, short_fault, step_fault, turn_fault, use_fault, walk_fault}
use Rattle.clap.specs.Simple.{Shape, filled, inherited, built_leaf, marked_built, with_index, with_leaf_noted}
use Rattle.clap.specs.ValueTests.{accepts}
use Rattle.clap.specs.declared.error.kind.ErrorKind.{ErrorKind}
use Rattle.clap.specs.declared.error.kind.ErrorKind.TheVariants as kind
use Rattle.clap.specs.declared.builder.value_parser.Reading.TheVariants.{AsWritten, WithoutMinus}
use Rattle.clap.specs.declared.builder.value_parser.ValueParser.TheVariants as vp
use Rattle.clap.specs.declared.parser.matches.ValueSource.TheVariants.{CommandLine}
use Rattle.clap.proofs.CountText.{IsSignedIn-count_text}
use Rattle.clap.proofs.ValueTestLemmas.{Accepts-accepts}
use Rattle.mv_words.specs.declared.reading.Given.{Given}
use Rattle.mv_words.specs.Words.{given, number, once}
use Rattle.mv_words.specs.Program.{command, flag, given_in, is_escape, program, valued}
use Rattle.mv_words.proofs.Options.{gives_calls, gives_horizon, gives_rounds, gives_seed, gives_threads, gives_warehouses}

-- ---- the options of a command, as `clap` has built them

abbrev pub leaf : Text → Shape
leaf name = built_leaf (inherited (with_leaf_noted (marked_built program.top)) (command name))

abbrev pub rules : List Rule
rules = (leaf []).rules

abbrev pub rule : Text → Rule
rule id = with_index 1 (filled (valued id))

abbrev pub script : Rule
script = with_index 1 (filled (flag (codes "script")))

-- ---- the walk over the words of a command

abbrev pub if_none : {X : Type 0} → Kinds → Option X → Option X
if_none [] x = x
if_none (k ∷ ks) x = None

pub if_none-or_else : {X : Type 0} (a b : Kinds) (x : Option X) → if_none (or_else a b) x ≡ if_none a (if_none b x)
if_none-or_else [] b x = refl
if_none-or_else (k ∷ ks) b x = refl

abbrev pub held : List Row → Option (Text × List Text) → Held
held rows pending = record { rows = rows; pending = pending; skip = 0 }

abbrev pub at : Waiting → Held → Walk
at waiting h = record { held = h; waiting = waiting; position = 1; is_trailing = false; stopped = None }

abbrev pub at_end : Held → Option Given
at_end h = if_none (settle_fault rules false h) (given_in (settled rules h).rows)

-- the options that the words give from here on
abbrev pub left : Text → Walk → List Text → Option Given
left name w words = if_none (walk_fault (leaf name) [] w words) (at_end (fold (walked rules []) w words).held)

turn : (name : Text) (w : Walk) (word : Text) (more : List Text) → left name w (word ∷ more) ≡ if_none (turn_fault (leaf name) [] w word) (left name (walked rules [] w word) more)
unfolding walk_fault
turn name w word more = if_none-or_else (turn_fault (leaf name) [] w word) (walk_fault (leaf name) [] (walked rules [] w word) more) (at_end (fold (walked rules []) (walked rules [] w word) more).held)

module _ (name : Text) (waiting : Waiting) (h : Held) (word : Text) (more : List Text) where
  -- what is left after a step
  abbrev pub stepped : Kinds → Held × Step → Option Given
  stepped ks met = if_none (or_else ks (step_fault (leaf name) 1 met.0 met.1)) (left name (after_step rules word (at waiting h) met.0 met.1) more)

  -- the word, by whether it is `--`, and by its name and value
  abbrev pub by_word : Bool → Option (Text × Option Text) → Option Given
  by_word e l = stepped (cond e [] (flag_word_fault rules false l word h)) (cond e (h, trailing 1) (long_or_other rules waiting word l h))

  -- an option with two hyphens
  abbrev pub by_long : Option Rule → Option Text → Option Given
  by_long o v = stepped (long_fault rules false o v h) (after_flag rules waiting word (long_met rules o v h).0 (long_met rules o v h).1)

  -- any other word
  abbrev pub by_short : Option Text → Option Given
  by_short s = stepped (option_map_or (λ flags. bundle_fault rules false flags h) s []) (short_or_plain rules waiting word s h)

pub idle_turn : (name : Text) (h : Held) (word : Text) (more : List Text) → left name (at idle h) (word ∷ more) ≡ by_word name idle h word more (is_escape word) (long_of word)
unfolding walked
idle_turn name h word more = turn name (at idle h) word more

pub waiting_turn : (name id : Text) (h : Held) (word : Text) (more : List Text) → left name (at (option id) h) (word ∷ more) ≡ by_word name (option id) h word more (is_escape word) (long_of word)
unfolding walked
waiting_turn name id h word more = turn name (at (option id) h) word more

-- letters behind one hyphen name no option where none has a short name
pub letters : (c : List Rule) → ((x : ℕ) → arg_by_short c x ≡ None) → (k : ℕ) (flags : Text) (h : Held)
    → (flags_fault c false k flags 0 h ≡ kind.UnknownArgument ∷ []) ⊎ ((flags_fault c false k flags 0 h ≡ []) × (bundle_met c k flags 0 plain h ≡ (h, plain)))
unfolding flags_fault bundle_met
letters c none zero flags h = inr (refl, refl)
letters c none (suc k) flags h = elim (slice_get (chars flags) 0) as (λ (o : Option ℕ). (bundle_step_fault c false o flags 0 h (flags_fault c false k) ≡ kind.UnknownArgument ∷ []) ⊎ ((bundle_step_fault c false o flags 0 h (flags_fault c false k) ≡ []) × (bundle_step c o flags 0 plain h (bundle_met c k) ≡ (h, plain)))) [
  | None ↦ inr (refl, refl)
  | Some x ↦ inl (ap (λ a. short_fault c false a (drop (length (encode_utf8 x)) flags) h (flags_fault c false k (drop (length (encode_utf8 x)) flags) 0)) (none x))
]

-- a count passes its parser
abbrev pub count_kinds : ℕ → Kinds
count_kinds n = value_kinds false (vp.Signed (pos 0) (pos 255)) (count_text n)

count_fits : (n : ℕ) → count_kinds (min (n + 1) 255) ≡ []
count_fits n =
    let few : min (n + 1) 255 ≤ 255 = omega arith in
    let taken : accepts false (vp.Signed (pos 0) (pos 255)) (count_text (min (n + 1) 255)) ≡ true = Accepts-accepts false (vp.Signed (pos 0) (pos 255)) (count_text (min (n + 1) 255)) (IsSignedIn-count_text (min (n + 1) 255) few) in
    rw taken refl

-- ---- a word where nothing is waited for

-- what is pending is used without fault, and leaves these rows
pub record Rests (pending : Option (Text × List Text)) (rows after : List Row) : Type 0 where
  pub faultless : settle_fault rules false (held rows pending) ≡ []
  pub settles : settled_rows rules pending rows ≡ after

module _ (name : Text) (pending : Option (Text × List Text)) (rows after : List Row) (rests : Rests pending rows after) (word : Text) (more : List Text) where
  abbrev pub next_rows : List Row → Option Given
  next_rows now = left name (at idle (held now None)) more

  pub joined_turn : (id v : Text) → by_long name idle (held rows pending) word more (Some (rule id)) (Some v) ≡ next_rows (with_values id AsWritten CommandLine (v ∷ []) after)
  joined_turn id v = ap₂ (λ (ks : Kinds) (now : List Row). if_none (or_else (or_else ks []) []) (next_rows (with_values id AsWritten CommandLine (v ∷ []) now))) rests.faultless rests.settles

  pub apart_turn : (id : Text) → by_long name idle (held rows pending) word more (Some (rule id)) None ≡ left name (at (option id) (held after (Some (id, [])))) more
  apart_turn id = ap₂ (λ (ks : Kinds) (now : List Row). if_none (or_else ks []) (left name (at (option id) (held now (Some (id, [])))) more)) rests.faultless rests.settles

  abbrev pub counted : List Row → List Row
  counted now = with_count (codes "script") WithoutMinus CommandLine (min (count_of (codes "script") now + 1) 255) (without (codes "script") now)

  pub script_turn : by_long name idle (held rows pending) word more (Some script) None ≡ next_rows (counted after)
  script_turn =
      ap₂ (λ (ks : Kinds) (now : List Row). if_none (or_else (or_else ks (count_kinds (min (count_of (codes "script") now + 1) 255))) []) (next_rows (counted now))) rests.faultless rests.settles
      ∙ ap (λ (ks : Kinds). if_none (or_else ks []) (next_rows (counted after))) (count_fits (count_of (codes "script") after))

  script_joined : (v : Text) → by_long name idle (held rows pending) word more (Some script) (Some v) ≡ None
  script_joined v = refl

  unknown : (v : Option Text) → by_long name idle (held rows pending) word more None v ≡ None
  unknown v = refl

-- letters behind one hyphen are refused, or the word is taken as if it had none
pub by_letters : (name : Text) (waiting : Waiting) (rows : List Row) (pending : Option (Text × List Text)) (word : Text) (more : List Text) (flags : Text)
    → (by_short name waiting (held rows pending) word more (Some flags) ≡ None) ⊎ (by_short name waiting (held rows pending) word more (Some flags) ≡ by_short name waiting (held rows pending) word more None)
by_letters name waiting rows pending word more flags =
    let h : Held = held rows pending in
    let with_bundle : Kinds → Held × Outcome → Option Given = λ ks b. stepped name waiting h word more ks (after_flag rules waiting word b.0 b.1) in
    elim (letters rules (λ x. refl) (length flags) flags h) [
      | inl e ↦ inl (ap (λ ks. with_bundle ks (bundle rules flags h)) e)
      | inr e ↦ inr (ap₂ with_bundle e.0 e.1)
    ]

-- a word that is no option is no value of one either
pub refused : (name : Text) (rows : List Row) (pending : Option (Text × List Text)) (word : Text) (more : List Text) (s : Option Text) → by_short name idle (held rows pending) word more s ≡ None
refused name rows pending word more None = refl
refused name rows pending word more (Some flags) = elim (by_letters name idle rows pending word more flags) [ inl e ↦ e | inr e ↦ e ]

-- ---- a word where an option waits for its value

once_none : (already : Option ℕ) (with' : ℕ → Given) → once already with' None ≡ None
once_none None with' = refl
once_none (Some n) with' = refl

pub nothing_either : {X : Type 0} (b : Bool) → ◌≡◌ {A = Option X} (cond b None None) None
nothing_either true = refl
nothing_either false = refl

hyphen_number : (least most : ℕ) (rest : Text) → number least most (45 ∷ rest) ≡ None
hyphen_number least most rest = nothing_either (nat_lt 10 (length (45 ∷ rest)))

refuse : (already : Option ℕ) (with' : ℕ → Given) (least most : ℕ) (rest : Text) → once already with' (number least most (45 ∷ rest)) ≡ None
refuse already with' least most rest = ap (once already with') (hyphen_number least most rest) ∙ once_none already with'

-- an option with a value
pub record IsOption (id : Text) : Type 0 where
  pub found : arg_by_id rules id ≡ Some (rule id)
  pub same : bytes_eq id id ≡ true
  pub gives : (v : Text) (rows : List Row) → given_in (with_values id AsWritten CommandLine (v ∷ []) rows) ≡ option_and_then (λ g. given g (45 ∷ 45 ∷ id) v) (given_in rows)
  pub refuses : (g : Given) (rest : Text) → given g (45 ∷ 45 ∷ id) (45 ∷ rest) ≡ None

pub threads : IsOption (codes "threads")
threads = record { found = refl; same = refl; gives = gives_threads AsWritten CommandLine; refuses = λ g rest. refuse g.threads (λ n. record g { threads = Some n }) 1 64 rest }

pub rounds : IsOption (codes "rounds")
rounds = record { found = refl; same = refl; gives = gives_rounds AsWritten CommandLine; refuses = λ g rest. refuse g.rounds (λ n. record g { rounds = Some n }) 0 100 rest }

pub horizon : IsOption (codes "horizon")
horizon = record { found = refl; same = refl; gives = gives_horizon AsWritten CommandLine; refuses = λ g rest. refuse g.horizon (λ n. record g { horizon = Some n }) 1 4294967295 rest }

pub warehouses : IsOption (codes "warehouses")
warehouses = record { found = refl; same = refl; gives = gives_warehouses AsWritten CommandLine; refuses = λ g rest. refuse g.warehouses (λ n. record g { warehouses = Some n }) 1 16 rest }

pub calls : IsOption (codes "calls")
calls = record { found = refl; same = refl; gives = gives_calls AsWritten CommandLine; refuses = λ g rest. refuse g.calls (λ n. record g { calls = Some n }) 0 40000 rest }

pub seed : IsOption (codes "seed")
seed = record { found = refl; same = refl; gives = gives_seed AsWritten CommandLine; refuses = λ g rest. refuse g.seed (λ n. record g { seed = Some n }) 0 4294967295 rest }

module _ (name id : Text) (is : IsOption id) (rows : List Row) where
  abbrev pub owing : Held
  owing = held rows (Some (id, []))

  pub owes : settle_fault rules false owing ≡ kind.InvalidValue ∷ []
  owes = ap (λ (o : Option Rule). option_map_or (λ a. use_fault false a [] rows) o []) is.found

  long_owes : (o : Option Rule) (v : Option Text) → (k : ErrorKind) × (long_fault rules false o v owing ≡ k ∷ [])
  long_owes None v = (kind.UnknownArgument, refl)
  long_owes (Some a) (Some x) = elim (takes_values a) as (λ b. (k : ErrorKind) × (cond b (option_fault rules false a (Some x) owing) (kind.TooManyValues ∷ []) ≡ k ∷ [])) [
    | true ↦ (kind.InvalidValue, ap (λ ks. or_else ks (use_fault false a (x ∷ []) (settled rules owing).rows)) owes)
    | false ↦ (kind.TooManyValues, refl)
  ]
  long_owes (Some a) None = elim (takes_values a) as (λ b. (k : ErrorKind) × (cond b (option_fault rules false a None owing) (react_fault rules false a [] owing) ≡ k ∷ [])) [
    | true ↦ (kind.InvalidValue, owes)
    | false ↦ (kind.InvalidValue, ap (λ ks. or_else ks (use_fault false a [] (settled rules owing).rows)) owes)
  ]

  -- an option can't be the value
  pub no_value : (word : Text) (more : List Text) (o : Option Rule) (v : Option Text) → by_long name (option id) owing word more o v ≡ None
  no_value word more o v = ap (λ ks. stepped name (option id) owing word more ks (after_flag rules (option id) word (long_met rules o v owing).0 (long_met rules o v owing).1)) (long_owes o v).1

  -- the word is the value
  pub taken : (word : Text) (more : List Text) → by_short name (option id) owing word more None ≡ left name (at idle (held rows (Some (id, word ∷ [])))) more
  taken word more =
      ap (λ (o : Option Rule). stepped name (option id) owing word more [] ((option_word o id word owing).0, next (option_word o id word owing).1)) is.found
      ∙ ap (λ b. stepped name (option id) owing word more [] (held rows (Some (id, word ∷ [])), next (cond (nat_lt (cond b 1 0) 1) (option id) idle))) is.same

  pub with_value : (word : Text) → Rests (Some (id, word ∷ [])) rows (with_values id AsWritten CommandLine (word ∷ []) rows)
  with_value word = record {
    faultless = ap (λ (o : Option Rule). option_map_or (λ a. use_fault false a (word ∷ []) rows) o []) is.found;
    settles = ap (λ (o : Option Rule). used_by_id o (word ∷ []) rows) is.found;
  }

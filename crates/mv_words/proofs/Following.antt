-- The options that `clap` finds in the words of a command are those that the words give.
use Rattle.std.proofs.Common.{◌≡◌, ◌∙◌, ◌||◌, ℕ, Bool, cond, true, false, refl, sym, ap, ap₂, subst, List, [], ◌∷◌, Option, None, Some, codes, inl, inr}
use Rattle.std.specs.Prelude.{option_and_then, bytes_eq}
use Rattle.std.specs.List.{before_first, after_first}
use Rattle.std.proofs.lemmas.Slice.Eq.{bytes_eq-Decides}
use Rattle.clap.specs.Lexer.{has_byte, short_of}
use Rattle.clap.specs.Walk.{Row, Rule, Text, arg_by_long, idle, option, settled, with_values}
use Rattle.clap.specs.Faults.{walk_fault}
use Rattle.clap.specs.declared.builder.value_parser.Reading.TheVariants.{AsWritten, WithoutMinus}
use Rattle.clap.specs.declared.parser.matches.ValueSource.TheVariants.{CommandLine}
use Rattle.mv_words.specs.declared.reading.Given.{Given}
use Rattle.mv_words.specs.Words.{given, given_by, is_equals, is_joined, with_script}
use Rattle.mv_words.specs.Program.{given_in, has_escape, is_escape}
use Rattle.mv_words.proofs.Options.{gives_script}
use Rattle.mv_words.proofs.Shapes.{Form, IsPlain, back_is, begins, differs, escapes, form, front_is, joined_is, names, stands, whole_is}
use Rattle.mv_words.proofs.Turns.{IsOption, Rests, apart_turn, at, by_letters, by_long, by_short, by_word, calls, counted, held, horizon, idle_turn, if_none, joined_turn, left, no_value, nothing_either, owes, refused, rounds, rule, rules, script_turn, seed, taken, threads, waiting_turn, warehouses, with_value}

-- ---- what comes after what

pub nothing_then : {A B : Type 0} (f : A → Option B) (o : Option A) → ((a : A) → f a ≡ None) → option_and_then f o ≡ None
nothing_then f None none = refl
nothing_then f (Some a) none = none a

then_same : {A B : Type 0} (f g : A → Option B) (o : Option A) → ((a : A) → f a ≡ g a) → option_and_then f o ≡ option_and_then g o
then_same f g None same = refl
then_same f g (Some a) same = same a

then_then : {A B C : Type 0} (f : B → Option C) (g : A → Option B) (o : Option A) → option_and_then f (option_and_then g o) ≡ option_and_then (λ a. option_and_then f (g a)) o
then_then f g None = refl
then_then f g (Some a) = refl

-- ---- the definition, by the shape of a word

abbrev joined_by : Given → List Text → Text → Text → Option Given
joined_by g words name value = option_and_then (λ h. given_by h words) (given g name value)

abbrev script_by : Given → List Text → Option Given
script_by g words = option_and_then (λ h. given_by h words) (with_script g)

abbrev pub apart_by : Given → Text → List Text → Option Given
apart_by g word [] = None
apart_by g word (next ∷ more) = option_and_then (λ h. given_by h more) (given g word next)

abbrev alone_by : Given → Text → List Text → Option Given
alone_by g word more = cond (bytes_eq word (codes "--script")) (script_by g more) (apart_by g word more)

by_shape : (g : Given) (word : Text) (more : List Text)
    → given_by g (word ∷ more) ≡ cond (is_joined word) (joined_by g more (before_first is_equals word) (after_first is_equals word)) (alone_by g word more)
by_shape g word [] = refl
by_shape g word (next ∷ more) = refl

no_option : (g : Given) (name value : Text) → ((z : Text) → bytes_eq name (45 ∷ 45 ∷ z) ≡ false) → given g name value ≡ None
no_option g name value none = rw (none (codes "threads"), none (codes "rounds"), none (codes "horizon"), none (codes "warehouses"), none (codes "calls"), none (codes "seed")) refl

none_all : (j s : Bool) (a b c : Option Given) → a ≡ None → s ≡ false → c ≡ None → cond j a (cond s b c) ≡ None
none_all true s a b c x y z = x
none_all false s a b c x y z = ap (λ t. cond t b c) y ∙ z

apart_none : (g : Given) (word : Text) (more : List Text) → ((v : Text) → given g word v ≡ None) → apart_by g word more ≡ None
apart_none g word [] none = refl
apart_none g word (next ∷ more) none = ap (option_and_then (λ h. given_by h more)) (none next)

given_plain : (word : Text) (more : List Text) → IsPlain word → (g : Given) → given_by g (word ∷ more) ≡ None
given_plain word more plain g =
    by_shape g word more ∙ none_all (is_joined word) (bytes_eq word (codes "--script")) (joined_by g more (before_first is_equals word) (after_first is_equals word)) (script_by g more) (apart_by g word more)
    (ap (option_and_then (λ h. given_by h more)) (no_option g (before_first is_equals word) (after_first is_equals word) plain.front)) (plain.word_is (codes "script"))
    (apart_none g word more (λ v. no_option g word v plain.word_is))

given_escape : (more : List Text) (g : Given) → given_by g ((45 ∷ 45 ∷ []) ∷ more) ≡ None
given_escape [] g = refl
given_escape (next ∷ more) g = refl

-- ---- names

record IsOther (n : Text) : Type 0 where
  threads_not : bytes_eq n (codes "threads") ≡ false
  rounds_not : bytes_eq n (codes "rounds") ≡ false
  horizon_not : bytes_eq n (codes "horizon") ≡ false
  warehouses_not : bytes_eq n (codes "warehouses") ≡ false
  calls_not : bytes_eq n (codes "calls") ≡ false
  seed_not : bytes_eq n (codes "seed") ≡ false
  script_not : bytes_eq n (codes "script") ≡ false

other_long : (n : Text) → IsOther n → arg_by_long rules n ≡ None
other_long n o = rw (differs n _ o.threads_not, differs n _ o.rounds_not, differs n _ o.horizon_not, differs n _ o.warehouses_not, differs n _ o.calls_not, differs n _ o.seed_not, differs n _ o.script_not) refl

other_given : (n : Text) → IsOther n → (g : Given) (v : Text) → given g (45 ∷ 45 ∷ n) v ≡ None
other_given n o g v = rw (o.threads_not, o.rounds_not, o.horizon_not, o.warehouses_not, o.calls_not, o.seed_not) refl

pub pick : (P : Text → Type 0) (n k : Text) → P k → (bytes_eq n k ≡ false → P n) → P n
pick P n k here other = go (bytes_eq n k) refl
  where
    go : (b : Bool) → bytes_eq n k ≡ b → P n
    go true e = subst P (sym ((bytes_eq-Decides n k).0 e)) here
    go false e = other e

-- ---- one word more

pub record Follows (name : Text) (words : List Text) : Type 0 where
  -- nothing is waited for
  pub free : (rows after : List Row) (pending : Option (Text × List Text)) → Rests pending rows after
      → cond (has_escape words) None (left name (at idle (held rows pending)) words) ≡ option_and_then (λ g. given_by g words) (given_in after)
  -- an option waits for its value
  pub waits : (id : Text) (rows : List Row) → IsOption id
      → cond (has_escape words) None (left name (at (option id) (held rows (Some (id, [])))) words) ≡ option_and_then (λ g. apart_by g (45 ∷ 45 ∷ id) words) (given_in rows)

module _ (name : Text) (more : List Text) (rest : Follows name more) where
  -- whether a word `--` follows
  abbrev cut : Bool
  cut = has_escape more

  module _ (rows after : List Row) (pending : Option (Text × List Text)) (rests : Rests pending rows after) (word : Text) where
    abbrev met : Option Rule → Option Text → Option Given
    met o v = cond cut None (by_long name idle (held rows pending) word more o v)

    record Named (n : Text) : Type 0 where
      joined : (v : Text) → met (arg_by_long rules n) (Some v) ≡ option_and_then (λ g. joined_by g more (45 ∷ 45 ∷ n) v) (given_in after)
      apart : met (arg_by_long rules n) None ≡ option_and_then (λ g. alone_by g (45 ∷ 45 ∷ n) more) (given_in after)

    option_joined : (id : Text) → IsOption id → (v : Text) → met (Some (rule id)) (Some v) ≡ option_and_then (λ g. joined_by g more (45 ∷ 45 ∷ id) v) (given_in after)
    option_joined id is v =
        let now : List Row = with_values id AsWritten CommandLine (v ∷ []) after in
        ap (cond cut None) (joined_turn name pending rows after rests word more id v) ∙ rest.free now now None (record { faultless = refl; settles = refl })
        ∙ ap (option_and_then (λ h. given_by h more)) (is.gives v after) ∙ then_then _ _ (given_in after)

    option_apart : (id : Text) → IsOption id → met (Some (rule id)) None ≡ option_and_then (λ g. apart_by g (45 ∷ 45 ∷ id) more) (given_in after)
    option_apart id is = ap (cond cut None) (apart_turn name pending rows after rests word more id) ∙ rest.waits id after is

    script_named : Named (codes "script")
    script_named = record {
      joined = λ v. nothing_either cut ∙ sym (nothing_then (λ g. joined_by g more (codes "--script") v) (given_in after) (λ g. refl));
      apart =
          let now : List Row = counted name pending rows after rests word more after in
          ap (cond cut None) (script_turn name pending rows after rests word more) ∙ rest.free now now None (record { faultless = refl; settles = refl })
          ∙ ap (option_and_then (λ h. given_by h more)) (gives_script WithoutMinus CommandLine after) ∙ then_then _ _ (given_in after);
    }

    other_named : (k : Text) → IsOther k → Named k
    other_named k o = record {
      joined = λ v. ap (λ found. met found (Some v)) (other_long k o) ∙ nothing_either cut
          ∙ sym (nothing_then (λ g. joined_by g more (45 ∷ 45 ∷ k) v) (given_in after) (λ g. ap (option_and_then (λ h. given_by h more)) (other_given k o g v)));
      apart = ap (λ found. met found None) (other_long k o) ∙ nothing_either cut
          ∙ sym (nothing_then (λ g. alone_by g (45 ∷ 45 ∷ k) more) (given_in after)
          (λ g. ap (λ b. cond b (script_by g more) (apart_by g (45 ∷ 45 ∷ k) more)) o.script_not ∙ apart_none g (45 ∷ 45 ∷ k) more (λ v. other_given k o g v)));
    }

    named : (n : Text) → Named n
    named n =
        pick Named n (codes "threads") (record { joined = option_joined (codes "threads") threads; apart = option_apart (codes "threads") threads }) (λ a.
        pick Named n (codes "rounds") (record { joined = option_joined (codes "rounds") rounds; apart = option_apart (codes "rounds") rounds }) (λ b.
        pick Named n (codes "horizon") (record { joined = option_joined (codes "horizon") horizon; apart = option_apart (codes "horizon") horizon }) (λ c.
        pick Named n (codes "warehouses") (record { joined = option_joined (codes "warehouses") warehouses; apart = option_apart (codes "warehouses") warehouses }) (λ d.
        pick Named n (codes "calls") (record { joined = option_joined (codes "calls") calls; apart = option_apart (codes "calls") calls }) (λ e.
        pick Named n (codes "seed") (record { joined = option_joined (codes "seed") seed; apart = option_apart (codes "seed") seed }) (λ f.
        pick Named n (codes "script") script_named (λ s.
        other_named n (record { threads_not = a; rounds_not = b; horizon_not = c; warehouses_not = d; calls_not = e; seed_not = f; script_not = s }))))))))

  named_next : (c : ℕ) (w : Text) (rows after : List Row) (pending : Option (Text × List Text)) → Rests pending rows after → (b : Bool) → has_byte 61 (c ∷ w) ≡ b
      → cond cut None (left name (at idle (held rows pending)) ((45 ∷ 45 ∷ c ∷ w) ∷ more)) ≡ option_and_then (λ g. given_by g ((45 ∷ 45 ∷ c ∷ w) ∷ more)) (given_in after)
  named_next c w rows after pending rests true e =
      let word : Text = 45 ∷ 45 ∷ c ∷ w in
      let n : Text = before_first is_equals (c ∷ w) in
      let v : Text = after_first is_equals (c ∷ w) in
      ap (cond cut None) (idle_turn name (held rows pending) word more ∙ ap (λ b. by_long name idle (held rows pending) word more (arg_by_long rules n) (cond b (Some v) None)) e)
      ∙ (named rows after pending rests word n).joined v
      ∙ sym (then_same (λ g. given_by g (word ∷ more)) (λ g. joined_by g more (45 ∷ 45 ∷ n) v) (given_in after)
      (λ g. by_shape g word more ∙ ap (λ j. cond j (joined_by g more (before_first is_equals word) (after_first is_equals word)) (alone_by g word more)) (joined_is (c ∷ w) ∙ e)
      ∙ ap₂ (joined_by g more) (front_is (c ∷ w)) (back_is (c ∷ w))))
  named_next c w rows after pending rests false e =
      let word : Text = 45 ∷ 45 ∷ c ∷ w in
      let n : Text = before_first is_equals (c ∷ w) in
      let v : Text = after_first is_equals (c ∷ w) in
      ap (cond cut None) (idle_turn name (held rows pending) word more ∙ ap (λ b. by_long name idle (held rows pending) word more (arg_by_long rules n) (cond b (Some v) None)) e)
      ∙ (named rows after pending rests word n).apart
      ∙ ap (λ t. option_and_then (λ g. alone_by g (45 ∷ 45 ∷ t) more) (given_in after)) (whole_is (c ∷ w) e)
      ∙ sym (then_same (λ g. given_by g (word ∷ more)) (λ g. alone_by g word more) (given_in after)
      (λ g. by_shape g word more ∙ ap (λ j. cond j (joined_by g more (before_first is_equals word) (after_first is_equals word)) (alone_by g word more)) (joined_is (c ∷ w) ∙ e)))

  -- a word where nothing is waited for
  free_next : (word : Text) → Form word → (rows after : List Row) (pending : Option (Text × List Text)) → Rests pending rows after
      → cond (has_escape (word ∷ more)) None (left name (at idle (held rows pending)) (word ∷ more)) ≡ option_and_then (λ g. given_by g (word ∷ more)) (given_in after)
  free_next _ escapes rows after pending rests = sym (nothing_then (λ g. given_by g ((45 ∷ 45 ∷ []) ∷ more)) (given_in after) (given_escape more))
  free_next _ (stands word plain) rows after pending rests =
      ap (cond (is_escape word || cut) None) (idle_turn name (held rows pending) word more ∙ ap₂ (by_word name idle (held rows pending) word more) plain.escape plain.long ∙ refused name rows pending word more (short_of word))
      ∙ nothing_either (is_escape word || cut) ∙ sym (nothing_then (λ g. given_by g (word ∷ more)) (given_in after) (given_plain word more plain))
  free_next _ (names c w) rows after pending rests = named_next c w rows after pending rests (has_byte 61 (c ∷ w)) refl

  -- the word is the value that an option waits for
  value_next : (word id : Text) (rows : List Row) → IsOption id
      → cond cut None (by_short name (option id) (held rows (Some (id, []))) word more None) ≡ option_and_then (λ g. apart_by g (45 ∷ 45 ∷ id) (word ∷ more)) (given_in rows)
  value_next word id rows is =
      ap (cond cut None) (taken name id is rows word more) ∙ rest.free rows (with_values id AsWritten CommandLine (word ∷ []) rows) (Some (id, word ∷ [])) (with_value name id is rows word)
      ∙ ap (option_and_then (λ h. given_by h more)) (is.gives word rows) ∙ then_then _ _ (given_in rows)

  no_value_next : (word id y : Text) (rows : List Row) → IsOption id → word ≡ 45 ∷ y → None ≡ option_and_then (λ g. apart_by g (45 ∷ 45 ∷ id) (word ∷ more)) (given_in rows)
  no_value_next word id y rows is begun = sym (nothing_then (λ g. apart_by g (45 ∷ 45 ∷ id) (word ∷ more)) (given_in rows)
      (λ g. ap (option_and_then (λ h. given_by h more)) (ap (given g (45 ∷ 45 ∷ id)) begun ∙ is.refuses g y)))

  short_next : (word id : Text) (rows : List Row) → IsOption id → (s : Option Text) → short_of word ≡ s
      → cond cut None (by_short name (option id) (held rows (Some (id, []))) word more s) ≡ option_and_then (λ g. apart_by g (45 ∷ 45 ∷ id) (word ∷ more)) (given_in rows)
  short_next word id rows is None e = value_next word id rows is
  short_next word id rows is (Some flags) e = elim (by_letters name (option id) rows (Some (id, [])) word more flags) [
    | inl bad ↦ ap (cond cut None) bad ∙ nothing_either cut ∙ no_value_next word id (begins word flags e).0 rows is (begins word flags e).1
    | inr same ↦ ap (cond cut None) same ∙ value_next word id rows is
  ]

  -- a word where an option waits for its value
  waits_next : (word : Text) → Form word → (id : Text) (rows : List Row) → IsOption id
      → cond (has_escape (word ∷ more)) None (left name (at (option id) (held rows (Some (id, [])))) (word ∷ more)) ≡ option_and_then (λ g. apart_by g (45 ∷ 45 ∷ id) (word ∷ more)) (given_in rows)
  waits_next _ escapes id rows is = no_value_next (45 ∷ 45 ∷ []) id (45 ∷ []) rows is refl
  waits_next _ (names c w) id rows is =
      ap (cond cut None) (waiting_turn name id (held rows (Some (id, []))) (45 ∷ 45 ∷ c ∷ w) more
      ∙ no_value name id is rows (45 ∷ 45 ∷ c ∷ w) more (arg_by_long rules (before_first is_equals (c ∷ w))) (cond (has_byte 61 (c ∷ w)) (Some (after_first is_equals (c ∷ w))) None))
      ∙ nothing_either cut ∙ no_value_next (45 ∷ 45 ∷ c ∷ w) id (45 ∷ c ∷ w) rows is refl
  waits_next _ (stands word plain) id rows is =
      ap (λ b. cond (b || cut) None (left name (at (option id) (held rows (Some (id, [])))) (word ∷ more))) plain.escape
      ∙ ap (cond cut None) (waiting_turn name id (held rows (Some (id, []))) word more ∙ ap₂ (by_word name (option id) (held rows (Some (id, []))) word more) plain.escape plain.long)
      ∙ short_next word id rows is (short_of word) refl

-- ---- all words

then_all : {A : Type 0} (o : Option A) → o ≡ option_and_then (λ a. Some a) o
then_all None = refl
then_all (Some a) = refl

follows_end : (name : Text) → Follows name []
unfolding walk_fault
follows_end name = record {
  free = λ rows after pending rests. ap₂ (λ ks now. if_none ks (given_in now)) rests.faultless rests.settles ∙ then_all (given_in after);
  waits = λ id rows is. ap (λ ks. if_none ks (given_in (settled rules (held rows (Some (id, [])))).rows)) (owes name id is rows) ∙ sym (nothing_then (λ g. apart_by g (45 ∷ 45 ∷ id) []) (given_in rows) (λ g. refl));
}

pub follows : (name : Text) (words : List Text) → Follows name words
follows name [] = follows_end name
follows name (word ∷ more) = record {
  free = free_next name more (follows name more) word (form word);
  waits = waits_next name more (follows name more) word (form word);
}

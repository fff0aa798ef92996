-- The rule over the board: what holds of its words and of all seats between any two steps, and what each step tells the
-- seat that makes it. This project's own.
use Rattle.std.specs.Prelude.{◌≡◌, ◌≢◌, ◌≤◌, ◌+◌, ◌-◌, ℕ, true, List, [], length, slice_index}
use mathlib.Core.Option.{some}
use mathlib.Core.List.{IsPrefix}
use lib.ListN.{get_elem?}
use Rattle.atomic_table.specs.Table.{State, Me, Step}
use Rattle.atomic_table.specs.Seated.{TableId}
use Rattle.atomic_table.specs.declared.shared.Seat.{Seat}
use Rattle.mv_seats.specs.Scripts.{BoardScript}
use Rattle.mv_seats.specs.Names.{no_script}
use Rattle.mv_seats.specs.Knowing.{Gate, Spent, Knows, has_role, gate_pass, plain, shard_pass, handing, met, appended, marked, AreCalls, Begins, IsMark}

-- Views

-- what a seat knows: beside what its pass knows, the script, and what two passes had seen before they met, until the
-- next load of the count
pub record View : Type 0 where
  pub script : BoardScript
  pub knows : Knows
  pub one : List ℕ
  pub two : List ℕ

-- a view that has no such lists
abbrev pub view_of : BoardScript → Knows → View
view_of script k = record { script = script; knows = k; one = []; two = [] }

-- the view of the gate's seat at the start
abbrev pub first : BoardScript → View
first script = view_of script gate_pass

-- the view of a seat that another has taken in
abbrev pub nobody : View
nobody = view_of no_script (record gate_pass { role = Spent })

-- the view of a plain seat that is split off
abbrev pub copied : View → View
copied v = view_of v.script (plain v.knows)

-- the gate's view after it has handed out the role of shard q
abbrev pub handing_out : ℕ → View → View
handing_out q v = record v { knows = handing v.knows q }

-- the view of the seat that gets this role
abbrev pub of_shard : ℕ → View → View
of_shard q v = view_of v.script (shard_pass v.knows q)

-- the view of a seat after it has taken in another
abbrev pub both : View → View → View
both v w = record { script = v.script; knows = met v.knows w.knows; one = v.knows.seen; two = w.knows.seen }

-- a view after a load of the count
abbrev pub settled : View → View
settled v = view_of v.script v.knows

-- the gate's view after it has appended a call
abbrev pub with_call : ℕ → View → View
with_call call v = record v { knows = appended v.knows call }

-- a view after it has found or made the mark of shard q to be n
abbrev pub with_mark_of : ℕ → ℕ → View → View
with_mark_of q n v = record v { knows = marked v.knows q n }

-- The rule

-- word 0 is the count of commits, word q + 1 is the mark of shard q
abbrev pub word_of : ℕ → ℕ
word_of q = q + 1

-- the seat has this view, which isn't spent
abbrev pub IsViewAt : State ℕ View → ℕ → View → Type 0
IsViewAt s seat v = (get_elem? s.views seat ≡ some v) × (v.knows.role ≢ Spent)

-- the property holds of each seat and its view, unless the view is spent
abbrev pub AllViews : State ℕ View → (ℕ → View → Type 0) → Type 0
AllViews s Fact = (seat : ℕ) (v : View) → IsViewAt s seat v → Fact seat v

-- the gate's seat has the gate's view, no other has one, and at most one seat has the role of each shard
pub record OneOfEach (s : State ℕ View) (gate : ℕ) (owner : ℕ → ℕ) : Type 0 where
  pub there : (v : View) × IsViewAt s gate v × (v.knows.role ≡ Gate)
  pub one_gate : AllViews s (λ seat v. v.knows.role ≡ Gate → seat ≡ gate)
  pub one_shard : AllViews s (λ seat v. (q : ℕ) → has_role v.knows q ≡ true → seat ≡ owner q)

-- each seen list begins the history, which is the list of the gate's view
pub record BeginsIn (history : List ℕ) (v : View) : Type 0 where
  pub seen : IsPrefix v.knows.seen history
  pub one : IsPrefix v.one history
  pub two : IsPrefix v.two history
  pub whole : v.knows.role ≡ Gate → v.knows.seen ≡ history

-- no known mark is above the word
pub record IsBelow (words : List ℕ) (q : ℕ) (k : Knows) : Type 0 where
  pub marks : slice_index k.marks q ≤ slice_index words (word_of q)
  pub mine : slice_index k.mine q ≤ slice_index words (word_of q)
  pub theirs : slice_index k.theirs q ≤ slice_index words (word_of q)

-- the mark is exactly the word, and at most the length of the seen list
pub record IsExact (words : List ℕ) (q : ℕ) (k : Knows) : Type 0 where
  pub marks : slice_index k.marks q ≡ slice_index words (word_of q)
  pub mine : slice_index k.mine q ≡ slice_index words (word_of q)
  pub seen : slice_index words (word_of q) ≤ length k.seen

-- the board has a word for each shard and one more, there are at most 1,000,000 calls, and no mark is above the count
pub record Sizes (script : BoardScript) (words : List ℕ) : Type 0 where
  pub wide : length words ≡ word_of script.shards
  pub few : length script.calls ≤ 1000000
  pub marks : (q : ℕ) → slice_index words (word_of q) ≤ slice_index words 0

-- the rule, of all views that aren't spent
pub record Ruled (script : BoardScript) (s : State ℕ View) : Type 0 where
  -- the list of the gate's view, the gate's seat, and the seat of each shard
  pub history : List ℕ
  pub gate : ℕ
  pub owner : ℕ → ℕ
  -- all views hold one script
  pub one_script : AllViews s (λ _ v. v.script ≡ script)
  -- one view is the gate's, and at most one is each shard's
  pub one_of_each : OneOfEach s gate owner
  -- each seen list is a prefix of the gate's, whose numbers are distinct calls
  pub prefixes : AllViews s (λ _ v. BeginsIn history v) × AreCalls script history
  -- word 0 is the length of the gate's list
  pub count : slice_index s.words 0 ≡ length history
  -- each known mark is at most the word
  pub marks : AllViews s (λ _ v. (q : ℕ) → IsBelow s.words q v.knows)
  -- a shard's own known mark is exactly its word and at most the length of its seen list
  pub own_marks : AllViews s (λ _ v. (q : ℕ) → has_role v.knows q ≡ true → IsExact s.words q v.knows)
  pub sizes : Sizes script s.words

-- Steps

-- a seat's view and slots
abbrev pub Sat : Type 0
Sat = Me ℕ View

-- what a load of the count tells: the history of that length begins with all that was seen
pub record Counted (v : View) (n : ℕ) : Type 0 where
  pub begins : Begins v.script v.knows n
  pub one : IsPrefix v.one begins.history
  pub two : IsPrefix v.two begins.history
  pub few : n ≤ 1000000

-- a load of the count
abbrev pub counting : Step ℕ → Sat → ℕ → Sat → Type 0
counting st m n w = (w ≡ (settled m.0, m.1)) × Counted m.0 n

-- the append of a call, which adds 1 to the count
abbrev pub appending : ℕ → Step ℕ → Sat → ℕ → Sat → Type 0
appending call st m n w = w ≡ (with_call call m.0, m.1)

-- a load of a mark
abbrev pub loading : Step ℕ → Sat → ℕ → Sat → Type 0
loading st m n w = (w ≡ (with_mark_of (st.word - 1) n m.0, m.1)) × IsMark m.0.knows (st.word - 1) n × (n ≤ 1000000)

-- a store of a mark
abbrev pub raising : Step ℕ → Sat → ℕ → Sat → Type 0
raising st m n w = w ≡ (with_mark_of (st.word - 1) n m.0, m.1)

-- Seats

-- a pass's seat: of this board and script, not spent, with no slot and no lists of a meeting
pub record IsPassOf (board : TableId) (script : BoardScript) (seat : Seat ℕ View) : Type 0 where
  pub on_board : seat.table_id ≡ board
  pub of_script : seat.me.0.script ≡ script
  pub live : seat.me.0.knows.role ≢ Spent
  pub one : seat.me.0.one ≡ []
  pub two : seat.me.0.two ≡ []
  pub slots : seat.me.1 ≡ []

-- the seat of a board without a name
pub record IsFirst (board : TableId) (script : BoardScript) (seat : Seat ℕ View) : Type 0 where
  pub wide : board.words ≡ word_of script.shards
  pub on_board : seat.table_id ≡ board
  pub me : seat.me ≡ (first script, [])

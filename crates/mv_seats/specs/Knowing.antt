-- What a pass knows of the history and of the marks, and what it knows after a step. A mark says how many commits the
-- chains of a shard hold. This project's own.
use Rattle.std.specs.Prelude.{◌≡◌, ◌<◌, ◌≤◌, ◌++◌, ◌∷◌, ℕ, zero, suc, max, not, Bool, true, false, cond, nat_lt, List, [], length, slice_index}
use Rattle.std.specs.List.{list_any, IsDistinct}
use lib.Dec.{eqb}
use mathlib.Core.List.{IsPrefix}
use Rattle.mv_seats.specs.Scripts.{BoardScript}

-- the role of a pass: any reader, the gate, one shard, or nothing after another pass has taken it in
pub data Role : Type 0 where
  Plain : Role
  Gate : Role
  Shard : ℕ → Role
  Spent : Role

-- what a pass knows
pub record Knows : Type 0 where
  -- what it is for
  pub role : Role
  -- the calls of the first commits, as far as it has seen them
  pub seen : List ℕ
  -- the shards whose role the gate's pass has handed out; of another pass, none
  pub handed : List ℕ
  -- a mark of each shard, at most the one on the board; a missing mark is 0
  pub marks : List ℕ
  -- the marks that it knew before it last met a pass, until it next loads or raises a mark
  pub mine : List ℕ
  -- the marks that the other pass knew then
  pub theirs : List ℕ

-- Roles

-- a pass with this role has the role of shard q: the gate's has those that it hasn't handed out
abbrev pub has : Role → List ℕ → ℕ → Bool
has Plain handed q = false
has Gate handed q = not (list_any (eqb q) handed)
has (Shard p) handed q = eqb q p
has Spent handed q = false

-- it has the role of shard q
abbrev pub has_role : Knows → ℕ → Bool
has_role k q = has k.role k.handed q

-- What passes know at the start and after a step

-- the gate's pass at the start
abbrev pub gate_pass : Knows
gate_pass = record { role = Gate; seen = []; handed = []; marks = []; mine = []; theirs = [] }

-- a plain pass that knows as much
abbrev pub plain : Knows → Knows
plain k = record { role = Plain; seen = k.seen; handed = []; marks = k.marks; mine = k.marks; theirs = k.marks }

-- the pass of shard q, which knows as much
abbrev pub shard_pass : Knows → ℕ → Knows
shard_pass k q = record { role = Shard q; seen = k.seen; handed = []; marks = k.marks; mine = k.marks; theirs = k.marks }

-- the gate's pass after it has handed out the role of shard q
abbrev pub handing : Knows → ℕ → Knows
handing k q = record k { handed = q ∷ k.handed }

-- the longer list
abbrev pub longer : List ℕ → List ℕ → List ℕ
longer xs ys = cond (nat_lt (length xs) (length ys)) ys xs

-- which of two lists a pass keeps: the gate's keeps its own, another the longer one
abbrev pub kept : Role → List ℕ → List ℕ → List ℕ
kept Plain xs ys = longer xs ys
kept Gate xs ys = xs
kept (Shard p) xs ys = longer xs ys
kept Spent xs ys = longer xs ys

-- the greater mark of each shard
abbrev pub greater : List ℕ → List ℕ → List ℕ
greater [] ys = ys
greater (x ∷ xs) [] = x ∷ xs
greater (x ∷ xs) (y ∷ ys) = max x y ∷ greater xs ys

-- a pass after it has met another
abbrev pub met : Knows → Knows → Knows
met k other = record k { seen = kept k.role k.seen other.seen; marks = greater k.marks other.marks; mine = k.marks; theirs = other.marks }

-- the gate's pass after it has appended a call
abbrev pub appended : Knows → ℕ → Knows
appended k call = record k { seen = k.seen ++ call ∷ [] }

-- the marks with n for shard q
abbrev pub with_mark : ℕ → ℕ → List ℕ → List ℕ
with_mark zero n [] = n ∷ []
with_mark zero n (x ∷ xs) = n ∷ xs
with_mark (suc q) n [] = 0 ∷ with_mark q n []
with_mark (suc q) n (x ∷ xs) = x ∷ with_mark q n xs

-- a pass after it has found or made the mark of shard q to be n
abbrev pub marked : Knows → ℕ → ℕ → Knows
marked k q n = record k { marks = with_mark q n k.marks; mine = with_mark q n k.marks; theirs = with_mark q n k.marks }

-- What a load tells

-- these are numbers of calls of the script, and no two are the same
pub record AreCalls (script : BoardScript) (history : List ℕ) : Type 0 where
  pub distinct : IsDistinct eqb history
  pub there : (call : ℕ) → list_any (eqb call) history ≡ true → call < length script.calls

-- what the pass has seen begins a history of n commits, and is all of it if the pass is the gate's
pub record Begins (script : BoardScript) (k : Knows) (n : ℕ) : Type 0 where
  pub history : List ℕ
  pub long : length history ≡ n
  pub calls : AreCalls script history
  pub seen : IsPrefix k.seen history
  pub whole : k.role ≡ Gate → k.seen ≡ history

-- no mark of shard q that the pass knew is above n, and those of its own shard are n
pub record IsMark (k : Knows) (q n : ℕ) : Type 0 where
  pub marks : slice_index k.marks q ≤ n
  pub mine : slice_index k.mine q ≤ n
  pub theirs : slice_index k.theirs q ≤ n
  pub own : has_role k q ≡ true → slice_index k.marks q ≡ n
  pub own_mine : has_role k q ≡ true → slice_index k.mine q ≡ n

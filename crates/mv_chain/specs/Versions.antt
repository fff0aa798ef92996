-- Defines the versions of a row: the row after each commit, and the patches of calls that have not committed. That
-- versions are patches of columns, and that a patch sees the row as of its commit, is this project's own rule.
use Rattle.std.specs.Prelude.{◌<◌, ◌==◌, ◌++◌, ◌&&◌, ◌∷◌, ℕ, Bool, not, length, nat_le, nat_lt, if◌then◌else◌, List, [], All, Option, Some, None}
use Rattle.std.specs.Option.{is_some}
use Rattle.std.specs.List.{filter}
use Rattle.mv_values.specs.declared.value.Value.{Value}
use Rattle.mv_values.specs.declared.patch.Assign.{Assign}
use Rattle.mv_values.specs.declared.patch.Patch.{Patch}
use Rattle.mv_values.specs.declared.patch.Patch.TheVariants.{Insert, Set, Delete}
use Rattle.mv_values.specs.Patching.{with_columns, patched, is_set}
use Rattle.mv_chain.specs.declared.pending.Pending.{Pending}

-- a commit, and the row after it
pub record Commit : Type 0 where
  pub number : ℕ
  pub row : Option (List Value)

-- the row before all stored commits, those commits by rising number, and at most one patch for each call that has not
-- committed
pub record Versions : Type 0 where
  pub base : Option (List Value)
  pub commits : List Commit
  pub own : List Pending

-- no row, no commits and no patches
abbrev pub blank : Versions
blank = record { base = None; commits = []; own = [] }

-- the versions are blank
abbrev pub is_blank : Versions → Bool
is_blank v = (length v.commits == 0) && (length v.own == 0) && not (is_some v.base)

-- Rows

-- the row after the last commit up to n
abbrev pub row_after : ℕ → Option (List Value) → List Commit → Option (List Value)
row_after n row [] = row
row_after n row (c ∷ cs) = if nat_le c.number n then row_after n c.row cs else row

-- the row after n commits
abbrev pub row_at : Versions → ℕ → Option (List Value)
row_at v n = row_after n v.base v.commits

-- the row after the last commit
abbrev pub newest_of : Option (List Value) → List Commit → Option (List Value)
newest_of row [] = row
newest_of row (c ∷ cs) = newest_of c.row cs

abbrev pub newest : Versions → Option (List Value)
newest v = newest_of v.base v.commits

-- all commits have smaller numbers
abbrev pub IsAboveAll : ℕ → Versions → Type 0
IsAboveAll n v = All (λ c. c.number < n) v.commits

-- Patches that are not committed

abbrev pub own_of : ℕ → List Pending → Option Patch
own_of call [] = None
own_of call (p ∷ ps) = if p.call == call then Some p.patch else own_of call ps

-- a row with a call's patch applied, if it has one
abbrev pub patched_by_own : Option Patch → Option (List Value) → Option (List Value)
patched_by_own None row = row
patched_by_own (Some patch) row = patched patch row

abbrev pub without : ℕ → List Pending → List Pending
without call ps = filter (λ p. not (p.call == call)) ps

-- the items but for those whose column a later one sets
abbrev pub compact : List Assign → List Assign
compact [] = []
compact (a ∷ as') = if is_set a.column as' then compact as' else a ∷ compact as'

-- one patch, that does what the first does and then what the second does
abbrev pub joined : Patch → Patch → Patch
joined first (Insert row) = Insert row
joined (Insert row) (Set items) = Insert (with_columns items row)
joined (Set earlier) (Set items) = Set (compact (earlier ++ items))
joined Delete (Set items) = Delete
joined first Delete = Delete

-- with a patch more of a call, after the call's own
abbrev pub with_own : ℕ → Patch → List Pending → List Pending
with_own call patch [] = record { call = call; patch = patch } ∷ []
with_own call patch (p ∷ ps) = if p.call == call then record p { patch = joined p.patch patch } ∷ ps else p ∷ with_own call patch ps

-- one more patch of a call
abbrev pub with_patch : ℕ → Patch → Versions → Versions
with_patch call patch v = record v { own = with_own call patch v.own }

-- Calls of chains

-- the call's patch becomes commit n, if it has one
abbrev pub stamped_by : Option Patch → ℕ → ℕ → Versions → Versions
stamped_by None call n v = v
stamped_by (Some patch) call n v = record v { commits = v.commits ++ record { number = n; row = patched patch (newest v) } ∷ []; own = without call v.own }

abbrev pub stamped : ℕ → ℕ → Versions → Versions
stamped call n v = stamped_by (own_of call v.own) call n v

-- the row after commit low becomes the base, and only the later commits stay
abbrev pub collected : ℕ → Versions → Versions
collected low v = record v { base = row_at v low; commits = filter (λ c. nat_lt low c.number) v.commits }

-- The positions of the statements of a procedure in its text, and how they determine paths.
use Rattle.std.specs.Prelude.{◌≡◌, ℕ, ◌+◌, List, [], ◌∷◌, ◌++◌, Option, Some, None, map, length, slice_get}
use Rattle.std.specs.Option.{option_and_then, option_map}
use Rattle.mv_catalog.specs.declared.resolved.ProcInfo.{ProcInfo}
use Rattle.mv_catalog.specs.declared.resolved.RStmt.{RStmt}
use Rattle.mv_catalog.specs.declared.resolved.RStmt.TheOpen.{RStmt-F, ForSelect, ForRows, Branch}
use Rattle.mv_catalog.specs.declared.resolved.RStmt.TheFolds.{fold-RStmt}
use Rattle.mv_record.specs.declared.record.Record.{Record}
use Rattle.mv_record.specs.Paths.{paths}

-- a statement of the text: the numbers of the enclosing FORs, outermost first, and the number of the innermost
-- enclosing IF or FOR with those of the FORs around that one
pub record Post : Type 0 where
  pub fors : List ℕ
  pub holder : Option ℕ
  pub outer : List ℕ

-- the posts of statements, in the order of the text, if the first one has this number
abbrev pub Posts : Type 0
Posts = ℕ → Post → List Post

abbrev pub posts_all : List Posts → Posts
posts_all [] n post = []
posts_all (p ∷ ps) n post = let these : List Post = p n post in these ++ posts_all ps (n + length these) post

-- the post inside an IF, and inside a FOR, with this number
abbrev pub in_branch : ℕ → Post → Post
in_branch n post = record { fors = post.fors; holder = Some n; outer = post.fors }

abbrev pub in_for : ℕ → Post → Post
in_for n post = record { fors = post.fors ++ n ∷ []; holder = Some n; outer = post.fors }

abbrev pub posts_inner : RStmt-F Posts → Posts
posts_inner (ForSelect x once cs t conds sorts body) n post = posts_all body (n + 1) (in_for n post)
posts_inner (ForRows x y body) n post = posts_all body (n + 1) (in_for n post)
posts_inner (Branch e ys ns) n post = posts_all ys (n + 1) (in_branch n post) ++ posts_all ns (n + 1 + length (posts_all ys (n + 1) (in_branch n post))) (in_branch n post)
posts_inner s n post = []

abbrev pub posts_step : RStmt-F Posts → Posts
posts_step s n post = post ∷ posts_inner s n post

abbrev pub posts : RStmt → Posts
posts = fold-RStmt Posts posts_step

abbrev pub posts_of : ProcInfo → List Post
posts_of proc = posts_all (map posts proc.body) 1 (record { fors = []; holder = None; outer = [] })

-- the numbers of FORs, each followed by its iteration
abbrev pub weave : List ℕ → List ℕ → List ℕ
weave [] turns = []
weave (f ∷ fs) [] = []
weave (f ∷ fs) (t ∷ ts) = f ∷ t ∷ weave fs ts

-- the path of the innermost enclosing IF or FOR, in these iterations
abbrev pub path_held : Post → List ℕ → Option (List ℕ)
path_held post turns = option_map (λ m. weave post.outer turns ++ m ∷ []) post.holder

-- the record with this number, and its path
pub record IsRecordAt (rs : List Record) (number : ℕ) (r : Record) (p : List ℕ) : Type 0 where
  pub there : slice_get rs number ≡ Some r
  pub path : slice_get (paths rs) number ≡ Some p

-- the path of a record's controller
abbrev pub path_above : List Record → Record → Option (List ℕ)
path_above rs r = option_and_then (slice_get (paths rs)) r.parent

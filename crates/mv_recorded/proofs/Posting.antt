-- The path of each record of a full run is that of its place in the text.
use Rattle.std.proofs.Common.{◌≡◌, ℕ, zero, suc, ◌+◌, Bool, true, false, List, [], ◌∷◌, ◌++◌, Option, Some, None, Result, Ok, Err, map, length, if◌then◌else◌, refl, sym, ap, subst, ◌∙◌, arith, length-append, append_assoc, append-nil}
use Rattle.std.specs.Prelude.{⊤, slice_get}
use Rattle.std.specs.Option.{option_and_then, option_map}
use Rattle.mv_values.specs.declared.value.Value.{Value}
use Rattle.mv_values.specs.declared.schema.TableInfo.{TableInfo}
use Rattle.mv_values.specs.declared.calls.Call.{Call}
use Rattle.mv_values.specs.declared.calls.End.{End}
use Rattle.mv_values.specs.Tables.{Tables}
use Rattle.mv_catalog.specs.declared.resolved.ProcInfo.{ProcInfo}
use Rattle.mv_catalog.specs.Statements.{size, size_step, total_size}
use Rattle.mv_catalog.specs.declared.resolved.RStmt.{RStmt, roll-RStmt, map-RStmt, ind-RStmt, para-roll-RStmt, fold-roll-RStmt}
use Rattle.mv_catalog.specs.declared.resolved.RStmt.TheOpen.{RStmt-F, Assign, Select, Total, ForSelect, ForRows, Branch, Insert, Update, Delete, Print, Rollback}
use Rattle.mv_eval.specs.declared.state.State.{State}
use Rattle.mv_eval.specs.declared.state.Content.TheVariants.{Turn}
use Rattle.mv_eval.specs.Env.{with_held, with_found}
use Rattle.mv_eval.specs.Value.{value_of, is_so}
use Rattle.mv_eval.specs.Alone.{Does, does, is_turn}
use Rattle.mv_eval.specs.TableAfter.{begun}
use Rattle.mv_record.specs.declared.record.Record.{Record}
use Rattle.mv_record.specs.declared.record.Spot.{Spot}
use Rattle.mv_record.specs.Paths.{Nest, path, nest_of, nests_behind}
use Rattle.mv_recorded.specs.Asking.{on}
use Rattle.mv_recorded.specs.Doing.{fixed_rows}
use Rattle.mv_recorded.specs.Recorded.{Recorder, Site, tell, tell_step, tell_turns, own_record, in_turn, within, within_loop, size_of, body_of, tell_statements, outside, recorded}
use Rattle.mv_recorded.specs.Laws.{OnePlaceOnePath}
use Rattle.mv_recorded.specs.Posts.{Post, Posts, posts, posts_all, posts_step, posts_of, in_branch, in_for, weave, path_held, path_above}
use Rattle.mv_recorded.proofs.Nesting.{AsMany, more_as_many, IsNested, stands_on, stands_here, stands_within, stands_in_turns, own_number}

-- Weaving

weave_more : (fs ts : List ℕ) (m k : ℕ) → length fs ≡ length ts → weave (fs ++ m ∷ []) (ts ++ k ∷ []) ≡ weave fs ts ++ m ∷ k ∷ []
weave_more [] [] m k h = refl
weave_more [] (t ∷ ts) m k h = absurd (omega (arith, h))
weave_more (f ∷ fs) [] m k h = absurd (omega (arith, h))
weave_more (f ∷ fs) (t ∷ ts) m k h = ap (λ l. f ∷ t ∷ l) (weave_more fs ts m k (omega (arith, h)))

weave_less : (fs ts : List ℕ) (k : ℕ) → length fs ≡ length ts → weave fs (ts ++ k ∷ []) ≡ weave fs ts
weave_less [] ts k h = refl
weave_less (f ∷ fs) [] k h = absurd (omega (arith, h))
weave_less (f ∷ fs) (t ∷ ts) k h = ap (λ l. f ∷ t ∷ l) (weave_less fs ts k (omega (arith, h)))

-- The text

abbrev pub StandAt : List Post → ℕ → List Post → Type 0
StandAt text n these = (front : List Post) × (back : List Post) × (text ≡ front ++ (these ++ back)) × (n ≡ length front + 1)

first_stand : (text : List Post) (n : ℕ) (xs ys : List Post) → StandAt text n (xs ++ ys) → StandAt text n xs
first_stand text n xs ys h = (h.0, ys ++ h.1, h.2 ∙ ap (λ l. h.0 ++ l) (append_assoc xs ys h.1), h.3)

second_stand : (text : List Post) (n m : ℕ) (xs ys : List Post) → length xs ≡ m → StandAt text n (xs ++ ys) → StandAt text (n + m) ys
second_stand text n m xs ys long h =
    (h.0 ++ xs, h.1, h.2 ∙ (ap (λ l. h.0 ++ l) (append_assoc xs ys h.1) ∙ sym (append_assoc h.0 xs (ys ++ h.1))), omega (arith, h.3, length-append h.0 xs, long))

-- Records

-- a record behind others stands where its path says
pub record IsPosted (text : List Post) (nests : List Nest) (r : Record) : Type 0 where
  pub post : Post
  pub stands : StandAt text r.spot.statement (post ∷ [])
  pub deep : length post.fors ≡ length r.spot.turns
  pub around : (nest_of nests r).around ≡ weave post.fors r.spot.turns
  pub above : (more : List Nest) → option_map path (option_and_then (slice_get (nests ++ more)) r.parent) ≡ path_held post r.spot.turns

abbrev pub AllPosted : List Post → List Nest → List Record → Type 0
AllPosted text nests [] = ⊤
AllPosted text nests (r ∷ rs) = IsPosted text nests r × AllPosted text (nests ++ nest_of nests r ∷ []) rs

posted_join : (text : List Post) (nests : List Nest) (rs ss : List Record) → AllPosted text nests rs → AllPosted text (nests ++ nests_behind nests rs) ss → AllPosted text nests (rs ++ ss)
posted_join text nests [] ss h k = subst (λ l. AllPosted text l ss) (append-nil nests) k
posted_join text nests (r ∷ rs) ss h k =
    (h.0, posted_join text (nests ++ nest_of nests r ∷ []) rs ss h.1 (subst (λ l. AllPosted text l ss) (sym (append_assoc nests (nest_of nests r ∷ []) (nests_behind (nests ++ nest_of nests r ∷ []) rs))) k))

-- where statements stand, in the text and behind other records
pub record Sits (nests : List Nest) (site : Site) (post : Post) : Type 0 where
  pub deep : length post.fors ≡ length site.turns
  pub stands : IsNested nests site (weave post.fors site.turns)
  pub above : (more : List Nest) → option_map path (option_and_then (slice_get (nests ++ more)) site.parent) ≡ path_held post site.turns

sits_on : (nests more : List Nest) (site : Site) (post : Post) → Sits nests site post → Sits (nests ++ more) site post
sits_on nests more site post s = record {
  deep = s.deep;
  stands = stands_on nests more site (weave post.fors site.turns) s.stands;
  above = λ others. ap (λ l. option_map path (option_and_then (slice_get l) site.parent)) (append_assoc nests more others) ∙ s.above (more ++ others);
}

-- inside an IF
sits_within : (nests : List Nest) (own : Record) (site : Site) (post : Post) (number : ℕ) → number ≡ length nests → own.spot.turns ≡ site.turns → (nest_of nests own).around ≡ weave post.fors site.turns → Sits nests site post
    → Sits (nests ++ nest_of nests own ∷ []) (within number site) (in_branch own.spot.statement post)
sits_within nests own site post number at same around s = record {
  deep = s.deep;
  stands = subst (IsNested (nests ++ nest_of nests own ∷ []) (within number site)) around (stands_within nests (nest_of nests own) site number at same);
  above = λ more. ap (option_map path) (own_number nests (nest_of nests own) more number at) ∙ ap (λ a. Some (a ++ own.spot.statement ∷ [])) around;
}

-- inside a FOR, in a turn
sits_in_turn : (nests : List Nest) (own : Record) (x : ℕ) (site : Site) (post : Post) (number k : ℕ) → number ≡ length nests → own.spot.turns ≡ site.turns → (nest_of nests own).around ≡ weave post.fors site.turns → Sits nests site post
    → Sits (nests ++ nest_of nests own ∷ []) (in_turn k (within_loop x number site)) (in_for own.spot.statement post)
sits_in_turn nests own x site post number k at same around s =
    let m : ℕ = own.spot.statement in
    record {
      deep = omega (arith, s.deep, length-append post.fors (m ∷ []), length-append site.turns (k ∷ []));
      stands = subst (IsNested (nests ++ nest_of nests own ∷ []) (in_turn k (within_loop x number site))) (ap (λ a. a ++ m ∷ k ∷ []) around ∙ sym (weave_more post.fors site.turns m k s.deep))
          (stands_in_turns nests (nest_of nests own) x site number at same k);
      above = λ more. ap (option_map path) (own_number nests (nest_of nests own) more number at) ∙ ap (λ a. Some (a ++ m ∷ [])) (around ∙ sym (weave_less post.fors site.turns k s.deep));
    }

-- Runs

abbrev Posted : List Post → Posts → Recorder → Type 0
Posted text ps tells = (n : ℕ) (site : Site) (before : List Record) (st : State) (nests : List Nest) (post : Post) → StandAt text n (ps n post) → AsMany nests before → Sits nests site post → AllPosted text nests (tells n site before st)

follow_posted : {A : Type 0} (text : List Post) (nests : List Nest) (these : List Record) (r : Result A End) (go : A → List Record) → AllPosted text nests these → ((x : A) → AllPosted text (nests ++ nests_behind nests these) (go x))
    → AllPosted text nests (these ++ on r go)
follow_posted text nests these (Ok x) go h k = posted_join text nests these (go x) h (k x)
follow_posted text nests these (Err e) go h k = posted_join text nests these [] h tt

turns_posted : (text : List Post) (x : ℕ) (body : Does) (ps : Posts) (tells : Recorder) → Posted text ps tells → (rows : List (List Value)) (k n : ℕ) (site : Site) (before : List Record) (st : State) (nests : List Nest) (post : Post)
    → StandAt text n (ps n post) → AsMany nests before → ((j : ℕ) → Sits nests (in_turn j site) post) → AllPosted text nests (tell_turns x body tells rows k n site before st)
turns_posted text x body ps tells h [] k n site before st nests post stands many sits = tt
turns_posted text x body ps tells h (row ∷ rows) k n site before st nests post stands many sits =
    let next : State = record st { env = with_held st.env x (Turn row) } in
    let these : List Record = tells n (in_turn k site) before next in
    follow_posted text nests these (body next) (tell_turns x body tells rows (k + 1) n site (before ++ these)) (h n (in_turn k site) before next nests post stands many (sits k))
    (λ last. turns_posted text x body ps tells h rows (k + 1) n site (before ++ these) last (nests ++ nests_behind nests these) post stands (more_as_many nests before these many)
    (λ j. sits_on nests (nests_behind nests these) (in_turn j site) post (sits j)))

on_posted : {A : Type 0} (text : List Post) (nests : List Nest) (r : Result A End) (go : A → List Record) → ((x : A) → AllPosted text nests (go x)) → AllPosted text nests (on r go)
on_posted text nests (Ok x) go h = h x
on_posted text nests (Err e) go h = tt

either_posted : (text : List Post) (nests : List Nest) (b : Bool) (rs ss : List Record) → AllPosted text nests rs → AllPosted text nests ss → AllPosted text nests (if b then rs else ss)
either_posted text nests true rs ss h k = h
either_posted text nests false rs ss h k = k

-- a statement's own record
own_posted : {X : Type 0} (text : List Post) (tables : List TableInfo) (params : ℕ) (y : RStmt-F X) (n : ℕ) (site : Site) (before : List Record) (st : State) (nests : List Nest) (post : Post) → StandAt text n (post ∷ []) → Sits nests site post
    → IsPosted text nests (own_record tables params y n site before st)
own_posted text tables params y n site before st nests post stands s = record {
  post = post;
  stands = stands;
  deep = s.deep;
  around = stands_here nests site (weave post.fors site.turns) s.stands;
  above = s.above;
}

-- Numbers

abbrev Sized : Type 0
Sized = (s : RStmt) × ((n : ℕ) (post : Post) → length (posts s n post) ≡ size s)

sized_list : (known : List Sized) (n : ℕ) (post : Post) → length (posts_all (map posts (map (λ k. k.0) known)) n post) ≡ total_size (map size (map (λ k. k.0) known))
sized_list [] n post = refl
sized_list (k ∷ ks) n post =
    length-append (posts k.0 n post) (posts_all (map posts (map (λ k. k.0) ks)) (n + length (posts k.0 n post)) post)
    ∙ (ap (λ m. m + length (posts_all (map posts (map (λ k. k.0) ks)) (n + length (posts k.0 n post)) post)) (k.1 n post) ∙ ap (λ m. size k.0 + m) (sized_list ks (n + length (posts k.0 n post)) post))

one_more : (n : ℕ) → suc n ≡ 1 + n
one_more n = omega arith

sized_step : (y : RStmt-F Sized) (n : ℕ) (post : Post) → length (posts_step (map-RStmt RStmt Posts posts (map-RStmt Sized RStmt (λ k. k.0) y)) n post) ≡ size_step (map-RStmt RStmt ℕ size (map-RStmt Sized RStmt (λ k. k.0) y))
sized_step (Assign x e) n post = refl
sized_step (Select cs xs t conds sorts offset) n post = refl
sized_step (Total agg x t conds) n post = refl
sized_step (ForSelect x once cs t conds sorts body) n post = ap suc (sized_list body (n + 1) (in_for n post)) ∙ one_more _
sized_step (ForRows x y body) n post = ap suc (sized_list body (n + 1) (in_for n post)) ∙ one_more _
sized_step (Branch e ys ns) n post =
    let yes : List Post = posts_all (map posts (map (λ k. k.0) ys)) (n + 1) (in_branch n post) in
    let not : List Post = posts_all (map posts (map (λ k. k.0) ns)) (n + 1 + length yes) (in_branch n post) in
    ap suc (length-append yes not ∙ (ap (λ m. m + length not) (sized_list ys (n + 1) (in_branch n post)) ∙ ap (λ m. total_size (map size (map (λ k. k.0) ys)) + m) (sized_list ns (n + 1 + length yes) (in_branch n post)))) ∙ one_more _
sized_step (Insert t es) n post = refl
sized_step (Update t items conds) n post = refl
sized_step (Delete t conds) n post = refl
sized_step (Print es) n post = refl
sized_step (Rollback reason) n post = refl

posts_sized : (s : RStmt) (n : ℕ) (post : Post) → length (posts s n post) ≡ size s
posts_sized = ind-RStmt (λ s. (n : ℕ) (post : Post) → length (posts s n post) ≡ size s) (λ x y is n post.
    subst (λ z. length (posts (roll-RStmt z) n post) ≡ size (roll-RStmt z)) is
    (ap (λ f. length (f n post)) (fold-roll-RStmt Posts posts_step (map-RStmt Sized RStmt (λ k. k.0) y)) ∙ (sized_step y n post ∙ sym (fold-roll-RStmt ℕ size_step (map-RStmt Sized RStmt (λ k. k.0) y)))))

all_sized : (ss : List RStmt) (n : ℕ) (post : Post) → length (posts_all (map posts ss) n post) ≡ total_size (map size ss)
all_sized [] n post = refl
all_sized (s ∷ ss) n post =
    length-append (posts s n post) (posts_all (map posts ss) (n + length (posts s n post)) post)
    ∙ (ap (λ m. m + length (posts_all (map posts ss) (n + length (posts s n post)) post)) (posts_sized s n post) ∙ ap (λ m. size s + m) (all_sized ss (n + length (posts s n post)) post))

-- Statements

module _ (text : List Post) (tables : List TableInfo) (params : ℕ) where
  abbrev Known : Type 0
  Known = (s : RStmt) × Posted text (posts s) (tell tables params s)

  abbrev plain : List Known → List RStmt
  plain known = map (λ k. k.0) known

  all_posted : (known : List Known) → Posted text (posts_all (map posts (plain known))) (tell_statements tables params (plain known))
  all_posted [] n site before st nests post stands many s = tt
  all_posted (k ∷ ks) n site before st nests post stands many s =
      let these : List Record = tell tables params k.0 n site before st in
      let own : List Post = posts k.0 n post in
      let rest : List Post = posts_all (map posts (plain ks)) (n + length own) post in
      let at : n + length own ≡ n + size k.0 = ap (λ m. n + m) (posts_sized k.0 n post) in
      follow_posted text nests these (does tables k.0 st) (tell_statements tables params (plain ks) (n + size k.0) site (before ++ these)) (k.1 n site before st nests post (first_stand text n own rest stands) many s)
      (λ next. all_posted ks (n + size k.0) site (before ++ these) next (nests ++ nests_behind nests these) post
      (subst (λ m. StandAt text m (posts_all (map posts (plain ks)) m post)) at (second_stand text n (length own) own rest refl stands)) (more_as_many nests before these many) (sits_on nests (nests_behind nests these) site post s))

  abbrev telling : RStmt-F Known → RStmt-F (RStmt × Recorder)
  telling y = map-RStmt RStmt (RStmt × Recorder) (λ s. (s, tell tables params s)) (map-RStmt Known RStmt (λ k. k.0) y)

  sizes_of : (ss : List RStmt) → size_of (map (λ s. (s, tell tables params s)) ss) ≡ total_size (map size ss)
  sizes_of [] = refl
  sizes_of (s ∷ ss) = ap (λ n. size s + n) (sizes_of ss)

  many_own : (nests : List Nest) (before : List Record) (own : Record) → AsMany nests before → AsMany (nests ++ nest_of nests own ∷ []) (before ++ own ∷ [])
  many_own nests before own h = omega (arith, h, length-append nests (nest_of nests own ∷ []), length-append before (own ∷ []))

  loop_posted : (z : RStmt-F (RStmt × Recorder)) (body : List Known) (x n : ℕ) (site : Site) (before : List Record) (st : State) (nests : List Nest) (post : Post) (does' : Does) (rows : List (List Value))
      → StandAt text n (post ∷ posts_all (map posts (plain body)) (n + 1) (in_for n post)) → AsMany nests before → Sits nests site post
      → let own : Record = own_record tables params z n site before st in
      AllPosted text (nests ++ nest_of nests own ∷ []) (tell_turns x does' (tell_statements tables params (plain body)) rows 1 (n + 1) (within_loop x (length before) site) (before ++ own ∷ []) (record st { env = with_found st.env (is_turn rows) }))
  loop_posted z body x n site before st nests post does' rows stands many s =
      let own : Record = own_record tables params z n site before st in
      turns_posted text x does' (posts_all (map posts (plain body))) (tell_statements tables params (plain body)) (all_posted body) rows 1 (n + 1) (within_loop x (length before) site) (before ++ own ∷ [])
      (record st { env = with_found st.env (is_turn rows) }) (nests ++ nest_of nests own ∷ []) (in_for n post) (second_stand text n 1 (post ∷ []) _ refl stands) (many_own nests before own many)
      (λ j. sits_in_turn nests own x site post (length before) j (sym many) refl (stands_here nests site (weave post.fors site.turns) s.stands) s)

  step_posted : (y : RStmt-F Known) → Posted text (posts_step (map-RStmt RStmt Posts posts (map-RStmt Known RStmt (λ k. k.0) y))) (tell_step tables params (telling y))
  step_posted (Assign x e) n site before st nests post stands many s = (own_posted text tables params (telling (Assign x e)) n site before st nests post stands s, tt)
  step_posted (Select cs xs t conds sorts offset) n site before st nests post stands many s = (own_posted text tables params (telling (Select cs xs t conds sorts offset)) n site before st nests post stands s, tt)
  step_posted (Total agg x t conds) n site before st nests post stands many s = (own_posted text tables params (telling (Total agg x t conds)) n site before st nests post stands s, tt)
  step_posted (ForSelect x once cs t conds sorts body) n site before st nests post stands many s =
      let z : RStmt-F (RStmt × Recorder) = telling (ForSelect x once cs t conds sorts body) in
      let own : Record = own_record tables params z n site before st in (
        own_posted text tables params z n site before st nests post (first_stand text n (post ∷ []) _ stands) s,
        on_posted text (nests ++ nest_of nests own ∷ []) (fixed_rows tables z st) _ (λ rows. loop_posted z body x n site before st nests post (body_of tables (map (λ s. (s, tell tables params s)) (plain body))) rows stands many s),
      )
  step_posted (ForRows x y body) n site before st nests post stands many s =
      let z : RStmt-F (RStmt × Recorder) = telling (ForRows x y body) in
      let own : Record = own_record tables params z n site before st in (
        own_posted text tables params z n site before st nests post (first_stand text n (post ∷ []) _ stands) s,
        on_posted text (nests ++ nest_of nests own ∷ []) (fixed_rows tables z st) _ (λ rows. loop_posted z body x n site before st nests post (body_of tables (map (λ s. (s, tell tables params s)) (plain body))) rows stands many s),
      )
  step_posted (Branch e ys ns) n site before st nests post stands many s =
      let z : RStmt-F (RStmt × Recorder) = telling (Branch e ys ns) in
      let own : Record = own_record tables params z n site before st in
      let yes : List Post = posts_all (map posts (plain ys)) (n + 1) (in_branch n post) in
      let not : List Post = posts_all (map posts (plain ns)) (n + 1 + length yes) (in_branch n post) in
      let at : n + 1 + length yes ≡ n + 1 + size_of (map (λ s. (s, tell tables params s)) (plain ys)) = ap (λ m. n + 1 + m) (all_sized (plain ys) (n + 1) (in_branch n post) ∙ sym (sizes_of (plain ys))) in
      let inner = second_stand text n 1 (post ∷ []) (yes ++ not) refl stands in
      let inside = sits_within nests own site post (length before) (sym many) refl (stands_here nests site (weave post.fors site.turns) s.stands) s in
      let more = many_own nests before own many in (
        own_posted text tables params z n site before st nests post (first_stand text n (post ∷ []) (yes ++ not) stands) s,
        on_posted text (nests ++ nest_of nests own ∷ []) (value_of e st.env []) _ (λ v. either_posted text (nests ++ nest_of nests own ∷ []) (is_so v) _ _
            (all_posted ys (n + 1) (within (length before) site) (before ++ own ∷ []) st (nests ++ nest_of nests own ∷ []) (in_branch n post) (first_stand text (n + 1) yes not inner) more inside)
            (all_posted ns _ (within (length before) site) (before ++ own ∷ []) st (nests ++ nest_of nests own ∷ []) (in_branch n post)
            (subst (λ m. StandAt text m (posts_all (map posts (plain ns)) m (in_branch n post))) at (second_stand text (n + 1) (length yes) yes not refl inner)) more inside)),
      )
  step_posted (Insert t es) n site before st nests post stands many s = (own_posted text tables params (telling (Insert t es)) n site before st nests post stands s, tt)
  step_posted (Update t items conds) n site before st nests post stands many s = (own_posted text tables params (telling (Update t items conds)) n site before st nests post stands s, tt)
  step_posted (Delete t conds) n site before st nests post stands many s = (own_posted text tables params (telling (Delete t conds)) n site before st nests post stands s, tt)
  step_posted (Print es) n site before st nests post stands many s = (own_posted text tables params (telling (Print es)) n site before st nests post stands s, tt)
  step_posted (Rollback reason) n site before st nests post stands many s = (own_posted text tables params (telling (Rollback reason)) n site before st nests post stands s, tt)

  statement_posted : (s : RStmt) → Posted text (posts s) (tell tables params s)
  statement_posted = ind-RStmt (λ s. Posted text (posts s) (tell tables params s)) (λ x y is.
      subst (λ z. Posted text (posts (roll-RStmt z)) (tell tables params (roll-RStmt z))) is
      (let z : RStmt-F RStmt = map-RStmt Known RStmt (λ k. k.0) y in
      subst (λ ps. Posted text ps (tell tables params (roll-RStmt z))) (sym (fold-roll-RStmt Posts posts_step z))
      (subst (λ t. Posted text (posts_step (map-RStmt RStmt Posts posts z)) t) (sym (para-roll-RStmt Recorder (tell_step tables params) z)) (step_posted y))))

  known_firsts : (ss : List RStmt) → map (λ (k : Known). k.0) (map (λ s. (s, statement_posted s)) ss) ≡ ss
  known_firsts [] = refl
  known_firsts (s ∷ ss) = ap (λ l. s ∷ l) (known_firsts ss)

  pub told_posted : (ss : List RStmt) → Posted text (posts_all (map posts ss)) (tell_statements tables params ss)
  told_posted ss = subst (λ ts. Posted text (posts_all (map posts ts)) (tell_statements tables params ts)) (known_firsts ss) (all_posted (map (λ s. (s, statement_posted s)) ss))

-- each record of a full run stands where its path says
pub recorded_posted : (tables : List TableInfo) (proc : ProcInfo) (call : Call) (db : Tables) → AllPosted (posts_of proc) [] (recorded tables proc call db)
recorded_posted tables proc call db =
    told_posted (posts_of proc) tables (length call.arguments) proc.body 1 outside [] (begun proc call db) [] (record { fors = []; holder = None; outer = [] }) ([], [], sym (append-nil (posts_of proc)), refl) refl
    (record { deep = refl; stands = λ more. refl; above = λ more. refl })

-- A record among others

behind_at : (text : List Post) (nests : List Nest) (rs : List Record) (i : ℕ) (r : Record) (p : List ℕ) → AllPosted text nests rs → slice_get rs i ≡ Some r → slice_get (map path (nests_behind nests rs)) i ≡ Some p
    → (ns : List Nest) × (more : List Nest) × IsPosted text ns r × (p ≡ path (nest_of ns r)) × (nests ++ nests_behind nests rs ≡ ns ++ more)
behind_at text nests [] i r p h is at' = cc
behind_at text nests (q ∷ rs) zero r p h is at' =
    let same : q ≡ r = cc in
    let this : path (nest_of nests q) ≡ p = cc in
    (nests, nests_behind nests (q ∷ rs), subst (IsPosted text nests) same h.0, sym this ∙ ap (λ (o : Record). path (nest_of nests o)) same, refl)
behind_at text nests (q ∷ rs) (suc i) r p h is at' =
    let rest = behind_at text (nests ++ nest_of nests q ∷ []) rs i r p h.1 is at' in
    (rest.0, rest.1, rest.2, rest.3, sym (append_assoc nests (nest_of nests q ∷ []) (nests_behind (nests ++ nest_of nests q ∷ []) rs)) ∙ rest.4)

path_got : (ns : List Nest) (k : ℕ) → slice_get (map path ns) k ≡ option_map path (slice_get ns k)
path_got [] k = refl
path_got (n ∷ ns) zero = refl
path_got (n ∷ ns) (suc k) = path_got ns k

above_got : (ns : List Nest) (parent : Option ℕ) → option_and_then (slice_get (map path ns)) parent ≡ option_map path (option_and_then (slice_get ns) parent)
above_got ns None = refl
above_got ns (Some k) = path_got ns k

-- one statement stands at a number
one_post : (text : List Post) (n m : ℕ) (a b : Post) → n ≡ m → StandAt text n (a ∷ []) → StandAt text m (b ∷ []) → a ≡ b
one_post text n m a b same h k = found (sym (at h.0 h.1 a h.2) ∙ (ap (slice_get text) (let e : length h.0 ≡ length k.0 = omega (arith, h.3, k.3, same) in e) ∙ at k.0 k.1 b k.2))
  where
    last : (front back : List Post) (x : Post) → slice_get (front ++ x ∷ back) (length front) ≡ Some x
    last [] back x = refl
    last (f ∷ fs) back x = last fs back x

    at : (front back : List Post) (x : Post) → text ≡ front ++ (x ∷ [] ++ back) → slice_get text (length front) ≡ Some x
    at front back x is = ap (λ l. slice_get l (length front)) is ∙ last front back x

    found : {x y : Post} → ◌≡◌ {A = Option Post} (Some x) (Some y) → x ≡ y
    found e = cc

-- a path tells the turns and the number
unwoven : (fs gs ts us : List ℕ) (n m : ℕ) → length fs ≡ length ts → length gs ≡ length us → weave fs ts ++ n ∷ [] ≡ weave gs us ++ m ∷ [] → (ts ≡ us) × (n ≡ m)
unwoven [] [] [] [] n m h k e = let same : n ≡ m = cc in (refl, same)
unwoven [] gs (t ∷ ts) us n m h k e = absurd (omega (arith, h))
unwoven fs [] ts (u ∷ us) n m h k e = absurd (omega (arith, k))
unwoven (f ∷ fs) gs [] us n m h k e = absurd (omega (arith, h))
unwoven fs (g ∷ gs) ts [] n m h k e = absurd (omega (arith, k))
unwoven [] (g ∷ gs) [] (u ∷ us) n m h k e = absurd (long (weave gs us) (ap length e))
  where
    long : (l : List ℕ) → length (n ∷ []) ≡ length (g ∷ u ∷ (l ++ m ∷ [])) → ⊥
    long l e = omega (arith, e)
unwoven (f ∷ fs) [] (t ∷ ts) [] n m h k e = absurd (long (weave fs ts) (ap length e))
  where
    long : (l : List ℕ) → length (f ∷ t ∷ (l ++ n ∷ [])) ≡ length (m ∷ []) → ⊥
    long l e = omega (arith, e)
unwoven (f ∷ fs) (g ∷ gs) (t ∷ ts) (u ∷ us) n m h k e =
    let turn : t ≡ u = cc in
    let rest : weave fs ts ++ n ∷ [] ≡ weave gs us ++ m ∷ [] = cc in
    let more = unwoven fs gs ts us n m (omega (arith, h)) (omega (arith, k)) rest in
    (ap (λ x. x ∷ ts) turn ∙ ap (λ l. u ∷ l) more.0, more.1)

same_spot : (a b : Spot) → a.statement ≡ b.statement → a.turns ≡ b.turns → a ≡ b
same_spot a b h k = ap (λ n. record { statement = n; turns = a.turns }) h ∙ ap (λ ts. record { statement = b.statement; turns = ts }) k

-- Two records

module _ (text : List Post) (ns ms : List Nest) (o r : Record) (h : IsPosted text ns o) (k : IsPosted text ms r) where
  path_by : (l : List Nest) (q : Record) (g : IsPosted text l q) → path (nest_of l q) ≡ weave g.post.fors q.spot.turns ++ q.spot.statement ∷ []
  path_by l q g = ap (λ a. a ++ q.spot.statement ∷ []) g.around

  spots_by : path (nest_of ns o) ≡ path (nest_of ms r) → o.spot ≡ r.spot
  spots_by same =
      let e = unwoven h.post.fors k.post.fors o.spot.turns r.spot.turns o.spot.statement r.spot.statement h.deep k.deep (sym (path_by ns o h) ∙ (same ∙ path_by ms r k)) in
      same_spot o.spot r.spot e.1 e.0

  posts_by : o.spot ≡ r.spot → h.post ≡ k.post
  posts_by e = one_post text o.spot.statement r.spot.statement h.post k.post (ap (λ (s : Spot). s.statement) e) h.stands k.stands

  paths_by : o.spot ≡ r.spot → path (nest_of ns o) ≡ path (nest_of ms r)
  paths_by e =
      path_by ns o h ∙ (ap (λ (s : Spot). weave h.post.fors s.turns ++ s.statement ∷ []) e
      ∙ (ap (λ (t : Post). weave t.fors r.spot.turns ++ r.spot.statement ∷ []) (posts_by e) ∙ sym (path_by ms r k)))

  held_by : o.spot ≡ r.spot → path_held h.post o.spot.turns ≡ path_held k.post r.spot.turns
  held_by e = ap (λ (t : Post). path_held t o.spot.turns) (posts_by e) ∙ ap (λ (s : Spot). path_held k.post s.turns) e

above_by : (text : List Post) (ns more : List Nest) (rs : List Record) (r : Record) (h : IsPosted text ns r) → nests_behind [] rs ≡ ns ++ more → path_above rs r ≡ path_held h.post r.spot.turns
above_by text ns more rs r h e = above_got (nests_behind [] rs) r.parent ∙ (ap (λ l. option_map path (option_and_then (slice_get l) r.parent)) e ∙ h.above more)

pub one_path : OnePlaceOnePath
one_path tables others proc call other db new i j o r p q a b =
    let os : List Record = recorded tables proc call db in
    let ns : List Record = recorded others proc other new in
    let x = behind_at (posts_of proc) [] os i o p (recorded_posted tables proc call db) a.there a.path in
    let y = behind_at (posts_of proc) [] ns j r q (recorded_posted others proc other new) b.there b.path in
    let spots : p ≡ q → o.spot ≡ r.spot = λ e. spots_by (posts_of proc) x.0 y.0 o r x.2 y.2 (sym x.3 ∙ (e ∙ y.3)) in (
      spots,
      λ e. x.3 ∙ (paths_by (posts_of proc) x.0 y.0 o r x.2 y.2 e ∙ sym y.3),
      λ e. above_by (posts_of proc) x.0 x.1 os o x.2 x.4 ∙ (held_by (posts_of proc) x.0 y.0 o r x.2 y.2 (spots e) ∙ sym (above_by (posts_of proc) y.0 y.1 ns r y.2 y.4)),
    )

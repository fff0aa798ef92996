-- What one more use of an option makes of the options that are read.
use Rattle.std.proofs.Common.{◌≡◌, ◌∙◌, ◌+◌, ◌++◌, ◌&&◌, ℕ, Bool, cond, true, false, zero, suc, refl, sym, ap, List, [], ◌∷◌, Option, None, Some, codes, min, arith}
use Rattle.std.specs.Prelude.{option_and_then, unwrap_or, is_some, ◌==◌, bytes_eq}
use Rattle.std.proofs.lemmas.Bool.{ne_eqb}
use Rattle.clap.specs.Walk.{Row, Text, count_of, with_count, with_values, without}
use Rattle.clap.specs.declared.builder.value_parser.Reading.{Reading}
use Rattle.clap.specs.declared.parser.matches.ValueSource.{ValueSource}
use Rattle.mv_words.specs.declared.reading.Given.{Given}
use Rattle.mv_words.specs.Words.{given, number, once, with_script}
use Rattle.mv_words.specs.Program.{flag_by, given_in, given_of, number_by, present, values_of}
use Rattle.mv_words.proofs.Rows.{count_kept, count_new, values_beside, values_kept, values_more}

abbrev Read : Type 0
Read = Option (Option ℕ)

-- all are read, or there is nothing
abbrev if_all : Bool → Given → Option Given
if_all ok g = cond ok (Some g) None

abbrev fields : Read → Read → Read → Read → Read → Read → Option Bool → Given
fields t r h w c s f = record { threads = unwrap_or t None; rounds = unwrap_or r None; horizon = unwrap_or h None; warehouses = unwrap_or w None; calls = unwrap_or c None; seed = unwrap_or s None; script = unwrap_or f false }

parts : (t r h w c s : Read) (f : Option Bool)
    → given_of t r h w c s f ≡ if_all (is_some t && (is_some r && (is_some h && (is_some w && (is_some c && (is_some s && is_some f)))))) (fields t r h w c s f)
parts None r h w c s f = refl
parts (Some t) None h w c s f = refl
parts (Some t) (Some r) None w c s f = refl
parts (Some t) (Some r) (Some h) None c s f = refl
parts (Some t) (Some r) (Some h) (Some w) None s f = refl
parts (Some t) (Some r) (Some h) (Some w) (Some c) None f = refl
parts (Some t) (Some r) (Some h) (Some w) (Some c) (Some s) None = refl
parts (Some t) (Some r) (Some h) (Some w) (Some c) (Some s) (Some f) = refl

swapped : (a x c : Bool) → (a && (x && c)) ≡ (x && (a && c))
swapped true true c = refl
swapped true false c = refl
swapped false true c = refl
swapped false false c = refl

-- what is read, as a function of one option alone
abbrev IsBy : (Read → Option Given) → Bool → (Option ℕ → Given) → Type 0
IsBy whole ok build = (x : Read) → whole x ≡ if_all (is_some x && ok) (build (unwrap_or x None))

module _ (build : Option ℕ → Given) (get : Given → Option ℕ) (put : Given → ℕ → Given) (gets : (o : Option ℕ) → get (build o) ≡ o) (puts : (n : ℕ) → put (build None) n ≡ build (Some n)) where
  abbrev adds : Option ℕ → Option Given → Option Given
  adds o = option_and_then (λ g. once (get g) (put g) o)

  first : (o : Option ℕ) (ok : Bool) → if_all (is_some (present o) && ok) (build (unwrap_or (present o) None)) ≡ adds o (if_all ok (build None))
  first None true = rw (gets None) refl
  first (Some n) true = rw (gets None) (ap (λ (g : Given). Some g) (sym (puts n)))
  first None false = refl
  first (Some n) false = refl

  second : (o next : Option ℕ) (ok : Bool) → None ≡ adds next (if_all (is_some (present o) && ok) (build (unwrap_or (present o) None)))
  second None next ok = refl
  second (Some n) next false = refl
  second (Some n) next true = rw (gets (Some n)) refl

  added : (least most : ℕ) (values : List Text) (v : Text) (ok : Bool)
      → if_all (is_some (number_by least most (values ++ v ∷ [])) && ok) (build (unwrap_or (number_by least most (values ++ v ∷ [])) None))
      ≡ adds (number least most v) (if_all (is_some (number_by least most values) && ok) (build (unwrap_or (number_by least most values) None)))
  added least most [] v ok = first (number least most v) ok
  added least most (u ∷ []) v ok = second (number least most u) (number least most v) ok
  added least most (u ∷ t ∷ more) v ok = refl

  one_more : (whole : Read → Option Given) (ok : Bool) → IsBy whole ok build → (least most : ℕ) (values : List Text) (v : Text)
      → whole (number_by least most (values ++ v ∷ [])) ≡ adds (number least most v) (whole (number_by least most values))
  one_more whole ok is least most values v =
      is (number_by least most (values ++ v ∷ [])) ∙ added least most values v ok ∙ ap (adds (number least most v)) (sym (is (number_by least most values)))

module _ (t r h w c s : Read) (f : Option Bool) where
  abbrev bs : Bool
  bs = is_some s && is_some f

  by_threads : IsBy (λ x. given_of x r h w c s f) (is_some r && (is_some h && (is_some w && (is_some c && bs)))) (λ o. fields (Some o) r h w c s f)
  by_threads x = parts x r h w c s f

  by_rounds : IsBy (λ x. given_of t x h w c s f) (is_some t && (is_some h && (is_some w && (is_some c && bs)))) (λ o. fields t (Some o) h w c s f)
  by_rounds x = parts t x h w c s f ∙ ap (λ b. if_all b (fields t x h w c s f)) (swapped (is_some t) (is_some x) _)

  by_horizon : IsBy (λ x. given_of t r x w c s f) (is_some t && (is_some r && (is_some w && (is_some c && bs)))) (λ o. fields t r (Some o) w c s f)
  by_horizon x = parts t r x w c s f ∙ ap (λ b. if_all b (fields t r x w c s f)) (ap (λ b. is_some t && b) (swapped (is_some r) (is_some x) _) ∙ swapped (is_some t) (is_some x) _)

  by_warehouses : IsBy (λ x. given_of t r h x c s f) (is_some t && (is_some r && (is_some h && (is_some c && bs)))) (λ o. fields t r h (Some o) c s f)
  by_warehouses x = parts t r h x c s f ∙ ap (λ b. if_all b (fields t r h x c s f))
      (ap (λ b. is_some t && (is_some r && b)) (swapped (is_some h) (is_some x) _) ∙ ap (λ b. is_some t && b) (swapped (is_some r) (is_some x) _) ∙ swapped (is_some t) (is_some x) _)

  by_calls : IsBy (λ x. given_of t r h w x s f) (is_some t && (is_some r && (is_some h && (is_some w && bs)))) (λ o. fields t r h w (Some o) s f)
  by_calls x = parts t r h w x s f ∙ ap (λ b. if_all b (fields t r h w x s f))
      (ap (λ b. is_some t && (is_some r && (is_some h && b))) (swapped (is_some w) (is_some x) _) ∙ ap (λ b. is_some t && (is_some r && b)) (swapped (is_some h) (is_some x) _)
      ∙ ap (λ b. is_some t && b) (swapped (is_some r) (is_some x) _) ∙ swapped (is_some t) (is_some x) _)

  by_seed : IsBy (λ x. given_of t r h w c x f) (is_some t && (is_some r && (is_some h && (is_some w && (is_some c && is_some f))))) (λ o. fields t r h w c (Some o) f)
  by_seed x = parts t r h w c x f ∙ ap (λ b. if_all b (fields t r h w c x f))
      (ap (λ b. is_some t && (is_some r && (is_some h && (is_some w && b)))) (swapped (is_some c) (is_some x) _)
      ∙ ap (λ b. is_some t && (is_some r && (is_some h && b))) (swapped (is_some w) (is_some x) _) ∙ ap (λ b. is_some t && (is_some r && b)) (swapped (is_some h) (is_some x) _)
      ∙ ap (λ b. is_some t && b) (swapped (is_some r) (is_some x) _) ∙ swapped (is_some t) (is_some x) _)

-- one more use of each option
module _ (how : Reading) (src : ValueSource) (v : Text) (rows : List Row) where
  abbrev after : Text → List Row
  after id = with_values id how src (v ∷ []) rows

  abbrev gives : Text → Type 0
  gives name = given_in (after name) ≡ option_and_then (λ g. given g (45 ∷ 45 ∷ name) v) (given_in rows)

  abbrev texts : Text → List Text
  texts id = values_of id rows

  kept : (id other : Text) → bytes_eq id other ≡ false → values_of other (after id) ≡ values_of other rows
  kept id other apart = values_kept id other how src (v ∷ []) rows apart

  more : (id : Text) → bytes_eq id id ≡ true → values_of id (after id) ≡ values_of id rows ++ v ∷ []
  more id same = values_more id how src (v ∷ []) rows same

  counts : (id : Text) → bytes_eq id (codes "script") ≡ false → count_of (codes "script") (after id) ≡ count_of (codes "script") rows
  counts id apart = count_kept id (codes "script") how src (v ∷ []) rows apart

  abbrev given_by_texts : List Text → List Text → List Text → List Text → List Text → List Text → ℕ → Option Given
  given_by_texts t r h w c s n = given_of (number_by 1 64 t) (number_by 0 100 r) (number_by 1 4294967295 h) (number_by 1 16 w) (number_by 0 40000 c) (number_by 0 4294967295 s) (flag_by n)

  -- what is read before the use
  abbrev T : Read
  T = number_by 1 64 (texts (codes "threads"))

  abbrev R : Read
  R = number_by 0 100 (texts (codes "rounds"))

  abbrev H : Read
  H = number_by 1 4294967295 (texts (codes "horizon"))

  abbrev W : Read
  W = number_by 1 16 (texts (codes "warehouses"))

  abbrev C : Read
  C = number_by 0 40000 (texts (codes "calls"))

  abbrev S : Read
  S = number_by 0 4294967295 (texts (codes "seed"))

  abbrev F : Option Bool
  F = flag_by (count_of (codes "script") rows)

  pub gives_threads : gives (codes "threads")
  gives_threads =
      let id = codes "threads" in
      let same : given_in (after id) ≡ given_of (number_by 1 64 (texts id ++ v ∷ [])) R H W C S F =
      λ i. given_by_texts (more id refl i) (kept id (codes "rounds") refl i) (kept id (codes "horizon") refl i) (kept id (codes "warehouses") refl i) (kept id (codes "calls") refl i) (kept id (codes "seed") refl i) (counts id refl i) in
      same ∙ one_more (λ o. fields (Some o) R H W C S F) (λ g. g.threads) (λ g n. record g { threads = Some n }) (λ _. refl) (λ _. refl)
      (λ x. given_of x R H W C S F) _ (by_threads T R H W C S F) 1 64 (texts id) v

  pub gives_rounds : gives (codes "rounds")
  gives_rounds =
      let id = codes "rounds" in
      let same : given_in (after id) ≡ given_of T (number_by 0 100 (texts id ++ v ∷ [])) H W C S F =
      λ i. given_by_texts (kept id (codes "threads") refl i) (more id refl i) (kept id (codes "horizon") refl i) (kept id (codes "warehouses") refl i) (kept id (codes "calls") refl i) (kept id (codes "seed") refl i) (counts id refl i) in
      same ∙ one_more (λ o. fields T (Some o) H W C S F) (λ g. g.rounds) (λ g n. record g { rounds = Some n }) (λ _. refl) (λ _. refl)
      (λ x. given_of T x H W C S F) _ (by_rounds T R H W C S F) 0 100 (texts id) v

  pub gives_horizon : gives (codes "horizon")
  gives_horizon =
      let id = codes "horizon" in
      let same : given_in (after id) ≡ given_of T R (number_by 1 4294967295 (texts id ++ v ∷ [])) W C S F =
      λ i. given_by_texts (kept id (codes "threads") refl i) (kept id (codes "rounds") refl i) (more id refl i) (kept id (codes "warehouses") refl i) (kept id (codes "calls") refl i) (kept id (codes "seed") refl i) (counts id refl i) in
      same ∙ one_more (λ o. fields T R (Some o) W C S F) (λ g. g.horizon) (λ g n. record g { horizon = Some n }) (λ _. refl) (λ _. refl)
      (λ x. given_of T R x W C S F) _ (by_horizon T R H W C S F) 1 4294967295 (texts id) v

  pub gives_warehouses : gives (codes "warehouses")
  gives_warehouses =
      let id = codes "warehouses" in
      let same : given_in (after id) ≡ given_of T R H (number_by 1 16 (texts id ++ v ∷ [])) C S F =
      λ i. given_by_texts (kept id (codes "threads") refl i) (kept id (codes "rounds") refl i) (kept id (codes "horizon") refl i) (more id refl i) (kept id (codes "calls") refl i) (kept id (codes "seed") refl i) (counts id refl i) in
      same ∙ one_more (λ o. fields T R H (Some o) C S F) (λ g. g.warehouses) (λ g n. record g { warehouses = Some n }) (λ _. refl) (λ _. refl)
      (λ x. given_of T R H x C S F) _ (by_warehouses T R H W C S F) 1 16 (texts id) v

  pub gives_calls : gives (codes "calls")
  gives_calls =
      let id = codes "calls" in
      let same : given_in (after id) ≡ given_of T R H W (number_by 0 40000 (texts id ++ v ∷ [])) S F =
      λ i. given_by_texts (kept id (codes "threads") refl i) (kept id (codes "rounds") refl i) (kept id (codes "horizon") refl i) (kept id (codes "warehouses") refl i) (more id refl i) (kept id (codes "seed") refl i) (counts id refl i) in
      same ∙ one_more (λ o. fields T R H W (Some o) S F) (λ g. g.calls) (λ g n. record g { calls = Some n }) (λ _. refl) (λ _. refl)
      (λ x. given_of T R H W x S F) _ (by_calls T R H W C S F) 0 40000 (texts id) v

  pub gives_seed : gives (codes "seed")
  gives_seed =
      let id = codes "seed" in
      let same : given_in (after id) ≡ given_of T R H W C (number_by 0 4294967295 (texts id ++ v ∷ [])) F =
      λ i. given_by_texts (kept id (codes "threads") refl i) (kept id (codes "rounds") refl i) (kept id (codes "horizon") refl i) (kept id (codes "warehouses") refl i) (kept id (codes "calls") refl i) (more id refl i) (counts id refl i) in
      same ∙ one_more (λ o. fields T R H W C (Some o) F) (λ g. g.seed) (λ g n. record g { seed = Some n }) (λ _. refl) (λ _. refl)
      (λ x. given_of T R H W C x F) _ (by_seed T R H W C S F) 0 4294967295 (texts id) v

-- one more use of `--script`
flagged : (t r h w c s : Read) (n : ℕ) → given_of t r h w c s (flag_by (min (n + 1) 255)) ≡ option_and_then with_script (given_of t r h w c s (flag_by n))
flagged (Some t) (Some r) (Some h) (Some w) (Some c) (Some s) zero = refl
flagged (Some t) (Some r) (Some h) (Some w) (Some c) (Some s) (suc zero) = refl
flagged (Some t) (Some r) (Some h) (Some w) (Some c) (Some s) (suc (suc n)) =
    let a : (suc (suc n) == 0) ≡ false = ne_eqb _ _ (λ e. omega arith) in
    let b : (suc (suc n) == 1) ≡ false = ne_eqb _ _ (λ e. omega arith) in
    let c : (min (suc (suc n) + 1) 255 == 0) ≡ false = ne_eqb _ _ (λ e. omega arith) in
    let d : (min (suc (suc n) + 1) 255 == 1) ≡ false = ne_eqb _ _ (λ e. omega arith) in
    rw (a, b, c, d) refl
flagged None r h w c s n = refl
flagged (Some t) None h w c s n = refl
flagged (Some t) (Some r) None w c s n = refl
flagged (Some t) (Some r) (Some h) None c s n = refl
flagged (Some t) (Some r) (Some h) (Some w) None s n = refl
flagged (Some t) (Some r) (Some h) (Some w) (Some c) None n = refl

pub gives_script : (how : Reading) (src : ValueSource) (rows : List Row)
    → given_in (with_count (codes "script") how src (min (count_of (codes "script") rows + 1) 255) (without (codes "script") rows)) ≡ option_and_then with_script (given_in rows)
gives_script how src rows =
    let id = codes "script" in
    let n = count_of id rows in
    let m = min (n + 1) 255 in
    let now = with_count id how src m (without id rows) in
    let kept : (other : Text) → bytes_eq id other ≡ false → values_of other now ≡ values_of other rows = λ other apart. values_beside id other how src m rows apart in
    let count : count_of id now ≡ m = count_new id how src m (without id rows) refl in
    let same : given_in now ≡ given_of (number_by 1 64 (values_of (codes "threads") rows)) (number_by 0 100 (values_of (codes "rounds") rows))
    (number_by 1 4294967295 (values_of (codes "horizon") rows)) (number_by 1 16 (values_of (codes "warehouses") rows))
    (number_by 0 40000 (values_of (codes "calls") rows)) (number_by 0 4294967295 (values_of (codes "seed") rows)) (flag_by m) =
    λ i. given_of (number_by 1 64 (kept (codes "threads") refl i)) (number_by 0 100 (kept (codes "rounds") refl i)) (number_by 1 4294967295 (kept (codes "horizon") refl i))
    (number_by 1 16 (kept (codes "warehouses") refl i)) (number_by 0 40000 (kept (codes "calls") refl i)) (number_by 0 4294967295 (kept (codes "seed") refl i)) (flag_by (count i)) in
    same ∙ flagged (number_by 1 64 (values_of (codes "threads") rows)) (number_by 0 100 (values_of (codes "rounds") rows)) (number_by 1 4294967295 (values_of (codes "horizon") rows))
    (number_by 1 16 (values_of (codes "warehouses") rows)) (number_by 0 40000 (values_of (codes "calls") rows)) (number_by 0 4294967295 (values_of (codes "seed") rows)) n

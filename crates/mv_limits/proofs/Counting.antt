-- Limits of tokens and of items.
use Rattle.std.proofs.Common.{◌≡◌, ◌<◌, ◌≤◌, ℕ, ◌+◌, ◌-◌, true, List, [], ◌∷◌, ◌++◌, Option, Some, None, refl, sym, ap, ◌∙◌, length, take, drop, get_or, add-one, arith, length-drop}
use Rattle.std.specs.Prelude.{slice_get}
use Rattle.std.proofs.Math.Seq.{drop-cons}
use Rattle.std.proofs.lemmas.List.{drop_all, take_all}
use Rattle.mv_values.proofs.Deciding.{from_place}
use Rattle.mv_ast.specs.declared.lexeme.Lexeme.{Lexeme}
use Rattle.mv_ast.specs.declared.tree.Item.{Item}
use Rattle.mv_ast.specs.declared.limit.PassedLimit.{PassedLimit}
use Rattle.mv_ast.specs.declared.limit.Which.{Which}
use Rattle.mv_ast.specs.declared.limit.Which.TheVariants as limit
use Rattle.mv_ast.specs.Texts.{spelling}
use Rattle.mv_ast.specs.Limits.{at_token, sooner, soonest, own_passes, size_passes, token_passes, too_many, too_many_items, is_counted}
use Rattle.mv_limits.specs.declared.cursor.Cursor.{Cursor}
use Rattle.mv_limits.specs.Places.{place_of, seek}
use Rattle.mv_limits.proofs.Joining.{soonest_joined, soonest_none, found_at}

token_step : (bytes : List ℕ) (l : Lexeme) (rest : List Lexeme) (b middle next all : Option PassedLimit) → middle ≡ soonest b (own_passes l.kind (spelling bytes l) l.number)
    → next ≡ soonest middle (size_passes bytes (l ∷ rest)) → soonest b (token_passes bytes (l ∷ rest)) ≡ all → soonest next (token_passes bytes rest) ≡ all
unfolding token_passes
token_step bytes l rest b middle next all m n i =
    let own = own_passes l.kind (spelling bytes l) l.number in
    let size = size_passes bytes (l ∷ rest) in
    ap (λ r. soonest r (token_passes bytes rest)) (n ∙ (ap (λ r. soonest r size) m ∙ sym (soonest_joined b own size)))
    ∙ (sym (soonest_joined b (own ++ size) (token_passes bytes rest)) ∙ i)

pub tokens_turn : (bytes : List ℕ) (ls : List Lexeme) (k : ℕ) (d : Lexeme) (text : List ℕ) (b middle next all : Option PassedLimit) → k < length ls → text ≡ spelling bytes (get_or ls k d)
    → middle ≡ soonest b (own_passes (get_or ls k d).kind text (get_or ls k d).number)
    → next ≡ soonest middle (size_passes bytes (take (length ls - k) (drop k ls)))
    → soonest b (token_passes bytes (drop k ls)) ≡ all → soonest next (token_passes bytes (drop (k + 1) ls)) ≡ all
tokens_turn bytes ls k d text b middle next all h t m n i =
    let l = get_or ls k d in
    let c : drop k ls ≡ l ∷ drop (k + 1) ls = drop-cons ls k d h ∙ ap (λ n. l ∷ drop n ls) (sym (add-one k)) in
    let w : take (length ls - k) (drop k ls) ≡ drop k ls = take_all (length ls - k) (drop k ls) (omega (arith, length-drop k ls)) in
    token_step bytes l (drop (k + 1) ls) b middle next all (m ∙ ap (λ x. soonest b (own_passes l.kind x l.number)) t) (n ∙ ap (λ x. soonest middle (size_passes bytes x)) (w ∙ c))
    (ap (λ x. soonest b (token_passes bytes x)) (sym c) ∙ i)

tokens_none : (bytes : List ℕ) → token_passes bytes [] ≡ []
unfolding token_passes
tokens_none bytes = refl

pub tokens_end : (bytes : List ℕ) (ls : List Lexeme) (k : ℕ) (b all : Option PassedLimit) → length ls ≤ k → soonest b (token_passes bytes (drop k ls)) ≡ all → b ≡ all
tokens_end bytes ls k b all h i = sym (soonest_none b) ∙ (ap (soonest b) (sym (ap (token_passes bytes) (drop_all k ls h) ∙ tokens_none bytes)) ∙ i)

-- one limit comes first of itself
one_passed : (best : Option PassedLimit) (p : PassedLimit) → soonest best (p ∷ []) ≡ sooner best p
unfolding soonest
one_passed best p = refl

item_here : (which : Which) (x : Item) (rest : List Item) → is_counted which x.kind ≡ true → too_many_items which 0 (x ∷ rest) ≡ at_token which x.token ∷ []
item_here which x rest h = rw h refl

pub items_over : (which : Which) (items : List Item) (k left : ℕ) (x : Item) (best result : Option PassedLimit) (all : List PassedLimit) → k < length items → x ≡ get_or items k x → is_counted which x.kind ≡ true → left ≡ 0
    → too_many_items which left (drop k items) ≡ all → result ≡ sooner best (at_token which x.token) → result ≡ soonest best all
items_over which items k left x best result all h is counted zero i e =
    let f : at_token which x.token ∷ [] ≡ all = sym (item_here which x (drop (k + 1) items) counted) ∙ (ap (too_many_items which 0) (sym (from_place items k x h is)) ∙ (ap (λ n. too_many_items which n (drop k items)) (sym zero) ∙ i)) in
    e ∙ (sym (one_passed best (at_token which x.token)) ∙ ap (soonest best) f)

pub items_end : (which : Which) (items : List Item) (k left : ℕ) (best : Option PassedLimit) (all : List PassedLimit) → length items ≤ k → too_many_items which left (drop k items) ≡ all → best ≡ soonest best all
items_end which items k left best all h i = sym (soonest_none best) ∙ ap (soonest best) (ap (too_many_items which left) (sym (drop_all k items h)) ∙ i)

-- the statement looked for is the one behind the first 1,000
pub statement_found : (tokens : List ℕ) (p : Cursor) (t : ℕ) (best result : Option PassedLimit) → p ≡ seek (place_of 1000 None) tokens → p.found ≡ Some t
    → result ≡ sooner best (at_token limit.Statements t) → result ≡ soonest best (too_many limit.Statements 1000 (λ t. t) tokens)
statement_found tokens p t best result e f h =
    let g : slice_get tokens 1000 ≡ Some t = sym (found_at 1000 tokens) ∙ (ap (λ (q : Cursor). q.found) (sym e) ∙ f) in
    rw g (h ∙ sym (one_passed best (at_token limit.Statements t)))

pub no_statement : (tokens : List ℕ) (p : Cursor) (best : Option PassedLimit) → p ≡ seek (place_of 1000 None) tokens → p.found ≡ None → best ≡ soonest best (too_many limit.Statements 1000 (λ t. t) tokens)
no_statement tokens p best e f =
    let g : slice_get tokens 1000 ≡ None = sym (found_at 1000 tokens) ∙ (ap (λ (q : Cursor). q.found) (sym e) ∙ f) in
    rw g (sym (soonest_none best))

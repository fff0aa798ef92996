-- What a script without faults stands for fits together with its bytes.
use Rattle.std.proofs.Common.{◌≡◌, ◌+◌, ◌<◌, ◌≤◌, ◌^◌, ℕ, suc, Bool, true, false, List, [], ◌∷◌, Some, cond, if◌then◌else◌, length, map, get_or, refl, arith, length-append}
use Rattle.std.specs.List.{All, filter, flat_map}
use Rattle.std.proofs.lemmas.List.{length-map}
use Rattle.std.proofs.lemmas.List.Elements.{All-nil, All-cons, All-append, All-map, All-weaker}
use Rattle.mv_lex.specs.declared.token.Token.{Token}
use Rattle.mv_lex.specs.Tokens.{AreTokens}
use Rattle.mv_ast.specs.declared.limit.Which.TheVariants as limit
use Rattle.mv_ast.specs.declared.tree.CopyDef.{CopyDef}
use Rattle.mv_ast.specs.declared.tree.Item.{Item}
use Rattle.mv_ast.specs.declared.tree.ItemKind.{ItemKind}
use Rattle.mv_ast.specs.declared.tree.ItemKind.TheVariants.{Table, Proc, Copy, Call, Journal}
use Rattle.mv_ast.specs.declared.tree.Script.{Script}
use Rattle.mv_ast.specs.declared.tree.TableDef.{TableDef}
use Rattle.mv_ast.specs.Lexemes.{IsScript, lexemes}
use Rattle.mv_ast.specs.Limits.{column_token, columns_most, is_counted, item_passes, script_passes}
use Rattle.mv_ast.specs.Standing.{FitsIn, LiesIn, StandsIn}
use Rattle.mv_ast.proofs.Limited.{calls_kept, few, items_kept, kept, nothing_left, tables_kept}
use Rattle.mv_ast.proofs.Standing.{stands}
use Rattle.mv_names.specs.Named.{Text, place_named, same_text}
use Rattle.mv_names.specs.Items.{call_in, copy_in, lates, parts_of, table_in}
use Rattle.mv_names.specs.Statements.{missing_table, table_named}
use Rattle.mv_names.specs.Faults.{copy, faults, parts_faults}
use Rattle.mv_resolve.specs.Building.{call_of, copy_of, described, resolved_of, row_of, rows_of, table_of, table_place}
use Rattle.mv_opening.specs.Opening.{FitTogether, IsBlockAt}

-- Parts of items

-- what holds of each item's parts holds of the parts of all
all_parts : {A B : Type 0} (P : A → Type 0) (Q : B → Type 0) (f : A → List B) → ((x : A) → P x → All Q (f x)) → (xs : List A) → All P xs → All Q (flat_map f xs)
all_parts P Q f each [] h = All-nil Q
all_parts P Q f each (x ∷ xs) h =
    All-append Q (f x) (flat_map f xs) (each x (h 0 x (omega arith))) (all_parts P Q f each xs (λ k d lt. h (suc k) d (omega arith)))

no_parts : {A B : Type 0} (f : A → List B) (xs : List A) → flat_map f xs ≡ [] → All (λ x. f x ≡ []) xs
no_parts f [] h = All-nil (λ x. f x ≡ [])
no_parts f (x ∷ xs) h =
    let both = nothing_left _ _ h in
    All-cons (λ y. f y ≡ []) x xs both.0 (no_parts f xs both.1)

length_with : {A : Type 0} (b : Bool) (x : A) (xs : List A) → length (cond b (x ∷ xs) xs) ≡ cond b 1 0 + length xs
length_with true x xs = omega arith
length_with false x xs = omega arith

-- an item that is counted has one part, and another none
length_parts : {A B : Type 0} (f : A → List B) (test : A → Bool) → ((x : A) → length (f x) ≡ cond (test x) 1 0) → (xs : List A) → length (flat_map f xs) ≡ length (filter test xs)
length_parts f test one [] = refl
length_parts f test one (x ∷ xs) =
    omega (arith, one x, length-append (f x) (flat_map f xs), length_with (test x) x (filter test xs), length_parts f test one xs)

one_table : (k : ItemKind) → length (table_in k) ≡ cond (is_counted limit.Tables k) 1 0
one_table (Table t) = refl
one_table (Proc p) = refl
one_table (Copy c) = refl
one_table (Call c) = refl
one_table (Journal s) = refl

one_call : (k : ItemKind) → length (call_in k) ≡ cond (is_counted limit.Calls k) 1 0
one_call (Table t) = refl
one_call (Proc p) = refl
one_call (Copy c) = refl
one_call (Call c) = refl
one_call (Journal s) = refl

abbrev tables_of : Script → List TableDef
tables_of s = flat_map (λ (i : Item). table_in i.kind) s.items

abbrev copies_of : Script → List CopyDef
copies_of s = flat_map (λ (i : Item). copy_in i.kind) s.items

few_tables : (s : Script) → script_passes s ≡ [] → length (tables_of s) ≤ 64
few_tables s h =
    omega (arith, tables_kept s h, length_parts (λ (i : Item). table_in i.kind) (λ (i : Item). is_counted limit.Tables i.kind) (λ (i : Item). one_table i.kind) s.items)

-- Tables are narrow, and have no more rows than there are bytes; blocks lie in the bytes

abbrev Narrow : TableDef → Type 0
Narrow t = length t.columns ≤ 32

abbrev Short : ℕ → TableDef → Type 0
Short size t = length t.rows ≤ size

abbrev WithinCopy : ℕ → CopyDef → Type 0
WithinCopy size c = LiesIn size c.block

narrow_in : (k : ItemKind) → item_passes k ≡ [] → All Narrow (table_in k)
narrow_in (Table t) h = All-cons Narrow t [] (few limit.Columns columns_most column_token t.columns (nothing_left _ _ h).0) (All-nil Narrow)
narrow_in (Proc p) h = All-nil Narrow
narrow_in (Copy c) h = All-nil Narrow
narrow_in (Call c) h = All-nil Narrow
narrow_in (Journal s) h = All-nil Narrow

short_in : (size : ℕ) (k : ItemKind) → FitsIn size k → All (Short size) (table_in k)
short_in size (Table t) h = All-cons (Short size) t [] h (All-nil (Short size))
short_in size (Proc p) h = All-nil (Short size)
short_in size (Copy c) h = All-nil (Short size)
short_in size (Call c) h = All-nil (Short size)
short_in size (Journal s) h = All-nil (Short size)

within_in : (size : ℕ) (k : ItemKind) → FitsIn size k → All (WithinCopy size) (copy_in k)
within_in size (Table t) h = All-nil (WithinCopy size)
within_in size (Proc p) h = All-nil (WithinCopy size)
within_in size (Copy c) h = All-cons (WithinCopy size) c [] h (All-nil (WithinCopy size))
within_in size (Call c) h = All-nil (WithinCopy size)
within_in size (Journal s) h = All-nil (WithinCopy size)

narrow : (s : Script) → script_passes s ≡ [] → All Narrow (tables_of s)
narrow s h = all_parts (λ (i : Item). item_passes i.kind ≡ []) Narrow (λ (i : Item). table_in i.kind) (λ i p. narrow_in i.kind p) s.items (items_kept s h)

short : (size : ℕ) (s : Script) → StandsIn size s → All (Short size) (tables_of s)
short size s h = all_parts (λ (i : Item). FitsIn size i.kind) (Short size) (λ (i : Item). table_in i.kind) (λ i p. short_in size i.kind p) s.items h

within : (size : ℕ) (s : Script) → StandsIn size s → All (WithinCopy size) (copies_of s)
within size s h = all_parts (λ (i : Item). FitsIn size i.kind) (WithinCopy size) (λ (i : Item). copy_in i.kind) (λ i p. within_in size i.kind p) s.items h

-- Copies are of tables that are there

abbrev name_of : TableDef → Text
name_of t = t.name.text

found_first : (b : Bool) (token : ℕ) (t : TableDef) (ts : List TableDef) (n : Text) → missing_table token (if b then Some t else table_named ts n) ≡ []
    → (missing_table token (table_named ts n) ≡ [] → place_named name_of ts n < length ts) → (if b then 0 else suc (place_named name_of ts n)) < suc (length ts)
found_first true token t ts n h later = omega arith
found_first false token t ts n h later = let lt = later h in omega arith

place_there : (token : ℕ) (ts : List TableDef) (n : Text) → missing_table token (table_named ts n) ≡ [] → place_named name_of ts n < length ts
place_there token [] n h = cc h
place_there token (t ∷ ts) n h = found_first (same_text t.name.text n) token t ts n h (place_there token ts n)

abbrev Named : List TableDef → CopyDef → Type 0
Named tables c = table_place tables c.table < length tables

all_named : (s : Script) → faults s ≡ [] → All (Named (tables_of s)) (copies_of s)
all_named s h =
    let p = parts_of s.items in
    let parts = (nothing_left (lates 0 s.items) (parts_faults p) h).1 in
    let copies : flat_map (copy p.tables) p.copies ≡ [] = (nothing_left _ _ (nothing_left _ _ parts).0).1 in
    All-weaker (λ c. copy p.tables c ≡ []) (Named p.tables) (λ c none. place_there c.table.token p.tables c.table.text none) p.copies (no_parts (copy p.tables) p.copies copies)

-- The whole

stands_there : (tables : List TableDef) (size : ℕ) (c : CopyDef) → length tables ≤ 64 → Named tables c → WithinCopy size c → IsBlockAt (length (map (table_of tables) tables)) size (copy_of tables c)
stands_there tables size c few_of_them is lies = (omega (arith, length-map tables (table_of tables)), lies)

pub fits_together : (bytes : List ℕ) (tokens : List Token) (s : Script) → length bytes ≤ 2 ^ 24 → AreTokens bytes tokens → IsScript bytes tokens s → faults s ≡ [] → FitTogether (resolved_of s) bytes
fits_together bytes tokens s size are is none =
    let limits = kept bytes (lexemes bytes tokens) s is.late in
    let standing = stands bytes tokens s are is.grammar in
    let tables = tables_of s in
    let number = few_tables s limits in
    let lies = within (length bytes) s standing in
    let are_named = all_named s none in
    record {
      tables = omega (arith, length-map tables (table_of tables));
      values = omega (arith, length-map tables (table_of tables), length-map tables (λ (t : TableDef). rows_of t.rows));
      rows = All-map (λ rows. length rows < 2 ^ 32) (λ (t : TableDef). rows_of t.rows) tables
          (All-weaker (Short (length bytes)) (λ t. length (rows_of t.rows) < 2 ^ 32) (λ t h. omega (arith, length-map t.rows row_of)) tables (short (length bytes) s standing));
      columns = All-map (λ table. length table.columns < 2 ^ 32) (table_of tables) tables
          (All-weaker Narrow (λ t. length (map (described tables) t.columns) < 2 ^ 32) (λ t h. omega (arith, length-map t.columns (described tables))) tables (narrow s limits));
      copies = All-map (IsBlockAt (length (map (table_of tables) tables)) (length bytes)) (copy_of tables) (copies_of s)
          (λ k d lt. stands_there tables (length bytes) (get_or (copies_of s) k d) number (are_named k d lt) (lies k d lt));
      size = omega arith;
    }

pub few_calls : (bytes : List ℕ) (tokens : List Token) (s : Script) → IsScript bytes tokens s → length (resolved_of s).calls ≤ 1000000
few_calls bytes tokens s is =
    let p = parts_of s.items in
    let limits = kept bytes (lexemes bytes tokens) s is.late in
    omega (
      arith,
      calls_kept s limits,
      length-map p.calls (call_of p.procedures),
      length_parts (λ (i : Item). call_in i.kind) (λ (i : Item). is_counted limit.Calls i.kind) (λ (i : Item). one_call i.kind) s.items,
    )

-- A script stands in its bytes.
use Rattle.std.proofs.Common.{◌≡◌, ℕ, ◌+◌, ◌-◌, ◌≤◌, ◌==◌, drop, List, [], ◌∷◌, length, Option, Some, None, inl, inr, refl, sym, ap, subst, ◌∙◌, arith, length-append}
use Rattle.std.specs.Prelude.{⊤}
use Rattle.std.specs.List.{All, AllByRecursion, position}
use Rattle.std.proofs.lemmas.List.{length-take, length_push}
use Rattle.std.proofs.lemmas.List.Elements.{recursion_from_All}
use Rattle.std.proofs.lemmas.List.Quantifiers.{position-Some}
use Rattle.mv_lex.specs.declared.token.Token.{Token}
use Rattle.mv_lex.specs.Tokens.{AreTokens, IsSpelledIn}
use Rattle.mv_lex.proofs.Answers.{all_spelled}
use Rattle.mv_lex.proofs.Counting.{few_tokens}
use Rattle.mv_ast.specs.declared.lexeme.Lexeme.{Lexeme}
use Rattle.mv_ast.specs.declared.lexeme.Terminal.{Terminal}
use Rattle.mv_ast.specs.declared.lexeme.Terminal.TheVariants as word
use Rattle.mv_ast.specs.declared.tree.Item.{Item}
use Rattle.mv_ast.specs.declared.tree.LitRow.{LitRow}
use Rattle.mv_ast.specs.declared.tree.Script.{Script}
use Rattle.mv_ast.specs.Parts.{Part, Inner, Is, Pieces, joined}
use Rattle.mv_ast.specs.Texts.{spelling, first_line, line_end}
use Rattle.mv_ast.specs.Trees.{call_of, copy_of, created, journal_of, procedure_of, script_of, table_of}
use Rattle.mv_ast.specs.Grammar.{added, an_item, block, call, closed_of, copy, create, inner, journal, lit_row, open_of, opening_rows, procedure, script, separated, table, ◌▸◌}
use Rattle.mv_ast.specs.Lexemes.{IsByGrammar, lexemes, lexemes_from}
use Rattle.mv_ast.specs.Standing.{FitsIn, LiesIn, StandsIn}
use Rattle.mv_ast.proofs.Counting.{length_lexemes}
use Rattle.mv_ast.proofs.Holding.{AreSuch, Holds, any, apply, before, each_of, either_way, given, token}

-- A list has no more items than tokens, where each item has one

pieces_few : {A : Type 0} (P : List Lexeme → A → Type 0) → ((ts : List Lexeme) (v : A) → P ts v → 1 ≤ length ts) → (vs : List A) (ts : List Lexeme) → Pieces P ts vs → length vs ≤ length ts
pieces_few P one_each [] ts i = omega arith
pieces_few P one_each (v ∷ vs) ts i =
    let one = one_each i.0 v i.3 in
    let more = pieces_few P one_each vs i.1 i.4 in
    omega (arith, ap length i.2, length-append i.0 i.1)

length_joined : {A : Type 0} (vs more : List A) → length (joined added vs more) ≡ length vs + length more
length_joined vs [] = omega arith
length_joined vs (m ∷ more) = let rest = length_joined (added vs m) more in omega (arith, length_push vs m)

separated_few : {A : Type 0} (R : Inner) (mark : Terminal) (p : Part A) → ((ts : List Lexeme) (v : A) → Is R p ts v → 1 ≤ length ts)
    → (ts : List Lexeme) (vs : List A) → Is R (separated (Part.one mark) p) ts vs → length vs ≤ length ts
separated_few R mark p one_each ts vs i =
    let first = i.5 in
    let one = one_each first.1 first.3 first.6 in
    let is_one : i.2 ≡ first.3 ∷ [] = first.7 ∙ ap (λ f. f first.3) first.5.1 in
    let more = pieces_few (Is R (Part.one mark ▸ p)) (λ us v j. (let least = one_each j.1 v (subst (Is R p j.1) (sym j.7) j.6) in omega (arith, ap length j.4, length-append j.0 j.1))) i.3 i.1 i.6 in
    omega (arith, ap length i.4, length-append i.0 i.1, ap length first.4, length-append first.0 first.1, ap length is_one, ap length i.7, length_joined i.2 i.3)

module _ (bytes : List ℕ) (R : Inner) where
  row_has_token : (ts : List Lexeme) (v : LitRow) → Is R (lit_row bytes) ts v → 1 ≤ length ts
  unfolding lit_row
  row_has_token ts v i = omega (arith, ap length i.4, length-append i.0 i.1, ap length i.6.0)

  few_rows : (ts : List Lexeme) (rows : List LitRow) → Is R (opening_rows bytes) ts rows → length rows ≤ length ts
  unfolding opening_rows
  few_rows ts rows (inl w) =
      let few = separated_few R word.Comma (lit_row bytes) row_has_token w.1 w.3 w.6 in
      omega (arith, ap length w.4, length-append w.0 w.1, ap length w.7)
  few_rows ts rows (inr w) = omega (arith, ap length w.1)

-- A block's lines lie within its token

line_within : (text : List ℕ) (at' : Option ℕ) → position (λ b. b == 10) text ≡ at' → line_end at' (length text) ≤ length text
line_within text None e = omega arith
line_within text (Some at') e = let p = position-Some (λ b. b == 10) text at' 0 e in let lt = p.0 in omega arith

spelling_within : (bytes : List ℕ) (l : Lexeme) → length (spelling bytes l) ≤ l.len
spelling_within bytes l = omega (arith, length-take (l.at + l.len - l.at) (drop l.at bytes))

first_within : (bytes : List ℕ) (l : Lexeme) → first_line (spelling bytes l) ≤ l.len
first_within bytes l =
    let text = spelling bytes l in
    let line = line_within text (position (λ b. b == 10) text) refl in
    let all = spelling_within bytes l in
    omega arith

-- the token lies in so many bytes
abbrev pub Lies : ℕ → Lexeme → Type 0
Lies size l = l.at + l.len ≤ size

closed_lies : (bytes : List ℕ) (size : ℕ) (l : Lexeme) → Lies size l → LiesIn size (closed_of bytes l)
closed_lies bytes size l h = let line = first_within bytes l in omega arith

open_lies : (bytes : List ℕ) (size : ℕ) (l : Lexeme) → Lies size l → LiesIn size (open_of bytes l)
open_lies bytes size l h = let line = first_within bytes l in omega arith

-- The parts of the grammar

module _ (bytes : List ℕ) (R : Inner) (size : ℕ) where
  abbrev Shows : {A : Type 0} → Part A → (A → Type 0) → Type 0
  Shows p Q = Holds R (Lies size) size p Q

  rows_shown : Shows (opening_rows bytes) (λ rows. length rows ≤ size)
  rows_shown = record { of = λ ts rows s i. (let few = few_rows bytes R ts rows i in let all = s.few in omega arith) }

  table_shown : Shows (table bytes) (FitsIn size)
  unfolding table
  table_shown =
      before (apply (λ rows. length rows ≤ size)
      (before (apply (λ key. ⊤) (before (before (apply (λ columns. ⊤) (before (apply (λ name. ⊤) (before (given table_of (λ name n columns c key k rows r. r))) any)) any))) any))
      rows_shown)

  procedure_shown : Shows (procedure bytes) (FitsIn size)
  unfolding procedure
  procedure_shown =
      before (before (apply (λ body. ⊤)
      (before (apply (λ vars. ⊤) (apply (λ read_only. ⊤) (apply (λ params. ⊤) (apply (λ name. ⊤) (before (given procedure_of (λ name n params p read_only r vars v body b. tt))) any) any) any) any))
      any))

  block_shown : Shows (block bytes) (LiesIn size)
  unfolding block
  block_shown =
      either_way (apply (Lies size) (given (closed_of bytes) (closed_lies bytes size)) (token word.Block))
      (apply (Lies size) (given (open_of bytes) (open_lies bytes size)) (token word.OpenBlock))

  abbrev Fits : Item → Type 0
  Fits i = FitsIn size i.kind

  create_shown : Shows (create bytes) Fits
  unfolding create
  create_shown = apply (FitsIn size) (apply (λ number. ⊤) (given created (λ number n kind k. k)) any) (either_way table_shown procedure_shown)

  copy_shown : Shows (copy bytes) Fits
  unfolding copy
  copy_shown = apply (LiesIn size) (apply (λ name. ⊤) (apply (λ number. ⊤) (given copy_of (λ number k name n span s. s)) any) any) block_shown

  call_shown : Shows (call bytes) Fits
  unfolding call
  call_shown = before (apply (λ arguments. ⊤) (apply (λ name. ⊤) (apply (λ number. ⊤) (given call_of (λ number k name n arguments a. tt)) any) any) any)

  journal_shown : Shows (journal bytes) Fits
  unfolding journal
  journal_shown = apply (LiesIn size) (apply (λ number. ⊤) (given journal_of (λ number k span s. s)) any) block_shown

  item_shown : Shows (an_item bytes) Fits
  unfolding an_item
  item_shown = either_way create_shown (either_way copy_shown (either_way call_shown journal_shown))

  script_shown : Shows (script bytes) (StandsIn size)
  unfolding script
  script_shown = apply (All Fits) (given script_of (λ items all. all)) (each_of item_shown)

-- The tokens of a script

lexemes_lie : (bytes : List ℕ) (n : ℕ) (tokens : List Token) → AllByRecursion (IsSpelledIn bytes) tokens → AllByRecursion (Lies (length bytes)) (lexemes_from n bytes tokens)
lexemes_lie bytes n [] h = tt
lexemes_lie bytes n (t ∷ ts) h = (h.0.within, lexemes_lie bytes (n + 1) ts h.1)

such_lexemes : (bytes : List ℕ) (tokens : List Token) → AreTokens bytes tokens → AreSuch (Lies (length bytes)) (length bytes) (lexemes bytes tokens)
such_lexemes bytes tokens are = record {
  each = lexemes_lie bytes 1 tokens (recursion_from_All (IsSpelledIn bytes) tokens (all_spelled bytes tokens are));
  few = omega (arith, few_tokens bytes tokens are, length_lexemes 1 bytes tokens);
}

-- what a script has by the grammar, it has in its bytes
pub stands : (bytes : List ℕ) (tokens : List Token) (s : Script) → AreTokens bytes tokens → IsByGrammar bytes tokens s → StandsIn (length bytes) s
stands bytes tokens s are by =
    (script_shown bytes (inner bytes by.0) (length bytes)).of (lexemes bytes tokens) s (such_lexemes bytes tokens are) by.1

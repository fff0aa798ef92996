-- By the grammar each table of a script names a key column.
use Rattle.std.proofs.Common.{ℕ, ◌<◌, List, [], ◌∷◌, length, sym, subst, arith, length-append}
use Rattle.std.specs.Prelude.{⊤}
use Rattle.std.specs.List.{All, AllByRecursion}
use Rattle.mv_lex.specs.declared.token.Token.{Token}
use Rattle.mv_ast.specs.declared.lexeme.Lexeme.{Lexeme}
use Rattle.mv_ast.specs.declared.tree.Item.{Item}
use Rattle.mv_ast.specs.declared.tree.Script.{Script}
use Rattle.mv_ast.specs.Parts.{Part, Inner, joined}
use Rattle.mv_ast.specs.Trees.{call_of, copy_of, created, journal_of, procedure_of, script_of, table_of}
use Rattle.mv_ast.specs.Grammar.{added, commas, in_parens, name, an_item, call, copy, create, inner, journal, procedure, script, table}
use Rattle.mv_ast.specs.Lexemes.{IsByGrammar, lexemes}
use Rattle.mv_ast.specs.Keys.{NamesKey, HasKeys}
use Rattle.mv_ast.proofs.Holding.{Holds, any, apply, before, behind, each_of, either_way, given}

-- a list between commas has an item
joined_some : {A : Type 0} (vs bs : List A) → 0 < length vs → 0 < length (joined added vs bs)
joined_some vs [] h = h
joined_some vs (b ∷ bs) h = joined_some (added vs b) bs (omega (arith, length-append vs (b ∷ [])))

module _ (bytes : List ℕ) (R : Inner) (size : ℕ) where
  abbrev Any : Lexeme → Type 0
  Any l = ⊤

  abbrev Shows : {A : Type 0} → Part A → (A → Type 0) → Type 0
  Shows p Q = Holds R Any size p Q

  some_items : {A : Type 0} {p : Part A} → Shows (commas p) (λ vs. 0 < length vs)
  some_items = record {
    of = λ ts v s i. subst (λ vs. 0 < length vs) (sym i.7) (joined_some i.2 i.3 (subst (λ vs. 0 < length vs) (sym i.5.7) (subst (λ f. 0 < length (f i.5.3)) (sym i.5.5.1) (omega arith))));
  }

  key_shown : Shows (in_parens (commas (name bytes))) (λ key. 0 < length key)
  key_shown = before (behind some_items)

  table_shown : Shows (table bytes) NamesKey
  unfolding table
  table_shown =
      before (apply (λ rows. ⊤)
      (before (apply (λ key. 0 < length key) (before (before (apply (λ columns. ⊤) (before (apply (λ name. ⊤) (before (given table_of (λ name n columns c key k rows r. k))) any)) any))) key_shown))
      any)

  procedure_shown : Shows (procedure bytes) NamesKey
  unfolding procedure
  procedure_shown =
      before (before (apply (λ body. ⊤)
      (before (apply (λ vars. ⊤) (apply (λ read_only. ⊤) (apply (λ params. ⊤) (apply (λ name. ⊤) (before (given procedure_of (λ name n params p read_only r vars v body b. tt))) any) any) any) any))
      any))

  abbrev Keyed : Item → Type 0
  Keyed i = NamesKey i.kind

  create_shown : Shows (create bytes) Keyed
  unfolding create
  create_shown = apply NamesKey (apply (λ number. ⊤) (given created (λ number n kind k. k)) any) (either_way table_shown procedure_shown)

  copy_shown : Shows (copy bytes) Keyed
  unfolding copy
  copy_shown = apply (λ block. ⊤) (apply (λ name. ⊤) (apply (λ number. ⊤) (given copy_of (λ number k name n span s. tt)) any) any) any

  call_shown : Shows (call bytes) Keyed
  unfolding call
  call_shown = before (apply (λ arguments. ⊤) (apply (λ name. ⊤) (apply (λ number. ⊤) (given call_of (λ number k name n arguments a. tt)) any) any) any)

  journal_shown : Shows (journal bytes) Keyed
  unfolding journal
  journal_shown = apply (λ block. ⊤) (apply (λ number. ⊤) (given journal_of (λ number k span s. tt)) any) any

  item_shown : Shows (an_item bytes) Keyed
  unfolding an_item
  item_shown = either_way create_shown (either_way copy_shown (either_way call_shown journal_shown))

  script_shown : Shows (script bytes) HasKeys
  unfolding script
  script_shown = apply (All Keyed) (given script_of (λ items all. all)) (each_of item_shown)

any_lexemes : (ls : List Lexeme) → AllByRecursion (λ (l : Lexeme). ⊤) ls
any_lexemes [] = tt
any_lexemes (l ∷ ls) = (tt, any_lexemes ls)

-- so has a whole script
pub keyed : (bytes : List ℕ) (tokens : List Token) (s : Script) → IsByGrammar bytes tokens s → HasKeys s
keyed bytes tokens s by =
    (script_shown bytes (inner bytes by.0) (length (lexemes bytes tokens))).of (lexemes bytes tokens) s (record { each = any_lexemes (lexemes bytes tokens); few = omega arith }) by.1

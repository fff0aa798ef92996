-- With which token a part begins.
use Rattle.std.proofs.Common.{◌≡◌, ℕ, List, [], ◌∷◌, refl}
use Rattle.mv_ast.specs.declared.lexeme.Terminal.TheVariants as word
use Rattle.mv_ast.specs.declared.lexeme.Lexeme.{Lexeme}
use Rattle.mv_ast.specs.declared.tree.ColDef.{ColDef}
use Rattle.mv_ast.specs.Parts.{one, both}
use Rattle.mv_ast.specs.Grammar as rule
use Rattle.mv_parser.specs.Reading.{first}

pub first_name : (bytes : List ℕ) → first (rule.name bytes) ≡ word.Name ∷ []
unfolding rule.name
first_name bytes = refl

pub first_variable_expr : (bytes : List ℕ) → first (rule.variable_expr bytes) ≡ word.Variable ∷ []
unfolding rule.variable_expr rule.variable
first_variable_expr bytes = refl

pub first_in_parentheses : (bytes : List ℕ) → first (rule.in_parentheses bytes) ≡ word.Open ∷ []
unfolding rule.in_parentheses
first_in_parentheses bytes = refl

pub first_left_call : (bytes : List ℕ) → first (rule.left_call bytes) ≡ word.Left ∷ []
unfolding rule.left_call
first_left_call bytes = refl

pub first_text_of_call : (bytes : List ℕ) → first (rule.text_of_call bytes) ≡ word.TextOf ∷ []
unfolding rule.text_of_call
first_text_of_call bytes = refl

pub first_assign : (bytes : List ℕ) → first (rule.assign bytes) ≡ word.Set ∷ []
unfolding rule.assign
first_assign bytes = refl

pub first_select : (bytes : List ℕ) → first (rule.select bytes) ≡ word.Select ∷ []
unfolding rule.select
first_select bytes = refl

pub first_for_each : (bytes : List ℕ) → first (rule.for_each bytes) ≡ word.For ∷ []
unfolding rule.for_each
first_for_each bytes = refl

pub first_branch : (bytes : List ℕ) → first (rule.branch bytes) ≡ word.If ∷ []
unfolding rule.branch
first_branch bytes = refl

pub first_insert : (bytes : List ℕ) → first (rule.insert bytes) ≡ word.Insert ∷ []
unfolding rule.insert
first_insert bytes = refl

pub first_update : (bytes : List ℕ) → first (rule.update bytes) ≡ word.Update ∷ []
unfolding rule.update
first_update bytes = refl

pub first_delete : (bytes : List ℕ) → first (rule.delete bytes) ≡ word.Delete ∷ []
unfolding rule.delete
first_delete bytes = refl

pub first_print : (bytes : List ℕ) → first (rule.print bytes) ≡ word.Print ∷ []
unfolding rule.print
first_print bytes = refl

pub first_rollback : (bytes : List ℕ) → first (rule.rollback bytes) ≡ word.Rollback ∷ []
unfolding rule.rollback
first_rollback bytes = refl

pub first_select_columns : (bytes : List ℕ) → first (rule.select_columns bytes) ≡ word.Name ∷ []
unfolding rule.select_columns rule.name
first_select_columns bytes = refl

pub first_for_distinct : (bytes : List ℕ) → first (rule.for_distinct bytes) ≡ word.Distinct ∷ []
unfolding rule.for_distinct
first_for_distinct bytes = refl

pub first_table : (bytes : List ℕ) → first (rule.table bytes) ≡ word.Table ∷ []
unfolding rule.table
first_table bytes = refl

pub first_create : (bytes : List ℕ) → first (rule.create bytes) ≡ word.Create ∷ []
unfolding rule.create
first_create bytes = refl

pub first_copy : (bytes : List ℕ) → first (rule.copy bytes) ≡ word.Copy ∷ []
unfolding rule.copy
first_copy bytes = refl

pub first_call : (bytes : List ℕ) → first (rule.call bytes) ≡ word.Call ∷ []
unfolding rule.call
first_call bytes = refl

pub first_journal : (bytes : List ℕ) → first (rule.journal bytes) ≡ word.Journal ∷ []
unfolding rule.journal
first_journal bytes = refl

pub first_lit_rows : (bytes : List ℕ) → first (rule.lit_rows bytes) ≡ word.Rows ∷ []
unfolding rule.lit_rows
first_lit_rows bytes = refl

pub first_declaration : (bytes : List ℕ) → first (rule.declaration bytes) ≡ word.Declare ∷ []
unfolding rule.declaration
first_declaration bytes = refl

pub first_lit_row : (bytes : List ℕ) → first (rule.lit_row bytes) ≡ word.Open ∷ []
unfolding rule.lit_row
first_lit_row bytes = refl

pub first_param : (bytes : List ℕ) → first (rule.param bytes) ≡ word.Variable ∷ []
unfolding rule.param rule.variable
first_param bytes = refl

pub first_row_col : (bytes : List ℕ) → first (rule.row_col bytes) ≡ word.Name ∷ []
unfolding rule.row_col rule.name
first_row_col bytes = refl

pub first_col_def : (bytes : List ℕ) → first (rule.col_def bytes) ≡ word.Name ∷ []
unfolding rule.col_def rule.name
first_col_def bytes = refl

pub first_cond : (bytes : List ℕ) → first (rule.cond bytes) ≡ word.Name ∷ []
unfolding rule.cond rule.name
first_cond bytes = refl

pub first_column : (bytes : List ℕ) → first (both (λ (a : ColDef) (b : Lexeme). a) (rule.col_def bytes) (one word.Comma)) ≡ word.Name ∷ []
unfolding rule.col_def rule.name
first_column bytes = refl

pub first_args : (bytes : List ℕ) → first (rule.commas (rule.arg bytes)) ≡ word.Rows ∷ word.Minus ∷ word.Number ∷ word.Quoted ∷ []
unfolding rule.arg rule.lit_rows rule.literal
first_args bytes = refl

pub first_an_item : (bytes : List ℕ) → first (rule.an_item bytes) ≡ word.Create ∷ word.Copy ∷ word.Call ∷ word.Journal ∷ []
unfolding rule.an_item rule.create rule.copy rule.call rule.journal
first_an_item bytes = refl

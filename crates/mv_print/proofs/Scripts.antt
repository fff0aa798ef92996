-- Items and scripts, as they are printed and read again.
use Rattle.std.proofs.Common.{◌≡◌, ℕ, ◌+◌, ◌≤◌, Bool, true, false, List, [], ◌∷◌, ◌++◌, ◌⊎◌, length, map, refl, sym, ap, subst, ◌∙◌, append_assoc, append-nil, length-append, arith, inl, inr}
use Rattle.std.specs.List.{list_all}
use Rattle.std.proofs.lemmas.Bool.{and_parts, and_from}
use Rattle.std.proofs.lemmas.List.Folds.{list_all-append}
use Rattle.mv_values.specs.Texts.{lines_text}
use Rattle.mv_lex.specs.Bytes.{is_allowed}
use Rattle.mv_lex.specs.Spelling.{IsSpelled, IsBlock, IsUnclosed, IsBareOpening, opening}
use Rattle.mv_lex.specs.Tokens.{IsLongest}
use Rattle.mv_lex.specs.declared.token.Kind.TheVariants as token
use Rattle.mv_lex.proofs.Fronts.{block_is}
use Rattle.mv_lex.proofs.Pieces.{found_longest}
use Rattle.mv_lex.proofs.Parted.{parted_longest}
use Rattle.mv_ast.specs.declared.lexeme.Lexeme.{Lexeme}
use Rattle.mv_ast.specs.declared.lexeme.Terminal.TheVariants as word
use Rattle.mv_ast.specs.declared.tree.Arg.{Arg}
use Rattle.mv_ast.specs.declared.tree.Arg.TheVariants as argument
use Rattle.mv_ast.specs.declared.tree.Item.{Item}
use Rattle.mv_ast.specs.declared.tree.ItemKind.{ItemKind}
use Rattle.mv_ast.specs.declared.tree.ItemKind.TheVariants.{Copy, Call, Journal}
use Rattle.mv_ast.specs.declared.tree.Lit.{Lit}
use Rattle.mv_ast.specs.declared.tree.LitRow.{LitRow}
use Rattle.mv_ast.specs.declared.tree.LitRows.{LitRows}
use Rattle.mv_ast.specs.declared.tree.Name.{Name}
use Rattle.mv_ast.specs.declared.tree.Param.{Param}
use Rattle.mv_ast.specs.declared.tree.ParamKind.{ParamKind}
use Rattle.mv_ast.specs.declared.tree.ParamKind.TheVariants as parameter
use Rattle.mv_ast.specs.declared.tree.Script.{Script}
use Rattle.mv_ast.specs.declared.tree.Span.{Span}
use Rattle.mv_ast.specs.declared.tree.VarDef.{VarDef}
use Rattle.mv_ast.specs.Limits.{together}
use Rattle.mv_ast.specs.Parts.{Part, give, both, either, Is, Pieces, joined}
use Rattle.mv_ast.specs.Trees.{table_of, procedure_of, copy_of, journal_of, script_of}
use Rattle.mv_ast.specs.Texts.{spelling}
use Rattle.mv_ast.specs.Grammar as rule
use Rattle.mv_ast.specs.Grammar.{inner, added, place, closed_of, open_of, ◌⊛◌}
use Rattle.mv_print.specs.Printing.{Piece, key, line_end, name_piece, name_pieces, listed, row_pieces, column_pieces, column_and_comma, values_pieces, param_kind_pieces, param_pieces, declared_pieces, read_only_pieces, statements_pieces, block_piece, span_piece, arg_pieces, item_pieces, pieces_of, script_pieces}
use Rattle.mv_print.specs.Same.{placeless_row, placeless_column, placeless_param_kind, placeless_param, placeless_variable, placeless_argument, placeless_span, placeless_kind, placeless, span_bytes, block_bytes, SameButPlaces}
use Rattle.mv_print.proofs.Light.{kinds, Light, light_plain}
use Rattle.mv_print.proofs.Building.{marks, light_both, light_nothing, turns_then, Fits, Spelled, Sound, Sounds, sounds_joined, AllGood, each_apart, apart, one_spelled, none_spelled, Reading, Readings, Prints, Turned, Turns, Gives, gives_give, gives_one, gives_both, gives_next, gives_either, gives_any, both_read, joined_added, turns_give, turns_next, turns_either, turns_left, turns_as}
use Rattle.mv_print.proofs.Sounding.{sound_key}
use Rattle.mv_print.proofs.Meaning.{Meant, Good, meant, closed_bytes, open_bytes, bare_bytes}
use Rattle.mv_print.proofs.Turning.{plain_key, skip_open, skip_close, skip_end_line, skip, skip_end, behind_key, behind_keys, place_key, turns_parens, turns_many, turns_commas}
use Rattle.mv_print.proofs.Rules.{Rule, same2, same3, same4, same5, rule_name, rule_variable, rule_literal, rule_row, rule_type, rule_row_column, rule_column}
use Rattle.mv_print.proofs.Sentences.{way_inside}

regroup_table : (cs ns rows : List Piece) (a b c e : Piece) → (((((cs ++ a ∷ []) ++ b ∷ []) ++ ns) ++ c ∷ []) ++ rows) ++ e ∷ [] ≡ cs ++ a ∷ b ∷ (ns ++ c ∷ (rows ++ e ∷ []))
regroup_table cs ns rows a b c e =
    append_assoc ((((cs ++ a ∷ []) ++ b ∷ []) ++ ns) ++ c ∷ []) rows (e ∷ [])
    ∙ (append_assoc (((cs ++ a ∷ []) ++ b ∷ []) ++ ns) (c ∷ []) (rows ++ e ∷ [])
    ∙ (append_assoc ((cs ++ a ∷ []) ++ b ∷ []) ns (c ∷ (rows ++ e ∷ []))
    ∙ (append_assoc (cs ++ a ∷ []) (b ∷ []) (ns ++ c ∷ (rows ++ e ∷ [])) ∙ append_assoc cs (a ∷ []) (b ∷ (ns ++ c ∷ (rows ++ e ∷ []))))))

regroup_procedure : (ps rs vs body : List Piece) (a b c : Piece) → (((((ps ++ rs) ++ vs) ++ a ∷ []) ++ body) ++ b ∷ []) ++ c ∷ [] ≡ ps ++ (rs ++ (vs ++ a ∷ (body ++ b ∷ c ∷ [])))
regroup_procedure ps rs vs body a b c =
    append_assoc (((((ps ++ rs) ++ vs) ++ a ∷ []) ++ body)) (b ∷ []) (c ∷ [])
    ∙ (append_assoc (((ps ++ rs) ++ vs) ++ a ∷ []) body (b ∷ c ∷ [])
    ∙ (append_assoc ((ps ++ rs) ++ vs) (a ∷ []) (body ++ b ∷ c ∷ [])
    ∙ (append_assoc (ps ++ rs) vs (a ∷ (body ++ b ∷ c ∷ [])) ∙ append_assoc ps rs (vs ++ a ∷ (body ++ b ∷ c ∷ [])))))

-- an item with no block
abbrev no_block : ItemKind → ItemKind × List ℕ
no_block k = (k, [])

-- spans of the same bytes
abbrev SameSpan : List ℕ → List ℕ → Span → Span → Type 0
SameSpan bytes text s w = (placeless_span s ≡ placeless_span w) × (span_bytes bytes s ≡ span_bytes text w)

-- the piece is the last of the text
pub record Last (p : Piece) : Type 0 where
  pub longest : IsLongest token.OpenBlock p.text []
  pub kind : p.kind ≡ word.OpenBlock
  pub allowed : list_all is_allowed p.text ≡ true
  pub gap : p.gap ≡ []

abbrev pub Ended : List Piece → Type 0
Ended ps = (front : List Piece) × (x : Piece) × (ps ≡ front ++ x ∷ []) × Sounds front × Last x

-- The parts of a spelling are allowed.
pub allowed_parts : (xs ys : List ℕ) → list_all is_allowed (xs ++ ys) ≡ true → (list_all is_allowed xs ≡ true) × (list_all is_allowed ys ≡ true)
allowed_parts xs ys h = and_parts (list_all is_allowed xs) (list_all is_allowed ys) (sym (list_all-append is_allowed xs ys) ∙ h)

pub allowed_joined : (xs ys : List ℕ) → list_all is_allowed xs ≡ true → list_all is_allowed ys ≡ true → list_all is_allowed (xs ++ ys) ≡ true
allowed_joined xs ys h k = list_all-append is_allowed xs ys ∙ and_from (list_all is_allowed xs) (list_all is_allowed ys) h k

allowed_inside : (front inside after : List ℕ) (spelled : List ℕ) → spelled ≡ front ++ 10 ∷ (inside ++ after) → list_all is_allowed spelled ≡ true → list_all is_allowed inside ≡ true
allowed_inside front inside after spelled e h =
    (allowed_parts inside after (allowed_parts (10 ∷ []) (inside ++ after) (allowed_parts front (10 ∷ (inside ++ after)) (sym (ap (list_all is_allowed) e) ∙ h)).1).1).0

-- a closed block: its lines, and how they are printed
pub record ClosedBlock (bytes : List ℕ) (s : Span) : Type 0 where
  pub lines : List (List ℕ)
  pub content : span_bytes bytes s ≡ lines_text lines
  pub block : (after : List ℕ) → IsBlock (block_piece (lines_text lines) true).text after
  pub allowed : list_all is_allowed (lines_text lines) ≡ true

closed_block : (bytes : List ℕ) (l : Lexeme) → Meant bytes l → l.kind ≡ word.Block → ClosedBlock bytes (closed_of bytes l)
closed_block bytes l m e =
    let b : IsBlock (spelling bytes l) m.after = meant l word.Block m e in
    record {
      lines = b.lines;
      content = closed_bytes bytes l b.blanks (lines_text b.lines) b.closing m.after b.written m.len b.are_blanks b.is_closing;
      block = λ after. record { blanks = []; lines = b.lines; closing = 62 ∷ 62 ∷ 10 ∷ []; are_blanks = refl; are_inner = b.are_inner; is_closing = inl refl; written = refl };
      allowed = allowed_inside (opening b.blanks) (lines_text b.lines) b.closing (spelling bytes l) b.written m.allowed;
    }

closed_sound : (content : List ℕ) → ((after : List ℕ) → IsBlock (block_piece content true).text after) → list_all is_allowed content ≡ true → Sound (block_piece content true)
closed_sound content b a = record {
  base = record {
    token = token.Block;
    longest = λ rest. found_longest token.Block (length (block_piece content true).text) (block_piece content true).text rest (block_is (block_piece content true).text rest (b rest)) refl (b rest);
    is = refl;
    allowed = allowed_joined content (62 ∷ 62 ∷ 10 ∷ []) a refl;
    gaps = refl;
    own = λ n. refl;
  };
  plain = refl;
}

closed_again : (text content : List ℕ) (l : Lexeme) → Fits text l (block_piece content true) → span_bytes text (closed_of text l) ≡ content
closed_again text content l f = closed_bytes text l [] content (62 ∷ 62 ∷ 10 ∷ []) [] f.spells (f.len ∙ sym (ap length f.spells)) refl (inl refl)

-- an open block
pub record OpenedBlock (bytes : List ℕ) (s : Span) : Type 0 where
  pub unclosed : IsUnclosed (block_piece (span_bytes bytes s) false).text
  pub allowed : list_all is_allowed (span_bytes bytes s) ≡ true

opened_by : (bytes : List ℕ) (l : Lexeme) → Meant bytes l → IsBareOpening (spelling bytes l) ⊎ IsUnclosed (spelling bytes l) → OpenedBlock bytes (open_of bytes l)
opened_by bytes l m (inl b) =
    let e = bare_bytes bytes l b.blanks b.written m.len b.are_blanks in
    record {
      unclosed = subst (λ r. IsUnclosed (block_piece r false).text) (sym e) (record {
        blanks = [];
        lines = [];
        last = [];
        are_blanks = refl;
        are_inner = tt;
        is_last = record { one_line = refl; no_end = λ h. cc };
        written = refl;
      });
      allowed = subst (λ r. list_all is_allowed r ≡ true) (sym e) refl;
    }
opened_by bytes l m (inr b) =
    let lines = lines_text b.lines ++ b.last in
    let e = open_bytes bytes l b.blanks lines b.written m.len b.are_blanks in
    record {
      unclosed = subst (λ r. IsUnclosed (block_piece r false).text) (sym e) (record {
        blanks = [];
        lines = b.lines;
        last = b.last;
        are_blanks = refl;
        are_inner = b.are_inner;
        is_last = b.is_last;
        written = refl;
      });
      allowed = subst (λ r. list_all is_allowed r ≡ true) (sym e) (allowed_inside (opening b.blanks) lines [] (spelling bytes l) (b.written ∙ ap (λ r. opening b.blanks ++ 10 ∷ r) (sym (append-nil lines))) m.allowed);
    }

opened_block : (bytes : List ℕ) (l : Lexeme) → Meant bytes l → l.kind ≡ word.OpenBlock → OpenedBlock bytes (open_of bytes l)
opened_block bytes l m e = let b : IsSpelled token.OpenBlock (spelling bytes l) m.after = meant l word.OpenBlock m e in opened_by bytes l m b.0

opened_last : (bytes : List ℕ) (s : Span) → OpenedBlock bytes s → Last (block_piece (span_bytes bytes s) false)
opened_last bytes s b = record { longest = parted_longest token.OpenBlock (block_piece (span_bytes bytes s) false).text [] refl (inr b.unclosed, refl); kind = refl; allowed = b.allowed; gap = refl }

opened_again : (text content : List ℕ) (l : Lexeme) → Fits text l (block_piece content false) → span_bytes text (open_of text l) ≡ content
opened_again text content l f = open_bytes text l [] content f.spells (f.len ∙ sym (ap length f.spells)) refl

module _ (bytes text : List ℕ) (d : ℕ) where
  abbrev Way : {A B : Type 0} → Part A → Part A → (A → List Piece) → (A → B) → Type 0
  Way = Rule bytes text d

  way_columns : Way (rule.columns bytes) (rule.columns text) (λ cs. together (map column_and_comma cs)) (map placeless_column)
  unfolding rule.columns
  way_columns =
      turns_left (skip (plain_key word.Comma) (turns_as (λ v ps h. ap (λ r. r ++ key word.Comma ∷ []) h) (λ v w h. h) (rule_column bytes text d)))
      (skip (plain_key word.Comma) (turns_next (rule_column bytes text d) (turns_give (λ c cs. refl) (λ c e h. ap (λ r. r ∷ []) h))))

  way_values : Way (rule.opening_rows bytes) (rule.opening_rows text) values_pieces (map placeless_row)
  unfolding rule.opening_rows
  way_values = turns_either (behind_key (plain_key word.Values) (turns_commas (rule_row bytes text d) (λ r rs. refl))) (turns_give refl refl)

  -- an item behind CREATE
  abbrev Created : ItemKind → List Piece → Type 0
  Created k ps = key word.Create ∷ ps ≡ item_pieces bytes k

  abbrev SameKind : ItemKind → ItemKind → Type 0
  SameKind k j = ◌≡◌ {A = ItemKind × List ℕ} (placeless_kind k, block_bytes bytes k) (placeless_kind j, block_bytes text j)

  way_table : Turns (Good bytes) bytes text d (rule.table bytes) (rule.table text) Created SameKind
  unfolding rule.table
  way_table =
      skip_end (turns_next way_values (skip_close (turns_next {fq = λ ns. key word.Open ∷ (listed name_pieces ns ++ key word.Close ∷ [])} (turns_parens (turns_commas (rule_name bytes text d) (λ n ns. refl)))
      (skip (plain_key word.Key) (skip (plain_key word.Primary) (turns_next way_columns (skip_open (sound_key word.Open) (record { opens = refl; ends = refl }) (turns_next (rule_name bytes text d) (skip (plain_key word.Table)
      (turns_give (λ n columns ns rows. ap (λ r. key word.Create ∷ key word.Table ∷ name_piece n ∷ key word.Open ∷ r)
      (regroup_table (together (map column_and_comma columns)) (key word.Open ∷ (listed name_pieces ns ++ key word.Close ∷ [])) (values_pieces rows) (key word.Primary) (key word.Key) (key word.Close) line_end
      ∙ ap (λ r. together (map column_and_comma columns) ++ key word.Primary ∷ key word.Key ∷ key word.Open ∷ r) (append_assoc (listed name_pieces ns) (key word.Close ∷ []) (key word.Close ∷ (values_pieces rows ++ line_end ∷ [])))))
      (λ a a' h b b' i c c' j e e' k. ap no_block (same4 table_of h i j k))))))))))))

  way_param_kind : Way (rule.param_kind bytes) (rule.param_kind text) param_kind_pieces placeless_param_kind
  unfolding rule.param_kind
  way_param_kind =
      turns_either (behind_key (plain_key word.Rows) (turns_next {fq = λ cs. key word.Open ∷ (listed column_pieces cs ++ key word.Close ∷ [])} (turns_parens (turns_commas (rule_row_column bytes text d) (λ c cs. refl)))
      (turns_give (λ cs. refl) (λ cs es h. ap parameter.Many h))))
      (turns_next (rule_type bytes text d) (turns_give (λ k. refl) (λ k j h. ap parameter.One h)))

  way_param : Way (rule.param bytes) (rule.param text) param_pieces placeless_param
  unfolding rule.param
  way_param = turns_next way_param_kind (turns_next (rule_variable bytes text d)
      (turns_give (λ n k. refl) (λ n m h k j i. same2 (λ (r : Name) (s : ParamKind). (let x : Param = record { name = r; kind = s } in x)) h i)))

  way_declaration : Way (rule.declaration bytes) (rule.declaration text) declared_pieces placeless_variable
  unfolding rule.declaration
  way_declaration =
      skip (plain_key word.Semicolon) (turns_next (rule_literal bytes text d) (skip (plain_key word.Equal) (turns_next (rule_variable bytes text d) (skip (plain_key word.Declare)
      (turns_give (λ n l. refl) (λ n m h k j i. same2 (λ (r : Name) (s : Lit). (let x : VarDef = record { name = r; initial = s } in x)) h i))))))

  abbrev param_list : List Param → List Piece
  param_list ps = key word.Open ∷ (listed param_pieces ps ++ key word.Close ∷ [])

  way_params : Way (rule.in_parens (rule.or_none (rule.commas (rule.param bytes)))) (rule.in_parens (rule.or_none (rule.commas (rule.param text)))) param_list (map placeless_param)
  way_params = turns_parens (turns_either (turns_commas way_param (λ p ps. refl)) (turns_give refl refl))

  way_read_only : Way (rule.read_only bytes) (rule.read_only text) read_only_pieces (λ b. b)
  unfolding rule.read_only
  way_read_only = turns_either (behind_keys (plain_key word.Read) (plain_key word.Only) (turns_give refl refl)) (turns_give refl refl)

  way_procedure : Turns (Good bytes) bytes text d (rule.procedure bytes) (rule.procedure text) Created SameKind
  unfolding rule.procedure
  way_procedure =
      skip_end_line (turns_next {fq = statements_pieces} (turns_many (way_inside bytes text d) (λ vs. refl)) (skip_open (sound_key word.Begin) (record { opens = refl; ends = refl })
      (turns_next {fq = λ vs. together (map declared_pieces vs)} (turns_many way_declaration (λ vs. refl)) (turns_next {fq = read_only_pieces} way_read_only (turns_next way_params (turns_next (rule_name bytes text d) (skip (plain_key word.Procedure)
      (turns_give (λ n params read_only vars body. ap (λ r. key word.Create ∷ key word.Procedure ∷ name_piece n ∷ r)
      (regroup_procedure (param_list params) (read_only_pieces read_only) (together (map declared_pieces vars)) (statements_pieces body) (key word.Begin) (key word.End) line_end
      ∙ ap (λ r. key word.Open ∷ r) (append_assoc (listed param_pieces params) (key word.Close ∷ [])
      (read_only_pieces read_only ++ (together (map declared_pieces vars) ++ key word.Begin ∷ (statements_pieces body ++ key word.End ∷ line_end ∷ []))))))
      (λ a a' h b b' i r r' q c c' j e e' k. ap no_block (same5 procedure_of h i q j k))))))))))

  way_create : Turns (Good bytes) bytes text d (rule.create bytes) (rule.create text) (λ i ps. ps ≡ pieces_of bytes i) (λ i j. placeless bytes i ≡ placeless text j)
  unfolding rule.create
  way_create = turns_then (turns_either way_table way_procedure) (turns_next (place_key (plain_key word.Create)) (turns_give (λ n k qs h. h) (λ n m u k j h. h)))

  abbrev rows_pieces : List LitRow → List Piece
  rows_pieces rs = key word.Open ∷ (listed row_pieces rs ++ key word.Close ∷ [])

  abbrev placeless_rows : LitRows → LitRows
  placeless_rows r = record { token = 0; rows = map placeless_row r.rows }

  way_rows : Way (rule.lit_rows bytes) (rule.lit_rows text) (λ r. key word.Rows ∷ rows_pieces r.rows) placeless_rows
  unfolding rule.lit_rows
  way_rows =
      turns_next {fq = rows_pieces} (turns_parens (turns_either (turns_commas (rule_row bytes text d) (λ r rs. refl)) (turns_give refl refl))) (turns_next (place_key (plain_key word.Rows))
      (turns_give (λ n rs. refl) (λ n m u rs ss h. ap (λ (r : List LitRow). (let x : LitRows = record { token = 0; rows = r } in x)) h)))

  way_arg : Way (rule.arg bytes) (rule.arg text) arg_pieces placeless_argument
  unfolding rule.arg
  way_arg =
      turns_either (turns_next way_rows (turns_give (λ r. refl) (λ r s h. ap argument.Many h))) (turns_next (rule_literal bytes text d) (turns_give (λ l. refl) (λ l m h. ap argument.One h)))

  abbrev arg_list : List Arg → List Piece
  arg_list as' = key word.Open ∷ (listed arg_pieces as' ++ key word.Close ∷ [])

  way_call : Turns (Good bytes) bytes text d (rule.call bytes) (rule.call text) (λ i ps. ps ≡ pieces_of bytes i) (λ i j. placeless bytes i ≡ placeless text j)
  unfolding rule.call
  way_call =
      skip_end (turns_next {fq = arg_list} (turns_parens (turns_either (turns_commas way_arg (λ v vs. refl)) (turns_give refl refl))) (turns_next (rule_name bytes text d) (turns_next (place_key (plain_key word.Call))
      (turns_give (λ n name args. simp append_assoc refl) (λ n m u a a' h b b' i. ap no_block (same2 (λ r s. Call (record { name = r; arguments = s })) h i))))))

-- the tokens end with an open block
abbrev pub EndsOpen : List Lexeme → Type 0
EndsOpen ts = (us : List Lexeme) × (l : Lexeme) × (ts ≡ us ++ l ∷ []) × (l.kind ≡ word.OpenBlock)

-- an item that was read from these tokens is read from its pieces
pub record ItemTurned (bytes text : List ℕ) (p : Part Item) (ts : List Lexeme) (i : Item) : Type 0 where
  pub sounds : Sounds (pieces_of bytes i) ⊎ (Ended (pieces_of bytes i) × EndsOpen ts)
  pub light : Light 0 0 (kinds ts) (marks (pieces_of bytes i))
  pub levels : ℕ
  pub reads : (d : ℕ) (ls : List Lexeme) → levels ≤ d → Spelled text ls (pieces_of bytes i) → Reading text p (λ j. placeless bytes i ≡ placeless text j) d ls

item_turned : {bytes text : List ℕ} {p : Part Item} {ts : List Lexeme} (i : Item) → Turned text p (λ ps. ps ≡ pieces_of bytes i) (λ j. placeless bytes i ≡ placeless text j) ts → ItemTurned bytes text p ts i
item_turned {bytes = bytes} {text = text} {p = p} {ts = ts} i a =
    let x : Prints text p (λ j. placeless bytes i ≡ placeless text j) (pieces_of bytes i) = subst (λ r. Prints text p (λ j. placeless bytes i ≡ placeless text j) r) a.is a.prints in
    record { sounds = inl x.sounds; light = subst (λ r. Light 0 0 (kinds ts) (marks r)) a.is a.light; levels = x.levels; reads = x.reads }

item_inl : {bytes text : List ℕ} {p q : Part Item} {ts : List Lexeme} {i : Item} → ItemTurned bytes text p ts i → ItemTurned bytes text (either p q) ts i
item_inl x = record { sounds = x.sounds; light = x.light; levels = x.levels; reads = λ d ls h s. (let r = x.reads d ls h s in (r.0, inl r.1, r.2)) }

item_inr : {bytes text : List ℕ} {p q : Part Item} {ts : List Lexeme} {i : Item} → ItemTurned bytes text q ts i → ItemTurned bytes text (either p q) ts i
item_inr x = record { sounds = x.sounds; light = x.light; levels = x.levels; reads = λ d ls h s. (let r = x.reads d ls h s in (r.0, inr r.1, r.2)) }

-- a block that was read from these tokens is read from its piece
record BlockTurned (bytes text : List ℕ) (ts : List Lexeme) (s : Span) : Type 0 where
  pub sounds : Sounds (span_piece bytes s ∷ []) ⊎ (Last (span_piece bytes s) × EndsOpen ts)
  pub light : Light 0 0 (kinds ts) (marks (span_piece bytes s ∷ []))
  pub reads : (d : ℕ) (ls : List Lexeme) → Spelled text ls (span_piece bytes s ∷ []) → Reading text (rule.block text) (SameSpan bytes text s) d ls

abbrev AnyLevel : List ℕ → List ℕ → Span → List Piece → Type 0
AnyLevel bytes text s ps = (d : ℕ) (ls : List Lexeme) → Spelled text ls ps → Reading text (rule.block text) (SameSpan bytes text s) d ls

closed_read : (bytes text : List ℕ) (s : Span) → s.closed ≡ true → ClosedBlock bytes s → AnyLevel bytes text s (block_piece (span_bytes bytes s) true ∷ [])
unfolding rule.block
closed_read bytes text s c b d ls z =
    let i = one_spelled text ls (block_piece (span_bytes bytes s) true) z in (
      closed_of text i.0,
      inl ([], ls, closed_of text, i.0, refl, (refl, refl), (i.1, i.2.kind), refl),
      (ap (λ (r : Bool). (let y : Span = record { token = 0; at = 0; len = 0; closed = r } in y)) c, sym (closed_again text (span_bytes bytes s) i.0 i.2)),
    )

opened_read : (bytes text : List ℕ) (s : Span) → s.closed ≡ false → AnyLevel bytes text s (block_piece (span_bytes bytes s) false ∷ [])
unfolding rule.block
opened_read bytes text s c d ls z =
    let i = one_spelled text ls (block_piece (span_bytes bytes s) false) z in (
      open_of text i.0,
      inr ([], ls, open_of text, i.0, refl, (refl, refl), (i.1, i.2.kind), refl),
      (ap (λ (r : Bool). (let y : Span = record { token = 0; at = 0; len = 0; closed = r } in y)) c, sym (opened_again text (span_bytes bytes s) i.0 i.2)),
    )

closed_turned : (bytes text : List ℕ) (ts : List Lexeme) (s : Span) → ClosedBlock bytes s × (s.closed ≡ true) → Light 0 0 (kinds ts) (word.Block ∷ []) → BlockTurned bytes text ts s
closed_turned bytes text ts s b l =
    let x : Sound (block_piece (span_bytes bytes s) true) = subst (λ r. Sound (block_piece r true)) (sym b.0.content) (closed_sound (lines_text b.0.lines) b.0.block b.0.allowed) in
    record {
      sounds = inl (inl (subst (λ c. Sound (block_piece (span_bytes bytes s) c)) (sym b.1) x), tt);
      light = subst (λ c. Light 0 0 (kinds ts) (marks (block_piece (span_bytes bytes s) c ∷ []))) (sym b.1) l;
      reads = subst (λ c. AnyLevel bytes text s (block_piece (span_bytes bytes s) c ∷ [])) (sym b.1) (closed_read bytes text s b.1 b.0);
    }

opened_turned : (bytes text : List ℕ) (ts : List Lexeme) (s : Span) → OpenedBlock bytes s × (s.closed ≡ false) × EndsOpen ts → Light 0 0 (kinds ts) (word.OpenBlock ∷ []) → BlockTurned bytes text ts s
opened_turned bytes text ts s b l = record {
  light = subst (λ c. Light 0 0 (kinds ts) (marks (block_piece (span_bytes bytes s) c ∷ []))) (sym b.1) l;
  sounds = inr (subst (λ c. Last (block_piece (span_bytes bytes s) c)) (sym b.1) (opened_last bytes s b.0), b.2);
  reads = subst (λ c. AnyLevel bytes text s (block_piece (span_bytes bytes s) c ∷ [])) (sym b.1) (opened_read bytes text s b.1);
}

gives_block : (bytes text : List ℕ) (d : ℕ) → Gives (Good bytes) bytes d (rule.block bytes) (λ ts s. BlockTurned bytes text ts s)
unfolding rule.block
gives_block bytes text d = gives_either
    (gives_next {P = λ ts l. ClosedBlock bytes (closed_of bytes l) × Light 0 0 (kinds ts) (word.Block ∷ [])} (gives_give (λ ys l h. closed_turned bytes text ys (closed_of bytes l) (h.0, refl) h.1))
    (gives_one (λ l g e. (closed_block bytes l g.0 e, subst (λ r. Light 0 0 (r ∷ []) (word.Block ∷ [])) (sym e) (light_plain 0 word.Block (record { opens = refl; closes = refl; ends = refl }))))))
    (gives_next {P = λ ts l. OpenedBlock bytes (open_of bytes l) × EndsOpen ts × Light 0 0 (kinds ts) (word.OpenBlock ∷ [])} (gives_give (λ ys l h. opened_turned bytes text ys (open_of bytes l) (h.0, refl, h.1) h.2))
    (gives_one (λ l g e. (opened_block bytes l g.0 e, ([], l, refl, e), subst (λ r. Light 0 0 (r ∷ []) (word.OpenBlock ∷ [])) (sym e) (light_plain 0 word.OpenBlock (record { opens = refl; closes = refl; ends = refl }))))))

-- an item before its block
abbrev BeforeBlock : List ℕ → (Span → Item) → List Piece → Type 0
BeforeBlock bytes h ps = (s : Span) → ps ++ span_piece bytes s ∷ [] ≡ pieces_of bytes (h s)

abbrev SameBefore : List ℕ → List ℕ → (Span → Item) → (Span → Item) → Type 0
SameBefore bytes text h j = (s w : Span) → SameSpan bytes text s w → placeless bytes (h s) ≡ placeless text (j w)

block_sounds : (bytes : List ℕ) (ts xs ys : List Lexeme) (ps : List Piece) (x : Piece) → ts ≡ xs ++ ys → Sounds ps → Sounds (x ∷ []) ⊎ (Last x × EndsOpen ys)
    → Sounds (ps ++ x ∷ []) ⊎ (Ended (ps ++ x ∷ []) × EndsOpen ts)
block_sounds bytes ts xs ys ps x e s (inl h) = inl (sounds_joined ps (x ∷ []) s h)
block_sounds bytes ts xs ys ps x e s (inr h) =
    let o = h.1 in
    inr ((ps, x, refl, s, h.0), (xs ++ o.0, o.1, e ∙ (ap (λ r. xs ++ r) o.2 ∙ sym (append_assoc xs o.0 (o.1 ∷ []))), o.3))

block_item : (bytes text : List ℕ) (ts xs ys : List Lexeme) (h : Span → Item) (s : Span) (p : Part (Span → Item)) → ts ≡ xs ++ ys
    → Turned text p (BeforeBlock bytes h) (SameBefore bytes text h) xs → BlockTurned bytes text ys s → ItemTurned bytes text (p ⊛ rule.block text) ts (h s)
block_item bytes text ts xs ys h s p e a b =
    let is = a.is s in
    record {
      light = subst (λ r. Light 0 0 (kinds ts) (marks r)) is (light_both 0 0 0 ts xs ys a.pieces (span_piece bytes s ∷ []) e a.light b.light);
      sounds = subst (λ r. Sounds r ⊎ (Ended r × EndsOpen ts)) is (block_sounds bytes ts xs ys a.pieces (span_piece bytes s) e a.prints.sounds b.sounds);
      levels = a.prints.levels;
      reads = λ d ls l z. both_read {P = SameBefore bytes text h} {Q = SameSpan bytes text s} (λ f x. f x) p (rule.block text) d ls (λ j w k m. k s w m)
          (λ r y. a.prints.reads d r l y) (λ r y. b.reads d r y) (subst (λ r. Spelled text ls r) (sym is) z);
    }

module _ (bytes text : List ℕ) (d : ℕ) where
  block_behind : {p q : Part (Span → Item)} → Turns (Good bytes) bytes text d p q (BeforeBlock bytes) (SameBefore bytes text)
      → (ts : List Lexeme) (i : Item) → AllGood (Good bytes) ts → Is (inner bytes d) (p ⊛ rule.block bytes) ts i → ItemTurned bytes text (q ⊛ rule.block text) ts i
  block_behind {q = q} x ts v g i =
      let g' = each_apart (Good bytes) i.0 i.1 (subst (AllGood (Good bytes)) i.4 g) in
      let a = x.turn i.0 i.2 g'.0 i.5 in
      let b = (gives_block bytes text d).given i.1 i.3 g'.1 i.6 in
      subst (λ r. ItemTurned bytes text (q ⊛ rule.block text) ts r) (sym i.7) (block_item bytes text ts i.0 i.1 i.2 i.3 q i.4 a b)

  abbrev copied : Name → Span → List ℕ → ItemKind × List ℕ
  copied n s b = (Copy (record { table = n; block = s }), b)

  way_copy : Turns (Good bytes) bytes text d (give copy_of ⊛ place word.Copy ⊛ rule.name bytes) (give copy_of ⊛ place word.Copy ⊛ rule.name text) (BeforeBlock bytes) (SameBefore bytes text)
  way_copy = turns_next (rule_name bytes text d) (turns_next (place_key (plain_key word.Copy)) (turns_give (λ n name s. refl) (λ n m u a b h s w k. same3 copied h k.0 k.1)))

  abbrev journaled : Span → List ℕ → ItemKind × List ℕ
  journaled s b = (Journal s, b)

  way_journal : Turns (Good bytes) bytes text d (give journal_of ⊛ place word.Journal) (give journal_of ⊛ place word.Journal) (BeforeBlock bytes) (SameBefore bytes text)
  way_journal = turns_next (place_key (plain_key word.Journal)) (turns_give (λ n s. refl) (λ n m u s w k. same2 journaled k.0 k.1))

  way_item : (ts : List Lexeme) (i : Item) → AllGood (Good bytes) ts → Is (inner bytes d) (rule.an_item bytes) ts i → ItemTurned bytes text (rule.an_item text) ts i
  unfolding rule.an_item rule.copy rule.journal
  way_item ts v g i =
      elim i as (λ j. ItemTurned bytes text (rule.an_item text) ts v) [
        | inl h ↦ item_inl (item_turned v ((way_create bytes text d).turn ts v g h))
        | inr j ↦ elim j as (λ j. ItemTurned bytes text (rule.an_item text) ts v) [
          | inl h ↦ item_inr (item_inl (block_behind way_copy ts v g h))
          | inr k ↦ elim k as (λ j. ItemTurned bytes text (rule.an_item text) ts v) [
            | inl h ↦ item_inr (item_inr (item_inl (item_turned v ((way_call bytes text d).turn ts v g h))))
            | inr h ↦ item_inr (item_inr (item_inr (block_behind way_journal ts v g h)))
          ]
        ]
      ]

  -- an item has a token
  abbrev Some : {A : Type 0} → Part A → Type 0
  Some p = Gives (Good bytes) bytes d p (λ ts v. 1 ≤ length ts)

  some_first : {A B : Type 0} {p : Part (A → B)} {q : Part A} → Some p → Some (p ⊛ q)
  some_first x = gives_both x gives_any (λ xs ys a b h k. omega (arith, length-append xs ys))

  some_second : {A B C : Type 0} {f : A → B → C} {p : Part A} {q : Part B} → Some q → Some (both f p q)
  some_second x = gives_both gives_any x (λ xs ys a b h k. omega (arith, length-append xs ys))

  some_skip : {A B C : Type 0} {f : A → B → C} {p : Part A} {q : Part B} → Some p → Some (both f p q)
  some_skip x = gives_both x gives_any (λ xs ys a b h k. omega (arith, length-append xs ys))

  some_item : Some (rule.an_item bytes)
  unfolding rule.an_item rule.create rule.copy rule.call rule.journal
  some_item =
      gives_either (some_skip (some_second (some_second (gives_one (λ l g e. omega arith)))))
      (gives_either (some_skip (some_skip (some_second (some_second (gives_one (λ l g e. omega arith))))))
      (gives_either (some_skip (some_skip (some_skip (some_second (some_second (gives_one (λ l g e. omega arith)))))))
      (some_skip (some_second (some_second (gives_one (λ l g e. omega arith)))))))

-- an open block is the last token
abbrev pub LastOpen : List Lexeme → Type 0
LastOpen [] = Unit {0}
LastOpen (l ∷ ls) = (l.kind ≡ word.OpenBlock → ls ≡ []) × LastOpen ls

open_behind : (xs ys : List Lexeme) → LastOpen (xs ++ ys) → LastOpen ys
open_behind [] ys h = h
open_behind (x ∷ xs) ys h = open_behind xs ys h.1

open_last : (us : List Lexeme) (l : Lexeme) (ys : List Lexeme) → LastOpen (us ++ l ∷ ys) → l.kind ≡ word.OpenBlock → ys ≡ []
open_last [] l ys h k = h.0 k
open_last (u ∷ us) l ys h k = open_last us l ys h.1 k

pub record ItemsTurned (bytes text : List ℕ) (vs : List Item) (ts : List Lexeme) : Type 0 where
  pub light : Light 0 0 (kinds ts) (marks (together (map (pieces_of bytes) vs)))
  pub sounds : Sounds (together (map (pieces_of bytes) vs)) ⊎ Ended (together (map (pieces_of bytes) vs))
  pub levels : ℕ
  pub reads : (d : ℕ) (ls : List Lexeme) → levels ≤ d → Spelled text ls (together (map (pieces_of bytes) vs))
      → Readings text (rule.an_item text) (λ ws. map (placeless bytes) vs ≡ map (placeless text) ws) d ls

placeless_read : (bytes text : List ℕ) (v : Item) (vs : List Item) (ps qs : List Piece) (d : ℕ) (ls : List Lexeme)
    → ((ls : List Lexeme) → Spelled text ls ps → Reading text (rule.an_item text) (λ w. placeless bytes v ≡ placeless text w) d ls)
    → ((ls : List Lexeme) → Spelled text ls qs → Readings text (rule.an_item text) (λ ws. map (placeless bytes) vs ≡ map (placeless text) ws) d ls)
    → Spelled text ls (ps ++ qs) → Readings text (rule.an_item text) (λ ws. map (placeless bytes) (v ∷ vs) ≡ map (placeless text) ws) d ls
placeless_read bytes text v vs ps qs d ls f g s =
    let i = apart text ls ps qs s in
    let a = f i.0 i.3 in
    let b = g i.1 i.4 in
    (a.0 ∷ b.0, (i.0, i.1, i.2, a.1, b.1), ap (λ r. r ∷ map (placeless bytes) vs) a.2 ∙ ap (λ r. placeless text a.0 ∷ r) b.2)

-- no items are left behind an open block
no_items : (bytes : List ℕ) (d : ℕ) (vs : List Item) (ts : List Lexeme) → AllGood (Good bytes) ts → Pieces (Is (inner bytes d) (rule.an_item bytes)) ts vs → ts ≡ [] → vs ≡ []
no_items bytes d [] ts g i e = refl
no_items bytes d (v ∷ vs) ts g i e =
    let g' = each_apart (Good bytes) i.0 i.1 (subst (AllGood (Good bytes)) i.2 g) in
    let n = (some_item bytes [] d).given i.0 v g'.0 i.3 in
    absurd (omega (arith, ap length e, ap length i.2, length-append i.0 i.1))

items_sounds : (bytes : List ℕ) (ts xs ys : List Lexeme) (ps : List Piece) (vs : List Item) → ts ≡ xs ++ ys → LastOpen ts → Sounds ps ⊎ (Ended ps × EndsOpen xs) → (ys ≡ [] → vs ≡ [])
    → Sounds (together (map (pieces_of bytes) vs)) ⊎ Ended (together (map (pieces_of bytes) vs)) → Sounds (ps ++ together (map (pieces_of bytes) vs)) ⊎ Ended (ps ++ together (map (pieces_of bytes) vs))
items_sounds bytes ts xs ys ps vs e o (inl h) n (inl k) = inl (sounds_joined ps (together (map (pieces_of bytes) vs)) h k)
items_sounds bytes ts xs ys ps vs e o (inl h) n (inr k) =
    inr (ps ++ k.0, k.1, ap (λ r. ps ++ r) k.2 ∙ sym (append_assoc ps k.0 (k.1 ∷ [])), sounds_joined ps k.0 h k.3, k.4)
items_sounds bytes ts xs ys ps vs e o (inr h) n k =
    let u = h.1 in
    let all : ts ≡ u.0 ++ u.1 ∷ ys = e ∙ (ap (λ r. r ++ ys) u.2 ∙ append_assoc u.0 (u.1 ∷ []) ys) in
    let none = n (open_last u.0 u.1 ys (subst LastOpen all o) u.3) in
    let r : Ended (ps ++ []) = subst Ended (sym (append-nil ps)) h.0 in
    subst (λ z. Sounds (ps ++ together (map (pieces_of bytes) z)) ⊎ Ended (ps ++ together (map (pieces_of bytes) z))) (sym none) (inr r)

items_turned : (bytes text : List ℕ) (d : ℕ) (vs : List Item) (ts : List Lexeme) → AllGood (Good bytes) ts → LastOpen ts → Pieces (Is (inner bytes d) (rule.an_item bytes)) ts vs → ItemsTurned bytes text vs ts
items_turned bytes text d [] ts g o i = record { light = light_nothing 0 ts i; sounds = inl tt; levels = 0; reads = λ e ls h s. ([], none_spelled text ls s, refl) }
items_turned bytes text d (v ∷ vs) ts g o i =
    let g' = each_apart (Good bytes) i.0 i.1 (subst (AllGood (Good bytes)) i.2 g) in
    let a = way_item bytes text d i.0 v g'.0 i.3 in
    let o' = open_behind i.0 i.1 (subst LastOpen i.2 o) in
    let b = items_turned bytes text d vs i.1 g'.1 o' i.4 in
    record {
      light = light_both 0 0 0 ts i.0 i.1 (pieces_of bytes v) (together (map (pieces_of bytes) vs)) i.2 a.light b.light;
      sounds = items_sounds bytes ts i.0 i.1 (pieces_of bytes v) vs i.2 o a.sounds (λ e. no_items bytes d vs i.1 g'.1 i.4 e) b.sounds;
      levels = a.levels + b.levels;
      reads = λ e ls h s. (let m = a.levels in let n = b.levels in
          placeless_read bytes text v vs (pieces_of bytes v) (together (map (pieces_of bytes) vs)) e ls (λ r z. a.reads e r (omega arith) z) (λ r z. b.reads e r (omega arith) z) s);
    }

-- a script is read from its pieces
pub record ScriptTurned (bytes text : List ℕ) (ts : List Lexeme) (s : Script) : Type 0 where
  pub light : Light 0 0 (kinds ts) (marks (script_pieces bytes s))
  pub sounds : Sounds (script_pieces bytes s) ⊎ Ended (script_pieces bytes s)
  pub levels : ℕ
  pub reads : (d : ℕ) (ls : List Lexeme) → levels ≤ d → Spelled text ls (script_pieces bytes s) → Reading text (rule.script text) (λ t. SameButPlaces bytes s text t) d ls

script_read : (bytes text : List ℕ) (d : ℕ) (ls : List Lexeme) (s : Script) → Readings text (rule.an_item text) (λ ws. map (placeless bytes) s.items ≡ map (placeless text) ws) d ls
    → Reading text (rule.script text) (λ t. SameButPlaces bytes s text t) d ls
unfolding rule.script
script_read bytes text d ls s r = (
  script_of (joined added [] r.0),
  ([], ls, script_of, joined added [] r.0, refl, (refl, refl), ([], ls, [], r.0, refl, (refl, refl), r.1, refl), refl),
  r.2 ∙ ap (map (placeless text)) (sym (joined_added [] r.0)),
)

pub script_turned : (bytes text : List ℕ) (d : ℕ) (ts : List Lexeme) (s : Script) → AllGood (Good bytes) ts → LastOpen ts → Is (inner bytes d) (rule.script bytes) ts s → ScriptTurned bytes text ts s
unfolding rule.script
script_turned bytes text d ts s g o i =
    let m = i.6 in
    let none : i.0 ≡ [] = i.5.0 in
    let first : m.0 ≡ [] = m.5.0 in
    let all : ts ≡ m.1 = i.4 ∙ (ap (λ r. r ++ i.1) none ∙ (m.4 ∙ ap (λ r. r ++ m.1) first)) in
    let list : i.3 ≡ m.3 = m.7 ∙ (joined_added m.2 m.3 ∙ ap (λ r. r ++ m.3) m.5.1) in
    let same : script_of m.3 ≡ s = ap script_of (sym list) ∙ (ap (λ f. f i.3) (sym i.5.1) ∙ sym i.7) in
    let a = items_turned bytes text d m.3 m.1 (subst (AllGood (Good bytes)) all g) (subst LastOpen all o) m.6 in
    let r : ScriptTurned bytes text ts (script_of m.3) = record { light = subst (λ z. Light 0 0 (kinds z) (marks (script_pieces bytes (script_of m.3)))) (sym all) a.light; sounds = a.sounds; levels = a.levels; reads = λ e ls h z. script_read bytes text e ls (script_of m.3) (a.reads e ls h z) } in
    subst (ScriptTurned bytes text ts) same r

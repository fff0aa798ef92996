use Rattle.std.proofs.Common.{◌≡◌, ◌++◌, drop, length}
use Rattle.std.specs.List.{flat_map}
use Rattle.mv_ast.specs.declared.tree.Item.{Item}
use Rattle.mv_names.specs.Items.{table_in, procedure_in, copy_in, call_in, journal_in}
use Rattle.mv_names.proofs.parts.part.Given as goal

abbrev pub invariant-loop-i : goal.invariant-loop-i
invariant-loop-i l = record {
  same_length : length l.items ≡ length l.fn.script.items;
  rest : drop l.i l.items ≡ drop l.i l.fn.script.items;
  tables : l.parts.tables ++ flat_map (λ (i : Item). table_in i.kind) (drop l.i l.fn.script.items) ≡ flat_map (λ (i : Item). table_in i.kind) l.fn.script.items;
  procedures : l.parts.procedures ++ flat_map (λ (i : Item). procedure_in i.kind) (drop l.i l.fn.script.items) ≡ flat_map (λ (i : Item). procedure_in i.kind) l.fn.script.items;
  copies : l.parts.copies ++ flat_map (λ (i : Item). copy_in i.kind) (drop l.i l.fn.script.items) ≡ flat_map (λ (i : Item). copy_in i.kind) l.fn.script.items;
  calls : l.parts.calls ++ flat_map (λ (i : Item). call_in i.kind) (drop l.i l.fn.script.items) ≡ flat_map (λ (i : Item). call_in i.kind) l.fn.script.items;
  journals : l.parts.journals ++ flat_map (λ (i : Item). journal_in i.kind) (drop l.i l.fn.script.items) ≡ flat_map (λ (i : Item). journal_in i.kind) l.fn.script.items;
}

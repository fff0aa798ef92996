use Rattle.mv_names.proofs.statements.is_in_key.Goals as goal

pub returns-in-Some : goal.returns-in-Some
returns-in-Some c = rw c.in-Some.is (rw (c.as_slice.ensures, c.definition.ensures) at c.has_name.ensures)

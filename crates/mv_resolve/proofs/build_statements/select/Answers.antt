use Rattle.mv_resolve.proofs.build_statements.select.Goals as goal

pub returns : goal.returns
returns c =
    rw (
      c.in_ok-columns.ensures,
      c.in_ok-variables.ensures,
      c.in_ok-conds.ensures,
      c.in_ok-sorts.ensures,
      c.in_ok-offset.ensures,
      c.numbered_table-number.ensures.number,
      c.numbered_table-number.ensures.table,
    )

use Rattle.mv_resolve.proofs.build_statements.select_loop.Goals as goal

pub returns : goal.returns
returns c =
    rw (
      c.small_number.ensures,
      c.in_ok-columns.ensures,
      c.in_ok-conds.ensures,
      c.in_ok-sorts.ensures,
      c.numbered_table-source.ensures.number,
      c.numbered_table-source.ensures.table,
    )

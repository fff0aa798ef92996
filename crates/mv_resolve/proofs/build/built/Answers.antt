use Rattle.mv_resolve.proofs.build.built.Goals as goal

pub returns : goal.returns
returns c =
    rw (
      c.in_ok-table_infos.ensures,
      c.in_ok-rows_of_tables.ensures,
      c.in_ok-procedures.ensures,
      c.in_ok-copies.ensures,
      c.in_ok-calls.ensures,
      c.journal.ensures,
      c.in_ok-index.ensures,
      c.as_slice-2.ensures,
      c.as_slice-3.ensures,
      c.in_ok-tables.ensures,
      c.as_slice.ensures,
      c.as_slice-definitions.ensures,
      c.as_slice-4.ensures,
      c.as_slice-5.ensures,
      c.as_slice-6.ensures,
      c.as_slice-7.ensures,
    )

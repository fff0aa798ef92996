use Rattle.std.proofs.Common.{arith, ℕ, ◌+◌, length, ap, ◌∙◌, Option}
use Rattle.std.specs.Option.{option_copied}
use Rattle.mv_lawful.specs.Lawful.{Schedule}
use Rattle.mv_core.specs.Books.{own_number, commit_event}
use Rattle.mv_core.proofs.Stored.{stored_committed, last_records_on}
use Rattle.mv_core.proofs.Changed.{own_same, room_less, made_after}
use Rattle.mv_core.proofs.commits.commit_task.Goals as goal

pub prepare-requires-clause-whole : goal.prepare-requires-clause-whole
prepare-requires-clause-whole c =
    last_records_on c.args.book.now c.reserve.new.self c.args.call c.records.result c.reserve.ensures.same.script (ap (λ (s : Schedule). s.order) c.reserve.ensures.same.schedule) (c.records.ensures ∙ c.requires.whole)

pub commit-commit-requires-clause-settled : goal.commit-commit-requires-clause-settled
commit-commit-requires-clause-settled c = c.reserve.ensures.same.settled c.args.call c.requires.settled

pub commit-commit-requires-clause-number : goal.commit-commit-requires-clause-number
commit-commit-requires-clause-number c =
    own_same (own_number (option_copied c.args.exclusive)) c.args.book.now c.reserve.new.self c.args.call c.reserve.ensures.same.script c.reserve.ensures.same.schedule c.requires.own

pub commit-commit-requires-clause-room : goal.commit-commit-requires-clause-room
commit-commit-requires-clause-room c = room_less c.reserve.new.self c.args.call 2 1 (omega arith) c.in_ok-reserve.ensures.room

pub stamp-requires : goal.stamp-requires
stamp-requires c =
    let last = c.in_ok-output.ensures.ok.last in
    let number = c.commit-commit.ensures.number in
    omega (arith, last, number)

pub returns-clause-made : goal.returns-clause-made
returns-clause-made c = (
  made_after (commit_event (own_number (option_copied c.args.exclusive)) c.args.call) c.args.book.now c.reserve.new.self c.commit-commit.new.self c.reserve.ensures.same c.commit-commit.ensures.made,
  c.commit-commit.ensures.number ∙ ap (λ (s : Schedule). length s.order + 1) c.reserve.ensures.same.schedule,
)

pub returns-clause-stored : goal.returns-clause-stored
returns-clause-stored c =
    let own : Option ℕ = own_number (option_copied c.args.exclusive) in
    stored_committed own c.args.call c.reserve.new.self c.commit-commit.new.self c.stamp.new.self (c.in_ok-output.ensures.ok.stamped c.commit-commit.result c.stamp.new.self c.commit-commit.ensures.number c.stamp.ensures) c.commit-commit.ensures.made

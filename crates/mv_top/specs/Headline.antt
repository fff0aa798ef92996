-- The headline: a run is serializable. This file says it in the words of lists, of the machine that executes a call alone
-- on whole tables (`result_of` and `table_after`), and of the parts of a text. It's this project's own.
use Rattle.std.specs.Prelude.{◌≡◌, ◌≤◌, ◌<◌, ℕ, ◌==◌, List, ◌∷◌, ◌++◌, Option, Some, All, Contains, map, length, slice_get, codes}
use Rattle.std.specs.List.{filter}
use Rattle.std.specs.Option.{ForSome}
use Rattle.mv_edge.specs.Edge.{Writes}
use Rattle.mv_values.specs.declared.calls.Reply.{Reply}
use Rattle.mv_values.specs.declared.calls.Options.{Options}
use Rattle.mv_values.specs.Tables.{Tables}
use Rattle.mv_values.specs.Texts.{line}
use Rattle.mv_catalog.specs.declared.resolved.Program.{Program}
use Rattle.mv_eval.specs.TableAfter.{result_of, table_after, reply_in, call_order}
use Rattle.mv_journal.specs.declared.event.Event.{Event}
use Rattle.mv_journal.specs.declared.event.Event.TheVariants.{B, R}
use Rattle.mv_journal.specs.declared.outcome.Round.{Round}
use Rattle.mv_journal.specs.declared.outcome.HistoryLine.{HistoryLine}
use Rattle.mv_lawful.specs.Outcomes.{shown}
use Rattle.mv_lawful.specs.Serializable.{begins_in, commits_in, ends_in, commits_of, commits_to, IsPlaced, start_of}
use Rattle.mv_report.specs.Text.{replies_text, history_text, journal_text, tables_text}
use Rattle.mv_accept.specs.Accepting.{Accepts}
use Rattle.mv_words.specs.declared.command.Command.{Command}
use Rattle.mv_words.specs.declared.command.Command.TheVariants.{Run, Replay}
use Rattle.mv_words.specs.Words.{command_of}
use Rattle.mv_top.specs.declared.status.Status.{Status}
use Rattle.mv_top.specs.declared.status.Status.TheVariants.{Done}

-- the bytes are a text by which the calls of the program are serializable
pub record IsSerializableText (p : Program) (bytes : List ℕ) : Type 0 where
  -- The text is the replies by call number, the calls in their order, the events that have a line, and the tables.
  pub replies : List Reply
  pub history : List HistoryLine
  pub journal : List Event
  pub tables : Tables
  pub text_is : bytes ≡ replies_text replies ++ line (codes "history") ++ history_text history ++ line (codes "journal") ++ journal_text journal ++ tables_text p.resolved.tables tables ++ line (codes "end")
  pub printed : shown journal ≡ journal
  -- The order of the history has each call of the program exactly once, and nothing else.
  pub order : List ℕ
  pub order_is : order ≡ map (λ line. line.call) history
  pub calls : All (λ c. c < length p.resolved.calls) order
  pub once : (c : ℕ) → c < length p.resolved.calls → length (filter (λ d. d == c) order) ≡ 1
  -- Each call has a reply. A call with k calls before it has the reply of the call executed alone on the tables
  -- that these k calls leave, executed alone one after another. So a call is done, or it has the end that the machine
  -- gives it. The tables are those after all calls.
  pub count : length replies ≡ length p.resolved.calls
  pub alone : (k c : ℕ) → slice_get order k ≡ Some c → slice_get replies c ≡ Some (reply_in (result_of p c (table_after p order k)))
  pub last : tables ≡ table_after p order (length order)
  -- By the events the calls begin by their numbers, and those that aren't answered commit in this order. Each commits or
  -- is answered after its own begin. So a call that had committed before another began stands before it.
  pub begun : begins_in journal ≡ call_order p
  pub committed : commits_in journal ≡ map (λ line. line.call) (commits_of history)
  pub between : (before later : List Event) (c : ℕ) → journal ≡ before ++ B c ∷ later → Contains (ends_in later) c
  -- A commit stands by its number, and an answered call at its last start, which is no greater than the number of commits
  -- before its answer.
  pub placed : (k : ℕ) (call : HistoryLine) → slice_get history k ≡ Some call → IsPlaced (commits_to k history) call.commit call.rounds
  pub answered : (before later : List Event) (k : ℕ) (call : HistoryLine) → journal ≡ before ++ R call.call ∷ later → slice_get history k ≡ Some call → commits_to k history ≤ length (commits_in before)
  -- The first start of a call is the number of commits before its begin. No start of a call, the last one included, is
  -- greater than the number of commits before its line.
  pub first : (before later : List Event) (k : ℕ) (call : HistoryLine) → journal ≡ before ++ B call.call ∷ later → slice_get history k ≡ Some call → start_of call.rounds ≡ Some (length (commits_in before))
  pub starts : (k : ℕ) (call : HistoryLine) → slice_get history k ≡ Some call → All (λ (round : Round). round.start ≤ commits_to k history) call.rounds

-- they are such a text for the program of a script
abbrev pub IsSerializableFor : List ℕ → List ℕ → Type 0
IsSerializableFor script bytes = (program : Program) × Accepts script program × IsSerializableText program bytes

-- with Done a command has written such a text for the script that the source had
abbrev pub WroteSerializable : Command → List (List ℕ) → Option (List ℕ) → Option (List ℕ) → Option (List ℕ) → Status → Type 0
WroteSerializable command words left old new status =
    command_of words ≡ Some command → status ≡ Done → ForSome left (λ script. (bytes : List ℕ) × IsSerializableFor script bytes × Writes old new bytes)

-- so has each `run`, whatever the number of its workers is, and each `replay`
abbrev pub IsSerializable : List (List ℕ) → Option (List ℕ) → Option (List ℕ) → Option (List ℕ) → Status → Type 0
IsSerializable words left old new status =
    ((threads : ℕ) (options : Options) → WroteSerializable (Run threads options) words left old new status) × ((options : Options) → WroteSerializable (Replay options) words left old new status)

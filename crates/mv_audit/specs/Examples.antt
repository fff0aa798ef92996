-- Reports of two transfers and their verdicts, worked out by hand. No table is printed. This project's own.
use Rattle.std.specs.Prelude.{◌≡◌, ℕ, List, [], ◌∷◌, ◌++◌, codes}
use Rattle.mv_values.specs.Texts.{line, lines_text}
use Rattle.mv_lawful.specs.Batch.{Batch}
use Rattle.mv_lawful.specs.Examples.{bank, transfer}
use Rattle.mv_audit.specs.declared.verdict.Verdict.{Verdict}
use Rattle.mv_audit.specs.declared.verdict.Verdict.TheVariants.{Yes, NoJournal, Line}
use Rattle.mv_audit.specs.Verdicts.{verdict_of}

-- transfers between other accounts, which meet at the fee
abbrev pub transfers : Batch
transfers = bank (transfer 1 2 10 ∷ transfer 3 4 10 ∷ [])

abbrev pub IsJudged : List ℕ → Verdict → Type 0
IsJudged report verdict = verdict_of [] transfers report ≡ verdict

-- a report with these lines before, in and after its journal
abbrev pub report_of : List (List ℕ) → List (List ℕ) → List (List ℕ) → List ℕ
report_of before journal after = lines_text before ++ line (codes "journal") ++ lines_text journal ++ lines_text after

-- the lines before the journal of a run that repairs the second call
abbrev pub heads : List (List ℕ)
heads = codes "reply 0 done" ∷ codes "reply 1 done" ∷ codes "history" ∷ codes "1 0 starts 0 runs 5" ∷ codes "2 1 starts 0,1 runs 5+1" ∷ []

abbrev pub begins : List (List ℕ)
begins = codes "B 0" ∷ codes "B 1" ∷ codes "C 0" ∷ []

abbrev pub repair : List (List ℕ)
repair = codes "A 1" ∷ codes "C 1" ∷ []

abbrev pub end : List (List ℕ)
end = codes "end" ∷ []

abbrev pub Repaired : Type 0
Repaired = IsJudged (report_of heads (begins ++ repair) end) Yes

-- a repair that executes another number of statements
abbrev pub ChangedCount : Type 0
ChangedCount =
    IsJudged (report_of (codes "reply 0 done" ∷ codes "reply 1 done" ∷ codes "history" ∷ codes "1 0 starts 0 runs 5" ∷ codes "2 1 starts 0,1 runs 5+5" ∷ []) (begins ++ repair) end) (Line 5)

-- a call that is hit commits without a repair
abbrev pub NoRepair : Type 0
NoRepair = IsJudged (report_of heads (begins ++ codes "C 1" ∷ []) end) (Line 10)

-- the last line is missing
abbrev pub NoEnd : Type 0
NoEnd = IsJudged (report_of heads (begins ++ repair) []) (Line 12)

abbrev pub NoReport : Type 0
NoReport = IsJudged [] NoJournal

-- a call stays open
abbrev pub Lone : Type 0
Lone = IsJudged (report_of heads begins end) (Line 10)

-- a zero ahead of the number of a call: the event is read, but its line isn't that of the text
abbrev pub ZeroAhead : Type 0
ZeroAhead = IsJudged (report_of heads (codes "B 00" ∷ codes "B 1" ∷ codes "C 0" ∷ repair) end) (Line 7)

-- statements and collections have no line
abbrev pub Statement : Type 0
Statement = IsJudged (report_of heads (codes "B 0" ∷ codes "S 0" ∷ codes "B 1" ∷ codes "C 0" ∷ repair) end) (Line 8)

abbrev pub Collection : Type 0
Collection = IsJudged (report_of heads (begins ++ codes "G" ∷ repair) end) (Line 10)

-- a line after the last one
abbrev pub Further : Type 0
Further = IsJudged (report_of heads (begins ++ repair) (codes "end" ∷ codes "" ∷ [])) (Line 13)

-- the last line has no LF
abbrev pub NoLastEnd : Type 0
NoLastEnd = IsJudged (report_of heads (begins ++ repair) [] ++ codes "end") (Line 12)

-- a CR before the LF of an event
abbrev pub Returns : Type 0
Returns = IsJudged (report_of heads (codes "B 0" ∷ (codes "B 1" ++ 13 ∷ []) ∷ codes "C 0" ∷ repair) end) (Line 8)

-- within quotes no journal begins, and each LF counts
abbrev pub Quoted : Type 0
Quoted = IsJudged (report_of (codes "reply 0 done" ∷ codes "'" ∷ codes "journal" ∷ codes "'" ∷ []) (codes "B 0" ∷ codes "Q" ∷ []) end) (Line 7)

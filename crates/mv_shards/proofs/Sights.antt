-- What a view of shards keeps and answers.
use Rattle.std.proofs.Common.{◌≡◌, ◌<◌, ℕ, Option, Some, None, inl, inr, length, sym, subst, ◌∙◌, arith}
use Rattle.atomic_table.specs.Seated.{TableId}
use Rattle.mv_lawful.specs.Rounds.{IsPast}
use Rattle.mv_view.specs.declared.view.Refused.{Refused}
use Rattle.mv_view.specs.declared.view.Refused.TheVariants.{NoMemory, Stale}
use Rattle.mv_seats.specs.Scripts.{BoardScript}
use Rattle.mv_seats.specs.Knowing.{Knows}
use Rattle.mv_seats.proofs.Prefixes.{prefix_length}
use Rattle.mv_shards.specs.Parts.{eight}
use Rattle.mv_shards.specs.Kept.{HasGrown, IsLow}
use Rattle.mv_shards.specs.Reads.{MayRead, IsRefusal, low_after}
use Rattle.mv_shards.specs.Leaves.{IsLeave}
use Rattle.mv_shards.proofs.Stored.{low_more}
use Rattle.mv_shards.proofs.Reading.{reads_still}

abbrev pub IsView : BoardScript → TableId → ℕ → ℕ → Option ℕ → Knows → Type 0
IsView s word n low shown k = MayRead s eight n k × IsLow s.options.horizon low (length k.seen) × IsLeave s word shown n

pub leave_still : (s : BoardScript) (word : TableId) (n : ℕ) (old new : Option ℕ) → new ≡ old → IsLeave s word old n → IsLeave s word new n
leave_still s word n old new e h need = e ∙ h need

pub view_keeps : (s : BoardScript) (word : TableId) (n low : ℕ) (shown after : Option ℕ) (old new : Knows) → IsView s word n low shown old → HasGrown old new → after ≡ shown → IsView s word n low after new
view_keeps s word n low shown after old new h g e =
    (reads_still s eight n old new h.0 g, low_more s.options.horizon low (length old.seen) (length new.seen) (prefix_length old.seen new.seen g.seen) h.1, leave_still s word n shown after e h.2)

-- rows that a horizon doesn't keep are those of a start that lies further back
pub low_past : (horizon : Option ℕ) (n low seen : ℕ) → n < low → IsLow horizon low seen → IsPast horizon n seen
low_past None n low seen less is = absurd (omega (arith, less, is))
low_past (Some h) n low seen less (inl none) = absurd (omega (arith, less, none))
low_past (Some h) n low seen less (inr is) = omega (arith, less, is)

-- the low of a refusal lies below what the horizon keeps
pub view_refused : (s : BoardScript) (word : TableId) (n low last : ℕ) (shown after : Option ℕ) (old new : Knows) (refused : Refused) → IsView s word n low shown old → HasGrown old new → after ≡ shown → IsRefusal s n (length new.seen) refused → last ≡ low_after low refused → IsView s word n last after new
view_refused s word n low last shown after old new NoMemory h g f r e = subst (λ l. IsView s word n l after new) (sym e) (view_keeps s word n low shown after old new h g f)
view_refused s word n low last shown after old new (Stale start l) h g f r e =
    let kept : IsLow s.options.horizon l (length new.seen) = subst (λ o. IsLow o l (length new.seen)) (sym r.2.1) (inr r.2.2) in
    (reads_still s eight n old new h.0 g, subst (λ k. IsLow s.options.horizon k (length new.seen)) (sym e) kept, leave_still s word n shown after f h.2)

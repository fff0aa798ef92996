-- What bytes stand for fits together with them.
use Rattle.std.proofs.Common.{◌≡◌, ◌≤◌, ℕ, List, [], length, sym, subst, ◌∙◌}
use Rattle.mv_ast.specs.declared.tree.Script.{Script}
use Rattle.mv_ast.specs.Keys.{HasKeys}
use Rattle.mv_ast.specs.Lexemes.{lexemes}
use Rattle.mv_ast.specs.Limits.{script_passes}
use Rattle.mv_ast.proofs.Keyed.{keyed}
use Rattle.mv_ast.proofs.Limited.{kept}
use Rattle.mv_catalog.specs.declared.resolved.Program.{Program}
use Rattle.mv_catalog.specs.declared.resolved.Resolved.{Resolved}
use Rattle.mv_catalog.specs.Text.{FitsText}
use Rattle.mv_resolve.proofs.Whole.{fits_text}
use Rattle.mv_opening.specs.Opening.{FitTogether}
use Rattle.mv_opening.proofs.Together.{fits_together, few_calls}
use Rattle.mv_accept.specs.Accepting.{Spells, StandsFor, Accepts, most_calls}

pub fitting : (bytes : List ℕ) (resolved : Resolved) → StandsFor bytes resolved → FitTogether resolved bytes
fitting bytes resolved s =
    let spelled = s.1 in
    subst (λ (r : Resolved). FitTogether r bytes) (sym s.2.1) (fits_together bytes spelled.0 s.0 spelled.1.0 spelled.1.1 spelled.2 s.2.0)

pub few : (bytes : List ℕ) (resolved : Resolved) → StandsFor bytes resolved → length resolved.calls ≤ most_calls
few bytes resolved s =
    let spelled = s.1 in
    subst (λ (r : Resolved). length r.calls ≤ most_calls) (sym s.2.1) (few_calls bytes spelled.0 s.0 spelled.2)

-- a script that bytes spell passes no limit, and each of its tables names a key column
pub kept_limits : (bytes : List ℕ) (script : Script) → Spells bytes script → script_passes script ≡ []
kept_limits bytes script s = kept bytes (lexemes bytes s.0) script s.2.late

pub has_keys : (bytes : List ℕ) (script : Script) → Spells bytes script → HasKeys script
has_keys bytes script s = keyed bytes s.0 script s.2.grammar

-- so the program of accepted bytes is consistent
pub accepted_fits : (bytes : List ℕ) (program : Program) → Accepts bytes program → FitsText program.resolved
accepted_fits bytes program a =
    let loaded = a.0 in
    let script : Script = loaded.1.0 in
    subst FitsText (sym (loaded.2.0 ∙ loaded.1.2.1)) (fits_text script loaded.1.2.0 (kept_limits bytes script loaded.1.1) (has_keys bytes script loaded.1.1))

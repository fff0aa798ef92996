-- Names and types, and the opening rows, answer exactly.
use Rattle.std.proofs.Common.{◌≡◌, ◌⊎◌, inl, inr, ℕ, false, List, [], ◌∷◌, ◌++◌, Result, Ok, Err, refl, sym, ap, subst, ◌∙◌, arith, length, nat_lt, ◌==◌, ◌&&◌, ◌||◌}
use Rattle.std.proofs.Math.Seq.{get_or-append_seam}
use Rattle.std.proofs.lemmas.List.{length-append}
use Rattle.std.specs.Prelude.{All}
use Rattle.mv_values.specs.Tables.{Tables}
use Rattle.mv_ast.specs.declared.tree.Script.{Script}
use Rattle.mv_names.specs.declared.fault.TokenFault.{TokenFault}
use Rattle.mv_names.specs.declared.fault.FaultKind.{FaultKind}
use Rattle.mv_names.specs.declared.fault.FaultKind.TheVariants as kind
use Rattle.mv_names.specs.First.{IsFirst, is_before, rank}
use Rattle.mv_names.specs.Faults.{faults}
use Rattle.mv_resolve.specs.declared.refused.NameFault.{NameFault}
use Rattle.mv_resolve.specs.declared.refused.NameFault.TheVariants as naming
use Rattle.mv_catalog.specs.declared.resolved.Resolved.{Resolved}
use Rattle.mv_catalog.specs.declared.resolved.Program.{Program}
use Rattle.mv_resolve.specs.Resolving.{Refuses}
use Rattle.mv_resolve.specs.Building.{resolved_of}
use Rattle.mv_opening.specs.declared.fault.OpeningFault.{OpeningFault}
use Rattle.mv_opening.specs.declared.fault.OpeningFault.TheVariants as opening
use Rattle.mv_opening.specs.Opening.{IsOpening, HasNoOpening}
use Rattle.mv_accept.specs.declared.refusal.ScriptRefusal.{ScriptRefusal}
use Rattle.mv_accept.specs.declared.accept.NotAccepted.{NotAccepted}
use Rattle.mv_accept.specs.declared.accept.NotAccepted.TheVariants.{Refused, NoMemory}
use Rattle.mv_accept.specs.Exact.{Exact, HasCause}
use Rattle.mv_accept.specs.Accepting.{Means, HasFault, refusal_at, Opens, TellsOfRows, HasNoRows}
use Rattle.mv_accept.specs.Telling.{of_naming, OfOpening}

-- The first of faults is one
same_kind : (k l : FaultKind) → rank k ≡ rank l → k ≡ l
same_kind kind.UnknownName kind.UnknownName e = refl
same_kind kind.DoubleName kind.DoubleName e = refl
same_kind kind.WrongType kind.WrongType e = refl
same_kind kind.KeyAssigned kind.KeyAssigned e = refl
same_kind kind.Late kind.Late e = refl
same_kind kind.Writes kind.Writes e = refl
same_kind kind.UnknownName kind.DoubleName e = absurd (omega (arith, e))
same_kind kind.UnknownName kind.WrongType e = absurd (omega (arith, e))
same_kind kind.UnknownName kind.KeyAssigned e = absurd (omega (arith, e))
same_kind kind.UnknownName kind.Late e = absurd (omega (arith, e))
same_kind kind.UnknownName kind.Writes e = absurd (omega (arith, e))
same_kind kind.DoubleName kind.UnknownName e = absurd (omega (arith, e))
same_kind kind.DoubleName kind.WrongType e = absurd (omega (arith, e))
same_kind kind.DoubleName kind.KeyAssigned e = absurd (omega (arith, e))
same_kind kind.DoubleName kind.Late e = absurd (omega (arith, e))
same_kind kind.DoubleName kind.Writes e = absurd (omega (arith, e))
same_kind kind.WrongType kind.UnknownName e = absurd (omega (arith, e))
same_kind kind.WrongType kind.DoubleName e = absurd (omega (arith, e))
same_kind kind.WrongType kind.KeyAssigned e = absurd (omega (arith, e))
same_kind kind.WrongType kind.Late e = absurd (omega (arith, e))
same_kind kind.WrongType kind.Writes e = absurd (omega (arith, e))
same_kind kind.KeyAssigned kind.UnknownName e = absurd (omega (arith, e))
same_kind kind.KeyAssigned kind.DoubleName e = absurd (omega (arith, e))
same_kind kind.KeyAssigned kind.WrongType e = absurd (omega (arith, e))
same_kind kind.KeyAssigned kind.Late e = absurd (omega (arith, e))
same_kind kind.KeyAssigned kind.Writes e = absurd (omega (arith, e))
same_kind kind.Late kind.UnknownName e = absurd (omega (arith, e))
same_kind kind.Late kind.DoubleName e = absurd (omega (arith, e))
same_kind kind.Late kind.WrongType e = absurd (omega (arith, e))
same_kind kind.Late kind.KeyAssigned e = absurd (omega (arith, e))
same_kind kind.Late kind.Writes e = absurd (omega (arith, e))
same_kind kind.Writes kind.UnknownName e = absurd (omega (arith, e))
same_kind kind.Writes kind.DoubleName e = absurd (omega (arith, e))
same_kind kind.Writes kind.WrongType e = absurd (omega (arith, e))
same_kind kind.Writes kind.KeyAssigned e = absurd (omega (arith, e))
same_kind kind.Writes kind.Late e = absurd (omega (arith, e))

there : (P : TokenFault → Type 0) (fs front : List TokenFault) (f : TokenFault) (back : List TokenFault) → fs ≡ front ++ f ∷ back → All P fs → P f
there P fs front f back e h =
    let all : All P (front ++ f ∷ back) = subst (All P) e h in
    subst P (get_or-append_seam front f back f) (all (length front) f (omega (arith, length-append front (f ∷ back))))

same_place : (a b r s : ℕ) → (nat_lt a b || (a == b && nat_lt r s)) ≡ false → (nat_lt b a || (b == a && nat_lt s r)) ≡ false → (a ≡ b) × (r ≡ s)
same_place a b r s h k = (grind (arith, h, k), grind (arith, h, k))

abbrev fault_at : ℕ → FaultKind → TokenFault
fault_at token kind = record { token = token; kind = kind }

same_fault : (f g : TokenFault) → f.token ≡ g.token → f.kind ≡ g.kind → f ≡ g
same_fault f g t k = ap (λ n. fault_at n f.kind) t ∙ ap (fault_at g.token) k

pub one_first : (fs : List TokenFault) (f g : TokenFault) → IsFirst fs f → IsFirst fs g → f ≡ g
one_first fs f g h k =
    let g_not : is_before g f ≡ false = there (λ x. is_before x f ≡ false) fs k.0 g k.1 k.2 h.3 in
    let f_not : is_before f g ≡ false = there (λ x. is_before x g ≡ false) fs h.0 f h.1 h.2 k.3 in
    let same = same_place f.token g.token (rank f.kind) (rank g.kind) f_not g_not in
    same_fault f g same.0 (same_kind f.kind g.kind same.1)

none_first : (fs : List TokenFault) (f : TokenFault) → fs ≡ [] → IsFirst fs f → ⊥
none_first fs f e h = absurd (let e2 = h.2 in omega (arith, ap length e, ap length h.2, length-append h.0 (f ∷ h.1)))

-- what is answered of a fault of names is its refusal
abbrev TellsFault : Script → NotAccepted → Type 0
TellsFault script told = (told ≡ NoMemory) ⊎ ((f : TokenFault) × IsFirst (faults script) f × (told ≡ Refused (refusal_at f.kind f.token)))

tells_fault : (script : Script) (f : NameFault) → Refuses script f → TellsFault script (of_naming f)
tells_fault script (naming.UnknownName token) h = inr (record { token = token; kind = kind.UnknownName }, h, refl)
tells_fault script (naming.DoubleName token) h = inr (record { token = token; kind = kind.DoubleName }, h, refl)
tells_fault script (naming.WrongType token) h = inr (record { token = token; kind = kind.WrongType }, h, refl)
tells_fault script (naming.KeyAssigned token) h = inr (record { token = token; kind = kind.KeyAssigned }, h, refl)
tells_fault script (naming.Late token) h = inr (record { token = token; kind = kind.Late }, h, refl)
tells_fault script (naming.Writes token) h = inr (record { token = token; kind = kind.Writes }, h, refl)
tells_fault script naming.NoMemory h = inl refl

-- Names and types
pub named : (script : Script) (resolved : Resolved) → faults script ≡ [] → resolved ≡ resolved_of script → Exact (Means script) (HasFault script) (Ok resolved)
named script resolved none is = record {
  found = (none, is);
  only = λ other h. is ∙ sym h.1;
  refused = tt;
  told = λ refusal c. none_first (faults script) c.0 none c.1;
}

cause_of : (script : Script) (told : NotAccepted) → TellsFault script told → HasCause (HasFault script) told
cause_of script told (inl e) = subst (HasCause (HasFault script)) (sym e) tt
cause_of script told (inr t) = subst (HasCause (HasFault script)) (sym t.2) (t.0, t.1, refl)

told_of : (script : Script) (told : NotAccepted) → TellsFault script told → (refusal : ScriptRefusal) → HasFault script refusal → (told ≡ Refused refusal) ⊎ (told ≡ NoMemory)
told_of script told (inl e) refusal c = inr e
told_of script told (inr t) refusal c =
    let same : t.0 ≡ c.0 = one_first (faults script) t.0 c.0 t.1 c.1 in
    inl (t.2 ∙ ap Refused (ap (λ (f : TokenFault). refusal_at f.kind f.token) same ∙ sym c.2))

only_memory : (script : Script) (told : NotAccepted) → TellsFault script told → (resolved : Resolved) → Means script resolved → told ≡ NoMemory
only_memory script told (inl e) resolved h = e
only_memory script told (inr t) resolved h = absurd (none_first (faults script) t.0 h.0 t.1)

pub misnamed : (script : Script) (f : NameFault) → Refuses script f → Exact (Means script) (HasFault script) (Err (of_naming f))
misnamed script f h =
    let t = tells_fault script f h in
    record { found = tt; only = only_memory script (of_naming f) t; refused = cause_of script (of_naming f) t; told = told_of script (of_naming f) t }

-- The rows that the calls begin with
abbrev program_of : Resolved → Tables → Program
program_of resolved tables = record { resolved = resolved; opening = tables }

abbrev TellsRows : List ℕ → Resolved → Result Tables OpeningFault → Type 0
TellsRows bytes resolved r = (f : OpeningFault) → HasNoOpening resolved bytes f → (r ≡ Err f) ⊎ (r ≡ Err opening.NoMemory)

pub opened : (bytes : List ℕ) (resolved : Resolved) (tables : Tables) → IsOpening resolved bytes tables → ((others : Tables) → IsOpening resolved bytes others → tables ≡ others)
    → TellsRows bytes resolved (Ok tables)
    → (let p : Program = record { resolved = resolved; opening = tables } in Exact (Opens bytes resolved) (HasNoRows bytes resolved) (Ok p))
opened bytes resolved tables is same told = record {
  found = (refl, is);
  only = λ p h. ap (λ r. program_of r tables) (sym h.0) ∙ ap (program_of p.resolved) (same p.opening h.1);
  refused = tt;
  told = λ refusal c. elim (told c.0 c.1) [ inl never ↦ cc | inr never ↦ cc ];
}

same_told : (resolved : Resolved) (f : OpeningFault) (r s : ScriptRefusal) → TellsOfRows resolved f r → TellsOfRows resolved f s → r ≡ s
same_told resolved (opening.Field t row column) r s h k = h ∙ sym k
same_told resolved (opening.Width t row) r s h k = h ∙ sym k
same_told resolved (opening.Duplicate t row) r s h k = h ∙ sym k
same_told resolved opening.OpenBlock r s h k = h ∙ sym k
same_told resolved opening.NoMemory r s h k = absurd h

memory_told : (resolved : Resolved) (f : OpeningFault) (told : NotAccepted) → f ≡ opening.NoMemory → OfOpening resolved f told → told ≡ NoMemory
memory_told resolved f (Refused refusal) e o = absurd (subst (λ (g : OpeningFault). OfOpening resolved g (Refused refusal)) e o)
memory_told resolved f NoMemory e o = refl

row_cause : (bytes : List ℕ) (resolved : Resolved) (f : OpeningFault) (told : NotAccepted) → OfOpening resolved f told → (f ≡ opening.NoMemory) ⊎ HasNoOpening resolved bytes f
    → HasCause (HasNoRows bytes resolved) told
row_cause bytes resolved f (Refused refusal) o (inl e) = absurd (subst (λ (g : OpeningFault). OfOpening resolved g (Refused refusal)) e o)
row_cause bytes resolved f (Refused refusal) o (inr h) = (f, h, o)
row_cause bytes resolved f NoMemory o h = tt

row_told : (bytes : List ℕ) (resolved : Resolved) (f g : OpeningFault) (told : NotAccepted) → OfOpening resolved f told → f ≡ g → (refusal : ScriptRefusal) → TellsOfRows resolved g refusal
    → (told ≡ Refused refusal) ⊎ (told ≡ NoMemory)
row_told bytes resolved f g (Refused other) o e refusal t = inl (ap Refused (same_told resolved g other refusal (subst (λ (x : OpeningFault). TellsOfRows resolved x other) e o) t))
row_told bytes resolved f g NoMemory o e refusal t = inr refl

pub not_opened : (bytes : List ℕ) (resolved : Resolved) (f : OpeningFault) (told : NotAccepted) → OfOpening resolved f told
    → ((tables : Tables) → IsOpening resolved bytes tables → f ≡ opening.NoMemory)
    → (f ≡ opening.NoMemory) ⊎ HasNoOpening resolved bytes f
    → TellsRows bytes resolved (Err f)
    → Exact (Opens bytes resolved) (HasNoRows bytes resolved) (Err told)
not_opened bytes resolved f told o only cause all = record {
  found = tt;
  only = λ p h. memory_told resolved f told (only p.opening h.1) o;
  refused = row_cause bytes resolved f told o cause;
  told = λ refusal c. elim (all c.0 c.1) [
    | inl e ↦ (let same : f ≡ c.0 = cc in row_told bytes resolved f c.0 told o same refusal c.2)
    | inr e ↦ (let same : f ≡ opening.NoMemory = cc in inr (memory_told resolved f told same o))
  ];
}

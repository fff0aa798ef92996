-- Two answers behind one another: where each is exact, so is the last.
use Rattle.std.proofs.Common.{◌≡◌, ◌⊎◌, inl, inr, Result, Ok, Err, sym, subst}
use Rattle.std.specs.Prelude.{IfOk, IfErr}
use Rattle.mv_accept.specs.declared.refusal.ScriptRefusal.{ScriptRefusal}
use Rattle.mv_accept.specs.declared.accept.NotAccepted.{NotAccepted}
use Rattle.mv_accept.specs.declared.accept.NotAccepted.TheVariants.{Refused, NoMemory}
use Rattle.mv_accept.specs.Exact.{Exact, HasCause}

module _ {A B : Type 0} (P : A → Type 0) (C : ScriptRefusal → Type 0) (Q : A → B → Type 0) (D : A → ScriptRefusal → Type 0) where
  -- what there is behind what there is
  abbrev pub Then : B → Type 0
  Then b = (a : A) × P a × Q a b

  -- why there is none: there is nothing to begin with, or nothing behind it
  abbrev pub Neither : ScriptRefusal → Type 0
  Neither refusal = C refusal ⊎ ((a : A) × P a × D a refusal)

  cause_of_first : (f : NotAccepted) → HasCause C f → HasCause Neither f
  cause_of_first (Refused refusal) c = inl c
  cause_of_first NoMemory c = c

  cause_of_next : (a : A) → P a → (f : NotAccepted) → HasCause (D a) f → HasCause Neither f
  cause_of_next a p (Refused refusal) d = inr (a, p, d)
  cause_of_next a p NoMemory d = d

  -- nothing was found to begin with
  pub failed : (f : NotAccepted) → Exact P C (Err f) → Exact Then Neither (Err f)
  failed f e = record {
    found = tt;
    only = λ b t. e.only t.0 t.1;
    refused = cause_of_first f e.refused;
    told = λ refusal n. elim n [
      | inl c ↦ e.told refusal c
      | inr d ↦ inr (e.only d.0 d.1)
    ];
  }

  same : (a b : A) → Exact P C (Ok a) → P b → a ≡ b
  same a b e p = e.only b p

  found_next : (a : A) → P a → (r : Result B NotAccepted) → IfOk r (Q a) → IfOk r Then
  found_next a p (Ok b) q = (a, p, q)
  found_next a p (Err f) q = tt

  refused_next : (a : A) → P a → (r : Result B NotAccepted) → IfErr r (HasCause (D a)) → IfErr r (HasCause Neither)
  refused_next a p (Ok b) d = tt
  refused_next a p (Err f) d = cause_of_next a p f d

  -- the next answer is that to what was found
  pub passed : (a : A) (r : Result B NotAccepted) → Exact P C (Ok a) → Exact (Q a) (D a) r → Exact Then Neither r
  passed a r e n = record {
    found = found_next a e.found r n.found;
    only = λ b t. n.only b (subst (λ (x : A). Q x b) (sym (same a t.0 e t.1)) t.2);
    refused = refused_next a e.found r n.refused;
    told = λ refusal c. elim c [
      | inl h ↦ absurd (e.told refusal h)
      | inr d ↦ n.told refusal (subst (λ (x : A). D x refusal) (sym (same a d.0 e d.1)) d.2)
    ];
  }

-- A test of what was found: where both are exact, so is what passes.
module _ {A : Type 0} (P : A → Type 0) (C : ScriptRefusal → Type 0) (Q : A → Type 0) (D : A → ScriptRefusal → Type 0) where
  abbrev pub Passes : A → Type 0
  Passes a = P a × Q a

  abbrev pub Fails : ScriptRefusal → Type 0
  Fails refusal = C refusal ⊎ ((a : A) × P a × D a refusal)

  cause_of_none : (f : NotAccepted) → HasCause C f → HasCause Fails f
  cause_of_none (Refused refusal) c = inl c
  cause_of_none NoMemory c = c

  cause_of_test : (a : A) → P a → (f : NotAccepted) → HasCause (D a) f → HasCause Fails f
  cause_of_test a p (Refused refusal) d = inr (a, p, d)
  cause_of_test a p NoMemory d = d

  -- nothing was found
  pub none_found : (f : NotAccepted) → Exact P C (Err f) → Exact Passes Fails (Err f)
  none_found f e = record {
    found = tt;
    only = λ a t. e.only a t.0;
    refused = cause_of_none f e.refused;
    told = λ refusal n. elim n [
      | inl c ↦ e.told refusal c
      | inr d ↦ inr (e.only d.0 d.1)
    ];
  }

  found_same : (a b : A) → Exact P C (Ok a) → P b → a ≡ b
  found_same a b e p = e.only b p

  -- what was found passes
  pub test_passed : (a : A) → Exact P C (Ok a) → Q a → ((refusal : ScriptRefusal) → D a refusal → ⊥) → Exact Passes Fails (Ok a)
  test_passed a e q never = record {
    found = (e.found, q);
    only = λ b t. e.only b t.0;
    refused = tt;
    told = λ refusal c. elim c [
      | inl h ↦ absurd (e.told refusal h)
      | inr d ↦ absurd (never refusal (subst (λ (x : A). D x refusal) (sym (found_same a d.0 e d.1)) d.2))
    ];
  }

  -- it doesn't
  pub test_failed : (a : A) (f : NotAccepted) → Exact P C (Ok a) → (Q a → f ≡ NoMemory) → HasCause (D a) f → ((refusal : ScriptRefusal) → D a refusal → (f ≡ Refused refusal) ⊎ (f ≡ NoMemory))
      → Exact Passes Fails (Err f)
  test_failed a f e lost cause told = record {
    found = tt;
    only = λ b t. lost (subst Q (sym (found_same a b e t.0)) t.1);
    refused = cause_of_test a e.found f cause;
    told = λ refusal c. elim c [
      | inl h ↦ absurd (e.told refusal h)
      | inr d ↦ told refusal (subst (λ (x : A). D x refusal) (sym (found_same a d.0 e d.1)) d.2)
    ];
  }

-- Events, one after another.
use Rattle.std.proofs.Common.{◌≡◌, ℕ, ◌+◌, ◌-◌, ◌<◌, ◌≤◌, List, [], ◌∷◌, ◌++◌, Some, None, Ok, Err, length, take, drop, get_or, refl, sym, ap, subst, ◌∙◌, arith, append_assoc, append-nil}
use Rattle.std.specs.Option.{option_map}
use Rattle.std.proofs.lemmas.List.{take_more, drop_more, take-append-drop, take_all, drop_all, get_or_default}
use Rattle.mv_journal.specs.declared.event.Event.{Event}
use Rattle.mv_core.specs.declared.drive.DriveFault.{DriveFault}
use Rattle.mv_core.specs.declared.drive.DriveFault.TheVariants as fault
use Rattle.mv_lawful.specs.declared.fault.Wrong.TheVariants as wrong
use Rattle.mv_core.specs.declared.drive.EventRefusal.{EventRefusal}
use Rattle.mv_core.specs.declared.drive.EventRefusal.TheVariants.{Refused, NoMemory}
use Rattle.mv_lawful.specs.Lawful.{Schedule, refusal, after, or_refused, wrong_from, open_call}
use Rattle.mv_script.specs.Scripts.{batch_of}
use Rattle.mv_core.specs.Books.{Booked, Made}
use Rattle.mv_core.specs.Drives.{HasMade, HasTaken, TakesLine, Stops, Driven, fault_at}
use Rattle.mv_core.proofs.Journals.{reach_more, allowed_more}

pub none_made : (old : Booked) → HasMade [] old old
none_made old = record { allowed = tt; schedule = refl; journal = sym (append-nil old.journal); script = refl }

pub made_more : (es : List Event) (e : Event) (old mid new : Booked) → HasMade es old mid → Made e mid new → HasMade (es ++ e ∷ []) old new
made_more es e old mid new a b = record {
  allowed = allowed_more (batch_of old.script) old.schedule es e a.allowed (subst (λ (s : Schedule). refusal (batch_of old.script) s e ≡ None) a.schedule (subst (λ s. refusal (batch_of s) mid.schedule e ≡ None) a.script b.allowed));
  schedule = b.schedule ∙ (ap (λ s. after (batch_of s) mid.schedule e) a.script ∙ (ap (λ s. after (batch_of old.script) s e) a.schedule ∙ sym (reach_more (batch_of old.script) old.schedule es e)));
  journal = b.journal ∙ (ap (λ j. j ++ e ∷ []) a.journal ∙ append_assoc old.journal es (e ∷ []));
  script = b.script ∙ a.script;
}

pub made_none : (es : List Event) (old mid new : Booked) → HasMade es old mid → HasMade [] mid new → HasMade es old new
made_none es old mid new a b = record {
  allowed = a.allowed;
  schedule = b.schedule ∙ a.schedule;
  journal = b.journal ∙ (append-nil mid.journal ∙ a.journal);
  script = b.script ∙ a.script;
}

-- what is wrong with all of them is wrong with the rest
pub record IsDriven (es : List Event) (n : ℕ) (old mid : Booked) : Type 0 where
  pub made : HasMade (take n es) old mid
  pub same : wrong_from (batch_of old.script) 1 old.schedule es ≡ wrong_from (batch_of old.script) (n + 1) mid.schedule (drop n es)

pub stands_first : (es : List Event) (old : Booked) → IsDriven es 0 old old
stands_first es old = record { made = none_made old; same = refl }

pub stands_more : (es : List Event) (n : ℕ) (e : Event) (old mid new : Booked) → n < length es → e ≡ get_or es n e → IsDriven es n old mid → Made e mid new → IsDriven es (n + 1) old new
stands_more es n e old mid new lt is s m = record {
  made = subst (λ (xs : List Event). HasMade xs old new) (sym (take_more es n e lt ∙ ap (λ x. take n es ++ x ∷ []) (sym is))) (made_more (take n es) e old mid new s.made m);
  same = s.same ∙ (ap (wrong_from (batch_of old.script) (n + 1) mid.schedule) (drop_more es n e lt ∙ ap (λ x. x ∷ drop (n + 1) es) (sym is))
      ∙ (ap (λ r. or_refused (n + 1) r (wrong_from (batch_of old.script) (n + 1 + 1) (after (batch_of old.script) mid.schedule e) (drop (n + 1) es))) (subst (λ x. refusal (batch_of x) mid.schedule e ≡ None) s.made.script m.allowed)
      ∙ ap (λ c. wrong_from (batch_of old.script) (n + 1 + 1) c (drop (n + 1) es)) (sym (m.schedule ∙ ap (λ x. after (batch_of x) mid.schedule e) s.made.script))));
}

pub stops_at : (es : List Event) (n : ℕ) (e : Event) (old mid new : Booked) (r : EventRefusal) → n < length es → e ≡ get_or es n e → IsDriven es n old mid → HasTaken e mid new (Err r)
    → Stops es old new (fault_at (n + 1) r)
stops_at es n e old mid new (Refused f) lt is s t = (
  s.same ∙ (ap (wrong_from (batch_of old.script) (n + 1) mid.schedule) (drop_more es n e lt ∙ ap (λ x. x ∷ drop (n + 1) es) (sym is))
      ∙ ap (λ r. or_refused (n + 1) r (wrong_from (batch_of old.script) (n + 1 + 1) (after (batch_of old.script) mid.schedule e) (drop (n + 1) es))) (subst (λ x. refusal (batch_of x) mid.schedule e ≡ Some f) s.made.script t.0)),
  subst (λ k. HasMade (take k es) old new) (less n) (made_none (take n es) old mid new s.made t.1),
) where
  less : (n : ℕ) → n ≡ n + 1 - 1
  less n = omega arith
stops_at es n e old mid new NoMemory lt is s t = (take n es, drop n es, sym (take-append-drop n es), made_none (take n es) old mid new s.made t)

pub stops_line : (es : List Event) (n : ℕ) (e : Event) (old mid new : Booked) (f : DriveFault) → n < length es → e ≡ get_or es n e → IsDriven es n old mid → TakesLine e (n + 1) mid new (Err f) → Stops es old new f
stops_line es n e old mid new (fault.Refused m f) lt is s t = subst (λ k. Stops es old new (fault.Refused k f)) (sym t.0) (stops_at es n e old mid new (Refused f) lt is s (t.1, t.2))
stops_line es n e old mid new (fault.Open c) lt is s t = absurd t
stops_line es n e old mid new fault.NoMemory lt is s t = stops_at es n e old mid new NoMemory lt is s t

pub ends_well : (es : List Event) (n : ℕ) (old mid : Booked) → length es ≤ n → IsDriven es n old mid → open_call (batch_of mid.script) mid.schedule ≡ None → Driven es old mid (Ok tt)
ends_well es n old mid le s o = (
  s.same ∙ (ap (wrong_from (batch_of old.script) (n + 1) mid.schedule) (drop_all n es le) ∙ ap (option_map wrong.Open) (subst (λ x. open_call (batch_of x) mid.schedule ≡ None) s.made.script o)),
  subst (λ (xs : List Event). HasMade xs old mid) (take_all n es le) s.made,
)

pub ends_open : (es : List Event) (n c : ℕ) (old mid : Booked) → length es ≤ n → IsDriven es n old mid → open_call (batch_of mid.script) mid.schedule ≡ Some c → Stops es old mid (fault.Open c)
ends_open es n c old mid le s o = (
  s.same ∙ (ap (wrong_from (batch_of old.script) (n + 1) mid.schedule) (drop_all n es le) ∙ ap (λ c. option_map wrong.Open c) (subst (λ x. open_call (batch_of x) mid.schedule ≡ Some c) s.made.script o)),
  subst (λ (xs : List Event). HasMade xs old mid) (take_all n es le) s.made,
)

-- the event at a place, read at some default
pub read_at : (es : List Event) (n k : ℕ) (d : Event) → n ≡ k → k < length es → get_or es k d ≡ get_or es n (get_or es k d)
read_at es n k d is lt = subst (λ m. get_or es k d ≡ get_or es m (get_or es k d)) (sym is) (get_or_default es k d (get_or es k d) lt)

-- Which statements the text of a procedure has, by their numbers, and their steps.
use Rattle.std.proofs.Common.{◌≡◌, ℕ, zero, suc, ◌+◌, ◌-◌, ◌≤◌, List, [], ◌∷◌, ◌++◌, Option, Some, length, drop, slice_get, refl, sym, ap, subst, ◌∙◌, arith, append_assoc, append-nil, length-append}
use Rattle.mv_catalog.specs.Statements.{size, size_of}
use Rattle.mv_catalog.specs.declared.resolved.ProcInfo.{ProcInfo}
use Rattle.mv_catalog.specs.declared.resolved.RStmt.{RStmt, out-RStmt}
use Rattle.mv_catalog.specs.declared.resolved.RStmt.TheOpen.{RStmt-F, ForSelect, ForRows, Branch}
use Rattle.mv_graph.specs.declared.graph.Step.{Step}
use Rattle.mv_graph.specs.Steps.{own_step, skip_by, steps_of, body_steps, steps_in, HasText, TellsOf, IsStepOf}
use Rattle.mv_graph.proofs.Counts.{steps_count, many_steps, steps_inside, steps_out}

-- the steps of statements of the procedure
abbrev text_steps : ProcInfo → List RStmt → List Step
text_steps proc = body_steps (length proc.params)

abbrev first_steps : ProcInfo → RStmt → List RStmt → List Step
first_steps proc s ss = steps_of (length proc.params) s (length (text_steps proc ss))

-- the whole text
pub whole_text : (proc : ProcInfo) → HasText proc 1 proc.body
whole_text proc = record { front = []; back = []; steps = sym (append-nil (steps_in proc)); number = refl }

-- the statements after the first one
pub text_after : (proc : ProcInfo) (n : ℕ) (s : RStmt) (ss : List RStmt) → HasText proc n (s ∷ ss) → HasText proc (n + size s) ss
text_after proc n s ss h =
    let these : List Step = first_steps proc s ss in
    let rest : List Step = text_steps proc ss in
    record {
      front = h.front ++ these;
      back = h.back;
      steps = h.steps ∙ (ap (λ l. h.front ++ l) (append_assoc these rest h.back) ∙ sym (append_assoc h.front these (rest ++ h.back)));
      number = omega (arith, length-append h.front these, steps_count (length proc.params) s (length rest), h.number);
    }

-- the statements from one of them on, where as many are left as the number says
pub text_from : (proc : ProcInfo) (n : ℕ) (ss : List RStmt) (i : ℕ) → HasText proc n ss → (m : ℕ) → m + size_of (drop i ss) ≡ n + size_of ss → HasText proc m (drop i ss)
text_from proc n ss zero h m e = subst (λ k. HasText proc k ss) (omega (arith, e)) h
text_from proc n [] (suc i) h m e = subst (λ k. HasText proc k []) (omega (arith, e)) h
text_from proc n (s ∷ ss) (suc i) h m e = text_from proc (n + size s) ss i (text_after proc n s ss h) m (omega (arith, e))

-- What a statement holds

regrouped : (f : List Step) (x : Step) (pre b post r t : List Step) → f ++ (((x ∷ (pre ++ (b ++ post))) ++ r) ++ t) ≡ (f ++ (x ∷ pre)) ++ (b ++ (post ++ (r ++ t)))
regrouped f x pre b post r t =
    ap (λ l. f ++ (x ∷ l)) (append_assoc (pre ++ (b ++ post)) r t ∙ (append_assoc pre (b ++ post) (r ++ t) ∙ ap (λ l. pre ++ l) (append_assoc b post (r ++ t))))
    ∙ sym (append_assoc f (x ∷ pre) (b ++ (post ++ (r ++ t))))

abbrev own : ProcInfo → RStmt → List RStmt → Step
own proc s ss = own_step (length proc.params) (out-RStmt s) (size s) (skip_by size_of (out-RStmt s)) (length (text_steps proc ss))

part : (proc : ProcInfo) (n : ℕ) (s : RStmt) (ss : List RStmt) (h : HasText proc n (s ∷ ss)) (pre post : List Step) (body : List RStmt) (m : ℕ)
    → steps_inside (length proc.params) (out-RStmt s) ≡ pre ++ (text_steps proc body ++ post) → n + 1 + length pre ≡ m → HasText proc m body
part proc n s ss h pre post body m is at =
    let rest : List Step = text_steps proc ss in
    record {
      front = h.front ++ (own proc s ss ∷ pre);
      back = post ++ (rest ++ h.back);
      steps =
          h.steps
          ∙ (ap (λ l. h.front ++ ((l ++ rest) ++ h.back)) (steps_out (length proc.params) s (length rest) ∙ ap (λ l. own proc s ss ∷ l) is)
          ∙ regrouped h.front (own proc s ss) pre (text_steps proc body) post rest h.back);
      number = omega (arith, length-append h.front (own proc s ss ∷ pre), at, h.number);
    }

-- the body of a FOR
pub select_text : (proc : ProcInfo) (n : ℕ) (s : RStmt) (ss : List RStmt) (x : ℕ) (once : _) (cs : _) (t : ℕ) (conds : _) (sorts : _) (body : List RStmt)
    → out-RStmt s ≡ ForSelect x once cs t conds sorts body → HasText proc n (s ∷ ss) → HasText proc (n + 1) body
select_text proc n s ss x once cs t conds sorts body is h =
    part proc n s ss h [] [] body (n + 1) (ap (steps_inside (length proc.params)) is ∙ sym (append-nil (text_steps proc body))) (omega arith)

pub rows_text : (proc : ProcInfo) (n : ℕ) (s : RStmt) (ss : List RStmt) (x y : ℕ) (body : List RStmt) → out-RStmt s ≡ ForRows x y body → HasText proc n (s ∷ ss) → HasText proc (n + 1) body
rows_text proc n s ss x y body is h =
    part proc n s ss h [] [] body (n + 1) (ap (steps_inside (length proc.params)) is ∙ sym (append-nil (text_steps proc body))) (omega arith)

-- the branches of an IF
pub yes_text : (proc : ProcInfo) (n : ℕ) (s : RStmt) (ss : List RStmt) (e : _) (ys ns : List RStmt) → out-RStmt s ≡ Branch e ys ns → HasText proc n (s ∷ ss) → HasText proc (n + 1) ys
yes_text proc n s ss e ys ns is h = part proc n s ss h [] (text_steps proc ns) ys (n + 1) (ap (steps_inside (length proc.params)) is) (omega arith)

pub no_branch_text : (proc : ProcInfo) (n : ℕ) (s : RStmt) (ss : List RStmt) (e : _) (ys ns : List RStmt) → out-RStmt s ≡ Branch e ys ns → HasText proc n (s ∷ ss) → HasText proc (n + 1 + size_of ys) ns
no_branch_text proc n s ss e ys ns is h =
    let first : List Step = text_steps proc ys in
    part proc n s ss h first [] ns (n + 1 + size_of ys) (ap (steps_inside (length proc.params)) is ∙ ap (λ l. first ++ l) (sym (append-nil (text_steps proc ns))))
    (omega (arith, many_steps (length proc.params) ys))

-- Numbers

-- the numbers of statements of the text are among those of all
pub text_fits : (proc : ProcInfo) (n : ℕ) (ss : List RStmt) → HasText proc n ss → n + size_of ss ≤ size_of proc.body + 1
text_fits proc n ss h =
    let these : List Step = text_steps proc ss in
    omega (arith, ap length h.steps, length-append h.front (these ++ h.back), length-append these h.back, many_steps (length proc.params) ss, many_steps (length proc.params) proc.body, h.number)

get_between : (f : List Step) (x : Step) (r : List Step) (n : ℕ) → length f + 1 ≡ n → slice_get (f ++ (x ∷ r)) (n - 1) ≡ Some x
get_between f x r n e = ap (slice_get (f ++ (x ∷ r))) (let k : n - 1 ≡ length f = omega (arith, e) in k) ∙ there f
  where
    there : (l : List Step) → slice_get (l ++ (x ∷ r)) (length l) ≡ Some x
    there [] = refl
    there (y ∷ l) = there l

-- the step of a statement of the text
pub record StepAt (proc : ProcInfo) (n : ℕ) (s : RStmt) (ss : List RStmt) : Type 0 where
  pub step : Step
  pub there : slice_get (steps_in proc) (n - 1) ≡ Some step
  pub is : IsStepOf proc s ss step

pub step_of_text : (proc : ProcInfo) (n : ℕ) (s : RStmt) (ss : List RStmt) → HasText proc n (s ∷ ss) → StepAt proc n s ss
step_of_text proc n s ss h =
    let rest : List Step = text_steps proc ss in
    record {
      step = own proc s ss;
      there =
          ap (λ l. slice_get l (n - 1)) (h.steps ∙ ap (λ l. h.front ++ ((l ++ rest) ++ h.back)) (steps_out (length proc.params) s (length rest)))
          ∙ get_between h.front (own proc s ss) ((steps_inside (length proc.params) (out-RStmt s) ++ rest) ++ h.back) n h.number;
      is = record {
        tells = record { statement = refl; reads = refl; size = refl; skip = refl };
        left = ap (λ n. size s + n) (many_steps (length proc.params) ss);
      };
    }

-- The calls alone in call order.
use Rattle.std.proofs.Common.{◌≡◌, ◌<◌, ℕ, suc, List, length, sym, ap, subst, ◌∙◌, arith}
use Rattle.std.proofs.lemmas.Grind.{get_or_default_zero}
use Rattle.std.specs.Prelude.{slice_get, slice_index_or}
use Rattle.mv_values.specs.declared.calls.Reply.{Reply}
use Rattle.mv_values.specs.Tables.{Tables}
use Rattle.mv_values.specs.Counts.{first_numbers}
use Rattle.mv_catalog.specs.declared.resolved.Program.{Program}
use Rattle.mv_report.specs.Serial.{serial_text}
use Rattle.mv_eval.specs.TableAfter.{table_after, reply_of, call_order, IsOrder, RepliesOf}
use Rattle.mv_lawful.proofs.Turns.{length_numbers}
use Rattle.mv_top.specs.Serial.{serial_replies, serial}
use Rattle.mv_top.proofs.Numbers.{index_numbers, told_numbers}

-- how many calls there are
abbrev calls_in : Program → ℕ
calls_in p = length p.resolved.calls

number_at : (n k d : ℕ) → k < length (first_numbers n) → slice_index_or (first_numbers n) k d ≡ k
number_at n k d lt = get_or_default_zero (first_numbers n) k d lt ∙ index_numbers n k (omega (arith, length_numbers n))

-- the calls in order are calls, none twice
pub is_order : (p : Program) → IsOrder p (call_order p)
is_order p = (
  λ k d lt. (let at = number_at (calls_in p) k d lt in omega (arith, length_numbers (calls_in p))),
  λ i j d lt within same. absurd (let a = number_at (calls_in p) i d (omega arith) in let b = number_at (calls_in p) j d within in omega arith),
)

pub replies_in_order : (p : Program) (replies : List Reply) → length replies ≡ calls_in p → RepliesOf p (call_order p) replies → replies ≡ serial_replies p
replies_in_order p replies len told =
    told_numbers replies (λ c. reply_of p (call_order p) (suc c)) (calls_in p) len
    (λ k lt. let within : k < length (call_order p) = omega (arith, length_numbers (calls_in p)) in ap (slice_get replies) (sym (index_numbers (calls_in p) k lt)) ∙ told k within)

-- the text of what the machine left
pub text_is : (p : Program) (order : List ℕ) (replies : List Reply) (tables : Tables) (text : List ℕ) → order ≡ call_order p
    → length replies ≡ calls_in p → RepliesOf p order replies → tables ≡ table_after p order (length order)
    → text ≡ serial_text p.resolved.tables replies tables → text ≡ serial p
text_is p order replies tables text o len told left is =
    let all : replies ≡ serial_replies p = replies_in_order p replies len (subst (λ (ns : List ℕ). RepliesOf p ns replies) o told) in
    let last : tables ≡ table_after p (call_order p) (calls_in p) = left ∙ (ap (λ (ns : List ℕ). table_after p ns (length ns)) o ∙ ap (table_after p (call_order p)) (length_numbers (calls_in p))) in
    is ∙ (ap (λ (rs : List Reply). serial_text p.resolved.tables rs tables) all ∙ ap (serial_text p.resolved.tables (serial_replies p)) last)

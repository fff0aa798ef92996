-- Records that are lent one after another.
use Rattle.std.proofs.Common.{◌≡◌, ◌<◌, ◌+◌, ◌++◌, ℕ, Bool, true, false, Bor, List, [], ◌∷◌, Option, Some, None, length, take, drop, get_or, slice_get, count_by, option_to_list, option_copied, is_some, refl, sym, ap, ◌∙◌, append_assoc}
use Rattle.std.specs.Option.{option_or}
use Rattle.std.proofs.lemmas.List.{drop_more}
use Rattle.std.proofs.lemmas.List.Sums.{count_by_more_yes, count_by_more_no}
use Rattle.mv_values.specs.declared.calls.End.{End}
use Rattle.mv_record.specs.declared.record.Record.{Record}
use Rattle.mv_record.specs.Runs.{lines_in, end_in}
use Rattle.mv_changes.proofs.Trying.{item_got}

-- a record, and those after it
rest_lent : (rs : List Record) (i : ℕ) (r : Record) → i < length rs → slice_get rs i ≡ Some r → drop i rs ≡ r ∷ drop (i + 1) rs
rest_lent rs i r lt is = drop_more rs i r lt ∙ ap (λ x. x ∷ drop (i + 1) rs) (sym (item_got rs i r is))

-- Their first end

end_found : (rs : List Record) (i : ℕ) (r : Record) (o : Option End) → i < length rs → slice_get rs i ≡ Some r → r.end ≡ o → end_in (drop i rs) ≡ end_in rs → option_or o (end_in (drop (i + 1) rs)) ≡ end_in rs
end_found rs i r o lt is ends so = ap (λ p. option_or p (end_in (drop (i + 1) rs))) (sym ends) ∙ (ap end_in (sym (rest_lent rs i r lt is)) ∙ so)

pub end_here : (rs : List Record) (i : ℕ) (r : Record) (e : End) → i < length rs → slice_get rs i ≡ Some r → r.end ≡ Some e → end_in (drop i rs) ≡ end_in rs → Some e ≡ end_in rs
end_here rs i r e lt is ends so = end_found rs i r (Some e) lt is ends so

pub end_later : (rs : List Record) (i : ℕ) (r : Record) → i < length rs → slice_get rs i ≡ Some r → r.end ≡ None → end_in (drop i rs) ≡ end_in rs → end_in (drop (i + 1) rs) ≡ end_in rs
end_later rs i r lt is ends so = end_found rs i r None lt is ends so

-- Their lines

lines_more : (rs : List Record) (i : ℕ) (r : Record) (ls : List (List ℕ)) (o : Option (List ℕ)) → i < length rs → slice_get rs i ≡ Some r → r.line ≡ o → ls ++ lines_in (drop i rs) ≡ lines_in rs → ls ++ (option_to_list o ++ lines_in (drop (i + 1) rs)) ≡ lines_in rs
lines_more rs i r ls o lt is has so = ap (λ p. ls ++ (option_to_list p ++ lines_in (drop (i + 1) rs))) (sym has) ∙ (ap (λ l. ls ++ lines_in l) (sym (rest_lent rs i r lt is)) ∙ so)

pub line_here : (rs : List Record) (i : ℕ) (r : Record) (ls : List (List ℕ)) (t : List ℕ) → i < length rs → slice_get rs i ≡ Some r → r.line ≡ Some t → ls ++ lines_in (drop i rs) ≡ lines_in rs → (ls ++ t ∷ []) ++ lines_in (drop (i + 1) rs) ≡ lines_in rs
line_here rs i r ls t lt is has so = append_assoc ls (t ∷ []) (lines_in (drop (i + 1) rs)) ∙ lines_more rs i r ls (Some t) lt is has so

pub line_later : (rs : List Record) (i : ℕ) (r : Record) (ls : List (List ℕ)) → i < length rs → slice_get rs i ≡ Some r → r.line ≡ None → ls ++ lines_in (drop i rs) ≡ lines_in rs → ls ++ lines_in (drop (i + 1) rs) ≡ lines_in rs
line_later rs i r ls lt is has so = lines_more rs i r ls None lt is has so

-- How many have a line

copied_some : {X : Type 0} (o : Option (Bor X)) → is_some (option_copied o) ≡ is_some o
copied_some None = refl
copied_some (Some x) = refl

line_is : (r : Record) (i : ℕ) (rs : List Record) (o : Option (Bor (List ℕ))) (b : Bool) → slice_get rs i ≡ Some r → option_copied o ≡ r.line → is_some o ≡ b → is_some (get_or rs i r).line ≡ b
line_is r i rs o b is has there = ap (λ (x : Record). is_some x.line) (sym (item_got rs i r is)) ∙ (ap (λ l. is_some l) (sym has) ∙ (copied_some o ∙ there))

pub count_here : (rs : List Record) (i k n : ℕ) (r : Record) (o : Option (Bor (List ℕ))) → i < length rs → slice_get rs i ≡ Some r → option_copied o ≡ r.line → is_some o ≡ true → k ≡ count_by (λ (x : Record). is_some x.line) (take i rs) → n ≡ k + 1 → n ≡ count_by (λ (x : Record). is_some x.line) (take (i + 1) rs)
count_here rs i k n r o lt is has there so more = more ∙ (ap (λ m. m + 1) so ∙ sym (count_by_more_yes (λ (x : Record). is_some x.line) rs i r lt (line_is r i rs o true is has there)))

pub count_later : (rs : List Record) (i k n : ℕ) (r : Record) (o : Option (Bor (List ℕ))) → i < length rs → slice_get rs i ≡ Some r → option_copied o ≡ r.line → is_some o ≡ false → k ≡ count_by (λ (x : Record). is_some x.line) (take i rs) → n ≡ k → n ≡ count_by (λ (x : Record). is_some x.line) (take (i + 1) rs)
count_later rs i k n r o lt is has there so same = same ∙ (so ∙ sym (count_by_more_no (λ (x : Record). is_some x.line) rs i r lt (line_is r i rs o false is has there)))

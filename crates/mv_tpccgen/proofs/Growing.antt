-- Texts that grow by the text of one more number.
use Rattle.std.proofs.Common.{◌≡◌, ◌+◌, ◌++◌, ◌∷◌, [], ℕ, List, sym, ap, ◌∙◌, append-nil, arith}
use Rattle.std.specs.List.{flat_map, range_with_len}
use Rattle.std.proofs.lemmas.List.{flat_map_more, map-id}
use Rattle.std.proofs.lemmas.List.FromFn.{map-range_with_len_more}
use Rattle.mv_tpccgen.specs.Writing.{up_to}

range_more : (first count last : ℕ) → first + count ≡ last → range_with_len first (count + 1) ≡ range_with_len first count ++ last ∷ []
range_more first count last e = simp (map-id {A = ℕ}) at (map-range_with_len_more (λ (n : ℕ). n) first count last e)

pub up_to_none : (text : ℕ → List ℕ) (old : List ℕ) → old ≡ old ++ up_to 0 text
unfolding up_to
up_to_none text old = sym (append-nil old)

pub grew_up_to : (text : ℕ → List ℕ) (n : ℕ) (old mid new : List ℕ) → mid ≡ old ++ up_to n text → new ≡ mid ++ text (n + 1) → new ≡ old ++ up_to (n + 1) text
unfolding up_to
grew_up_to text n old mid new e f =
    let more = range_more 1 n (n + 1) (omega arith) in
    let joined = ap (λ (t : List ℕ). t ++ text (n + 1)) e ∙ flat_map_more text old (range_with_len 1 n) (n + 1) in
    f ∙ (joined ∙ ap (λ (ns : List ℕ). old ++ flat_map text ns) (sym more))

-- Own writes at places of a log.
use Rattle.std.proofs.Common.{◌≡◌, ◌≤◌, ◌<◌, ◌+◌, ℕ, zero, suc, Bool, true, false, cond, List, [], ◌∷◌, ◌++◌, All, length, take, slice_index_or, refl, ap, subst, ◌∙◌, arith}
use Rattle.std.proofs.Math.ListN.{get_or-append}
use Rattle.std.proofs.Math.Seq.{get_or-append_seam}
use Rattle.std.proofs.lemmas.List.{get_or-map, length-append, length-map, map-append}
use Rattle.std.proofs.lemmas.List.Elements.{All-head, All-tail, All-cons, All-nil}
use Rattle.std.specs.Prelude.{nat_lt, pos, AllPairs}
use Rattle.mv_values.specs.declared.value.Value.TheVariants.{Int}
use Rattle.mv_values.specs.declared.patch.Write.{Write}
use Rattle.mv_undo.specs.declared.place.Place.{Place}
use Rattle.mv_undo.specs.Owned.{Owned, no_write, owned_in, owned_by, places_before, write_in, AreWithin}
use Rattle.mv_undo.specs.Owning.{before, IsInOrder}
use Rattle.mv_undo.specs.Indexing.{key_at, owned_at}
use Rattle.mv_undo.specs.Indexed.{Indexed, no_index, IsIndexOf}

-- past the end stands a write to an empty key
pub key_past : (items : List Owned) (place : ℕ) → length items ≤ place → key_at items place ≡ Int (pos 0) ∷ []
key_past [] place le = refl
key_past (x ∷ xs) zero le = absurd (omega (arith, le))
key_past (x ∷ xs) (suc place) le = key_past xs place (omega (arith, le))

-- as many as places
pub owned_length : (ws : List Write) (ps : List Place) → length (owned_by ps ws) ≡ length ps
owned_length ws ps = length-map ps (owned_in ws)

-- the write at a place
pub owned_there : (ws : List Write) (ps : List Place) (i : ℕ) (d : Place) → i < length ps → owned_at (owned_by ps ws) i ≡ owned_in ws (slice_index_or ps i d)
owned_there ws [] i d lt = absurd (omega (arith, lt))
owned_there ws (p ∷ ps) zero d lt = refl
owned_there ws (p ∷ ps) (suc i) d lt = owned_there ws ps i d (omega (arith, lt))

-- with one place more
pub owned_more : (ws : List Write) (ps : List Place) (p : Place) → owned_by (ps ++ p ∷ []) ws ≡ owned_by ps ws ++ owned_in ws p ∷ []
owned_more ws ps p = map-append (owned_in ws) ps (p ∷ [])

-- those of records with smaller numbers
pub owned_before : (n : ℕ) (ws : List Write) (ps : List Place) → owned_by (places_before n ps) ws ≡ before n (owned_by ps ws)
owned_before n ws [] = refl
owned_before n ws (p ∷ ps) = by (nat_lt p.number n) (owned_before n ws ps)
  where
    by : (b : Bool) → owned_by (places_before n ps) ws ≡ before n (owned_by ps ws) → owned_by (cond b (p ∷ places_before n ps) (places_before n ps)) ws ≡ cond b (owned_in ws p ∷ before n (owned_by ps ws)) (before n (owned_by ps ws))
    by true more = ap (λ l. owned_in ws p ∷ l) more
    by false more = more

-- the numbers of the writes are those of the places
pub owned_numbers : (n : ℕ) (ws : List Write) (ps : List Place) → All (λ (p : Place). p.number ≤ n) ps → All (λ (o : Owned). o.number ≤ n) (owned_by ps ws)
owned_numbers n ws [] h = All-nil (λ (o : Owned). o.number ≤ n)
owned_numbers n ws (p ∷ ps) h = All-cons (λ (o : Owned). o.number ≤ n) (owned_in ws p) (owned_by ps ws) (All-head (λ (p : Place). p.number ≤ n) p ps h) (owned_numbers n ws ps (All-tail (λ (p : Place). p.number ≤ n) p ps h))

pub place_numbers : (P : ℕ → Type 0) (ws : List Write) (ps : List Place) → All (λ (o : Owned). P o.number) (owned_by ps ws) → All (λ (p : Place). P p.number) ps
place_numbers P ws [] h = All-nil (λ (p : Place). P p.number)
place_numbers P ws (p ∷ ps) h =
    All-cons (λ (p : Place). P p.number) p ps (All-head (λ (o : Owned). P o.number) (owned_in ws p) (owned_by ps ws) h) (place_numbers P ws ps (All-tail (λ (o : Owned). P o.number) (owned_in ws p) (owned_by ps ws) h))

-- the first of them
pub owned_take : (n : ℕ) (ws : List Write) (ps : List Place) → owned_by (take n ps) ws ≡ take n (owned_by ps ws)
owned_take zero ws ps = refl
owned_take (suc n) ws [] = refl
owned_take (suc n) ws (p ∷ ps) = ap (λ l. owned_in ws p ∷ l) (owned_take n ws ps)

pub within_take : (n k : ℕ) (ps : List Place) → AreWithin n ps → AreWithin n (take k ps)
within_take n zero ps h = All-nil (λ (p : Place). p.at < n)
within_take n (suc k) [] h = All-nil (λ (p : Place). p.at < n)
within_take n (suc k) (p ∷ ps) h = All-cons (λ (q : Place). q.at < n) p (take k ps) (All-head (λ (q : Place). q.at < n) p ps h) (within_take n k ps (All-tail (λ (q : Place). q.at < n) p ps h))

-- the places are in the order of their numbers
pub places_rise : (ws : List Write) (ps : List Place) → IsInOrder (owned_by ps ws) → AllPairs (λ (a b : Place). a.number ≤ b.number) ps
places_rise ws ps h i j d lt within =
    let up : j < length (owned_by ps ws) = omega (arith, within, owned_length ws ps) in
    let low : i < length ps = omega (arith, lt, within) in
    let e : Owned = owned_in ws d in
    subst (λ (o : Owned). o.number ≤ (slice_index_or ps j d).number) (get_or-map (owned_in ws) ps i d e low)
    (subst (λ (o : Owned). (slice_index_or (owned_by ps ws) i e).number ≤ o.number) (get_or-map (owned_in ws) ps j d e within) (h i j e lt up))

-- A log that has grown

pub owned_same : (ws more : List Write) (ps : List Place) → AreWithin (length ws) ps → owned_by ps (ws ++ more) ≡ owned_by ps ws
owned_same ws more [] h = refl
owned_same ws more (p ∷ ps) h =
    ap (λ (w : Write). let o : Owned = record { number = p.number; write = w } in o ∷ owned_by ps (ws ++ more)) (get_or-append ws more _ p.at (All-head (λ (q : Place). q.at < length ws) p ps h))
    ∙ ap (λ l. owned_in ws p ∷ l) (owned_same ws more ps (All-tail (λ (q : Place). q.at < length ws) p ps h))

within_more : (ws more : List Write) (ps : List Place) → AreWithin (length ws) ps → AreWithin (length (ws ++ more)) ps
within_more ws more ps h = λ k d lt. omega (arith, h k d lt, length-append ws more)

-- an index is one of other writes as well, which are the same at its places
pub index_same : (index : Indexed) (ws vs : List Write) → AreWithin (length vs) index.places → owned_by index.places vs ≡ owned_by index.places ws → IsIndexOf index ws → IsIndexOf index vs
index_same index ws vs within same h = record {
  within = within;
  numbers = rw same h.numbers;
  composed = rw same h.composed;
  linked = rw same h.linked;
  indexed = rw same h.indexed;
}

-- an index stays one when the log grows
pub index_grown : (index : Indexed) (ws more : List Write) → IsIndexOf index ws → IsIndexOf index (ws ++ more)
index_grown index ws more h = index_same index ws (ws ++ more) (within_more ws more index.places h.within) (owned_same ws more index.places h.within) h

-- the index without writes is right for any log
pub empty_index : (ws : List Write) → IsIndexOf no_index ws
empty_index ws = record {
  within = All-nil (λ (p : Place). p.at < length ws);
  numbers = λ i j d lt within. absurd (omega (arith, within));
  composed = record { size = refl; each = λ p lt. absurd (omega (arith, lt)) };
  linked = record { size = refl; each = λ p lt. absurd (omega (arith, lt)); far = λ p lt. absurd (omega (arith, lt)) };
  indexed = record { are = record { last = λ k d lt. absurd (omega (arith, lt)); sorted = λ i j d lt within. absurd (omega (arith, within)) }; each = λ t key none. refl };
}

-- a write is added to the log and to the index
pub owned_pushed : (ws : List Write) (w : Write) (ps : List Place) (p : Place) → AreWithin (length ws) ps → p.at ≡ length ws → owned_by (ps ++ p ∷ []) (ws ++ w ∷ []) ≡ owned_by ps ws ++ (let o : Owned = record { number = p.number; write = w } in o) ∷ []
owned_pushed ws w ps p within at =
    let last : write_in (ws ++ w ∷ []) p.at ≡ w = ap (write_in (ws ++ w ∷ [])) at ∙ get_or-append_seam ws w [] no_write in
    owned_more (ws ++ w ∷ []) ps p
    ∙ (ap (λ os. os ++ owned_in (ws ++ w ∷ []) p ∷ []) (owned_same ws (w ∷ []) ps within) ∙ ap (λ (v : Write). owned_by ps ws ++ (let o : Owned = record { number = p.number; write = v } in o) ∷ []) last)

-- An index with one write more, and without its last writes.
use Rattle.std.proofs.Common.{◌≡◌, ◌≤◌, ◌<◌, ◌+◌, ℕ, List, [], ◌∷◌, ◌++◌, Option, None, All, length, map, take, drop, slice_index_or, if◌then◌else◌, refl, sym, ap, subst, ◌∙◌, arith, append-nil, append_assoc}
use Rattle.std.specs.Prelude.{IfSome, pos, nat_lt}
use Rattle.std.specs.List.{filter}
use Rattle.std.proofs.lemmas.Bool.{lt-ltb, le-ltb}
use Rattle.std.proofs.lemmas.List.{drop_all, drop_more, get_or-take, length-take, length-take-le}
use Rattle.std.proofs.lemmas.List.Elements.{All-head, All-tail, All-push, filter-append}
use Rattle.mv_values.specs.declared.value.Value.TheVariants.{Int}
use Rattle.mv_values.specs.declared.patch.Patch.{Patch}
use Rattle.mv_values.specs.declared.patch.Write.{Write}
use Rattle.mv_record.specs.Writes.{writes_on}
use Rattle.mv_undo.specs.declared.links.Link.{Link}
use Rattle.mv_undo.specs.declared.place.Place.{Place}
use Rattle.mv_undo.specs.Owned.{Owned, no_write, owned_in, owned_by, write_in, places_before}
use Rattle.mv_undo.specs.Owning.{before, undo_of}
use Rattle.mv_undo.specs.Indexing.{AreToOneKey, GoesBack, IsComposedOf, IsCut, IsFound, IsIndexed, IsLastOn, is_up_to, patch_or, renewed}
use Rattle.mv_undo.specs.Indexed.{Indexed, IsIndexOf}
use Rattle.mv_undo.proofs.Growing.{composed_more, far_on, found_last, indexed_more, linked_more}
use Rattle.mv_undo.proofs.Looking.{order_more}
use Rattle.mv_undo.proofs.Placing.{owned_before, owned_length, owned_more, owned_numbers, owned_take, within_take}
use Rattle.mv_undo.proofs.Owning.{order_before}
use Rattle.mv_undo.proofs.Shrinking.{composed_less, indexed_less, linked_less}

-- what is found out of a new write before it is added
pub record IsReady (S : List Owned) (order : List ℕ) (w : Write) (at : ℕ) (found : Option ℕ) (made : Option Patch) (link : Link) : Type 0 where
  pub within : at ≤ length order
  pub cut : IsCut (is_up_to S (Int (pos w.table) ∷ w.key)) order at
  pub last : IsFound S order at w.table w.key found
  pub does : IsComposedOf (patch_or made w.patch) (writes_on w.table w.key (map (λ o. o.write) S) ++ w ∷ [])
  pub before : link.before ≡ found
  pub far : IfSome link.far (λ q. IfSome found (λ p. (q ≤ p) × AreToOneKey S p q))
  pub none : found ≡ None → link.far ≡ None

abbrev pub index_with : Indexed → Place → ℕ → Option ℕ → Option Patch → Link → Indexed
index_with i p at found made link =
    record { places = i.places ++ p ∷ []; composed = i.composed ++ made ∷ []; links = i.links ++ link ∷ []; order = renewed i.order at found (length i.places) }

pub index_more : (i : Indexed) (ws : List Write) (p : Place) (at : ℕ) (found : Option ℕ) (made : Option Patch) (link : Link) → IsIndexOf i ws → p.at < length ws → All (λ (q : Place). q.number ≤ p.number) i.places
    → IsReady (owned_by i.places ws) i.order (write_in ws p.at) at found made link → IsIndexOf (index_with i p at found made link) ws
index_more i ws p at found made link ix lt numbers ready =
    let S : List Owned = owned_by i.places ws in
    let o : Owned = owned_in ws p in
    let more : owned_by (i.places ++ p ∷ []) ws ≡ S ++ o ∷ [] = owned_more ws i.places p in
    let last : IsLastOn S o.write.table o.write.key found = found_last S i.order at o.write.table o.write.key found ix.indexed ready.within ready.last in
    record {
      within = All-push (λ (q : Place). q.at < length ws) i.places p ix.within lt;
      numbers = order_more S (owned_by (i.places ++ p ∷ []) ws) o more ix.numbers (owned_numbers p.number ws i.places numbers);
      composed = rw more (composed_more S i.composed o made ix.composed ready.does);
      linked = rw more (linked_more S i.links o link ix.linked (rw ready.before last) (far_on S o found link.far last ready.far ready.none));
      indexed = rw more (subst (λ n. IsIndexed (S ++ o ∷ []) (renewed i.order at found n)) (owned_length ws i.places) (indexed_more S i.order o at found ix.indexed ready.within ready.cut ready.last));
    }

-- without the writes of the last records
abbrev pub index_before : Indexed → ℕ → List ℕ → Indexed
index_before i len back = record { places = take len i.places; composed = take len i.composed; links = take len i.links; order = filter (λ p. nat_lt p len) back }

pub index_less : (i : Indexed) (ws : List Write) (number len : ℕ) (back : List ℕ) → IsIndexOf i ws → len ≤ length i.places → take len i.places ≡ places_before number i.places → length back ≡ length i.order
    → ((k : ℕ) → k < length i.order → GoesBack (owned_by i.places ws) number (slice_index_or i.order k 0) (slice_index_or back k 0)) → IsIndexOf (index_before i len back) ws
index_less i ws number len back ix high is size goes =
    let S : List Owned = owned_by i.places ws in
    let less : owned_by (take len i.places) ws ≡ take len S = owned_take len ws i.places in
    let front : take len S ≡ before number S = sym less ∙ (ap (λ ps. owned_by ps ws) is ∙ owned_before number ws i.places) in
    let short : len ≤ length S = omega (arith, high, owned_length ws i.places) in
    record {
      within = within_take (length ws) len i.places ix.within;
      numbers = rw less (order_before number len S ix.numbers front);
      composed = rw less (composed_less S i.composed len ix.composed);
      linked = rw less (linked_less S i.links len ix.linked);
      indexed = rw less (indexed_less S i.order back number len ix.indexed short front size goes);
    }

-- The writes of a record, one after the other

pub all_before : (n : ℕ) (ps : List Place) → All (λ (p : Place). p.number < n) ps → places_before n ps ≡ ps
all_before n [] h = refl
all_before n (p ∷ ps) h =
    ap (λ b. if b then p ∷ places_before n ps else places_before n ps) (lt-ltb p.number n (All-head (λ (q : Place). q.number < n) p ps h))
    ∙ ap (λ qs. p ∷ qs) (all_before n ps (All-tail (λ (q : Place). q.number < n) p ps h))

-- a place of the record itself isn't before it
pub before_push : (n at : ℕ) (ps : List Place) → places_before n (ps ++ (let p : Place = record { number = n; at = at } in p) ∷ []) ≡ places_before n ps
before_push n at ps =
    filter-append (λ (p : Place). nat_lt p.number n) ps ((let p : Place = record { number = n; at = at } in p) ∷ [])
    ∙ (ap (λ b. places_before n ps ++ (if b then (let p : Place = record { number = n; at = at } in p) ∷ [] else [])) (le-ltb n n (omega arith)) ∙ append-nil (places_before n ps))

pub part_step : (number at to : ℕ) (ws : List Write) → at < to → to ≤ length ws → undo_of number (drop at (take to ws)) ≡ owned_in ws (record { number = number; at = at }) ∷ undo_of number (drop (at + 1) (take to ws))
part_step number at to ws lt le =
    ap (undo_of number) (drop_more (take to ws) at no_write (omega (arith, lt, le, length-take-le to ws le)))
    ∙ ap (λ (w : Write). (let o : Owned = record { number = number; write = w } in o) ∷ undo_of number (drop (at + 1) (take to ws))) (get_or-take to ws at no_write lt)

-- those that are added and those that are left are the record's
pub part_more : (number at to : ℕ) (ps : List Place) (ws : List Write) (all : List Owned) → at < to → to ≤ length ws → owned_by ps ws ++ undo_of number (drop at (take to ws)) ≡ all
    → owned_by (ps ++ (let p : Place = record { number = number; at = at } in p) ∷ []) ws ++ undo_of number (drop (at + 1) (take to ws)) ≡ all
part_more number at to ps ws all lt le h =
    let p : Place = record { number = number; at = at } in
    ap (λ os. os ++ undo_of number (drop (at + 1) (take to ws))) (owned_more ws ps p)
    ∙ (append_assoc (owned_by ps ws) (owned_in ws p ∷ []) (undo_of number (drop (at + 1) (take to ws)))
    ∙ (ap (λ os. owned_by ps ws ++ os) (sym (part_step number at to ws lt le)) ∙ h))

pub part_done : (number at to : ℕ) (ps : List Place) (ws : List Write) (all : List Owned) → to ≤ at → owned_by ps ws ++ undo_of number (drop at (take to ws)) ≡ all → owned_by ps ws ≡ all
part_done number at to ps ws all le h =
    sym (append-nil (owned_by ps ws)) ∙ (ap (λ vs. owned_by ps ws ++ undo_of number vs) (sym (drop_all at (take to ws) (omega (arith, le, length-take to ws)))) ∙ h)

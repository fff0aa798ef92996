-- One read or write after another.
use Rattle.std.proofs.Common.{◌≡◌, ℕ, ◌+◌, ◌-◌, ◌<◌, ◌≤◌, List, [], ◌++◌, Option, Some, None, length, take, drop, get_or, refl, sym, ap, subst, ◌∙◌, append_assoc, append-nil, arith}
use Rattle.std.proofs.Math.Seq.{take-add}
use Rattle.std.proofs.lemmas.List.{take-append-drop, drop_more, take_at, take_all, length-take-le, length-drop, drop-drop, append_cancel_left}
use Rattle.mv_edge.specs.Edge.{Reads, IsAtEnd, Writes, WritesFront}

pub reads_none : (a : Option (List ℕ)) → Reads a a []
reads_none None = tt
reads_none (Some all) = (all, refl, refl)

pub reads_more : (a b c : Option (List ℕ)) (xs ys : List ℕ) → Reads a b xs → Reads b c ys → Reads a c (xs ++ ys)
reads_more None b c xs ys r s = tt
reads_more (Some all) b c xs ys r s =
    let s' : Reads (Some r.0) c ys = subst (λ o. Reads o c ys) r.1 s in
    (s'.0, s'.1, r.2 ∙ (ap (λ zs. xs ++ zs) s'.2 ∙ sym (append_assoc xs ys s'.0)))

pub writes_none : (a : Option (List ℕ)) → Writes a a []
writes_none None = tt
writes_none (Some all) = ap Some (sym (append-nil all))

pub writes_more : (a b c : Option (List ℕ)) (xs ys : List ℕ) → Writes a b xs → Writes b c ys → Writes a c (xs ++ ys)
writes_more None b c xs ys r s = tt
writes_more (Some all) b c xs ys r s =
    let s' : Writes (Some (all ++ xs)) c ys = subst (λ o. Writes o c ys) r s in
    s' ∙ ap Some (append_assoc all xs ys)

-- from a place on, n more
pub writes_at : (a b c : Option (List ℕ)) (bytes : List ℕ) (at n : ℕ) → Writes a b (take at bytes) → Writes b c (take n (drop at bytes)) → Writes a c (take (at + n) bytes)
writes_at a b c bytes at n r s = subst (Writes a c) (sym (take-add at n bytes)) (writes_more a b c _ _ r s)

pub writes_front : (a b c : Option (List ℕ)) (bytes : List ℕ) (at : ℕ) → at < length bytes → Writes a b (take at bytes) → c ≡ b → WritesFront a c bytes
writes_front None b c bytes at h w e = tt
writes_front (Some all) b c bytes at h w e =
    (take at bytes, get_or bytes at 0, drop (at + 1) bytes, sym (take-append-drop at bytes) ∙ ap (λ r. take at bytes ++ r) (drop_more bytes at 0 h), e ∙ w)

-- the next n bytes from a place on, in the front of a buffer
pub next_of : (bytes new old : List ℕ) (at n : ℕ) → at + n ≤ length bytes → new ≡ take (at + n - at) (drop at bytes) → drop at bytes ≡ take n (new ++ drop n old) ++ drop (at + n) bytes
next_of bytes new old at n h e =
    let m : (at + n) - at ≡ n = omega arith in
    let e' : new ≡ take n (drop at bytes) = rw m at e in
    let len : length new ≡ n = ap length e' ∙ length-take-le n (drop at bytes) (omega (arith, length-drop at bytes)) in
    sym (take-append-drop n (drop at bytes)) ∙ (ap (λ r. take n (drop at bytes) ++ r) (drop-drop n at bytes) ∙ ap (λ r. r ++ drop (at + n) bytes) (sym e' ∙ sym (take_at new (drop n old) n len)))

-- what was read is the front of what was left, up to the most
pub front_of : (all got rest : List ℕ) (most : ℕ) → all ≡ got ++ rest → length got ≡ most → got ≡ take most all
front_of all got rest most e h = sym (take_at got rest most h) ∙ ap (take most) (sym e)

-- what was read before the end is all
pub whole_of : (a b : Option (List ℕ)) (got : List ℕ) (most : ℕ) → Reads a b got → IsAtEnd b → length got ≤ most → (all : List ℕ) → a ≡ Some all → got ≡ take most all
whole_of a b got most r e h all is =
    let r' : Reads (Some all) b got = subst (λ o. Reads o b got) is r in
    let nil : r'.0 ≡ [] = subst IsAtEnd r'.1 e in
    let full : all ≡ got = r'.2 ∙ (ap (λ zs. got ++ zs) nil ∙ append-nil got) in
    sym (ap (take most) full ∙ take_all most got h)

-- what was read up to the most is the front of what was left
pub most_of : (a b : Option (List ℕ)) (got : List ℕ) (most : ℕ) → Reads a b got → length got ≡ most → (all : List ℕ) → a ≡ Some all → got ≡ take most all
most_of a b got most r h all is =
    let r' : Reads (Some all) b got = subst (λ o. Reads o b got) is r in
    front_of all got r'.0 most r'.2 h

-- what is left after the front was read is what comes after the most
pub rest_of : (a c : Option (List ℕ)) (got : List ℕ) (most : ℕ) → Reads a c got → ((all : List ℕ) → a ≡ Some all → got ≡ take most all)
    → (all : List ℕ) → a ≡ Some all → c ≡ Some (drop most all)
rest_of a c got most r front all is =
    let r' : Reads (Some all) c got = subst (λ o. Reads o c got) is r in
    let same : got ++ r'.0 ≡ got ++ drop most all = sym r'.2 ∙ (sym (take-append-drop most all) ∙ ap (λ xs. xs ++ drop most all) (sym (front all is))) in
    r'.1 ∙ ap Some (append_cancel_left got r'.0 (drop most all) same)

-- a read of no bytes adds none
pub reads_nothing : (a b c : Option (List ℕ)) (got bytes : List ℕ) (n : ℕ) → n ≡ 0 → Reads a b got → Reads b c (take n bytes) → Reads a c got
reads_nothing a b c got bytes n zero_read r s =
    let s' : Reads b c [] = subst (λ k. Reads b c (take k bytes)) zero_read s in
    subst (Reads a c) (append-nil got) (reads_more a b c got [] r s')

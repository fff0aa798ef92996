-- Lists of paths that rise, from one path on and up to another.
use Rattle.std.proofs.Common.{ℕ, ◌<◌, List, [], ◌∷◌, ◌++◌, All, AllPairs, refl, sym, ap, ◌∙◌, arith}
use Rattle.std.proofs.lemmas.Cmp.{tied_itself, nat_cmp_total, nat_list_cmp_total}
use Rattle.std.proofs.lemmas.List.Elements.{All-nil, All-cons}
use Rattle.std.proofs.lemmas.List.Kept.{AllPairs-cons}
use Rattle.std.specs.Cmp.{nat_cmp_is}
use Rattle.std.specs.Cmp.Lexicographic.{slice_cmp}
use Rattle.std.specs.Ordering.{nat_cmp, ordering_then}
use Rattle.std.specs.declared.cmp.Ordering.TheVariants.{Less}
use Rattle.mv_record.specs.Paths.{IsEarlierPath}

-- One path before another

pub front_earlier : (n : ℕ) (ns : List ℕ) → IsEarlierPath [] (n ∷ ns)
front_earlier n ns = refl

pub less_earlier : (m n : ℕ) (ms ns : List ℕ) → m < n → IsEarlierPath (m ∷ ms) (n ∷ ns)
less_earlier m n ms ns lt = ap (λ o. ordering_then o (slice_cmp nat_cmp ms ns)) (sym (nat_cmp_is m n Less lt))

-- behind the same numbers
pub behind_same : (a ms ns : List ℕ) → IsEarlierPath ms ns → IsEarlierPath (a ++ ms) (a ++ ns)
behind_same [] ms ns h = h
behind_same (n ∷ a) ms ns h = ap (λ o. ordering_then o (slice_cmp nat_cmp (a ++ ms) (a ++ ns))) (tied_itself nat_cmp_total n) ∙ behind_same a ms ns h

-- what is before one path is before the other
abbrev pub NotLater : List ℕ → List ℕ → Type 0
NotLater p q = (o : List ℕ) → IsEarlierPath o p → IsEarlierPath o q

pub earlier_not_later : (p q : List ℕ) → IsEarlierPath p q → NotLater p q
earlier_not_later p q h o lt = nat_list_cmp_total.trans o p q lt h

-- the statement with a number before the one with a greater number
pub number_not_later : (a : List ℕ) (m n : ℕ) → m < n → NotLater (a ++ m ∷ []) (a ++ n ∷ [])
number_not_later a m n lt = earlier_not_later (a ++ m ∷ []) (a ++ n ∷ []) (behind_same a (m ∷ []) (n ∷ []) (less_earlier m n [] [] lt))

-- Lists

-- the paths rise from behind the first one up to the last
abbrev pub ClimbBehind : List ℕ → List (List ℕ) → List ℕ → Type 0
ClimbBehind low [] high = IsEarlierPath low high
ClimbBehind low (p ∷ ps) high = IsEarlierPath low p × ClimbBehind p ps high

-- the first one may be there
abbrev pub Climb : List ℕ → List (List ℕ) → List ℕ → Type 0
Climb low [] high = NotLater low high
Climb low (p ∷ ps) high = NotLater low p × ClimbBehind p ps high

pub climb_on : (low middle : List ℕ) (ps : List (List ℕ)) (high : List ℕ) → IsEarlierPath low middle → Climb middle ps high → ClimbBehind low ps high
climb_on low middle [] high lt h = h low lt
climb_on low middle (p ∷ ps) high lt h = (h.0 low lt, h.1)

join_behind : (low : List ℕ) (ps : List (List ℕ)) (middle : List ℕ) (qs : List (List ℕ)) (high : List ℕ)
    → ClimbBehind low ps middle → Climb middle qs high → ClimbBehind low (ps ++ qs) high
join_behind low [] middle qs high h k = climb_on low middle qs high h k
join_behind low (p ∷ ps) middle qs high h k = (h.0, join_behind p ps middle qs high h.1 k)

pub climb_from : (low middle : List ℕ) (ps : List (List ℕ)) (high : List ℕ) → NotLater low middle → Climb middle ps high → Climb low ps high
climb_from low middle [] high le h = λ o lt. h o (le o lt)
climb_from low middle (p ∷ ps) high le h = (λ o lt. h.0 o (le o lt), h.1)

pub climb_join : (low : List ℕ) (ps : List (List ℕ)) (middle : List ℕ) (qs : List (List ℕ)) (high : List ℕ)
    → Climb low ps middle → Climb middle qs high → Climb low (ps ++ qs) high
climb_join low [] middle qs high h k = climb_from low middle qs high h k
climb_join low (p ∷ ps) middle qs high h k = (h.0, join_behind p ps middle qs high h.1 k)

higher_behind : (low : List ℕ) (ps : List (List ℕ)) (middle high : List ℕ) → ClimbBehind low ps middle → NotLater middle high → ClimbBehind low ps high
higher_behind low [] middle high h le = le low h
higher_behind low (p ∷ ps) middle high h le = (h.0, higher_behind p ps middle high h.1 le)

pub climb_to : (low : List ℕ) (ps : List (List ℕ)) (middle high : List ℕ) → Climb low ps middle → NotLater middle high → Climb low ps high
climb_to low [] middle high h le = λ o lt. le o (h o lt)
climb_to low (p ∷ ps) middle high h le = (h.0, higher_behind p ps middle high h.1 le)

-- All pairs

lower_behind : (low p : List ℕ) → IsEarlierPath low p → (ps : List (List ℕ)) (high : List ℕ) → ClimbBehind p ps high → ClimbBehind low ps high
lower_behind low p lt [] high h = nat_list_cmp_total.trans low p high lt h
lower_behind low p lt (q ∷ ps) high h = (nat_list_cmp_total.trans low p q lt h.0, h.1)

all_behind : (low : List ℕ) (ps : List (List ℕ)) (high : List ℕ) → ClimbBehind low ps high → All (IsEarlierPath low) ps
all_behind low [] high h = All-nil (IsEarlierPath low)
all_behind low (p ∷ ps) high h = All-cons (IsEarlierPath low) p ps h.0 (all_behind low ps high (lower_behind low p h.0 ps high h.1))

pairs_behind : (low : List ℕ) (ps : List (List ℕ)) (high : List ℕ) → ClimbBehind low ps high → AllPairs IsEarlierPath ps
pairs_behind low [] high h = λ i j d lt within. absurd (omega (arith, within))
pairs_behind low (p ∷ ps) high h = AllPairs-cons IsEarlierPath p ps (all_behind p ps high h.1) (pairs_behind p ps high h.1)

pub climb_pairs : (low : List ℕ) (ps : List (List ℕ)) (high : List ℕ) → Climb low ps high → AllPairs IsEarlierPath ps
climb_pairs low [] high h = λ i j d lt within. absurd (omega (arith, within))
climb_pairs low (p ∷ ps) high h = AllPairs-cons IsEarlierPath p ps (all_behind p ps high h.1) (pairs_behind p ps high h.1)

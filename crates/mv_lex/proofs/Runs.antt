-- How many bytes of a class stand at the front.
use Rattle.std.proofs.Common.{◌≡◌, ℕ, ◌≤◌, Bool, true, false, List, [], ◌∷◌, ◌++◌, length, refl, ap, arith}
use Rattle.std.specs.List.{list_all, prefix_len}
use Rattle.std.proofs.lemmas.Bool.{and_parts, and_from}

-- the next byte, if there is one, isn't of the class
abbrev pub Stops : (ℕ → Bool) → List ℕ → Type 0
Stops p [] = Unit {0}
Stops p (b ∷ bs) = p b ≡ false

pub run_reaches : (p : ℕ → Bool) (front rest : List ℕ) → list_all p front ≡ true → length front ≤ prefix_len p (front ++ rest)
run_reaches p [] rest h = omega arith
run_reaches p (b ∷ bs) rest h =
    let parts = and_parts (p b) (list_all p bs) h in
    rw parts.0 (omega (arith, run_reaches p bs rest parts.1))

stops_at : (p : ℕ → Bool) (rest : List ℕ) → Stops p rest → prefix_len p rest ≡ 0
stops_at p [] s = refl
stops_at p (b ∷ bs) s = rw s refl

pub run_exact : (p : ℕ → Bool) (front rest : List ℕ) → list_all p front ≡ true → Stops p rest → prefix_len p (front ++ rest) ≡ length front
run_exact p [] rest h s = stops_at p rest s
run_exact p (b ∷ bs) rest h s =
    let parts = and_parts (p b) (list_all p bs) h in
    let ih = run_exact p bs rest parts.1 s in
    rw parts.0 (omega arith)

-- the bytes are those of the class, and others
pub record Run (p : ℕ → Bool) (bytes : List ℕ) : Type 0 where
  pub front : List ℕ
  pub rest : List ℕ
  pub splits : bytes ≡ front ++ rest
  pub all : list_all p front ≡ true
  pub stops : Stops p rest
  pub count : prefix_len p bytes ≡ length front

run_cons : (p : ℕ → Bool) (b : ℕ) (bs : List ℕ) (t : Bool) → p b ≡ t → Run p bs → Run p (b ∷ bs)
run_cons p b bs true h r = record {
  front = b ∷ r.front;
  rest = r.rest;
  splits = ap (λ xs. b ∷ xs) r.splits;
  all = and_from (p b) (list_all p r.front) h r.all;
  stops = r.stops;
  count = (let e = r.count in rw h (omega arith));
}
run_cons p b bs false h r = record { front = []; rest = b ∷ bs; splits = refl; all = refl; stops = h; count = rw h refl }

pub run_of : (p : ℕ → Bool) (bytes : List ℕ) → Run p bytes
run_of p [] = record { front = []; rest = []; splits = refl; all = refl; stops = tt; count = refl }
run_of p (b ∷ bs) = run_cons p b bs (p b) refl (run_of p bs)

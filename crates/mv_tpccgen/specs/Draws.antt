-- Draws of random numbers. A draw takes words of a stream, and gives a value and the stream that is left.
use Rattle.std.specs.Prelude.{◌≡◌, ℕ, zero, suc, ◌+◌, ◌-◌, ◌%◌, List, [], ◌∷◌, ◌++◌, bit_or}
use Rattle.std.specs.Int.{w64, from_le_bytes, to_le_bytes}
use Rattle.rand_core.specs.Steps.{stream_of}
use Rattle.rand_core.specs.Stream.{Stream, next_u64}
use Rattle.rand_xoshiro.specs.SplitMix64.{splitmix_steps}

abbrev pub Draw : Type 0 → Type 0
Draw A = Stream → A × Stream

-- the value, without a word
abbrev pub done : {A : Type 0} → A → Draw A
done value words = (value, words)

-- a draw, and after it the draw that its value tells
infixr 10 ◌>>=◌
unfoldable pub ◌>>=◌ : {A B : Type 0} → Draw A → (A → Draw B) → Draw B
(draw >>= more) words = more (draw words).0 (draw words).1

-- a number from low to high
unfoldable pub random : ℕ → ℕ → Draw ℕ
random low high words = (low + (next_u64 words).0 % (high - low + 1), (next_u64 words).1)

-- a number from low to high that isn't uniform, as in TPC-C 5.11, 2.1.6, with the constant 7
unfoldable pub nurand : ℕ → ℕ → ℕ → Draw ℕ
nurand most low high =
    random 0 most >>= λ mask.
    random low high >>= λ number.
    done ((bit_or mask number + 7) % (high - low + 1) + low)

-- one of the warehouses, but not this one
unfoldable pub other : ℕ → ℕ → Draw ℕ
other warehouses w =
    random 1 (warehouses - 1) >>= λ step.
    done ((w - 1 + step) % warehouses + 1)

-- the values of the draws 0, 1 and so on, as many as are asked for
unfoldable pub each : {A : Type 0} → (ℕ → Draw A) → ℕ → Draw (List A)
each draw zero = done []
each draw (suc count) =
    each draw count >>= λ values.
    draw count >>= λ value.
    done (values ++ value ∷ [])

-- the words of SplitMix64 from a state on
abbrev pub words_at : ℕ → Stream
words_at state = stream_of splitmix_steps state

-- the draw gives this value, and takes the generator from one state to the other
abbrev pub IsDrawn : {A : Type 0} → Draw A → A → ℕ → ℕ → Type 0
IsDrawn draw value before after = (value, words_at after) ≡ draw (words_at before)

-- the words of SplitMix64 from a seed, which is written in eight bytes, least first
unfoldable pub words_from : ℕ → Stream
words_from seed = words_at (from_le_bytes w64 (to_le_bytes w64 seed))

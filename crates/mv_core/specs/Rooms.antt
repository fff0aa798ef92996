-- Defines lists with reserved room. This project's own.
use Rattle.std.specs.Prelude.{ℕ, List}

-- items, and the room for more
pub record Filled (T : Type 0) : Type 0 where
  pub items : List T
  pub room : ℕ

-- What keeps the code's products within its numbers.
use Rattle.std.specs.Prelude.{◌≤◌}
use Rattle.ratio.specs.declared.Fraction.{Fraction}

-- both numbers have 16 bits
pub record Small (a : Fraction) : Type 0 where
  pub top : a.num ≤ 65535
  pub bottom : a.den ≤ 65535

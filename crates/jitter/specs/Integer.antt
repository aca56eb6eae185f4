-- Integers, for a difference "with its sign" (document 02, job 2): one natural number less another.
use Rattle.std.specs.Prelude.{ℕ, ◌+◌, ◌-◌, ◌≡◌}

pub record Integer : Type 0 where
  pub plus : ℕ
  pub minus : ℕ

-- a - b
abbrev pub less : ℕ → ℕ → Integer
less a b = record { plus = a; minus = b }

-- x - y
abbrev pub less_integer : Integer → Integer → Integer
less_integer x y = record { plus = x.plus + y.minus; minus = x.minus + y.plus }

-- Two such differences are the same integer.
abbrev pub Same : Integer → Integer → Type 0
Same x y = x.plus + y.minus ≡ y.plus + x.minus

-- The size, |x|: of the two differences of naturals, which stop at 0, at least one is 0.
abbrev pub size : Integer → ℕ
size x = (x.plus - x.minus) + (x.minus - x.plus)

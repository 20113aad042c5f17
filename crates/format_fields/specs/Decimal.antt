-- Numbers in decimal, as the programs print them (paper 01, "Strap examples") and as XML has them (paper 02, 2026-05).
use Rattle.std.specs.Prelude.{ℕ, zero, suc, ◌+◌, ◌/◌, ◌%◌, true, false, List, [], ◌∷◌, ◌++◌, ltb}

-- A number in decimal, without leading zeros. The fuel is more than the number.
unfoldable pub decimal_by : ℕ → ℕ → List ℕ
decimal_by zero n = []
decimal_by (suc fuel) n =
    elim (ltb n 10) [ true ↦ (48 + n) ∷ [] | false ↦ decimal_by fuel (n / 10) ++ ((48 + n % 10) ∷ []) ]

-- The same, with fuel for the number.
unfoldable pub decimal : ℕ → List ℕ
decimal n = decimal_by (suc n) n

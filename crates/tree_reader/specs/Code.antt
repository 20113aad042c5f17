-- Codes (document 000: C.1, reconstructors). A tree is a code without arguments.
use Rattle.std.specs.Prelude.{ℕ, suc, max}

-- A production of a kind with its operands, a token, or an argument by its number from 1, used by a mapping's number
-- (paper 02, 2026-13).
mutual
  pub data Code : Type 0 where
    node : (kind name : ℕ) (operands : Codes) → Code
    token : (value : ℕ) → Code
    argument : (number by : ℕ) → Code

  pub data Codes : Type 0 where
    nil : Codes
    cons : Code → Codes → Codes

-- How many levels a code has: each node and argument is one, an operand one deeper than its node (paper 01, "Languages"
-- for trees and "Translations" for codes); a token is none (paper 02, 2026-07).
unfoldable mutual
  pub levels : Code → ℕ
  levels (node k p t) = suc (levels_all t)
  levels (token v) = 0
  levels (argument i j) = 1

  pub levels_all : Codes → ℕ
  levels_all nil = 0
  levels_all (cons a t) = max (levels a) (levels_all t)

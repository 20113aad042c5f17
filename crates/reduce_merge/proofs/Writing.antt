-- A walk that writes a result in parts: what is left of it is written from n on, and the result from `from` on.
use Rattle.std.specs.Prelude.{None, Option, Some}
use Prim.Native.Nat.{ℕ, ◌≤◌}
use mathlib.Core.Path.{◌≡◌, sym, subst}
use mathlib.Core.List.{List, [], ◌++◌}
use native.Mathlib.Omega.{arith}
use lib.ListN.{length}
use Rattle.format_fields.specs.Inner.Writing.{Stores}
use Rattle.format_fields.proofs.Splices.{stored_nothing, both_full, both_then}

pub record Writing (result left o out : List ℕ) (from n : ℕ) : Type 0 where
  pub rest : (out' : List ℕ) (x : Option ℕ) → Stores left out out' n x → Stores result o out' from x

pub writing_start : (result left o : List ℕ) (from : ℕ) → result ≡ left → Writing result left o o from from
writing_start result left o from e = record { rest = λ out' x w. subst (λ (v : List ℕ). Stores v o out' from x) (sym e) w }

module _ (result left o out : List ℕ) (from n : ℕ) (h : Writing result left o out from n) where
  -- v is written next, and then more is left
  module _ (v more : List ℕ) (e : left ≡ v ++ more) (out' : List ℕ) (x : Option ℕ) (w : Stores v out out' n x) where
    pub writing_full : x ≡ None → Stores result o out' from None
    writing_full q = h.rest out' None (subst (λ (y : List ℕ). Stores y out out' n None) (sym e) (both_full v more out out' n x w q))

    pub writing_room : (m : ℕ) → x ≡ Some m → length out' ≡ length out → m ≤ length out'
    writing_room m d l = omega (arith, (w.done m d).fits)

    pub writing_next : (m : ℕ) → x ≡ Some m → length out' ≡ length out → Writing result more o out' from m
    writing_next m d l = record {
      rest = λ out'' y k. h.rest out'' y (subst (λ (r : List ℕ). Stores r out out'' n y) (sym e) (both_then v more out out' n x w m d out'' y l k));
    }

  -- nothing is left
  pub writing_done : left ≡ [] → n ≤ length out → Stores result o out from (Some n)
  writing_done e l = h.rest out (Some n) (subst (λ (v : List ℕ). Stores v out out n (Some n)) (sym e) (stored_nothing out n l))

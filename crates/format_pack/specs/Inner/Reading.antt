-- Reading a term without keeping it: what is left of the bytes after a term whose constants are there and whose
-- variables are 0 to 15.
use Rattle.std.specs.Prelude as Std
use Rattle.std.specs.Prelude.{ℕ, ◌+◌, ◌≤◌, Bool, cond, not, ◌&&◌, List, [], ◌∷◌, Some, None, IfSome, drop, ltb, leb, eqb}
use Rattle.std.proofs.Math.Option.{Option, none, some}
use Rattle.format_pack.specs.Terms as Terms
use Rattle.format_pack.specs.Terms.{languages, translations, Term, Parse, read_term, scoped}
use Rattle.format_pack.specs.Inner.Signs.{has_number, first_sign}
use Rattle.format_pack.specs.declared.signs.Sort.{Sort}
use Rattle.format_pack.specs.declared.signs.Sort.TheVariants.{Language, Translation}

-- The next step, on what is left.
abbrev pub next : Option (List ℕ) → (List ℕ → Option (List ℕ)) → Option (List ℕ)
next none f = none
next (some s) f = f s

-- What is left after a number below the limit.
abbrev pub after_number : ℕ → List ℕ → Option (List ℕ)
after_number limit [] = none
after_number limit (n ∷ s) = cond (ltb n limit) (some s) none

-- What is left after a term, where it is in scope.
abbrev pub in_scope : {s : Terms.Sort} → ℕ → ℕ → Parse (Term s) → Option (List ℕ)
in_scope l b none = none
in_scope l b (some r) = cond (scoped l b r.0) (some r.1) none

-- What is left after a term of the sort, if one is to be there, of at most so many levels, where there are l languages and b
-- bodies.
unfoldable pub after : ℕ → ℕ → ℕ → Std.Option Sort → List ℕ → Option (List ℕ)
after l b n None s = some s
after l b n (Some Language) s = in_scope l b (read_term n languages s)
after l b n (Some Translation) s = in_scope l b (read_term n translations s)

-- A sign of the sort.
abbrev pub is_sign : Sort → ℕ → Bool
is_sign sort sign = leb (first_sign sort) sign && ltb sign (first_sign sort + 8)

-- What is left after a sign of the sort, and after the number that follows it.
unfoldable pub after_sign : ℕ → Sort → List ℕ → Option (List ℕ)
after_sign l sort [] = none
after_sign l sort (x ∷ s) =
    cond (is_sign sort x)
    (cond (has_number x && not (eqb x 0x50)) (after_number (cond (eqb x 0x40) l 16) s) (some s))
    none

-- What is left after the number that ends a sign: b of sign 50.
unfoldable pub after_last : ℕ → ℕ → List ℕ → Option (List ℕ)
after_last b sign s = cond (eqb sign 0x50) (after_number b s) (some s)

-- What is left, where a position was reached.
abbrev pub rest_at : List ℕ → Std.Option ℕ → Option (List ℕ)
rest_at s None = none
rest_at s (Some e) = some (drop e s)

-- A position that was reached lies in the bytes.
abbrev pub EndsBy : ℕ → Std.Option ℕ → Type 0
EndsBy n r = IfSome r (λ e. e ≤ n)

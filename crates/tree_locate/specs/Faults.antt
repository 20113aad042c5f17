-- Where the reading of a tree stops (paper 01, "Check a tree": 16 on reaching level 65, before looking at the byte there, or 15 for
-- an unknown name, an undefined kind, a token out of range or input that ends, in reading order). In the shape of the reading of
-- trees, `read_by`, with what is left of the input in place of the tree that is read.
use Rattle.std.specs.Prelude.{ℕ, zero, suc, ◌+◌, ◌*◌, true, false, List, [], ◌∷◌}
use Rattle.std.proofs.Math.Option.{Option, none, some}
use Rattle.format_language.specs.Language.{Language, Range, range_of, arguments_of, in_range}

-- What reading a tree off the front of the input comes to: past the tree, with the bytes behind it; at the end of the input; at a node
-- that cannot be, with the bytes from it on; at one level too many, with the bytes from there on.
pub data Stop : Type 0 where
  passes : (behind : List ℕ) → Stop
  ends : Stop
  unfit : (from : List ℕ) → Stop
  deep : (from : List ℕ) → Stop

-- The next reading, on what is left; the first that stops before ends it.
abbrev pub onward : Stop → (List ℕ → Stop) → Stop
onward (passes s) next = next s
onward ends next = ends
onward (unfit s) next = unfit s
onward (deep s) next = deep s

-- Trees of the given kinds, one after the other.
unfoldable pub stop_all : (ℕ → List ℕ → Stop) → (kinds : List ℕ) → List ℕ → Stop
stop_all stops [] s = passes s
stop_all stops (k ∷ ks) s = onward (stops k s) (stop_all stops ks)

-- The operands of a production behind its name p; an unknown name cannot be.
unfoldable pub stop_operands : (ℕ → List ℕ → Stop) → Option (List ℕ) → (p : ℕ) → List ℕ → Stop
stop_operands stops none p s = unfit (p ∷ s)
stop_operands stops (some ks) p s = stop_all stops ks s

-- A production name of the kind, then its operands. An undefined kind has no names.
unfoldable pub stop_node : (ℕ → List ℕ → Stop) → Language → (kind : ℕ) → List ℕ → Stop
stop_node stops l k [] = ends
stop_node stops l k (p ∷ s) = stop_operands stops (arguments_of l k p) p s

-- A value of two bytes: the input may end in the middle of it; out of the range of its class it cannot be.
unfoldable pub stop_token : Range → List ℕ → Stop
stop_token c [] = ends
stop_token c (x ∷ []) = ends
stop_token c (x ∷ y ∷ s) = elim (in_range c (x * 256 + y)) [ true ↦ passes s | false ↦ unfit (x ∷ y ∷ s) ]

-- A tree of a kind, with so many levels left: a class has a token, which is no level; any other kind has a name, and is too deep where
-- no level is left, before a byte of it is looked at (paper 02, 2026-07).
unfoldable pub stop : Language → (levels kind : ℕ) → List ℕ → Stop
stop l zero k s = elim (range_of l k) [ some c ↦ stop_token c s | none ↦ deep s ]
stop l (suc n) k s = elim (range_of l k) [ some c ↦ stop_token c s | none ↦ stop_node (stop l n) l k s ]

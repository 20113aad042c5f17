-- The bytes of a tree, in the order in which its export holds them.
use Rattle.std.specs.Prelude.{ℕ, ◌+◌, ◌<◌, ◌≤◌, ◌≡◌, true, false, List, [], ◌∷◌, ◌++◌, length, get_or, drop, eqb, Option, Some, None}
use Rattle.format_fields.specs.Fields.{two_bytes}
use Rattle.format_fields.specs.Inner.Writing.{Written}
use Rattle.format_fields.specs.Decimal.{decimal}
use Rattle.xml_text.specs.Text.{open_node, close_node, open_token, close_token, node_tag, token_tag}

-- A text of whole tags and tokens, and the bytes of the names and values in it.
pub data Contents : List ℕ → List ℕ → Type 0 where
  empty : Contents [] []
  closing : {s r v : List ℕ} (k p : ℕ) → s ≡ node_tag close_node k p ++ r → Contents r v → Contents s v
  opening : {s r v : List ℕ} (k p : ℕ) → p < 256 → s ≡ node_tag open_node k p ++ r → Contents r v → Contents s (p ∷ v)
  value : {s r v : List ℕ} (k n : ℕ) → n < 65536 → s ≡ token_tag open_token k ++ (decimal n ++ (token_tag close_token k ++ r)) → Contents r v
      → Contents s (two_bytes n ++ v)

-- How many bytes of a tree a tag holds, by its second byte; and how many all tags hold.
unfoldable pub signed : ℕ → ℕ
signed c = elim (eqb c 120) [ true ↦ 1 | false ↦ elim (eqb c 116) [ true ↦ 2 | false ↦ 0 ] ]

unfoldable pub bytes_in : List ℕ → ℕ
bytes_in [] = 0
bytes_in (b ∷ s) = elim (eqb b 60) [ true ↦ signed (get_or s 0 0) + bytes_in s | false ↦ bytes_in s ]

-- The text behind the first byte c.
unfoldable pub after : ℕ → List ℕ → List ℕ
after c [] = []
after c (b ∷ s) = elim (eqb b c) [ true ↦ s | false ↦ after c s ]

-- The position r is the one behind the first byte c from `at` on.
pub record Behind (c : ℕ) (text : List ℕ) (at r : ℕ) : Type 0 where
  pub left : drop r text ≡ after c (drop at text)
  pub past : at ≤ r
  pub inside : r ≤ length text

-- The first of the bytes v stand in what was the output o, from n up to m; the text holds the others from e on.
pub record Written-to (v text o o' : List ℕ) (n e m : ℕ) : Type 0 where
  pub first : List ℕ
  pub rest : List ℕ
  pub parts : v ≡ first ++ rest
  pub holds : Contents (drop e text) rest
  pub put : Written first o o' n m

-- The answer r, where what stands at `at` is written from n on over the output o, and o' is left.
pub record Takes (text : List ℕ) (at : ℕ) (o o' : List ℕ) (n : ℕ) (r : Option (ℕ × ℕ)) : Type 0 where
  pub inside : (e m : ℕ) → r ≡ Some (e, m) → (at < e) × (e ≤ length text) × (m ≤ length o)
  pub next : (e m : ℕ) → r ≡ Some (e, m) → (v : List ℕ) → Contents (drop at text) v → n + length v ≤ length o → Written-to v text o o' n e m
  pub full : r ≡ None → (v : List ℕ) → Contents (drop at text) v → length o < n + length v

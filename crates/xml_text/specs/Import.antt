-- An export, read (paper 02, 2026-05): the tree at the front of a text, and the text behind it. Anything that is no export
-- is broken: spaces, attributes, leading zeros, self-closing tags, a closing tag of another name.
use Rattle.std.specs.Prelude.{ℕ, zero, suc, ◌+◌, ◌*◌, ◌-◌, Bool, true, false, ◌&&◌, List, [], ◌∷◌, leb, eqb}
use Rattle.std.proofs.Math.Option.{Option, none, some}
use Rattle.format_language.specs.Language.{Language, Range, range_of, arguments_of, in_range}
use Rattle.tree_reader.specs.Code.{Code, node, token}
use Rattle.tree_reader.specs.Syntax.{Read, done, deep, broken, and_then, read_all}
use Rattle.xml_text.specs.Text.{open_node, close_node, open_token, close_token, point, tag_end}

-- A given text.
unfoldable pub read_word : List ℕ → List ℕ → Read (Unit {0})
read_word [] s = done tt s
read_word (w ∷ ws) [] = broken
read_word (w ∷ ws) (b ∷ s) = elim (eqb b w) [ true ↦ read_word ws s | false ↦ broken ]

-- A byte is a decimal digit.
unfoldable pub is_digit : ℕ → Bool
is_digit b = leb 48 b && leb b 57

-- The digits that follow those of n.
unfoldable pub read_digits : ℕ → List ℕ → Read ℕ
read_digits n [] = done n []
read_digits n (b ∷ s) = elim (is_digit b) [ true ↦ read_digits (n * 10 + (b - 48)) s | false ↦ done n (b ∷ s) ]

-- A number in decimal: 0 stands alone, any other number does not begin with it.
unfoldable pub read_number : List ℕ → Read ℕ
read_number [] = broken
read_number (b ∷ s) =
    elim (eqb b 48) [
      | true ↦ done 0 s
      | false ↦ elim (is_digit b) [ true ↦ read_digits (b - 48) s | false ↦ broken ]
    ]

-- A given text, and behind it a given number.
unfoldable pub read_named : List ℕ → ℕ → List ℕ → Read (Unit {0})
read_named word k s =
    and_then (read_word word s) λ u r.
    and_then (read_number r) λ n r.
    elim (eqb n k) [ true ↦ done tt r | false ↦ broken ]

-- The opening tag of a production of kind k, and its name.
unfoldable pub read_opening : ℕ → List ℕ → Read ℕ
read_opening k s =
    and_then (read_named open_node k s) λ u r.
    and_then (read_word point r) λ u r.
    and_then (read_number r) λ p r.
    and_then (read_word tag_end r) λ u r.
    done p r

-- The closing tag of production k.p.
unfoldable pub read_closing : ℕ → ℕ → List ℕ → Read (Unit {0})
read_closing k p s =
    and_then (read_named close_node k s) λ u r.
    and_then (read_named point p r) λ u r.
    read_word tag_end r

-- A tag of a token of kind k.
unfoldable pub read_token_tag : List ℕ → ℕ → List ℕ → Read (Unit {0})
read_token_tag begin k s = and_then (read_named begin k s) λ u r. read_word tag_end r

-- A token of kind k with its tags, and a value that is legal in the class.
unfoldable pub read_token : ℕ → Range → List ℕ → Read Code
read_token k c s =
    and_then (read_token_tag open_token k s) λ u r.
    and_then (read_number r) λ v r.
    elim (in_range c v) [
      | true ↦ and_then (read_token_tag close_token k r) λ u r. done (token v) r
      | false ↦ broken
    ]

-- The arguments of production k.p and its closing tag; an unknown production is broken.
unfoldable pub read_operands : (ℕ → List ℕ → Read Code) → ℕ → ℕ → Option (List ℕ) → List ℕ → Read Code
read_operands reads k p none s = broken
read_operands reads k p (some ks) s =
    and_then (read_all reads ks s) λ t r.
    and_then (read_closing k p r) λ u r.
    done (node k p t) r

-- A production of kind k with its tags and arguments.
unfoldable pub read_element : (ℕ → List ℕ → Read Code) → Language → ℕ → List ℕ → Read Code
read_element reads l k s = and_then (read_opening k s) λ p r. read_operands reads k p (arguments_of l k p) r

-- The tree of kind k at the front of a text, with so many levels left. Past the last level only the token of a class is
-- read; anything else is too deep, before its text is looked at.
unfoldable pub read_text : Language → ℕ → ℕ → List ℕ → Read Code
read_text l zero k s = elim (range_of l k) [ some c ↦ read_token k c s | none ↦ deep ]
read_text l (suc n) k s = elim (range_of l k) [ some c ↦ read_token k c s | none ↦ read_element (read_text l n) l k s ]

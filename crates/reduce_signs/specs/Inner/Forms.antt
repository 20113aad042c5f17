-- The forms of terms, by the sort of the term and its sign.
use Rattle.std.specs.Prelude.{ℕ, ◌≡◌, List, ◌∷◌}
use Rattle.std.proofs.Math.Option.{none}
use Rattle.format_pack.specs.Terms.{Sort, languages, translations, Term, Parse, signed, bind_sign, read_sign}
use Rattle.reduce_signs.specs.declared.forms.Form.{Form}
use Rattle.reduce_signs.specs.declared.forms.Form.TheVariants.{Constant, Variable, One, Two, Make, Let, Unknown}
use Rattle.reduce_signs.specs.Inner.Sorts.{sort_of, first_sort, binary_sign, unary_sort, unary_sign}

-- The sign begins a term of the sort and of the form.
abbrev pub Begins : Sort → ℕ → Form → Type 0
Begins s b Constant = (s ≡ languages) × (b ≡ 0x40)
Begins s b Variable = b ≡ signed s 0x41 0x51
Begins s b (One o) = (s ≡ unary_sort o) × (b ≡ unary_sign o)
Begins s b (Two o) = (s ≡ first_sort o) × (b ≡ binary_sign o)
Begins s b Make = (s ≡ translations) × (b ≡ 0x50)
Begins s b (Let r) = b ≡ bind_sign (sort_of r) s
Begins s b Unknown = (reads : (s : Sort) → List ℕ → Parse (Term s)) (bytes : List ℕ) → read_sign reads s (b ∷ bytes) ≡ none

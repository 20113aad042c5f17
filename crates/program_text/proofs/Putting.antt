-- Text put into a buffer: one part behind another, and a law for each turn and return of the code.
use Prim.Native.Nat.{ℕ, ◌+◌, ◌/◌, ◌%◌, ◌<◌, ◌≤◌}
use mathlib.Core.Path.{◌≡◌, refl, sym, ap, ◌∙◌, subst}
use mathlib.Core.List.{List, [], ◌∷◌, ◌++◌, append_assoc, append-nil}
use native.Mathlib.Numerals.{add-one}
use native.Mathlib.Omega.{arith}
use lib.ListN.{length, take, get_or, replicate, length-append, length-replicate}
use lib.Seq.{take-suc}
use Rattle.format_fields.specs.Lists.{concat_map}
use Rattle.format_fields.proofs.Codec.{concat_append}
use Rattle.format_fields.specs.Decimal.{decimal}
use Rattle.program_text.specs.Text.{capital, pair_of, marked, first_line}
use Rattle.program_text.specs.Inner.Putting.{Puts}

-- The length of a buffer of zeros, without counting them.
pub zeros : (n : ℕ) → n ≡ length {A = ℕ} (replicate n 0)
zeros n = sym (length-replicate {A = ℕ} n 0)

-- One part behind another.
pub puts_then : (v u o o' o'' : List ℕ) (p q r : ℕ) → Puts v o o' p q → Puts u o' o'' q r → Puts (v ++ u) o o'' p r
puts_then v u o o' o'' p q r x y = record {
  end = omega (arith, x.end, y.end, length-append v u);
  fits = y.fits;
  long = y.long ∙ x.long;
  bytes = y.bytes ∙ (ap (λ (l : List ℕ). l ++ u) x.bytes ∙ append_assoc (take p o) v u);
}

-- Nothing.
pub puts_nothing : (o : List ℕ) (p : ℕ) → p ≤ length o → Puts [] o o p p
puts_nothing o p h = record {
  end = omega arith;
  fits = h;
  long = refl;
  bytes = sym (append-nil (take p o));
}

-- `put_pair`
pub puts_pair : (b h l : ℕ) (o o' o'' : List ℕ) (p q r : ℕ) → h ≡ capital (b / 16) → l ≡ capital (b % 16)
    → Puts (h ∷ []) o o' p q → Puts (l ∷ []) o' o'' q r → Puts (pair_of b) o o'' p r
unfolding pair_of
puts_pair b h l o o' o'' p q r eh el x y =
    subst (λ (v : List ℕ). Puts v o o'' p r) (cc (eh, el)) (puts_then (h ∷ []) (l ∷ []) o o' o'' p q r x y)

-- `put_hex`: a turn
module _ (f : ℕ → List ℕ) (b o o' : List ℕ) (p q i : ℕ) (x : Puts (concat_map f (take i b)) o o' p q) where
  next_is : i < length b → concat_map f (take i b) ++ f (get_or b i 0) ≡ concat_map f (take (i + 1) b)
  unfolding concat_map
  next_is h =
      sym (ap (λ (n : ℕ). concat_map f (take n b)) (add-one i)
      ∙ (ap (concat_map f) (take-suc b i 0 h)
      ∙ (concat_append f (take i b) (get_or b i 0 ∷ [])
      ∙ ap (λ (l : List ℕ). concat_map f (take i b) ++ l) (append-nil (f (get_or b i 0))))))

  pub each_again : i < length b → (o'' : List ℕ) (r : ℕ) → Puts (f (get_or b i 0)) o' o'' q r → Puts (concat_map f (take (i + 1) b)) o o'' p r
  each_again h o'' r y = subst (λ (l : List ℕ). Puts l o o'' p r) (next_is h) (puts_then _ _ _ _ _ _ _ _ x y)

-- `put_number`
pub puts_marked : (n m : ℕ) (o o' o'' : List ℕ) (p q r : ℕ) → Puts (decimal n) o o' p q → Puts (m ∷ []) o' o'' q r → Puts (marked n m) o o'' p r
unfolding marked
puts_marked n m o o' o'' p q r x y = puts_then (decimal n) (m ∷ []) o o' o'' p q r x y

-- `put_first`
pub puts_first : (word : List ℕ) (n : ℕ) (o o' o'' : List ℕ) (p q r : ℕ) → Puts word o o' p q → Puts (marked n 10) o' o'' q r → Puts (first_line word n) o o'' p r
unfolding first_line
puts_first word n o o' o'' p q r x y = puts_then word (marked n 10) o o' o'' p q r x y

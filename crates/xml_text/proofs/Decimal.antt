-- Numbers in decimal: what is written is read back, and what is read is what is written.
use Prim.Native.Nat.{ℕ, zero, suc, ◌+◌, ◌*◌, ◌/◌, ◌%◌, ◌-◌, ◌<◌, ◌≤◌}
use mathlib.Core.Path.{◌≡◌, refl, sym, ap, ◌∙◌}
use mathlib.Core.Bool.{true, false}
use mathlib.Core.List.{List, [], ◌∷◌, ◌++◌, append_assoc}
use native.Mathlib.Omega.{arith}
use lib.Dec.{ltb, leb, eqb}
use borrow.Author.Tests.{ltb-true, ltb-false, leb-true, le-leb, eqb-true, eqb-false, eq-eqb, ne_eqb}
use Rattle.format_fields.proofs.Truth.{by_test, and_both}
use Rattle.tree_reader.specs.Syntax.{done}
pub use Rattle.check_operations.proofs.Reading.{same_done, deep_not, broken_not, then_done}
use Rattle.format_fields.specs.Decimal.{decimal_by, decimal}
use Rattle.format_fields.proofs.Decimal.{decimal_small, decimal_large, decimal_more}
use Rattle.xml_text.specs.Import.{read_word, is_digit, read_digits, read_number, read_named}

-- Digits.
pub digit_range : (b : ℕ) → is_digit b ≡ true → (48 ≤ b) × (b ≤ 57)
unfolding is_digit
digit_range b e = let w = and_both (leb 48 b) (leb b 57) e in (leb-true 48 b w.0, leb-true b 57 w.1)

pub range_digit : (b : ℕ) → 48 ≤ b → b ≤ 57 → is_digit b ≡ true
unfolding is_digit
range_digit b h i = rw (le-leb 48 b h, le-leb b 57 i)

-- A number ends here: no digit follows.
abbrev pub Stops : List ℕ → Type 0
Stops [] = Unit {0}
Stops (b ∷ s) = is_digit b ≡ false

stop_digits : (n : ℕ) (s : List ℕ) → Stops s → read_digits n s ≡ done n s
unfolding read_digits
stop_digits n [] h = refl
stop_digits n (b ∷ s) h = cc

one_digit : (n m b : ℕ) (s : List ℕ) → 48 ≤ b → b ≤ 57 → n * 10 + (b - 48) ≡ m → read_digits n (b ∷ s) ≡ read_digits m s
unfolding read_digits
one_digit n m b s h i e = cc (range_digit b h i)

first_digit : (n b : ℕ) (s : List ℕ) → 48 < b → b ≤ 57 → b - 48 ≡ n → read_number (b ∷ s) ≡ read_digits n s
unfolding read_number
first_digit n b s h i e =
    let j : 48 ≤ b = omega arith in
    let q : b ≡ 48 → ⊥ = λ z. omega arith in
    cc (ne_eqb b 48 q, range_digit b j i)

digits_round : (f n : ℕ) (s : List ℕ) → n < f → 0 < n → read_number (decimal n ++ s) ≡ read_digits n s
digits_round zero n s h i = absurd (omega arith)
digits_round (suc f) n s h i =
    by_test (ltb n 10)
    (λ e.
    let m : n < 10 = ltb-true n 10 e in
    rw (decimal_small n m) (first_digit n (48 + n) s (omega arith) (omega arith) (omega arith)))
    (λ e.
    let m : 10 ≤ n = ltb-false n 10 e in
    rw (decimal_large n m, append_assoc)
    (digits_round f (n / 10) ((48 + n % 10) ∷ s) (omega arith) (omega arith)
    ∙ one_digit (n / 10) n (48 + n % 10) s (omega arith) (omega arith) (omega arith)))

-- A number that was written is read.
pub number_round : (n : ℕ) (s : List ℕ) → Stops s → read_number (decimal n ++ s) ≡ done n s
unfolding read_number decimal decimal_by
number_round zero s h = refl
number_round (suc n) s h = digits_round (suc (suc n)) (suc n) s (omega arith) (omega arith) ∙ stop_digits (suc n) s h

digits_sound : (s : List ℕ) (n v : ℕ) (r : List ℕ) → 0 < n → read_digits n s ≡ done v r → decimal n ++ s ≡ decimal v ++ r
unfolding read_digits
digits_sound [] n v r h e = let w = same_done n v [] r e in rw (w.0, w.1)
digits_sound (b ∷ s) n v r h e =
    by_test (is_digit b)
    (λ d.
    let w = digit_range b d in
    let z : read_digits (n * 10 + (b - 48)) s ≡ done v r = cc in
    let m : 48 + (b - 48) ≡ b = omega (arith, w.0) in
    let i = digits_sound s (n * 10 + (b - 48)) v r (omega arith) z in
    let j = decimal_more n (b - 48) h (omega (arith, w.0, w.1)) in
    sym (ap (λ (l : List ℕ). l ++ s) j ∙ rw (append_assoc, m)) ∙ i)
    (λ d. let w = same_done n v (b ∷ s) r (cc) in rw (w.0, w.1))

-- A number that was read is what is written.
pub number_sound : (s : List ℕ) (v : ℕ) (r : List ℕ) → read_number s ≡ done v r → s ≡ decimal v ++ r
unfolding read_number decimal decimal_by
number_sound [] v r e = broken_not e
number_sound (b ∷ s) v r e =
    by_test (eqb b 48)
    (λ d. let w = same_done 0 v s r (cc) in let z = eqb-true b 48 d in rw (z, ← w.0, w.1) refl)
    (λ d.
    by_test (is_digit b)
    (λ i.
    let w = digit_range b i in
    let z = eqb-false b 48 d in
    let m : 48 + (b - 48) ≡ b = omega (arith, w.0) in
    let o : read_digits (b - 48) s ≡ done v r = cc in
    let q = digits_sound s (b - 48) v r (omega (arith, w.0, z)) o in
    sym (rw (decimal_small (b - 48) (omega (arith, w.0, w.1)), m)) ∙ q)
    (λ i. broken_not {a = v} {r = r} (cc)))

-- Given texts.
pub word_round : (w s : List ℕ) → read_word w (w ++ s) ≡ done tt s
unfolding read_word
word_round [] s = refl
word_round (b ∷ w) s = cc (eq-eqb b b refl, word_round w s)

pub word_sound : (w s r : List ℕ) {u : Unit {0}} → read_word w s ≡ done u r → s ≡ w ++ r
unfolding read_word
word_sound [] s r e = (same_done tt tt s r e).1
word_sound (w ∷ ws) [] r e = broken_not e
word_sound (w ∷ ws) (b ∷ s) r {u} e =
    by_test (eqb b w)
    (λ d. let z = eqb-true b w d in rw z (ap (λ (l : List ℕ). w ∷ l) (word_sound ws s r {u = u} (let f : read_word ws s ≡ done u r = cc in f))))
    (λ d. broken_not {a = u} {r = r} (cc))

-- Given texts with a given number behind.
pub named_round : (w : List ℕ) (k : ℕ) (s : List ℕ) → Stops s → read_named w k (w ++ (decimal k ++ s)) ≡ done tt s
unfolding read_named
named_round w k s h = let e = eq-eqb k k refl in rw (word_round w (decimal k ++ s), number_round k s h) (cc)

pub named_sound : (w : List ℕ) (k : ℕ) (s r : List ℕ) {u : Unit {0}} → read_named w k s ≡ done u r → s ≡ w ++ (decimal k ++ r)
unfolding read_named
named_sound w k s r {u} e =
    let a = then_done (read_word w s) _ u r e in
    let b = then_done (read_number a.1) _ u r a.3 in
    by_test (eqb b.0 k)
    (λ d.
    let z = eqb-true b.0 k d in
    let y = (same_done tt u b.1 r (rw d at b.3)).1 in
    word_sound w s a.1 a.2 ∙ ap (λ (l : List ℕ). w ++ l) (number_sound a.1 b.0 b.1 b.2 ∙ rw (z, y)))
    (λ d. broken_not (rw d at b.3))

-- A law for each return and loop turn of the functions of scan.rt.
use Prim.Native.Nat.{ℕ, suc, ◌+◌, ◌*◌, ◌/◌, ◌%◌, ◌-◌, ◌^◌, ◌<◌, ◌≤◌}
use mathlib.Core.Path.{◌≡◌, refl, sym, ap, ◌∙◌}
use mathlib.Core.Bool.{Bool, true, false}
use mathlib.Core.List.{List, [], ◌∷◌, ◌++◌}
use native.Mathlib.Nat.{pow-le-pow_right, pow-suc, zero-lt-suc}
use native.Mathlib.Omega.{arith}
use Rattle.std.specs.Prelude.{Option, Some, None}
use Rattle.std.proofs.lemmas.Option.{some_pair_parts}
use lib.ListN.{length, get_or, take, drop, drop_of_length-le, length-append, length-drop}
use lib.Seq.{get_or-take, get_or-drop, drop-drop, take_at}
use Rattle.std.proofs.Common.{Fits, w8}
use Rattle.std.specs.Char.{is_ascii_digit}
use lib.Dec.{leb, eqb}
use borrow.Author.Tests.{lt-leb, eq-eqb, ne_eqb, eqb-true, eqb-false}
use Rattle.format_fields.specs.Fields.{pair_at}
use Rattle.format_fields.proofs.Truth.{by_test}
use Rattle.format_fields.proofs.Split.{front}
use Rattle.format_language.specs.Language.{Range, in_range}
use Rattle.format_language.specs.Inner.Entries.{class_range}
use Rattle.tree_reader.specs.Code.{Code, token}
use Rattle.tree_reader.specs.Syntax.{Read, done, deep, broken, and_then}
use Rattle.format_fields.specs.Decimal.{decimal}
use Rattle.xml_text.specs.Text.{open_token, close_token, tag_end, token_tag}
use Rattle.xml_text.specs.Import.{is_digit, read_word, read_digits, read_number, read_opening, read_token_tag, read_token}
use Rattle.xml_text.specs.Inner.Scanning.{NoToken, TellsToken, begins, closes, Stands, NoNumber, Numbers, Tokens}
use Rattle.format_fields.proofs.Decimal.{decimal_small, decimal_two, decimal_some}
use Rattle.xml_text.proofs.Decimal.{digit_range, number_sound, word_sound}
use Rattle.xml_text.proofs.Words.{word_shallow, number_shallow, tag_word, ends, opening_word}

pub true_false : {A : Type 0} → true ≡ false → A
true_false h = absurd (cc)

at_not : {e : ℕ} {A : Type 0} → ◌≡◌ {A = Option ℕ} None (Some e) → A
at_not h = absurd (cc)

at_same : {e d : ℕ} → ◌≡◌ {A = Option ℕ} (Some e) (Some d) → e ≡ d
at_same h = cc

is_not : {v e : ℕ} {A : Type 0} → ◌≡◌ {A = Option (ℕ × ℕ)} None (Some (v, e)) → A
is_not h = absurd (cc)

is_same : {v e w d : ℕ} → ◌≡◌ {A = Option (ℕ × ℕ)} (Some (v, e)) (Some (w, d)) → (v ≡ w) × (e ≡ d)
is_same {v} {e} {w} {d} h = some_pair_parts v w e d h

pub stands_not : {o : Read (Unit {0})} {text : List ℕ} {from : ℕ} → o ≡ broken → Stands o text from None
stands_not h = record { found = λ e q. at_not q; reached = λ e q. at_not q; nothing = λ q. h }

pub stands_at : {o : Read (Unit {0})} {text : List ℕ} {from e : ℕ} → o ≡ done tt (drop e text) → from ≤ e → e ≤ length text → Stands o text from (Some e)
stands_at {o} {text} {from} {e} h i j = record {
  found = λ d q. h ∙ ap (λ (n : ℕ). done tt (drop n text)) (at_same q);
  reached = λ d q. let z = at_same q in record { past = omega arith; inside = omega arith };
  nothing = λ q. at_not (sym q);
}

pub numbers_not : {o : Read ℕ} {text : List ℕ} {from : ℕ} → NoNumber o → Numbers o text from None
numbers_not h = record { found = λ v e q. is_not q; small = λ v e q. is_not q; reached = λ v e q. is_not q; nothing = λ q. h }

pub numbers_is : {o : Read ℕ} {text : List ℕ} {from v e : ℕ} → o ≡ done v (drop e text) → v < 65536 → from ≤ e → e ≤ length text → Numbers o text from (Some (v, e))
numbers_is {o} {text} {from} {v} {e} h s i j = record {
  found = λ w d q. let z = is_same q in h ∙ (ap (λ (n : ℕ). done n (drop e text)) z.0 ∙ ap (λ (n : ℕ). done w (drop n text)) z.1);
  small = λ w d q. let z = is_same q in omega (arith, z.0);
  reached = λ w d q. let z = is_same q in record { past = omega (arith, z.1); inside = omega (arith, z.1) };
  nothing = λ q. is_not (sym q);
}

pub tokens_not : {o : Read Code} {text : List ℕ} {from : ℕ} → o ≡ broken → Tokens o text from None
tokens_not h = record { found = λ v e q. is_not q; small = λ v e q. is_not q; reached = λ v e q. is_not q; nothing = λ q. h }

pub tokens_is : {o : Read Code} {text : List ℕ} {from v e : ℕ} → o ≡ done (token v) (drop e text) → v < 65536 → from ≤ e → e ≤ length text
    → Tokens o text from (Some (v, e))
tokens_is {o} {text} {from} {v} {e} h s i j = record {
  found = λ w d q. let z = is_same q in h ∙ (ap (λ (n : ℕ). done (token n) (drop e text)) z.0 ∙ ap (λ (n : ℕ). done (token w) (drop n text)) z.1);
  small = λ w d q. let z = is_same q in omega (arith, z.0);
  reached = λ w d q. let z = is_same q in record { past = omega (arith, z.1); inside = omega (arith, z.1) };
  nothing = λ q. is_not (sym q);
}

-- A text that is given, a byte at a time.
word_cut : (w s : List ℕ) → length s < length w → read_word w s ≡ broken
unfolding read_word
word_cut [] s h = absurd (omega arith)
word_cut (w ∷ ws) [] h = refl
word_cut (w ∷ ws) (b ∷ s) h = by_test (eqb b w) (λ e. let i = word_cut ws s (omega arith) in cc) (λ e. cc)

-- Where other bytes stand, that text does not.
word_other : (w s : List ℕ) → (take (length w) s ≡ w → ⊥) → read_word w s ≡ broken
word_other w s h = go (read_word w s) refl
  where
    go : (o : Read (Unit {0})) → read_word w s ≡ o → o ≡ broken
    go (done u r) e = absurd (h (ap (take (length w)) (word_sound w s r {u = u} e) ∙ take_at w r (length w) refl))
    go deep e = absurd (word_shallow w s e)
    go broken e = refl

-- word_at
module _ (w text : List ℕ) (at : ℕ) (inside : at ≤ length text) where
  pub word_short : length text - at < length w → Stands (read_word w (drop at text)) text (at + length w) None
  word_short h = stands_not (word_cut w (drop at text) (omega (arith, length-drop at text)))

  module _ (i : ℕ) (going : read_word w (drop at text) ≡ read_word (drop i w) (drop (at + i) text)) (long : length w ≤ length text - at) where
    module _ (more : i < length w) where
      there : at + i < length text
      there = omega arith

      next : at + i + 1 ≡ at + (i + 1)
      next = omega arith

      pub word_differs : (get_or text (at + i) 0 ≡ get_or w i 0 → ⊥) → Stands (read_word w (drop at text)) text (at + length w) None
      unfolding read_word
      word_differs h =
          let d = ne_eqb (get_or text (at + i) 0) (get_or w i 0) h in
          stands_not (going ∙ rw (front w i more, front text (at + i) there) (cc))

      pub word_again : get_or text (at + i) 0 ≡ get_or w i 0 → read_word w (drop at text) ≡ read_word (drop (i + 1) w) (drop (at + (i + 1)) text)
      unfolding read_word
      word_again h =
          let d = eq-eqb (get_or text (at + i) 0) (get_or w i 0) h in
          going ∙ rw (front w i more, front text (at + i) there, ← next) (cc)

    pub word_there : i ≡ length w → Stands (read_word w (drop at text)) text (at + length w) (Some (at + length w))
    unfolding read_word
    word_there e =
        let z : drop i w ≡ [] = drop_of_length-le w {i = i} (omega arith) in
        rw (← e) (stands_at (going ∙ ap (λ (u : List ℕ). read_word u (drop (at + i) text)) z) (omega arith) (omega arith))

-- A digit, as it is told.
pub digit_is : (b : ℕ) {x : Bool} → x ≡ is_ascii_digit b → x ≡ is_digit b
unfolding is_digit
digit_is b e = e

-- number_at
no_more : (s : List ℕ) (n : ℕ) → 65536 ≤ n → NoNumber (read_digits n s)
unfolding read_digits
no_more [] n h = h
no_more (b ∷ s) n h =
    by_test (is_digit b)
    (λ e. let z : read_digits (n * 10 + (b - 48)) s ≡ read_digits n (b ∷ s) = cc in rw (← z) (no_more s (n * 10 + (b - 48)) (omega arith)))
    (λ e. let z : done n (b ∷ s) ≡ read_digits n (b ∷ s) = cc in rw (← z) h)

module _ (text : List ℕ) (at : ℕ) where
  pub number_end : length text ≤ at → Numbers (read_number (drop at text)) text at None
  unfolding read_number
  number_end h = let z : broken ≡ read_number (drop at text) = cc (drop_of_length-le text {i = at} h) in numbers_not (rw (← z) tt)

  module _ (there : at < length text) where
    pub number_zero : get_or text at 0 ≡ 48 → Numbers (read_number (drop at text)) text at (Some (0, at + 1))
    unfolding read_number
    number_zero h = numbers_is (cc (front text at there)) (omega arith) (omega arith) (omega arith)

    module _ {x : Bool} (nonzero : get_or text at 0 ≡ 48 → ⊥) (ex : x ≡ is_digit (get_or text at 0)) where
      pub number_other : x ≡ false → Numbers (read_number (drop at text)) text at None
      unfolding read_number
      number_other h =
          let z : broken ≡ read_number (drop at text) = cc (front text at there, ne_eqb (get_or text at 0) 48 nonzero) in
          numbers_not (rw (← z) tt)

      pub first_range : x ≡ true → (48 ≤ get_or text at 0) × (get_or text at 0 ≤ 57)
      first_range h = digit_range (get_or text at 0) (sym ex ∙ h)

      pub number_start : {v : ℕ} → x ≡ true → v ≡ get_or text at 0 - 48 → read_number (drop at text) ≡ read_digits v (drop (at + 1) text)
      unfolding read_number
      number_start h e = cc (front text at there, ne_eqb (get_or text at 0) 48 nonzero)

  module _ (value to : ℕ) (going : read_number (drop at text) ≡ read_digits value (drop to text)) (small : value < 65536) (past : at ≤ to) where
    pub number_last : {e : ℕ} → to ≡ e → to ≡ length text → Numbers (read_number (drop at text)) text at (Some (value, e))
    unfolding read_digits
    number_last {e} i h =
        let z = drop_of_length-le text {i = to} (omega (arith, h)) in
        rw (← i) (numbers_is (going ∙ (ap (read_digits value) z ∙ ap (done value) (sym z))) small past (omega (arith, h)))

    module _ (there : to < length text) {x : Bool} (ex : x ≡ is_digit (get_or text to 0)) where
      pub number_stops : x ≡ false → Numbers (read_number (drop at text)) text at (Some (value, to))
      unfolding read_digits
      number_stops h =
          let f = front text to there in
          let z : read_digits value (drop to text) ≡ done value (drop to text) = rw f (cc) in
          numbers_is (going ∙ z) small past (omega arith)

      pub number_again : {d : ℕ} → x ≡ true → d ≡ get_or text to 0 - 48 → read_number (drop at text) ≡ read_digits (value * 10 + d) (drop (to + 1) text)
      unfolding read_digits
      number_again h e = going ∙ cc (front text to there)

      pub number_large : {d : ℕ} → x ≡ true → d ≡ get_or text to 0 - 48 → 65535 < value * 10 + d → Numbers (read_number (drop at text)) text at None
      number_large {d} h e g =
          let z = number_again h e in
          numbers_not (rw z (no_more (drop (to + 1) text) (value * 10 + d) (omega arith)))

-- Behind each digit the number has another power of ten: it is too large where it has six.
pub next_power : (n v d : ℕ) → 10 ^ n ≤ v → 10 ^ suc n ≤ v * 10 + d
next_power n v d h = let e = pow-suc 10 n in omega arith

pub six_digits : {A : Type 0} (n v : ℕ) → 5 ≤ n → 10 ^ n ≤ v → v < 65536 → A
six_digits n v h i j = let z : 10 ^ 5 ≤ 10 ^ n = pow-le-pow_right (zero-lt-suc 9) h in absurd (omega arith)

-- A number of one digit, and what is none.
module _ (text : List ℕ) (at : ℕ) where
  pub number_one : at + 1 < length text → is_digit (get_or text at 0) ≡ true → is_digit (get_or text (at + 1) 0) ≡ false
      → Numbers (read_number (drop at text)) text at (Some (get_or text at 0 - 48, at + 1))
  number_one more first second =
      let w = digit_range (get_or text at 0) first in
      by_test (eqb (get_or text at 0) 48)
      (λ t. let z : get_or text at 0 - 48 ≡ 0 = omega (arith, eqb-true (get_or text at 0) 48 t) in rw z (number_zero text at (omega arith) (eqb-true (get_or text at 0) 48 t)))
      (λ t.
      number_stops text at (get_or text at 0 - 48) (at + 1) (number_start text at (omega arith) {x = true} (eqb-false (get_or text at 0) 48 t) (sym first) refl refl)
      (omega (arith, w.1)) (omega arith) more refl second)

  pub number_none : at < length text → is_digit (get_or text at 0) ≡ false → Numbers (read_number (drop at text)) text at None
  unfolding is_digit
  number_none more h = number_other text at more (λ e. true_false (sym (ap is_digit e) ∙ h)) refl h

pub end_no_digit : {b : ℕ} → b ≡ 62 → is_digit b ≡ false
unfolding is_digit
end_no_digit e = ap is_digit e

-- One reading behind another.
module _ {B : Type 0} {o : Read (Unit {0})} {text : List ℕ} {from : ℕ} {x : Option ℕ} (first : Stands o text from x) (f : Unit {0} → List ℕ → Read B) where
  then_nothing : x ≡ None → and_then o f ≡ broken
  then_nothing h = ap (λ (q : Read (Unit {0})). and_then q f) (first.nothing h)

  then_at : {e : ℕ} → x ≡ Some e → and_then o f ≡ f tt (drop e text)
  then_at {e} h = ap (λ (q : Read (Unit {0})). and_then q f) (first.found e h)

pub number_at_lem : {B : Type 0} {o : Read ℕ} {text : List ℕ} {from v e : ℕ} {x : Option (ℕ × ℕ)} → Numbers o text from x → (f : ℕ → List ℕ → Read B) → x ≡ Some (v, e)
    → and_then o f ≡ f v (drop e text)
number_at_lem {v = v} {e = e} w f h = ap (λ (q : Read ℕ). and_then q f) (w.found v e h)

-- What no number below 65,536 comes to, where what follows is broken for all others.
pub no_number : {B : Type 0} (o : Read ℕ) (f : ℕ → List ℕ → Read B) → NoNumber o → ((v : ℕ) (r : List ℕ) → 65536 ≤ v → f v r ≡ broken) → and_then o f ≡ broken
no_number (done v r) f h g = g v r h
no_number deep f h g = absurd h
no_number broken f h g = refl

-- Where a position was reached, it is in the text.
pub is_inside : {o : Read ℕ} {text : List ℕ} {from v a : ℕ} {x : Option (ℕ × ℕ)} → Numbers o text from x → x ≡ Some (v, a) → a ≤ length text
is_inside {v = v} {a = a} w h = (w.reached v a h).inside

-- A reading that is another, and a bound that is higher.
stands_of : {o p : Read (Unit {0})} {text : List ℕ} {from before : ℕ} {r : Option ℕ} → p ≡ o → before ≤ from → Stands o text from r → Stands p text before r
stands_of e h w = record {
  found = λ d q. e ∙ w.found d q;
  reached = λ d q. let z = w.reached d q in record { past = omega (arith, z.past); inside = z.inside };
  nothing = λ q. e ∙ w.nothing q;
}

-- begin_at
module _ (sign end k : ℕ) (text : List ℕ) (at : ℕ) {r : Option ℕ} where
  pub begin_digit : k < 10 → Stands (read_word (60 ∷ sign ∷ (48 + k) ∷ end ∷ []) (drop at text)) text (at + 4) r
      → Stands (read_word (begins sign k end) (drop at text)) text (at + 4) r
  unfolding begins
  begin_digit small = stands_of (ap (λ (d : List ℕ). read_word (60 ∷ sign ∷ (d ++ (end ∷ []))) (drop at text)) (decimal_small k small)) (omega arith)

  pub begin_digits : 10 ≤ k → k < 100 → Stands (read_word (60 ∷ sign ∷ (48 + k / 10) ∷ (48 + k % 10) ∷ end ∷ []) (drop at text)) text (at + 5) r
      → Stands (read_word (begins sign k end) (drop at text)) text (at + 4) r
  unfolding begins
  begin_digits large two = stands_of (ap (λ (d : List ℕ). read_word (60 ∷ sign ∷ (d ++ (end ∷ []))) (drop at text)) (decimal_two k large two)) (omega arith)

-- A text that is given in two parts.
word_parts : (v w s : List ℕ) → read_word (v ++ w) s ≡ (and_then (read_word v s) λ u r. read_word w r)
unfolding read_word
word_parts [] w s = refl
word_parts (c ∷ v) w [] = refl
word_parts (c ∷ v) w (b ∷ s) = by_test (eqb b c) (λ e. let i = word_parts v w s in cc) (λ e. cc)

-- same_at
module _ (text : List ℕ) (tag size at : ℕ) {x : Option ℕ} (first : Stands (read_word (60 ∷ 47 ∷ []) (drop at text)) text (at + 2) x) where
  closes_parts : read_word (closes tag size text) (drop at text) ≡ (and_then (read_word (60 ∷ 47 ∷ []) (drop at text)) λ u r. read_word (take (size - 2) (drop (tag + 1) text)) r)
  unfolding closes
  closes_parts = word_parts (60 ∷ 47 ∷ []) (take (size - 2) (drop (tag + 1) text)) (drop at text)

  pub closes_not : x ≡ None → Stands (read_word (closes tag size text) (drop at text)) text at None
  closes_not h = stands_not (closes_parts ∙ then_nothing first (λ u r. read_word (take (size - 2) (drop (tag + 1) text)) r) h)

  pub closes_name : {name from : ℕ} {r : Option ℕ} → x ≡ Some name → at ≤ from → Stands (read_word (take (size - 2) (drop (tag + 1) text)) (drop name text)) text from r
      → Stands (read_word (closes tag size text) (drop at text)) text at r
  closes_name h = stands_of (closes_parts ∙ then_at first (λ u r. read_word (take (size - 2) (drop (tag + 1) text)) r) h)

-- closing_at
pub closes_usual : (text : List ℕ) (tag size at : ℕ) {r : Option ℕ} → size ≡ 7 → Stands (read_word (closes tag 7 text) (drop at text)) text at r
    → Stands (read_word (closes tag size text) (drop at text)) text at r
closes_usual text tag size at e w = rw e w

-- The closing tag of what stands before a position.
pub closes_tag : (text : List ℕ) (tag end : ℕ) (w : List ℕ) → tag ≤ length text → end ≤ length text → drop tag text ≡ 60 ∷ (w ++ drop end text)
    → closes tag (end - tag + 1) text ≡ 60 ∷ 47 ∷ w
unfolding closes
closes_tag text tag end w h i e =
    let z : drop (tag + 1) text ≡ w ++ drop end text = sym (drop-drop 1 tag text) ∙ ap (drop 1) e in
    let n : length w ≡ end - tag + 1 - 2 = omega (arith, ap length e, length-append w (drop end text), length-drop tag text, length-drop end text) in
    rw (z, take_at w (drop end text) (end - tag + 1 - 2) n)

-- opening_at
module _ (k : ℕ) (text : List ℕ) (at : ℕ) where
  broken_number : {o : Read ℕ} → o ≡ broken → Numbers o text (at + 2) None
  broken_number e = numbers_not (rw e tt)

  module _ {x : Option ℕ} (first : Stands (read_word (begins 120 k 46) (drop at text)) text (at + 4) x) where
    pub opening_nothing : x ≡ None → Numbers (read_opening k (drop at text)) text (at + 2) None
    opening_nothing h = broken_number (opening_word k (drop at text) ∙ then_nothing first (λ u r. ends r) h)

    module _ {b : ℕ} (eb : x ≡ Some b) {z : Option (ℕ × ℕ)} (third : Numbers (read_number (drop b text)) text b z) where
      so_far : read_opening k (drop at text) ≡ ends (drop b text)
      so_far = opening_word k (drop at text) ∙ then_at first (λ u r. ends r) eb

      large : (v : ℕ) → 65536 ≤ v → (q : Read (Unit {0})) → (q ≡ deep → ⊥) → NoNumber (and_then q λ u r. done v r)
      large v h (done u r) n = h
      large v h deep n = absurd (n refl)
      large v h broken n = tt

      large_number : (o : Read ℕ) → NoNumber o → NoNumber (and_then o λ p r. and_then (read_word tag_end r) λ u r. done p r)
      large_number (done v r) h = large v h (read_word tag_end r) (word_shallow tag_end r)
      large_number deep h = h
      large_number broken h = tt

      pub opening_third : z ≡ None → Numbers (read_opening k (drop at text)) text (at + 2) None
      opening_third h = numbers_not (rw so_far (large_number (read_number (drop b text)) (third.nothing h)))

      module _ {v c : ℕ} (ez : z ≡ Some (v, c)) where
        end_of : {q : Read (Unit {0})} → read_word tag_end (drop c text) ≡ q → read_opening k (drop at text) ≡ (and_then q λ u r. done v r)
        end_of e = so_far ∙ (number_at_lem third _ ez ∙ ap (λ (q : Read (Unit {0})). and_then q λ u r. done v r) e)

        module _ {from : ℕ} {q : Option ℕ} (fourth : Stands (read_word tag_end (drop c text)) text from q) where
          pub opening_fourth : q ≡ None → Numbers (read_opening k (drop at text)) text (at + 2) None
          opening_fourth h = broken_number (end_of (fourth.nothing h))

          pub opening_done : {e : ℕ} → q ≡ Some e → c ≤ from → Numbers (read_opening k (drop at text)) text (at + 2) (Some (v, e))
          opening_done {e} h behind =
              let p = (first.reached b eb).past in
              let r = (third.reached v c ez).past in
              let t = fourth.reached e h in
              numbers_is (end_of (fourth.found e h)) (third.small v c ez) (omega (arith, t.past)) t.inside

-- token_at
module _ (k : ℕ) (c : Range) (text : List ℕ) (at : ℕ) (short : c.high < 65536) where
  abbrev closes_token : ℕ → List ℕ → Read Code
  closes_token v r = elim (in_range c v) [ true ↦ and_then (read_token_tag close_token k r) λ u r. done (token v) r | false ↦ broken ]

  abbrev valued : List ℕ → Read Code
  valued r = and_then (read_number r) closes_token

  token_begins : read_token k c (drop at text) ≡ (and_then (read_word (begins 116 k 62) (drop at text)) λ u r. valued r)
  unfolding read_token begins token_tag
  token_begins = ap (λ (q : Read (Unit {0})). and_then q λ u r. valued r) (tag_word open_token k (drop at text))

  out_of_range : (v : ℕ) → 65536 ≤ v → in_range c v ≡ false
  unfolding in_range
  out_of_range v h = let i : c.high < v = omega arith in by_test (leb c.low v) (λ e. cc (lt-leb v c.high i)) (λ e. cc)

  -- A text that ends before a value and its closing tag do.
  valued_cut : (s : List ℕ) → length s < 6 → valued s ≡ broken
  unfolding token_tag
  valued_cut s h = go (read_number s) refl
    where
      tag_cut : (v : ℕ) (r : List ℕ) → length r < 5 → closes_token v r ≡ broken
      tag_cut v r h =
          let z : read_token_tag close_token k r ≡ broken = tag_word close_token k r ∙ word_cut (token_tag close_token k) r (omega (arith, length-append (decimal k) (62 ∷ []), decimal_some k)) in
          by_test (in_range c v) (λ e. cc) (λ e. cc)

      go : (q : Read ℕ) → read_number s ≡ q → and_then q closes_token ≡ broken
      go (done v r) e = let z = ap length (number_sound s v r e) in tag_cut v r (omega (arith, z, length-append (decimal v) r, decimal_some v))
      go deep e = absurd (number_shallow s e)
      go broken e = refl

  pub token_other : read_word (begins 116 k 62) (drop at text) ≡ broken → read_token k c (drop at text) ≡ broken
  token_other h = token_begins ∙ ap (λ (q : Read (Unit {0})). and_then q λ u r. valued r) h

  module _ {x : Option ℕ} (first : Stands (read_word (begins 116 k 62) (drop at text)) text (at + 4) x) where
    pub token_nothing : x ≡ None → Tokens (read_token k c (drop at text)) text (at + 2) None
    token_nothing h = tokens_not (token_begins ∙ then_nothing first (λ u r. valued r) h)

    pub token_cut : {a : ℕ} → x ≡ Some a → length text - a < 6 → Tokens (read_token k c (drop at text)) text (at + 2) None
    token_cut {a} ea h = tokens_not (token_begins ∙ (then_at first (λ u r. valued r) ea ∙ valued_cut (drop a text) (omega (arith, length-drop a text))))

    module _ {a : ℕ} (ea : x ≡ Some a) {y : Option (ℕ × ℕ)} (second : Numbers (read_number (drop a text)) text a y) where
      token_so_far : read_token k c (drop at text) ≡ valued (drop a text)
      token_so_far = token_begins ∙ then_at first (λ u r. valued r) ea

      pub token_second : y ≡ None → Tokens (read_token k c (drop at text)) text (at + 2) None
      token_second h = tokens_not (token_so_far ∙ no_number (read_number (drop a text)) closes_token (second.nothing h) (λ v r g. let d = out_of_range v g in cc))

      module _ {v b : ℕ} (ey : y ≡ Some (v, b)) {t : Bool} (et : t ≡ in_range c v) where
        valued_so_far : read_token k c (drop at text) ≡ closes_token v (drop b text)
        valued_so_far = token_so_far ∙ number_at_lem second closes_token ey

        pub token_out : t ≡ false → Tokens (read_token k c (drop at text)) text (at + 2) None
        token_out h = let d : in_range c v ≡ false = sym et ∙ h in tokens_not (valued_so_far ∙ cc)

        module _ (inside : t ≡ true) {z : Option ℕ} (third : Stands (read_word (closes at (a - at + 1) text) (drop b text)) text b z) where
          same_tag : closes at (a - at + 1) text ≡ token_tag close_token k
          unfolding begins token_tag
          same_tag =
              let p = first.reached a ea in
              closes_tag text at a (116 ∷ (decimal k ++ (62 ∷ []))) (omega (arith, p.past, p.inside)) p.inside (word_sound (begins 116 k 62) (drop at text) (drop a text) (first.found a ea))

          closing : read_token k c (drop at text) ≡ (and_then (read_word (closes at (a - at + 1) text) (drop b text)) λ u r. done (token v) r)
          closing =
              let d : in_range c v ≡ true = sym et ∙ inside in
              valued_so_far ∙ ((cc) ∙ ap (λ (q : Read (Unit {0})). and_then q λ u r. done (token v) r) (tag_word close_token k (drop b text) ∙ ap (λ (w : List ℕ). read_word w (drop b text)) (sym same_tag)))

          pub token_third : z ≡ None → Tokens (read_token k c (drop at text)) text (at + 2) None
          token_third h = tokens_not (closing ∙ then_nothing third (λ u r. done (token v) r) h)

          pub token_done : {d : ℕ} → z ≡ Some d → Tokens (read_token k c (drop at text)) text (at + 2) (Some (v, d))
          token_done {d} ez =
              let p = (first.reached a ea).past in
              let q = (second.reached v b ey).past in
              let s = third.reached d ez in
              tokens_is (closing ∙ then_at third (λ u r. done (token v) r) ez) (second.small v b ey) (omega (arith, s.past)) s.inside

-- The bytes of a slice.
pub bytes_of : (s : List ℕ) → ((i : ℕ) → Fits w8 (get_or s i 0)) → (i : ℕ) → get_or s i 0 < 256
bytes_of s h i = omega (arith, h i)

-- The values of a class in a file are below 65,536.
pub class_high : (s : List ℕ) (p : ℕ) → ((i : ℕ) → get_or s i 0 < 256) → (class_range s p).high < 65536
unfolding class_range pair_at
class_high s p h = omega (arith, h (p + 6), h (p + 6 + 1))

-- is_token
module _ (class : ℕ) (text : List ℕ) (at : ℕ) where
  tells_not : ((class ≡ 0 → ⊥) → NoToken text at) → TellsToken class text at false
  tells_not f = record { some = λ h. true_false (sym h); none = λ h. f }

  -- Another sign stands there.
  other_sign : (k : ℕ) → (get_or text (at + 1) 0 ≡ 116 → ⊥) → read_word (begins 116 k 62) (drop at text) ≡ broken
  unfolding begins
  other_sign k h =
      word_other (begins 116 k 62) (drop at text) (λ e.
      h (sym (get_or-take (length (begins 116 k 62)) (drop at text) 1 0 (omega arith) ∙ get_or-drop at text 1 0) ∙ ap (λ (s : List ℕ). get_or s 1 0) e))

  pub tells_other : (get_or text (at + 1) 0 ≡ 116 → ⊥) → TellsToken class text at false
  tells_other h = tells_not (λ some k c high. token_other k c text at high (other_sign k h))

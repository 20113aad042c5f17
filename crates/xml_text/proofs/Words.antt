-- Tags as given texts: a reading that takes one text off the front, and fails where another stands there, reads that text.
use Prim.Native.Nat.{ℕ, ◌+◌, ◌*◌, ◌-◌, ◌<◌}
use mathlib.Core.Path.{◌≡◌, refl, sym, ap, ◌∙◌}
use mathlib.Core.List.{List, [], ◌∷◌, ◌++◌, append_assoc}
use native.Mathlib.Omega.{arith}
use lib.ListN.{length, length-append}
use lib.Dec.{eqb}
use Rattle.format_fields.proofs.Truth.{by_test}
use Rattle.tree_reader.specs.Syntax.{Read, done, deep, broken, and_then}
use Rattle.format_fields.specs.Decimal.{decimal}
use Rattle.xml_text.specs.Text.{open_node, close_node, point, tag_end, node_tag, token_tag}
use Rattle.xml_text.specs.Import.{is_digit, read_word, read_digits, read_number, read_named, read_opening, read_closing, read_token_tag}
use Rattle.xml_text.specs.Inner.Scanning.{begins}
use Rattle.format_fields.proofs.Decimal.{decimal_some}
use Rattle.xml_text.proofs.Decimal.{broken_not, then_done, word_round, word_sound, named_round, named_sound}
use Rattle.xml_text.proofs.Round.{stop_point, closing_round, closing_sound, tag_round, tag_sound}

-- No reading of a tag is too deep.
shallow_broken : {A B : Type 0} → ◌≡◌ {A = Read A} broken deep → B
shallow_broken e = let z : ◌≡◌ {A = ℕ} 0 1 = cc in absurd (omega arith)

shallow_done : {A B : Type 0} {a : A} {r : List ℕ} → done a r ≡ deep → B
shallow_done e = let z : ◌≡◌ {A = ℕ} 0 1 = cc in absurd (omega arith)

then_shallow : {A B : Type 0} (o : Read A) (f : A → List ℕ → Read B) → (o ≡ deep → ⊥) → ((a : A) (r : List ℕ) → f a r ≡ deep → ⊥) → and_then o f ≡ deep → ⊥
then_shallow (done a r) f h g e = g a r e
then_shallow deep f h g e = h refl
then_shallow broken f h g e = shallow_broken e

pub word_shallow : (w s : List ℕ) → read_word w s ≡ deep → ⊥
unfolding read_word
word_shallow [] s h = shallow_done h
word_shallow (c ∷ w) [] h = shallow_broken h
word_shallow (c ∷ w) (d ∷ s) h =
    by_test (eqb d c) (λ e. word_shallow w s (let i : read_word w s ≡ deep = cc in i)) (λ e. shallow_broken {A = Unit {0}} (cc))

digits_shallow : (s : List ℕ) (n : ℕ) → read_digits n s ≡ deep → ⊥
unfolding read_digits
digits_shallow [] n h = shallow_done h
digits_shallow (b ∷ s) n h =
    by_test (is_digit b)
    (λ e. digits_shallow s (n * 10 + (b - 48)) (let i : read_digits (n * 10 + (b - 48)) s ≡ deep = cc in i))
    (λ e. shallow_done {a = n} {r = b ∷ s} (cc))

pub number_shallow : (s : List ℕ) → read_number s ≡ deep → ⊥
unfolding read_number
number_shallow [] h = shallow_broken h
number_shallow (b ∷ s) h =
    by_test (eqb b 48)
    (λ e. shallow_done {A = ℕ} {a = 0} {r = s} (cc))
    (λ e.
    by_test (is_digit b)
    (λ d. digits_shallow s (b - 48) (let i : read_digits (b - 48) s ≡ deep = cc in i))
    (λ d. shallow_broken {A = ℕ} (cc)))

named_shallow : (w : List ℕ) (k : ℕ) (s : List ℕ) → read_named w k s ≡ deep → ⊥
unfolding read_named
named_shallow w k s =
    then_shallow (read_word w s) _ (word_shallow w s)
    (λ u r. then_shallow (read_number r) _ (number_shallow r)
    (λ n r e. by_test (eqb n k) (λ d. shallow_done {A = Unit {0}} {a = tt} {r = r} (cc)) (λ d. shallow_broken {A = Unit {0}} (cc))))

tag_shallow : (w : List ℕ) (k : ℕ) (s : List ℕ) → read_token_tag w k s ≡ deep → ⊥
unfolding read_token_tag
tag_shallow w k s = then_shallow (read_named w k s) _ (named_shallow w k s) (λ u r. word_shallow tag_end r)

closing_shallow : (k p : ℕ) (s : List ℕ) → read_closing k p s ≡ deep → ⊥
unfolding read_closing
closing_shallow k p s =
    then_shallow (read_named close_node k s) _ (named_shallow close_node k s)
    (λ u r. then_shallow (read_named point p r) _ (named_shallow point p r) (λ u r. word_shallow tag_end r))

module _ (w : List ℕ) (o : List ℕ → Read (Unit {0})) (shallow : (s : List ℕ) → o s ≡ deep → ⊥) (round : (s : List ℕ) → o (w ++ s) ≡ done tt s)
    (sound : (s r : List ℕ) (u : Unit {0}) → o s ≡ done u r → s ≡ w ++ r) where
  reads_word : (s : List ℕ) → o s ≡ read_word w s
  reads_word s = go (read_word w s) refl
    where
      other : (q : Read (Unit {0})) → o s ≡ q → read_word w s ≡ broken → q ≡ broken
      other (done u r) e h = broken_not (sym h ∙ (ap (read_word w) (sound s r u e) ∙ word_round w r))
      other deep e h = absurd (shallow s e)
      other broken e h = refl

      go : (q : Read (Unit {0})) → read_word w s ≡ q → o s ≡ read_word w s
      go (done u r) e = ap o (word_sound w s r {u = u} e) ∙ (round r ∙ sym e)
      go deep e = absurd (word_shallow w s e)
      go broken e = other (o s) refl e ∙ sym e

-- The tags of tokens, and the closing tags of productions.
pub tag_word : (w : List ℕ) (k : ℕ) (s : List ℕ) → read_token_tag w k s ≡ read_word (token_tag w k) s
tag_word w k = reads_word (token_tag w k) (read_token_tag w k) (tag_shallow w k) (tag_round w k) (λ s r u e. tag_sound w k s r {u = u} e)

pub closing_word : (k p : ℕ) (s : List ℕ) → read_closing k p s ≡ read_word (node_tag close_node k p) s
closing_word k p =
    reads_word (node_tag close_node k p) (read_closing k p) (closing_shallow k p) (closing_round k p) (λ s r u e. closing_sound k p s r {u = u} e)

-- What the opening tags begin with.
module _ (k : ℕ) where
  abbrev prefix : List ℕ → Read (Unit {0})
  prefix s = and_then (read_named open_node k s) λ u r. read_word point r

  prefix_round : (s : List ℕ) → prefix (begins 120 k 46 ++ s) ≡ done tt s
  unfolding begins
  prefix_round s =
      rw (append_assoc, named_round open_node k (46 ∷ s) (stop_point s), word_round point s)

  prefix_sound : (s r : List ℕ) (u : Unit {0}) → prefix s ≡ done u r → s ≡ begins 120 k 46 ++ r
  unfolding begins
  prefix_sound s r u e =
      let a = then_done (read_named open_node k s) _ u r e in
      named_sound open_node k s a.1 a.2
      ∙ (ap (λ (v : List ℕ). open_node ++ (decimal k ++ v)) (word_sound point a.1 r a.3) ∙ sym (rw append_assoc))

  prefix_word : (s : List ℕ) → prefix s ≡ read_word (begins 120 k 46) s
  prefix_word =
      reads_word (begins 120 k 46) (λ s. prefix s)
      (λ s. then_shallow (read_named open_node k s) _ (named_shallow open_node k s) (λ u r. word_shallow point r)) prefix_round prefix_sound

then_assoc : {A B C : Type 0} (o : Read A) (f : A → List ℕ → Read B) (g : B → List ℕ → Read C)
    → and_then (and_then o f) g ≡ (and_then o λ a r. and_then (f a r) g)
then_assoc (done a r) f g = refl
then_assoc deep f g = refl
then_assoc broken f g = refl

-- What follows the beginning of an opening tag.
abbrev pub ends : List ℕ → Read ℕ
ends r = and_then (read_number r) λ p r. and_then (read_word tag_end r) λ u r. done p r

pub opening_word : (k : ℕ) (s : List ℕ) → read_opening k s ≡ (and_then (read_word (begins 120 k 46) s) λ u r. ends r)
unfolding read_opening
opening_word k s =
    sym (then_assoc (read_named open_node k s) (λ u r. read_word point r) (λ u r. ends r))
    ∙ ap (λ (q : Read (Unit {0})). and_then q λ u r. ends r) (prefix_word k s)

-- A text that ends before a number does.
pub begins_cut : {A : Type 0} (sign k end : ℕ) (s : List ℕ) (f : ℕ → List ℕ → Read A) → length s < 5
    → (and_then (read_word (begins sign k end) s) λ u r. and_then (read_number r) f) ≡ broken
unfolding begins read_number
begins_cut {A} sign k end s f h = go (read_word (begins sign k end) s) refl
  where
    none : (r : List ℕ) → length r < 1 → and_then (read_number r) f ≡ broken
    none [] i = refl
    none (b ∷ r) i = absurd (omega arith)

    go : (q : Read (Unit {0})) → read_word (begins sign k end) s ≡ q → (and_then q λ u r. and_then (read_number r) f) ≡ broken
    go (done u r) e =
        let z = ap length (word_sound (begins sign k end) s r {u = u} e) in
        none r (omega (arith, z, length-append (begins sign k end) r, length-append (decimal k) (end ∷ []), decimal_some k))
    go deep e = absurd (word_shallow (begins sign k end) s e)
    go broken e = refl

-- Tags and decimals, written.
use Prim.Native.Nat.{ℕ, suc, ◌+◌, ◌*◌, ◌/◌, ◌%◌, ◌<◌, ◌≤◌}
use mathlib.Core.Path.{◌≡◌, refl, ap, ◌∙◌}
use mathlib.Core.List.{List, [], ◌∷◌, ◌++◌, append_assoc}
use native.Mathlib.Omega.{arith}
use lib.ListN.{length, set, length-append}
use Rattle.format_fields.specs.Inner.Writing.{Written}
use Rattle.format_fields.specs.Decimal.{decimal}
use Rattle.xml_text.specs.Text.{node_tag, token_tag, open_token, close_token, point, tag_end}
use Rattle.xml_text.proofs.Stores.{store_in}
use Rattle.format_fields.proofs.Decimal.{decimal_small, decimal_large, decimal_two}

-- write_byte and write_digit
pub written_byte : (o : List ℕ) (n b : ℕ) → n < length o → Written (b ∷ []) o (set o n b) n (n + 1)
written_byte o n b h = record { end = refl; fits = omega arith; bytes = store_in o n b h }

-- The same text said in another way.
pub written_same : {v u o o' : List ℕ} {n m : ℕ} → v ≡ u → Written v o o' n m → Written u o o' n m
written_same e w = rw (← e) w

-- Lengths of tags.
pub node_length : (w : List ℕ) (k p : ℕ) → length (node_tag w k p) ≡ length w + (length (decimal k) + (1 + (length (decimal p) + 1)))
unfolding node_tag
node_length w k p =
    let b : length (decimal k ++ (point ++ (decimal p ++ tag_end))) ≡ length (decimal k) + suc (length (decimal p ++ tag_end)) =
    length-append (decimal k) (point ++ (decimal p ++ tag_end)) in
    let c : length (decimal p ++ tag_end) ≡ length (decimal p) + 1 = length-append (decimal p) tag_end in
    let d : length w + length (decimal k ++ (point ++ (decimal p ++ tag_end))) ≡ length w + (length (decimal k) + (1 + (length (decimal p) + 1))) =
    omega (arith, b, c) in
    length-append w (decimal k ++ (point ++ (decimal p ++ tag_end))) ∙ d

tag_length : (w : List ℕ) (k : ℕ) → length (token_tag w k) ≡ length w + (length (decimal k) + 1)
unfolding token_tag
tag_length w k = length-append w (decimal k ++ tag_end) ∙ ap (λ (x : ℕ). length w + x) (length-append (decimal k) tag_end)

sum_of : (a b c d e f : ℕ) → a ≡ 2 + (e + 1) → b ≡ 3 + (e + 1) → c ≡ a + d → d ≡ f + b → c ≡ 7 + 2 * e + f
sum_of a b c d e f h i j k = omega arith

pub token_length : (k v : ℕ) → length (token_tag open_token k ++ (decimal v ++ token_tag close_token k)) ≡ 7 + 2 * length (decimal k) + length (decimal v)
token_length k v =
    sum_of _ _ _ _ _ _ (tag_length open_token k) (tag_length close_token k) (length-append (token_tag open_token k) (decimal v ++ token_tag close_token k))
    (length-append (decimal v) (token_tag close_token k))

-- What the parts of tags make up, and how long that is.
pub node_is : (w : List ℕ) (k p : ℕ) → w ++ (decimal k ++ (point ++ (decimal p ++ tag_end))) ≡ node_tag w k p
unfolding node_tag
node_is w k p = refl

pub token_is : (k v : ℕ)
    → (60 ∷ []) ++ ((116 ∷ (decimal k ++ tag_end)) ++ (decimal v ++ ((60 ∷ []) ++ ((47 ∷ []) ++ (116 ∷ (decimal k ++ tag_end))))))
    ≡ token_tag open_token k ++ (decimal v ++ token_tag close_token k)
unfolding token_tag
token_is k v = refl

-- Where what was written ends.
pub byte_after : {v o o₁ : List ℕ} {n a : ℕ} → Written v o o₁ n a → length o₁ ≡ length o → n + length v < length o → a < length o₁
byte_after w l h = omega (arith, w.end)

pub byte_end : {b : ℕ} {o o₁ : List ℕ} {n a : ℕ} → Written (b ∷ []) o o₁ n a → a ≡ n + 1
byte_end w = w.end

pub kind_end : (k : ℕ) {o o₁ : List ℕ} {n a : ℕ} → Written (116 ∷ (decimal k ++ tag_end)) o o₁ n a → a ≡ n + (2 + length (decimal k))
kind_end k {n = n} w =
    let z : length (decimal k ++ tag_end) ≡ length (decimal k) + 1 = length-append (decimal k) tag_end in
    let y : suc (length (decimal k ++ tag_end)) ≡ 2 + length (decimal k) = omega (arith, z) in
    w.end ∙ ap (λ (x : ℕ). n + x) y

-- Decimals of three to five digits.
pub digits_3 : (v : ℕ) → 100 ≤ v → v < 1000 → decimal v ≡ (48 + v / 100) ∷ (48 + v / 10 % 10) ∷ (48 + v % 10) ∷ []
digits_3 v g h =
    let a : v / 10 / 10 ≡ v / 100 = omega arith in
    decimal_large v (omega arith) ∙ (ap (λ (l : List ℕ). l ++ ((48 + v % 10) ∷ [])) (decimal_two (v / 10) (omega arith) (omega arith)) ∙ rw a)

pub digits_4 : (v : ℕ) → 1000 ≤ v → v < 10000
    → decimal v ≡ (48 + v / 1000) ∷ (48 + v / 100 % 10) ∷ (48 + v / 10 % 10) ∷ (48 + v % 10) ∷ []
digits_4 v g h =
    let a : v / 10 / 10 ≡ v / 100 = omega arith in
    let b : v / 10 / 100 ≡ v / 1000 = omega arith in
    decimal_large v (omega arith) ∙ (ap (λ (l : List ℕ). l ++ ((48 + v % 10) ∷ [])) (digits_3 (v / 10) (omega arith) (omega arith)) ∙ rw (a, b))

pub digits_5 : (v : ℕ) → 10000 ≤ v → v < 100000
    → decimal v ≡ (48 + v / 10000) ∷ (48 + v / 1000 % 10) ∷ (48 + v / 100 % 10) ∷ (48 + v / 10 % 10) ∷ (48 + v % 10) ∷ []
digits_5 v g h =
    let a : v / 10 / 10 ≡ v / 100 = omega arith in
    let b : v / 10 / 100 ≡ v / 1000 = omega arith in
    let c : v / 10 / 1000 ≡ v / 10000 = omega arith in
    decimal_large v (omega arith) ∙ (ap (λ (l : List ℕ). l ++ ((48 + v % 10) ∷ [])) (digits_4 (v / 10) (omega arith) (omega arith)) ∙ rw (a, b, c))

-- How many digits there are, and the last ones.
pub width_1 : (v : ℕ) → v < 10 → length (decimal v) ≡ 1
width_1 v h = ap length (decimal_small v h)

pub width_2 : (v : ℕ) → 10 ≤ v → v < 100 → length (decimal v) ≡ 2
width_2 v g h = ap length (decimal_two v g h)

last_2 : (v : ℕ) → 100 ≤ v → decimal v ≡ decimal (v / 100) ++ ((48 + v / 10 % 10) ∷ (48 + v % 10) ∷ [])
last_2 v h =
    let a : v / 10 / 10 ≡ v / 100 = omega arith in
    decimal_large v (omega arith) ∙ (ap (λ (l : List ℕ). l ++ ((48 + v % 10) ∷ [])) (decimal_large (v / 10) (omega arith)) ∙ rw a (append_assoc (decimal (v / 100)) ((48 + v / 10 % 10) ∷ []) ((48 + v % 10) ∷ [])))

pub last_3 : (v : ℕ) → 1000 ≤ v → decimal v ≡ decimal (v / 1000) ++ ((48 + v / 100 % 10) ∷ (48 + v / 10 % 10) ∷ (48 + v % 10) ∷ [])
last_3 v h =
    let a : v / 10 / 100 ≡ v / 1000 = omega arith in
    let b : v / 10 / 10 ≡ v / 100 = omega arith in
    decimal_large v (omega arith)
    ∙ (ap (λ (l : List ℕ). l ++ ((48 + v % 10) ∷ [])) (last_2 (v / 10) (omega arith))
    ∙ rw (a, b) (append_assoc (decimal (v / 1000)) ((48 + v / 100 % 10) ∷ (48 + v / 10 % 10) ∷ []) ((48 + v % 10) ∷ [])))

pub last_1 : (v : ℕ) → 100 ≤ v → decimal v ≡ decimal (v / 10) ++ ((48 + v % 10) ∷ [])
last_1 v h = decimal_large v (omega arith)

pub last_two : (v : ℕ) → 1000 ≤ v → decimal v ≡ decimal (v / 100) ++ ((48 + v / 10 % 10) ∷ (48 + v % 10) ∷ [])
last_two v h = last_2 v (omega arith)

pub fewer_1 : (v : ℕ) → 100 ≤ v → length (decimal v) ≡ length (decimal (v / 10)) + 1
fewer_1 v h = ap length (last_1 v h) ∙ length-append (decimal (v / 10)) ((48 + v % 10) ∷ [])

pub fewer_2 : (v : ℕ) → 1000 ≤ v → length (decimal v) ≡ length (decimal (v / 100)) + 2
fewer_2 v h = ap length (last_two v h) ∙ length-append (decimal (v / 100)) ((48 + v / 10 % 10) ∷ (48 + v % 10) ∷ [])

pub fewer_3 : (v : ℕ) → 1000 ≤ v → length (decimal v) ≡ length (decimal (v / 1000)) + 3
fewer_3 v h =
    ap length (last_3 v h) ∙ length-append (decimal (v / 1000)) ((48 + v / 100 % 10) ∷ (48 + v / 10 % 10) ∷ (48 + v % 10) ∷ [])

-- The lines of clauses: a law for each turn and return of the code.
use Prim.Native.Nat.{ℕ, ◌+◌, ◌-◌, ◌<◌, ◌≤◌}
use mathlib.Core.Path.{◌≡◌, refl, sym, ap, ◌∙◌, subst}
use mathlib.Core.Bool.{true, false}
use mathlib.Core.List.{List, [], ◌∷◌, ◌++◌, append_assoc, append-nil}
use native.Mathlib.Omega.{arith}
use lib.ListN.{length, take, drop, length-drop}
use lib.Seq.{take_all, length-take-le}
use borrow.Author.Tests.{le-leb, lt-leb, ne_eqb}
use Rattle.format_fields.specs.Lists.{concat_map}
use Rattle.format_fields.specs.Fields.{byte_at, pair_at}
use Rattle.format_fields.specs.Inner.Places.{field_end, is_whole, contents_at, places_from}
use Rattle.format_fields.proofs.Places.{pass_done, pass_next}
use Rattle.program_text.specs.Text.{marked, pair_of}
use Rattle.listing.specs.Text.{clause_line, numbered_line}
use Rattle.listing.specs.Inner.Walk.{contents_line, numbered_contents, field_line, line_at, clause_lines}
use Rattle.program_text.specs.Inner.Putting.{Puts}
use Rattle.program_text.proofs.Putting.{puts_then, puts_nothing}

-- The code of a clause is the rest behind two bytes.
code_is : (clause : List ℕ) → take (length clause - 2) (drop 2 clause) ≡ drop 2 clause
code_is clause = take_all (length clause - 2) (drop 2 clause) (simp length-drop (omega arith))

pub code_length : (clause : List ℕ) → length (take (length clause - 2) (drop 2 clause)) ≡ length clause - 2
code_length clause = ap length (code_is clause) ∙ length-drop 2 clause

-- `put_clause`
pub puts_clause : (clause code : List ℕ) (a b : ℕ) (o o₁ o₂ o₃ o₄ : List ℕ) (p q r t u : ℕ)
    → a ≡ byte_at clause 0 → b ≡ byte_at clause 1 → code ≡ take (length clause - 2) (drop 2 clause)
    → Puts (marked a 46) o o₁ p q → Puts (marked b 32) o₁ o₂ q r → Puts (concat_map pair_of code) o₂ o₃ r t → Puts (10 ∷ []) o₃ o₄ t u
    → Puts (contents_line clause) o o₄ p u
unfolding contents_line clause_line
puts_clause clause code a b o o₁ o₂ o₃ o₄ p q r t u ea eb ec x y z w =
    subst (λ (l : List ℕ). Puts l o o₄ p u)
    (cc (ea, eb, ec, code_is clause))
    (puts_then _ _ _ _ _ _ _ _ x (puts_then _ _ _ _ _ _ _ _ y (puts_then _ _ _ _ _ _ _ _ z w)))

-- The code of a numbered clause is the rest behind three bytes.
rest_is : (clause : List ℕ) → take (length clause - 3) (drop 3 clause) ≡ drop 3 clause
rest_is clause = take_all (length clause - 3) (drop 3 clause) (simp length-drop (omega arith))

pub rest_length : (clause : List ℕ) → length (take (length clause - 3) (drop 3 clause)) ≡ length clause - 3
rest_length clause = ap length (rest_is clause) ∙ length-drop 3 clause

-- `put_numbered`
pub puts_numbered : (clause code : List ℕ) (a b c : ℕ) (o o₁ o₂ o₃ o₄ o₅ : List ℕ) (p q r t u v : ℕ)
    → a ≡ byte_at clause 0 → b ≡ byte_at clause 1 → c ≡ byte_at clause 2 → code ≡ take (length clause - 3) (drop 3 clause)
    → Puts (marked a 46) o o₁ p q → Puts (marked b 46) o₁ o₂ q r → Puts (marked c 32) o₂ o₃ r t → Puts (concat_map pair_of code) o₃ o₄ t u → Puts (10 ∷ []) o₄ o₅ u v
    → Puts (numbered_contents clause) o o₅ p v
unfolding numbered_contents numbered_line
puts_numbered clause code a b c o o₁ o₂ o₃ o₄ o₅ p q r t u v ea eb ec ed x y z w k =
    subst (λ (l : List ℕ). Puts l o o₅ p v)
    (cc (ea, eb, ec, ed, rest_is clause))
    (puts_then _ _ _ _ _ _ _ _ x (puts_then _ _ _ _ _ _ _ _ y (puts_then _ _ _ _ _ _ _ _ z (puts_then _ _ _ _ _ _ _ _ w k))))

-- The contents of a whole field, by its end.
module _ (s : List ℕ) (p end : ℕ) (ee : end ≡ field_end s p) where
  pub contents_is : take (end - (p + 3)) (drop (p + 3) s) ≡ contents_at s p
  unfolding field_end
  contents_is = let e : end - (p + 3) ≡ pair_at s (p + 1) = omega arith in cc e

  pub contents_length : end ≤ length s → length (take (end - (p + 3)) (drop (p + 3) s)) ≡ end - (p + 3)
  contents_length h = let k : end - (p + 3) ≤ length (drop (p + 3) s) = simp length-drop (omega arith) in length-take-le _ _ k

-- `put_contents`: a field that is no clause, and one that is
module _ (tag : ℕ) (c : List ℕ) where
  no_clause : (tag ≡ 0x23 → ⊥) → (tag ≡ 0x29 → ⊥) → [] ≡ field_line tag c
  unfolding field_line
  no_clause h k = simp (ne_eqb tag 0x23 h, ne_eqb tag 0x29 k) refl

  short_clause : tag ≡ 0x23 → length c < 2 → [] ≡ field_line tag c
  unfolding field_line
  short_clause h k = rw (h, lt-leb 2 (length c) k) refl

  whole_clause : tag ≡ 0x23 → 2 ≤ length c → contents_line c ≡ field_line tag c
  unfolding field_line
  whole_clause h k = rw (h, le-leb 2 (length c) k) refl

  short_numbered : tag ≡ 0x29 → length c < 3 → [] ≡ field_line tag c
  unfolding field_line
  short_numbered h k = rw (h, lt-leb 3 (length c) k) refl

  whole_numbered : tag ≡ 0x29 → 3 ≤ length c → numbered_contents c ≡ field_line tag c
  unfolding field_line
  whole_numbered h k = rw (h, le-leb 3 (length c) k) refl

  module _ (o : List ℕ) (at : ℕ) (room : at ≤ length o) where
    nothing : [] ≡ field_line tag c → Puts (field_line tag c) o o at at
    nothing e = subst (λ (l : List ℕ). Puts l o o at at) e (puts_nothing o at room)

    pub puts_other : (tag ≡ 0x23 → ⊥) → (tag ≡ 0x29 → ⊥) → Puts (field_line tag c) o o at at
    puts_other h k = nothing (no_clause h k)

    pub puts_short : tag ≡ 0x23 → length c < 2 → Puts (field_line tag c) o o at at
    puts_short h k = nothing (short_clause h k)

    pub puts_short_numbered : tag ≡ 0x29 → length c < 3 → Puts (field_line tag c) o o at at
    puts_short_numbered h k = nothing (short_numbered h k)

  pub puts_whole : tag ≡ 0x23 → 2 ≤ length c → (o o' : List ℕ) (at r : ℕ) → Puts (contents_line c) o o' at r → Puts (field_line tag c) o o' at r
  puts_whole h k o o' at r x = subst (λ (l : List ℕ). Puts l o o' at r) (whole_clause h k) x

  pub puts_numbered_whole : tag ≡ 0x29 → 3 ≤ length c → (o o' : List ℕ) (at r : ℕ) → Puts (numbered_contents c) o o' at r → Puts (field_line tag c) o o' at r
  puts_numbered_whole h k o o' at r x = subst (λ (l : List ℕ). Puts l o o' at r) (whole_numbered h k) x

-- `put_field`: a field that is not whole, and one that is
module _ (s : List ℕ) (p end : ℕ) (ee : end ≡ field_end s p) where
  pub not_whole : length s < end → (o : List ℕ) (at : ℕ) → at ≤ length o → Puts (line_at s p) o o at at
  unfolding line_at is_whole
  not_whole k o at room =
      let e : is_whole s p ≡ false = lt-leb (field_end s p) (length s) (omega arith) in
      let z : [] ≡ line_at s p = rw e refl in
      subst (λ (l : List ℕ). Puts l o o at at) z (puts_nothing o at room)

  pub whole_field : end ≤ length s → (contents : List ℕ) → contents ≡ contents_at s p → (o o' : List ℕ) (at r : ℕ)
      → Puts (field_line (byte_at s p) contents) o o' at r → Puts (line_at s p) o o' at r
  unfolding line_at is_whole
  whole_field k contents ec o o' at r x =
      let e : is_whole s p ≡ true = le-leb (field_end s p) (length s) (omega arith) in
      let z : field_line (byte_at s p) contents ≡ line_at s p = rw (e, ec) refl in
      subst (λ (l : List ℕ). Puts l o o' at r) z x

-- `put_clauses`: what is put from `at` on, with the lines of the fields from p on, is all lines
abbrev pub Lines : List ℕ → List ℕ → List ℕ → ℕ → ℕ → ℕ → Type 0
Lines s o o' at to p =
    (v : List ℕ) × (Puts v o o' at to × (v ++ concat_map (line_at s) (places_from s p) ≡ clause_lines s))

pub lines_start : (s o : List ℕ) (at : ℕ) → at ≤ length o → Lines s o o at at 0
unfolding clause_lines
lines_start s o at h = ([], (puts_nothing o at h, refl))

module _ (s o o' : List ℕ) (at to p : ℕ) (inv : Lines s o o' at to p) where
  pub lines_next : p < length s → (end : ℕ) → end ≡ field_end s p → (o'' : List ℕ) (r : ℕ) → Puts (line_at s p) o' o'' to r → Lines s o o'' at r end
  unfolding concat_map
  lines_next here end ee o'' r y = (
    inv.0 ++ line_at s p,
    (
      puts_then _ _ _ _ _ _ _ _ inv.1.0 y,
      append_assoc inv.0 (line_at s p) (concat_map (line_at s) (places_from s end))
          ∙ pass_next (λ (l : List ℕ). inv.0 ++ concat_map (line_at s) l) s p (clause_lines s) inv.1.1 end here ee,
    ),
  )

  pub lines_done : length s ≤ p → Puts (clause_lines s) o o' at to
  unfolding concat_map
  lines_done h =
      subst (λ (l : List ℕ). Puts l o o' at to)
      (sym (append-nil inv.0) ∙ pass_done (λ (l : List ℕ). inv.0 ++ concat_map (line_at s) l) s p (clause_lines s) inv.1.1 h)
      inv.1.0

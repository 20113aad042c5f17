-- Terms (paper 01, "The sixteen term signs"; document 000: appendix A). Terms of both sorts hold one another.
use Rattle.std.specs.Prelude.{ℕ, zero, suc, max, Bool, true, false, ◌&&◌, List, [], ◌∷◌, ◌++◌, ltb, eqb}
use Rattle.std.proofs.Math.Option.{Option, none, some}

-- The two sorts of terms.
pub data Sort : Type 0 where
  languages translations : Sort

-- The terms of a sort.
pub data Term : Sort → Type 0 where
  constant : ℕ → Term languages
  source_of : Term translations → Term languages
  target_of : Term translations → Term languages
  make : Term languages → Term languages → ℕ → Term translations
  join : Term translations → Term translations → Term translations
  identity : Term languages → Term translations
  variable : {s : Sort} → ℕ → Term s
  without : {s : Sort} → Term s → Term languages → Term s
  sum : {s : Sort} → Term s → Term s → Term s
  bind : {s : Sort} (bound : Sort) → ℕ → Term bound → Term s → Term s

-- The sign of what terms of both sorts have: 4d for a language, 5d for a translation.
abbrev pub signed : Sort → ℕ → ℕ → ℕ
signed languages a b = a
signed translations a b = b

-- The sign of a let: 46 and 56 bind a language, 47 and 57 a translation.
abbrev pub bind_sign : Sort → Sort → ℕ
bind_sign languages s = signed s 0x46 0x56
bind_sign translations s = signed s 0x47 0x57

-- A term in prefix form.
unfoldable pub write_term : {s : Sort} → Term s → List ℕ
write_term (constant c) = 0x40 ∷ c ∷ []
write_term (source_of x) = 0x44 ∷ write_term x
write_term (target_of x) = 0x45 ∷ write_term x
write_term (make l m b) = 0x50 ∷ (write_term l ++ (write_term m ++ b ∷ []))
write_term (join x y) = 0x54 ∷ (write_term x ++ write_term y)
write_term (identity l) = 0x55 ∷ write_term l
write_term (variable {s} v) = signed s 0x41 0x51 ∷ v ∷ []
write_term (without {s} x l) = signed s 0x42 0x52 ∷ (write_term x ++ write_term l)
write_term (sum {s} x y) = signed s 0x43 0x53 ∷ (write_term x ++ write_term y)
write_term (bind {s} r v x y) = bind_sign r s ∷ v ∷ (write_term x ++ write_term y)

-- Each sign is a level, an operand one deeper than its sign.
unfoldable pub term_levels : {s : Sort} → Term s → ℕ
term_levels (constant c) = 1
term_levels (source_of x) = suc (term_levels x)
term_levels (target_of x) = suc (term_levels x)
term_levels (make l m b) = suc (max (term_levels l) (term_levels m))
term_levels (join x y) = suc (max (term_levels x) (term_levels y))
term_levels (identity l) = suc (term_levels l)
term_levels (variable v) = 1
term_levels (without x l) = suc (max (term_levels x) (term_levels l))
term_levels (sum x y) = suc (max (term_levels x) (term_levels y))
term_levels (bind r v x y) = suc (max (term_levels x) (term_levels y))

-- A value off the front of the bytes, and the bytes after it.
abbrev pub Parse : Type 0 → Type 0
Parse A = Option (A × List ℕ)

-- The next parse, on what was read and what is left.
abbrev pub then : {A B : Type 0} → Parse A → (A → List ℕ → Parse B) → Parse B
then none f = none
then (some p) f = f p.0 p.1

-- A number byte.
abbrev pub number : List ℕ → Parse ℕ
number [] = none
number (n ∷ s) = some (n, s)

-- What follows a sign of a language term: the left column of the table.
unfoldable pub language_sign : ((s : Sort) → List ℕ → Parse (Term s)) → ℕ → List ℕ → Parse (Term languages)
language_sign reads b s =
    elim (eqb b 0x40) [
      | true ↦ then (number s) λ c r. some (constant c, r)
      | false ↦
          elim (eqb b 0x41) [
            | true ↦ then (number s) λ v r. some (variable v, r)
            | false ↦
                elim (eqb b 0x42) [
                  | true ↦ then (reads languages s) λ x r. then (reads languages r) λ y u. some (without x y, u)
                  | false ↦
                      elim (eqb b 0x43) [
                        | true ↦ then (reads languages s) λ x r. then (reads languages r) λ y u. some (sum x y, u)
                        | false ↦
                            elim (eqb b 0x44) [
                              | true ↦ then (reads translations s) λ x r. some (source_of x, r)
                              | false ↦
                                  elim (eqb b 0x45) [
                                    | true ↦ then (reads translations s) λ x r. some (target_of x, r)
                                    | false ↦
                                        elim (eqb b 0x46) [
                                          | true ↦ then (number s) λ v q. then (reads languages q) λ x r. then (reads languages r) λ y u. some (bind languages v x y, u)
                                          | false ↦
                                              elim (eqb b 0x47) [
                                                | true ↦ then (number s) λ v q. then (reads translations q) λ x r. then (reads languages r) λ y u. some (bind translations v x y, u)
                                                | false ↦
                                                    none
                                              ]
                                        ]
                                  ]
                            ]
                      ]
                ]
          ]
    ]

-- What follows a sign of a translation term: the right column.
unfoldable pub translation_sign : ((s : Sort) → List ℕ → Parse (Term s)) → ℕ → List ℕ → Parse (Term translations)
translation_sign reads b s =
    elim (eqb b 0x50) [
      | true ↦ then (reads languages s) λ x q. then (reads languages q) λ y r. then (number r) λ c u. some (make x y c, u)
      | false ↦
          elim (eqb b 0x51) [
            | true ↦ then (number s) λ v r. some (variable v, r)
            | false ↦
                elim (eqb b 0x52) [
                  | true ↦ then (reads translations s) λ x r. then (reads languages r) λ y u. some (without x y, u)
                  | false ↦
                      elim (eqb b 0x53) [
                        | true ↦ then (reads translations s) λ x r. then (reads translations r) λ y u. some (sum x y, u)
                        | false ↦
                            elim (eqb b 0x54) [
                              | true ↦ then (reads translations s) λ x r. then (reads translations r) λ y u. some (join x y, u)
                              | false ↦
                                  elim (eqb b 0x55) [
                                    | true ↦ then (reads languages s) λ x r. some (identity x, r)
                                    | false ↦
                                        elim (eqb b 0x56) [
                                          | true ↦ then (number s) λ v q. then (reads languages q) λ x r. then (reads translations r) λ y u. some (bind languages v x y, u)
                                          | false ↦
                                              elim (eqb b 0x57) [
                                                | true ↦ then (number s) λ v q. then (reads translations q) λ x r. then (reads translations r) λ y u. some (bind translations v x y, u)
                                                | false ↦
                                                    none
                                              ]
                                        ]
                                  ]
                            ]
                      ]
                ]
          ]
    ]

-- What follows a sign, in a term of the sort.
unfoldable pub read_sign : ((s : Sort) → List ℕ → Parse (Term s)) → (s : Sort) → List ℕ → Parse (Term s)
read_sign reads languages [] = none
read_sign reads translations [] = none
read_sign reads languages (b ∷ s) = language_sign reads b s
read_sign reads translations (b ∷ s) = translation_sign reads b s

-- A term of the sort off the front of the bytes, of at most so many levels.
unfoldable pub read_term : ℕ → (s : Sort) → List ℕ → Parse (Term s)
read_term zero s bytes = none
read_term (suc n) s bytes = read_sign (read_term n) s bytes

-- No constant is absent, where there are so many languages and bodies, and no variable is above 15.
unfoldable pub scoped : {s : Sort} → ℕ → ℕ → Term s → Bool
scoped l b (constant c) = ltb c l
scoped l b (source_of x) = scoped l b x
scoped l b (target_of x) = scoped l b x
scoped l b (make x y c) = scoped l b x && (scoped l b y && ltb c b)
scoped l b (join x y) = scoped l b x && scoped l b y
scoped l b (identity x) = scoped l b x
scoped l b (variable v) = ltb v 16
scoped l b (without x y) = scoped l b x && scoped l b y
scoped l b (sum x y) = scoped l b x && scoped l b y
scoped l b (bind r v x y) = ltb v 16 && (scoped l b x && scoped l b y)

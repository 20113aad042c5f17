-- Languages and their operators (document 000: appendix B), by the entries that are in them. A grammar (N, Σ, P, π) is a
-- language: where π(n) is regular, it is the range of the class of kind n; where it is a set of pairs (p, α), these are the
-- productions of result n, with the kinds of α as arguments.
use Rattle.std.specs.Prelude.{ℕ, ◌<◌, ◌≤◌, ◌≡◌, ◌⊎◌, ◌↔◌, true, List, length}
use Rattle.format_fields.specs.Keyed.{rising}
use Rattle.format_language.specs.Language.{Entry, class, production, Language, entry_key, Range, in_range}
use Rattle.report.specs.Sets.{◌∈◌}

-- B.1, n ∈ N: a kind that has a class, is a result, or is an argument. B.2 (ii), each nonterminal is defined or used, is what
-- this says.
pub data Nonterminal (l : Language) (n : ℕ) : Type 0 where
  -- Defined, by a regular language.
  has_class : {c : Range} → class n c ∈ l → Nonterminal l n
  -- Defined, by productions.
  has_production_lem : {p : ℕ} {ks : List ℕ} → production n p ks ∈ l → Nonterminal l n
  -- Used, in a production.
  is_argument : {r p : ℕ} {ks : List ℕ} → production r p ks ∈ l → n ∈ ks → Nonterminal l n

-- An entry that 01 can write ("Languages"; steps by 02, 2026-10): kinds 0 to 31, values of two bytes, names 0 to 255, up to
-- 8 arguments. The report has no such bounds.
abbrev pub Writable : Entry → Type 0
Writable (class k c) = (k < 32) × (c.low ≤ c.high) × (c.high < 65536) × (0 < c.step) × (c.step < 65536)
Writable (production n p ks) = (n < 32) × (p < 256) × (length ks ≤ 8) × ((k : ℕ) → k ∈ ks → k < 32)

-- B.2, ⊢wfl l: a well-formed grammar.
pub record WellFormedLanguage (l : Language) : Type 0 where
  -- A set of entries is written in one way: by rising key, each once (01, "Languages").
  pub in_order : rising entry_key l ≡ true
  pub writable : (a : Entry) → a ∈ l → Writable a
  -- B.1: π(n) is one regular language, or a set of productions, and not both.
  pub one_range : {n : ℕ} {c d : Range} → class n c ∈ l → class n d ∈ l → c ≡ d
  pub not_both : {n p : ℕ} {c : Range} {ks : List ℕ} → class n c ∈ l → production n p ks ∈ l → ⊥
  -- B.2 (i): a name is that of one production of a nonterminal.
  pub one_production : {n p : ℕ} {ks js : List ℕ} → production n p ks ∈ l → production n p js ∈ l → ks ≡ js

-- B.3, l ∼ m: where both define a nonterminal, both are regular and equal, or neither is and equal names have equal productions.
-- Equal ranges are equal in low, high and step (02, 2026-10); the report's are equal as sets of values.
pub record Compatible (l m : Language) : Type 0 where
  -- Where both are regular, they are equal.
  pub same_range : {n : ℕ} {c d : Range} → class n c ∈ l → class n d ∈ m → c ≡ d
  -- Where one is regular, the other is no set of productions.
  pub left_apart : {n p : ℕ} {c : Range} {ks : List ℕ} → class n c ∈ l → production n p ks ∈ m → ⊥
  pub right_apart : {n p : ℕ} {c : Range} {ks : List ℕ} → class n c ∈ m → production n p ks ∈ l → ⊥
  -- Where both are sets of productions, p = p' gives α = α'.
  pub same_production : {n p : ℕ} {ks js : List ℕ} → production n p ks ∈ l → production n p js ∈ m → ks ≡ js

-- B.4, s = l ⊕ m: what is in one or in the other.
pub record IsSum (l m s : Language) : Type 0 where
  pub in_order : rising entry_key s ≡ true
  pub members : (a : Entry) → a ∈ s ↔ (a ∈ l) ⊎ (a ∈ m)

-- B.6, s = l ⊖ m: what is in the first and not in the second; its nonterminals are those that are still defined or used. By 01 there
-- is no condition; the report asks for l ∼ m.
pub record IsDifference (l m s : Language) : Type 0 where
  pub in_order : rising entry_key s ≡ true
  pub members : (a : Entry) → a ∈ s ↔ (a ∈ l) × (a ∈ m → ⊥)

-- Each value of the first range is one of the second.
abbrev pub Contained : Range → Range → Type 0
Contained c d = (v : ℕ) → in_range c v ≡ true → in_range d v ≡ true

-- B.8, l ⊑ m. The report asks for equal ranges; by 02, 2026-01, the range of the second contains that of the first.
pub record LiesWithin (l m : Language) : Type 0 where
  -- Where π(n) is regular.
  pub classes : {n : ℕ} {c : Range} → class n c ∈ l → (d : Range) × (class n d ∈ m) × Contained c d
  -- Where it is a set of productions: π(n) ⊆ π'(n).
  pub productions : {n p : ℕ} {ks : List ℕ} → production n p ks ∈ l → production n p ks ∈ m

-- The typing of reconstructors (document 000: C.3 to C.5), as its rules. A reconstructor (C.1) is a code; the report has one
-- mapping a kind, which is number 0 here, so that its argument i is `argument i 0`.
use Rattle.std.specs.Prelude.{ℕ, zero, suc, ◌≡◌, true, List, [], ◌∷◌}
use Rattle.format_language.specs.Language.{class, production, Language, Range, in_range}
use Rattle.tree_reader.specs.Code.{Code, node, token, argument, Codes, nil, cons}
use Rattle.format_translation.specs.Translation.{mapping, Body}
use Rattle.report.specs.Sets.{◌∈◌}

-- C.3, α|ⁱ = k: the argument kind at place i, counted from 1. The list has no terminals to pass over; C.4, the number of its kinds,
-- is its length.
pub data Picked : List ℕ → ℕ → ℕ → Type 0 where
  -- C.3, its first rule.
  picked_first : {k : ℕ} {ks : List ℕ} → Picked (k ∷ ks) (suc zero) k
  -- C.3, its second rule.
  picked_later : {j k i : ℕ} {ks : List ℕ} → Picked ks (suc i) k → Picked (j ∷ ks) (suc (suc i)) k

-- A gap type function ρ: ρ i n says that ρ(i) = n.
abbrev pub Gaps : Type 1
Gaps = ℕ → ℕ → Type 0

mutual
  -- C.5, ρ ⊢ A : n over the language l: its three rules.
  pub data HasKind (l : Language) (ρ : Gaps) : Code → ℕ → Type 0 where
    -- C.5, the first rule: ρ(i) = n.
    has_argument : {i n : ℕ} → ρ i n → HasKind l ρ (argument i 0) n
    -- C.5, the second: ω ∈ π(n), which is regular.
    has_token : {w n : ℕ} {c : Range} → class n c ∈ l → in_range c w ≡ true → HasKind l ρ (token w) n
    -- C.5, the third: (p, α) ∈ π(n).
    has_node : {n p : ℕ} {t : Codes} {ks : List ℕ} → production n p ks ∈ l → HaveKinds l ρ t ks → HasKind l ρ (node n p t) n

  -- The premise of the third rule: ρ ⊢ Aⱼ : α|ʲ for each j, and as many codes as kinds.
  pub data HaveKinds (l : Language) (ρ : Gaps) : Codes → List ℕ → Type 0 where
    have_none : HaveKinds l ρ nil []
    have_more : {a : Code} {k : ℕ} {t : Codes} {ks : List ℕ} → HasKind l ρ a k → HaveKinds l ρ t ks → HaveKinds l ρ (cons a t) (k ∷ ks)

-- τ ∘ ρ: where ρ(i) = n, the kind that n is mapped to.
abbrev pub Through : Body → Gaps → Gaps
Through b ρ i t = (n : ℕ) × ρ i n × (mapping n 0 t ∈ b)

-- τ ∘ α|: the kinds that the arguments of a production are mapped to.
abbrev pub Mapped : Body → List ℕ → Gaps
Mapped b ks = Through b (Picked ks)

-- No gaps.
abbrev pub no_gaps : Gaps
no_gaps i n = ⊥

-- A legal tree of kind n: of that kind, with no gaps.
abbrev pub Legal : Language → Code → ℕ → Type 0
Legal l a n = HasKind l no_gaps a n

-- The substitute relation and the transformation relation (document 000: C.7), as the rules (i) to (vi).
use Rattle.std.specs.Prelude.{ℕ, zero, suc, List}
use Rattle.format_language.specs.Language.{production}
use Rattle.tree_reader.specs.Code.{Code, node, token, argument, Codes, nil, cons}
use Rattle.tree_reader.specs.Syntax.{write, code}
use Rattle.format_translation.specs.Translation.{mapping, clause, Translation}
use Rattle.report.specs.Sets.{◌∈◌}
use Rattle.report.specs.Typing.{HasKind, Mapped}

-- What is put into gaps: ρ i A says that ρ(i) = A.
abbrev pub Fillings : Type 1
Fillings = ℕ → Code → Type 0

mutual
  -- C.7, ρ ⊢ A ▷ A': the substitute relation.
  pub data Substitutes (ρ : Fillings) : Code → Code → Type 0 where
    -- C.7 (i)
    substitutes_node : {n p : ℕ} {t u : Codes} → SubstitutesAll ρ t u → Substitutes ρ (node n p t) (node n p u)
    -- C.7 (ii)
    substitutes_token : {w : ℕ} → Substitutes ρ (token w) (token w)
    -- C.7 (iii)
    substitutes_argument : {i : ℕ} {a : Code} → ρ i a → Substitutes ρ (argument i 0) a

  -- The premise of (i): ρ ⊢ Aᵢ ▷ A'ᵢ for each i.
  pub data SubstitutesAll (ρ : Fillings) : Codes → Codes → Type 0 where
    substitutes_none : SubstitutesAll ρ nil nil
    substitutes_more : {a b : Code} {t u : Codes} → Substitutes ρ a b → SubstitutesAll ρ t u → SubstitutesAll ρ (cons a t) (cons b u)

-- C.7 (iv), (i ↦ Aᵢ): the code at place i, counted from 1.
pub data At : Codes → ℕ → Code → Type 0 where
  at_first : {a : Code} {t : Codes} → At (cons a t) (suc zero) a
  at_later : {a b : Code} {t : Codes} {i : ℕ} → At t (suc i) a → At (cons b t) (suc (suc i)) a

-- C.2, (p, A) ∈ c(n): the clause of production p of kind n has the bytes of A. Kinds are not in the bytes, so that A is told
-- from them by its type, which is that of C.6 (v): τ ∘ α| ⊢ A : τ(n) over the target.
pub record Reconstructor (f : Translation) (n p : ℕ) (a : Code) : Type 0 where
  pub arguments : List ℕ
  pub kind : ℕ
  pub entry : production n p arguments ∈ f.source
  pub to : mapping n 0 kind ∈ f.body
  pub typed : HasKind f.target (Mapped f.body arguments) a kind
  pub stands : clause n p 0 (write code a) ∈ f.body

mutual
  -- C.7, A ⟶ A' by the reconstructors of f: the transformation relation.
  pub data Transforms (f : Translation) : Code → Code → Type 0 where
    -- C.7 (iv)
    transforms_node : {n p : ℕ} {t u : Codes} {a b : Code}
        → TransformsAll f t u → Reconstructor f n p a → Substitutes (At u) a b → Transforms f (node n p t) b
    -- C.7 (v)
    transforms_token : {w : ℕ} → Transforms f (token w) (token w)
    -- C.7 (vi)
    transforms_argument : {i : ℕ} → Transforms f (argument i 0) (argument i 0)

  -- The premise of (iv): Aᵢ ⟶ A'ᵢ for each i.
  pub data TransformsAll (f : Translation) : Codes → Codes → Type 0 where
    transforms_none : TransformsAll f nil nil
    transforms_more : {a b : Code} {t u : Codes} → Transforms f a b → TransformsAll f t u → TransformsAll f (cons a t) (cons b u)

-- The operators on translations (document 000: C.12 to C.17, and appendix A for "without"), by the items that are in them.
use Rattle.std.specs.Prelude.{ℕ, suc, ◌≡◌, ◌⊎◌, ◌↔◌, true, List, [], ◌∷◌}
use Rattle.format_fields.specs.Keyed.{rising}
use Rattle.format_language.specs.Language.{production, Language}
use Rattle.tree_reader.specs.Code.{Code, node, argument, Codes, nil, cons}
use Rattle.tree_reader.specs.Syntax.{write, code}
use Rattle.format_translation.specs.Translation.{Item, mapping, clause, Body, Translation, item_key}
use Rattle.report.specs.Sets.{◌∈◌}
use Rattle.report.specs.Languages.{Nonterminal, Compatible, IsSum, IsDifference}
use Rattle.report.specs.Transformation.{Reconstructor, Transforms}

-- The body has these items and no others, written in one way.
pub record Holds (b : Body) (P : Item → Type 0) : Type 0 where
  pub in_order : rising item_key b ≡ true
  pub members : (a : Item) → a ∈ b ↔ P a

-- C.12, f ∼ g.
pub record CompatibleX (f g : Translation) : Type 0 where
  -- C.12 (i)
  pub sources : Compatible f.source g.source
  pub targets : Compatible f.target g.target
  -- C.12 (ii)
  pub same_kind : {n t u : ℕ} → mapping n 0 t ∈ f.body → mapping n 0 u ∈ g.body → t ≡ u
  -- C.12 (iii)
  pub same_code : {n p : ℕ} {a b : Code} → Reconstructor f n p a → Reconstructor g n p b → a ≡ b

-- C.13, h = f ⊕ g: everything is united.
pub record IsSumX (f g h : Translation) : Type 0 where
  pub source : IsSum f.source g.source h.source
  pub target : IsSum f.target g.target h.target
  pub body : Holds h.body (λ a. (a ∈ f.body) ⊎ (a ∈ g.body))

-- An item is that of a nonterminal, or of a production, of the language.
pub data ItemOf (l : Language) : Item → Type 0 where
  kind_of : {n j t : ℕ} → Nonterminal l n → ItemOf l (mapping n j t)
  production_of_lem : {n p j : ℕ} {ks bytes : List ℕ} → production n p ks ∈ l → ItemOf l (clause n p j bytes)

-- h = f ⊖ l (appendix A, [RES]; 01, "Rules"): the source without l, and the items that are still of it. The report defines this
-- operator by X ∘ (idx(src(X)) \ L) only, which is proved of it (`Agreement`: `WithoutIsComposition`).
pub record IsDifferenceX (f : Translation) (l : Language) (h : Translation) : Type 0 where
  pub source : IsDifference f.source l h.source
  pub target : h.target ≡ f.target
  pub body : Holds h.body (λ a. (a ∈ f.body) × ItemOf h.source a)

-- C.15, an item of f ∘ g: τ'(τ(n)), and (p, T(A)) for each (p, A) ∈ c(n).
pub data Composed (f g : Translation) : Item → Type 0 where
  -- C.15, τ' ∘ τ.
  composed_kind : {n u t : ℕ} → mapping n 0 u ∈ g.body → mapping u 0 t ∈ f.body → Composed f g (mapping n 0 t)
  -- C.15, c' ∘ c.
  composed_code : {n p : ℕ} {a b : Code} → Reconstructor g n p a → Transforms f a b → Composed f g (clause n p 0 (write code b))

-- C.15, h = f ∘ g: source of the second, target of the first.
pub record IsComposition (f g h : Translation) : Type 0 where
  pub source : h.source ≡ g.source
  pub target : h.target ≡ f.target
  pub body : Holds h.body (Composed f g)

-- C.17, [i, i + 1, ..], one for each argument kind.
unfoldable pub gaps_from : ℕ → List ℕ → Codes
gaps_from i [] = nil
gaps_from i (k ∷ ks) = cons (argument i 0) (gaps_from (suc i) ks)

-- C.17, an item of id(l): n ↦ n, and (n, p, [1, 2, .., |α|]) for each (p, α) ∈ π(n).
pub data Unchanged (l : Language) : Item → Type 0 where
  -- C.17, n ↦ n.
  same_kind : {n : ℕ} → Nonterminal l n → Unchanged l (mapping n 0 n)
  -- C.17, idc.
  same_production : {n p : ℕ} {ks : List ℕ} → production n p ks ∈ l → Unchanged l (clause n p 0 (write code (node n p (gaps_from 1 ks))))

-- C.17, h = id(l).
pub record IsIdentity (l : Language) (h : Translation) : Type 0 where
  pub source : h.source ≡ l
  pub target : h.target ≡ l
  pub body : Holds h.body (Unchanged l)

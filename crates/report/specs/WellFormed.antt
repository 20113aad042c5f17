-- Well-formed translations (document 000: C.2 and C.6), condition by condition. The mapping of a kind n by number 0 is τ(n).
use Rattle.std.specs.Prelude.{ℕ, ◌≡◌, true, List}
use Rattle.format_fields.specs.Keyed.{rising}
use Rattle.format_language.specs.Language.{class, production, Language, Range}
use Rattle.tree_reader.specs.Code.{Code}
use Rattle.tree_reader.specs.Syntax.{write, code}
use Rattle.format_translation.specs.Translation.{Item, mapping, clause, Body, Translation, number_of, item_key}
use Rattle.report.specs.Sets.{◌∈◌}
use Rattle.report.specs.Languages.{Nonterminal, WellFormedLanguage, Contained}
use Rattle.report.specs.Transformation.{Reconstructor}

-- The report has one mapping a kind: number 0 only (02, 2026-13, has others).
abbrev pub OneNumber : Body → Type 0
OneNumber b = (a : Item) → a ∈ b → number_of a ≡ 0

-- C.2: τ takes each nonterminal of the source to one of the target, and nothing else.
pub record Maps (f : Translation) : Type 0 where
  pub each : (n : ℕ) → Nonterminal f.source n → (t : ℕ) × (mapping n 0 t ∈ f.body)
  pub only : (n t : ℕ) → mapping n 0 t ∈ f.body → Nonterminal f.source n × Nonterminal f.target t

-- B.1: π(n) is a set of productions, maybe none. An undefined nonterminal is both this and the next.
abbrev pub Produced : Language → ℕ → Type 0
Produced l n = (c : Range) → class n c ∈ l → ⊥

-- B.1: π(n) is a regular language, maybe empty.
abbrev pub Regular : Language → ℕ → Type 0
Regular l n = (p : ℕ) (ks : List ℕ) → production n p ks ∈ l → ⊥

-- C.6 (ii), first half: where π(τ(n)) is regular, so is π(n); a kind with productions maps to one with productions. 01 does not
-- ask for it.
abbrev pub FromRegular : Translation → Type 0
FromRegular f = (n t : ℕ) → mapping n 0 t ∈ f.body → Regular f.target t → Regular f.source n

-- C.6 (ii), second half: where π(τ(n)) is a set of productions, so is π(n).
abbrev pub FromProduced : Translation → Type 0
FromProduced f = (n t : ℕ) → mapping n 0 t ∈ f.body → Produced f.target t → Produced f.source n

-- C.6 (iii): a class maps to a class that contains its range (02, 2026-01, asks as the report does).
abbrev pub KeepsRanges : Translation → Type 0
KeepsRanges f = (n t : ℕ) (c : Range) → class n c ∈ f.source → mapping n 0 t ∈ f.body → (d : Range) × (class t d ∈ f.target) × Contained c d

-- C.6 (iv): each source production has a clause.
abbrev pub Covers : Translation → Type 0
Covers f = (n p : ℕ) (ks : List ℕ) → production n p ks ∈ f.source → (bytes : List ℕ) × (clause n p 0 bytes ∈ f.body)

-- C.6 (v): each clause is that of a source production, and its bytes are those of a code of the type that is asked.
abbrev pub HasCodes : Translation → Type 0
HasCodes f = (n p : ℕ) (bytes : List ℕ) → clause n p 0 bytes ∈ f.body → (a : Code) × (write code a ≡ bytes) × Reconstructor f n p a

-- C.6 (vi): one code a production.
abbrev pub OneCode : Translation → Type 0
OneCode f = (n p : ℕ) (a b : Code) → Reconstructor f n p a → Reconstructor f n p b → a ≡ b

-- C.6, ⊢wfx f, as far as 01 asks for it: without the first half of (ii).
pub record WellFormed (f : Translation) : Type 0 where
  pub one_number : OneNumber f.body
  -- A set of items is written in one way, as a set of entries is (01, "Translations").
  pub in_order : rising item_key f.body ≡ true
  -- C.6 (i)
  pub source : WellFormedLanguage f.source
  pub target : WellFormedLanguage f.target
  -- C.2
  pub maps : Maps f
  -- C.6 (ii), second half
  pub from_produced : FromProduced f
  -- C.6 (iii)
  pub keeps_ranges : KeepsRanges f
  -- C.6 (iv)
  pub covers : Covers f
  -- C.6 (v)
  pub has_codes : HasCodes f
  -- C.6 (vi)
  pub one_code : OneCode f

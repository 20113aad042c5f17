-- What the ends of a loose plan's score promise (paper 02, 2026-14), over all languages, tables, roots and plans.
use Rattle.std.specs.Prelude.{ℕ, ◌≤◌, ◌≡◌, List, [], ℤ, ◌≤ℤ◌}
use Rattle.outcome.specs.Outcome.{value}
use Rattle.format_language.specs.Language.{Language}
use Rattle.format_language.specs.LanguageFile.{language_of}
use Rattle.tree_reader.specs.Code as Trees
use Rattle.tree_reader.specs.Code.{Code, Codes}
use Rattle.tree_reader.specs.Typing.{Typed}
use Rattle.tree_reader.specs.Syntax.{write, tree}
use Rattle.score_tree.specs.Linear.{Loads, form}
use Rattle.score_tree.specs.Operations.{score_bytes}
use Rattle.score_loose.specs.Plans.{Loose, node, token, Looses, nil, cons}
use Rattle.score_loose.specs.Ends.{End, end}
use Rattle.score_loose.specs.Operations.{Ends, loose_of, loose_bytes}

-- A tree settles a loose plan: the same productions, and each token between the least and the greatest.
mutual
  pub data Settles : Code → Loose → Type 0 where
    settles_node : {k p : ℕ} {t : Codes} {u : Looses} → SettlesAll t u → Settles (Trees.node k p t) (node k p u)
    settles_token : {v a b : ℕ} → a ≤ v → v ≤ b → Settles (Trees.token v) (token a b)

  pub data SettlesAll : Codes → Looses → Type 0 where
    settles_nil : SettlesAll Trees.nil nil
    settles_cons : {c : Code} {a : Loose} {t : Codes} {u : Looses} → Settles c a → SettlesAll t u
        → SettlesAll (Trees.cons c t) (cons a u)

-- A choice is a legal tree that settles the plan: each of its tokens is a legal value of its class, by low, high and step.
pub record Choice (l : Language) (root : ℕ) (t : Loose) (c : Code) : Type 0 where
  pub legal : Typed l [] c root
  pub settles : Settles c t

-- Every choice of an accepted plan is scored, and its score lies between the ends.
abbrev pub ChoicesLieBetween : Type 0
ChoicesLieBetween =
    (language bytes table : List ℕ) (root : ℕ) (l : Language) (t : Loose) (e : Ends)
    → language_of language ≡ value l
    → loose_of l root bytes ≡ value t
    → loose_bytes language root bytes table ≡ value e
    → (c : Code) → Choice l root t c
    → (z : ℤ) × (score_bytes language root (write tree c) table ≡ value z) × (e.least ≤ℤ z) × (z ≤ℤ e.greatest)

-- Each end is the score of some choice.
abbrev pub EndsAreReached : Type 0
EndsAreReached =
    (language bytes table : List ℕ) (root : ℕ) (l : Language) (t : Loose) (e : Ends)
    → language_of language ≡ value l
    → loose_of l root bytes ≡ value t
    → loose_bytes language root bytes table ≡ value e
    → ((c : Code) × Choice l root t c × (score_bytes language root (write tree c) table ≡ value e.least))
    × ((c : Code) × Choice l root t c × (score_bytes language root (write tree c) table ≡ value e.greatest))

-- A settled plan as a loose one: the ends of each token are its value.
unfoldable mutual
  pub loosened : Code → Loose
  loosened (Trees.node k p t) = node k p (loosened_all t)
  loosened (Trees.token v) = token v v
  loosened (Trees.argument i j) = token 0 0

  pub loosened_all : Codes → Looses
  loosened_all Trees.nil = nil
  loosened_all (Trees.cons c t) = cons (loosened c) (loosened_all t)

-- Both of its ends are its score.
abbrev pub SettledHasOneScore : Type 0
SettledHasOneScore = (w : Loads) (c : Code) (e : End) → end e w (loosened c) ≡ form w c 0

-- What two trees have in common outside hidden blocks, and which blocks can be seen (paper 02, 2026-12).
use Rattle.std.specs.Prelude.{ℕ, ◌≡◌, true, false, List, [], ◌∷◌}
use Rattle.std.proofs.Math.Option.{some}
use Rattle.format_language.specs.Language.{Language, arguments_of}
use Rattle.tree_reader.specs.Code.{Code, node, token, Codes, nil, cons}
use Rattle.format_card.specs.Card.{Card, sees}

-- Two blocks of kind k agree outside hidden blocks: the card does not see k, and then nothing is asked of them; or both are
-- the same token; or both are the same production, and their arguments agree one by one.
mutual
  pub data Agree (l : Language) (card : Card) : ℕ → Code → Code → Type 0 where
    both_hidden : {k : ℕ} {a b : Code} → sees card k ≡ false → Agree l card k a b
    same_token : {k v : ℕ} → Agree l card k (token v) (token v)
    same_production : {k p : ℕ} {ks : List ℕ} {s t : Codes} → arguments_of l k p ≡ some ks → AgreeAll l card ks s t
        → Agree l card k (node k p s) (node k p t)

  -- Arguments of these kinds agree.
  pub data AgreeAll (l : Language) (card : Card) : List ℕ → Codes → Codes → Type 0 where
    agree_nil : AgreeAll l card [] nil nil
    agree_cons : {k : ℕ} {ks : List ℕ} {a b : Code} {s t : Codes} → Agree l card k a b → AgreeAll l card ks s t
        → AgreeAll l card (k ∷ ks) (cons a s) (cons b t)

-- In the block a of kind k stands the block b of kind j, and the card sees every block on the way to it, a and b included.
mutual
  pub data Visible (l : Language) (card : Card) (j : ℕ) (b : Code) : ℕ → Code → Type 0 where
    itself : {k : ℕ} {a : Code} → sees card k ≡ true → k ≡ j → a ≡ b → Visible l card j b k a
    below : {k p : ℕ} {ks : List ℕ} {t : Codes} → sees card k ≡ true → arguments_of l k p ≡ some ks → VisibleAmong l card j b ks t
        → Visible l card j b k (node k p t)

  -- It stands in one of the arguments.
  pub data VisibleAmong (l : Language) (card : Card) (j : ℕ) (b : Code) : List ℕ → Codes → Type 0 where
    in_first : {k : ℕ} {ks : List ℕ} {a : Code} {t : Codes} → Visible l card j b k a → VisibleAmong l card j b (k ∷ ks) (cons a t)
    in_later : {k : ℕ} {ks : List ℕ} {a : Code} {t : Codes} → VisibleAmong l card j b ks t → VisibleAmong l card j b (k ∷ ks) (cons a t)

-- The card sees the block a of kind k and every block in it.
mutual
  pub data Open (l : Language) (card : Card) : ℕ → Code → Type 0 where
    open_token : {k v : ℕ} → sees card k ≡ true → Open l card k (token v)
    open_production : {k p : ℕ} {ks : List ℕ} {t : Codes} → sees card k ≡ true → arguments_of l k p ≡ some ks → OpenAll l card ks t
        → Open l card k (node k p t)

  -- The same of arguments of these kinds.
  pub data OpenAll (l : Language) (card : Card) : List ℕ → Codes → Type 0 where
    open_nil : OpenAll l card [] nil
    open_cons : {k : ℕ} {ks : List ℕ} {a : Code} {t : Codes} → Open l card k a → OpenAll l card ks t → OpenAll l card (k ∷ ks) (cons a t)

-- Reading is decided by the bytes that it looks at: where it stops is the same whatever follows, and fewer bytes end too early.
use Prim.Native.Nat.{ℕ, zero, suc, ◌+◌, ◌*◌, ◌<◌}
use mathlib.Core.Path.{◌≡◌, refl, sym, ap, ◌∙◌}
use mathlib.Core.Logic.{◌⊎◌, inl, inr, ⊎_elim}
use mathlib.Core.List.{List, [], ◌∷◌, ◌++◌, append_assoc}
use mathlib.Core.Option.{Option, none, some}
use native.Mathlib.Omega.{arith}
use lib.ListN.{length, length-append}
use Rattle.format_fields.proofs.Truth.{by_test}
use Rattle.format_fields.proofs.Lists.{cons_both}
use Rattle.format_language.specs.Language.{Language, Range, range_of, arguments_of, in_range}
use Rattle.tree_locate.specs.Faults.{Stop, passes, ends, unfit, deep, onward, stop_all, stop_operands, stop_node, stop_token, stop}
use Rattle.tree_locate.proofs.Walks.{token_cut, token_in, token_out, stop_class, stop_node_lem, stop_deep}

-- Every front of a, but a itself, ends too early.
abbrev pub Cut : (List ℕ → Stop) → List ℕ → Type 0
Cut f a = (g : List ℕ) (x : ℕ) (h : List ℕ) → a ≡ g ++ (x ∷ h) → f g ≡ ends

-- A front of s decides what reading s comes to.
pub data Local (f : List ℕ → Stop) (s : List ℕ) : Stop → Type 0 where
  by_tree : (a : List ℕ) {r : List ℕ} → s ≡ a ++ r → ((v : List ℕ) → f (a ++ v) ≡ passes v) → Cut f a → Local f s (passes r)
  by_node : (a w r : List ℕ) {u : List ℕ} → (length w ≡ 1) ⊎ (length w ≡ 2) → u ≡ w ++ r → s ≡ a ++ (w ++ r) → ((v : List ℕ) → f (a ++ (w ++ v)) ≡ unfit (w ++ v))
      → Cut f (a ++ w) → Local f s (unfit u)
  by_level : (a : List ℕ) {r : List ℕ} → s ≡ a ++ r → ((v : List ℕ) → f (a ++ v) ≡ deep v) → Cut f a → Local f s (deep r)
  by_end : ((g h : List ℕ) → s ≡ g ++ h → f g ≡ ends) → Local f s ends

-- A front of two lists in a row ends in the first one, or goes past it.
split : (a b g h : List ℕ) → a ++ b ≡ g ++ h
    → ((y : ℕ) × (c : List ℕ) × (a ≡ g ++ (y ∷ c))) ⊎ ((c : List ℕ) × (g ≡ a ++ c) × (b ≡ c ++ h))
split [] b g h e = inr (g, refl, e)
split (x ∷ a) b [] h e = inl (x, a, refl)
split (x ∷ a) b (y ∷ g) h e =
    let w = cons_both e in
    ⊎_elim
    (λ z. inl (z.0, z.1, ap (λ (u : List ℕ). x ∷ u) z.2 ∙ ap (λ (n : ℕ). n ∷ (g ++ (z.0 ∷ z.1))) w.0))
    (λ z. inr (z.0, ap (λ (n : ℕ). n ∷ g) (sym w.0) ∙ ap (λ (u : List ℕ). x ∷ u) z.1, z.2))
    (split a b g h w.1)

-- No list has an element and is empty.
no_front : {A : Type 0} (g : List ℕ) (x : ℕ) (h : List ℕ) → [] ≡ g ++ (x ∷ h) → A
no_front [] x h e = let z : ◌≡◌ {A = ℕ} 0 (suc (length h)) = ap length e in absurd (omega arith)
no_front (y ∷ g) x h e = let z : ◌≡◌ {A = ℕ} 0 (suc (length (g ++ (x ∷ h)))) = ap length e in absurd (omega arith)

empty_front : (g h : List ℕ) → [] ≡ g ++ h → g ≡ []
empty_front [] h e = refl
empty_front (y ∷ g) h e = let z : ◌≡◌ {A = ℕ} 0 (suc (length (g ++ h))) = ap length e in absurd (omega arith)

-- Reading that answers alike.
module _ (f h : List ℕ → Stop) (same : (u : List ℕ) → h u ≡ f u) where
  pub same_local : {s : List ℕ} {o : Stop} → Local f s o → Local h s o
  same_local (by_tree a e d c) = by_tree a e (λ v. same (a ++ v) ∙ d v) (λ g x t i. same g ∙ c g x t i)
  same_local (by_node a w r n i e d c) = by_node a w r n i e (λ v. same (a ++ (w ++ v)) ∙ d v) (λ g x t j. same g ∙ c g x t j)
  same_local (by_level a e d c) = by_level a e (λ v. same (a ++ v) ∙ d v) (λ g x t i. same g ∙ c g x t i)
  same_local (by_end d) = by_end (λ g t e. same g ∙ d g t e)

-- A byte in front.
module _ (f h : List ℕ → Stop) (p : ℕ) (on : (u : List ℕ) → h (p ∷ u) ≡ f u) (nothing : h [] ≡ ends) where
  cons_cut : {a : List ℕ} → Cut f a → Cut h (p ∷ a)
  cons_cut c [] x t e = nothing
  cons_cut c (y ∷ g) x t e = let w = cons_both e in ap (λ (n : ℕ). h (n ∷ g)) (sym w.0) ∙ (on g ∙ c g x t w.1)

  cons_end : {s : List ℕ} → ((g t : List ℕ) → s ≡ g ++ t → f g ≡ ends) → (g t : List ℕ) → p ∷ s ≡ g ++ t → h g ≡ ends
  cons_end d [] t e = nothing
  cons_end d (y ∷ g) t e = let w = cons_both e in ap (λ (n : ℕ). h (n ∷ g)) (sym w.0) ∙ (on g ∙ d g t w.1)

  cons_local : {s : List ℕ} {o : Stop} → Local f s o → Local h (p ∷ s) o
  cons_local (by_tree a e d c) = by_tree (p ∷ a) (ap (λ (u : List ℕ). p ∷ u) e) (λ v. on (a ++ v) ∙ d v) (cons_cut c)
  cons_local (by_node a w r n i e d c) =
      by_node (p ∷ a) w r n i (ap (λ (u : List ℕ). p ∷ u) e) (λ v. on (a ++ (w ++ v)) ∙ d v) (cons_cut c)
  cons_local (by_level a e d c) = by_level (p ∷ a) (ap (λ (u : List ℕ). p ∷ u) e) (λ v. on (a ++ v) ∙ d v) (cons_cut c)
  cons_local (by_end d) = by_end (cons_end d)

-- One reading and then the next.
module _ (f next : List ℕ → Stop) where
  abbrev both : List ℕ → Stop
  both u = onward (f u) next

  still : (g : List ℕ) → f g ≡ ends → both g ≡ ends
  still g e = ap (λ (o : Stop). onward o next) e

  module _ {a : List ℕ} (past : (v : List ℕ) → f (a ++ v) ≡ passes v) (c : Cut f a) where
    goes_on : (v : List ℕ) → both (a ++ v) ≡ next v
    goes_on v = ap (λ (o : Stop). onward o next) (past v)

    further : (b v : List ℕ) → both ((a ++ b) ++ v) ≡ next (b ++ v)
    further b v = ap both (append_assoc a b v) ∙ goes_on (b ++ v)

    both_cut : {b : List ℕ} → Cut next b → Cut both (a ++ b)
    both_cut {b} d g x h e =
        ⊎_elim
        (λ z. still g (c g z.0 z.1 z.2))
        (λ z. ap both z.1 ∙ (goes_on z.0 ∙ d z.0 x h z.2))
        (split a b g (x ∷ h) e)

    both_end : {r : List ℕ} → ((g h : List ℕ) → r ≡ g ++ h → next g ≡ ends) → (g h : List ℕ) → a ++ r ≡ g ++ h → both g ≡ ends
    both_end {r} d g h e =
        ⊎_elim
        (λ z. still g (c g z.0 z.1 z.2))
        (λ z. ap both z.1 ∙ (goes_on z.0 ∙ d z.0 h z.2))
        (split a r g h e)

    behind : {s r : List ℕ} {o : Stop} → s ≡ a ++ r → Local next r o → Local both s o
    behind e (by_tree b {r = q} i d k) =
        by_tree (a ++ b) (e ∙ (ap (λ (u : List ℕ). a ++ u) i ∙ sym (append_assoc a b q))) (λ v. further b v ∙ d v) (both_cut k)
    behind e (by_node b w q n j i d k) =
        by_node (a ++ b) w q n j
        (e ∙ (ap (λ (u : List ℕ). a ++ u) i ∙ sym (append_assoc a b (w ++ q)))) (λ v. further b (w ++ v) ∙ d v)
        (rw append_assoc (both_cut k))
    behind e (by_level b {r = q} i d k) =
        by_level (a ++ b) (e ∙ (ap (λ (u : List ℕ). a ++ u) i ∙ sym (append_assoc a b q))) (λ v. further b v ∙ d v) (both_cut k)
    behind {s} e (by_end d) = by_end (λ g h i. both_end d g h (sym e ∙ i))

  then_local : {s : List ℕ} {o : Stop} → Local f s o → ((r : List ℕ) → Local next r (next r)) → Local both s (onward o next)
  then_local (by_tree a {r = r} e d c) k = behind d c e (k r)
  then_local (by_node a w r n i e d c) k =
      by_node a w r n i e (λ v. ap (λ (o : Stop). onward o next) (d v)) (λ g x h j. still g (c g x h j))
  then_local (by_level a e d c) k = by_level a e (λ v. ap (λ (o : Stop). onward o next) (d v)) (λ g x h j. still g (c g x h j))
  then_local (by_end d) k = by_end (λ g h e. still g (d g h e))

-- A token.
module _ (c : Range) where
  two_cut : (x y : ℕ) → Cut (stop_token c) (x ∷ y ∷ [])
  two_cut x y g z h e =
      let n : 2 ≡ length g + suc (length h) = ap length e ∙ length-append g (z ∷ h) in
      token_cut c g (omega arith)

  few_end : (s : List ℕ) → length s < 2 → (g h : List ℕ) → s ≡ g ++ h → stop_token c g ≡ ends
  few_end s i g h e =
      let n : length s ≡ length g + length h = ap length e ∙ length-append g h in
      token_cut c g (omega arith)

  token_local : (s : List ℕ) → Local (stop_token c) s (stop_token c s)
  token_local [] = rw (token_cut c [] (omega arith)) (by_end (few_end [] (omega arith)))
  token_local (x ∷ []) = rw (token_cut c (x ∷ []) (omega arith)) (by_end (few_end (x ∷ []) (omega arith)))
  token_local (x ∷ y ∷ s) =
      by_test (in_range c (x * 256 + y))
      (λ t. rw (token_in c x y _ s refl t) (by_tree (x ∷ y ∷ []) refl (λ v. token_in c x y _ v refl t) (two_cut x y)))
      (λ t. rw (token_out c x y _ s refl t) (by_node [] (x ∷ y ∷ []) s (inr refl) refl refl (λ v. token_out c x y _ v refl t) (two_cut x y)))

-- Nodes and rows, where the levels below are so decided.
module _ (stops : ℕ → List ℕ → Stop) (local : (k : ℕ) (s : List ℕ) → Local (stops k) s (stops k s)) where
  all_local : (ks s : List ℕ) → Local (stop_all stops ks) s (stop_all stops ks s)
  unfolding stop_all
  all_local [] s = by_tree [] refl (λ v. refl) (λ g x h e. no_front g x h e)
  all_local (k ∷ ks) s = then_local (stops k) (stop_all stops ks) (local k s) (λ r. all_local ks r)

  named_local : (l : Language) (k p : ℕ) (s : List ℕ) (o : Option (List ℕ)) → arguments_of l k p ≡ o → Local (stop_node stops l k) (p ∷ s) (stop_operands stops o p s)
  unfolding stop_node stop_operands
  named_local l k p s none e =
      by_node [] (p ∷ []) s (inl refl) refl refl (λ v. rw e)
      (λ g x h i. let n : 1 ≡ length g + suc (length h) = ap length i ∙ length-append g (x ∷ h) in nothing_read g (omega arith))
    where
      nothing_read : (g : List ℕ) → length g ≡ 0 → stop_node stops l k g ≡ ends
      nothing_read [] i = refl
      nothing_read (y ∷ g) i = absurd (omega arith)
  named_local l k p s (some ks) e = cons_local (stop_all stops ks) (stop_node stops l k) p (λ u. rw e) refl (all_local ks s)

  node_local : (l : Language) (k : ℕ) (s : List ℕ) → Local (stop_node stops l k) s (stop_node stops l k s)
  unfolding stop_node
  node_local l k [] = by_end (λ g h e. rw (empty_front g h e))
  node_local l k (p ∷ s) = named_local l k p s (arguments_of l k p) refl

-- A tree.
module _ (l : Language) (k : ℕ) where
  past_local : (o : Option Range) → range_of l k ≡ o → (s : List ℕ) → Local (stop l 0 k) s (elim o [ some c ↦ stop_token c s | none ↦ deep s ])
  unfolding stop
  past_local none e s = by_level [] refl (λ v. stop_deep l k v e) (λ g x h i. no_front g x h i)
  past_local (some c) e s = same_local (stop_token c) (stop l 0 k) (λ u. stop_class l k u 0 c e) (token_local c s)

  level_local : (n : ℕ) → ((j : ℕ) (s : List ℕ) → Local (stop l n j) s (stop l n j s)) → (o : Option Range) → range_of l k ≡ o → (s : List ℕ)
      → Local (stop l (suc n) k) s (elim o [ some c ↦ stop_token c s | none ↦ stop_node (stop l n) l k s ])
  unfolding stop
  level_local n below none e s = same_local (stop_node (stop l n) l k) (stop l (suc n) k) (λ u. stop_node_lem l k u n e) (node_local (stop l n) below l k s)
  level_local n below (some c) e s = same_local (stop_token c) (stop l (suc n) k) (λ u. stop_class l k u (suc n) c e) (token_local c s)

pub stop_local : (l : Language) (n k : ℕ) (s : List ℕ) → Local (stop l n k) s (stop l n k s)
unfolding stop
stop_local l zero k s = past_local l k (range_of l k) refl s
stop_local l (suc n) k s = level_local l k n (λ j r. stop_local l n j r) (range_of l k) refl s

-- The kinds that are in a language: a law for each return and turn of the functions on them, and what is known of such a kind.
use Prim.Native.Nat.{ℕ, ◌+◌, ◌<◌, ◌≤◌}
use mathlib.Core.Path.{◌≡◌, sym, ap, ◌∙◌}
use mathlib.Core.Logic.{⊎_elim}
use mathlib.Core.List.{List, [], ◌∷◌}
use mathlib.Core.Bool.{Bool, true, false, ◌||◌}
use mathlib.Core.Option.{some}
use native.Mathlib.Omega.{arith}
use lib.ListN.{length, get_or, take, drop}
use Rattle.std.specs.List.{list_any}
use Rattle.format_fields.proofs.Splices.{slice_is}
use Prim.Native.Nat.{◌-◌}
use lib.Seq.{slice}
use lib.Dec.{eqb}
use borrow.Author.Tests.{eq-eqb, ne_eqb, eqb-true, ltb-true}
use Rattle.format_fields.specs.Lists.{all, any}
use Rattle.format_fields.specs.Inner.Places.{field_end, places_from, places}
use Rattle.format_fields.proofs.Truth.{by_test, false_true}
use Rattle.format_fields.proofs.Lists.{any_is, all_true, any_map, any_stop, any_next}
use Rattle.format_fields.proofs.Places.{pass_done, pass_next}
use Rattle.format_language.specs.Language.{Language, mentions, is_in}
use Rattle.format_language.specs.LanguageFile.{is_kind, entries_of}
use Rattle.format_language.specs.Inner.Entries.{entry_whole, entry_at, IsClass, IsProduction}
use Rattle.format_language.proofs.Facts.{entry_facts, class_is, production_is}
use Rattle.format_language.proofs.Holds.{holds_entries}
use Rattle.format_language.proofs.Ranges.{class_long}
use Rattle.tree_reader.specs.Inner.Positions.{mentions_at}

-- mentions_kind
module _ (s : List ℕ) (k p : ℕ) where
  pub mentions_first : get_or s (p + 3) 0 ≡ k → true ≡ mentions_at s k p
  unfolding mentions_at entry_at mentions
  mentions_first h =
      by_test (eqb (get_or s p 0) 0x11) (λ e. cc (eq-eqb _ _ h)) (λ e. cc (eq-eqb _ _ h))

  module _ (other : get_or s (p + 3) 0 ≡ k → ⊥) where
    pub mentions_class : get_or s p 0 ≡ 0x11 → false ≡ mentions_at s k p
    unfolding mentions_at entry_at mentions
    mentions_class h = cc (eq-eqb _ _ h, ne_eqb _ _ other)

    pub mentions_production : {e : ℕ} {r : Bool} → (get_or s p 0 ≡ 0x11 → ⊥) → e ≡ field_end s p → p + 5 ≤ e → e ≤ length s → r ≡ list_any (λ a. eqb a k) (take (e - (p + 5)) (drop (p + 5) s))
        → r ≡ mentions_at s k p
    unfolding mentions_at entry_at mentions
    mentions_production {e} {r} h ee from fits er =
        let w : r ≡ any (λ a. eqb a k) (slice (p + 5) e s) = er ∙ any_is _ _ ∙ ap (any λ a. eqb a k) (sym (slice_is s (p + 5) e from fits)) in cc (ne_eqb _ _ h, ne_eqb _ _ other)

-- is_in
module _ (s : List ℕ) (k p : ℕ) (x : Bool) (inv : any (mentions_at s k) (places_from s p) ≡ x) (whole : all (entry_whole s) (places_from s p) ≡ true) where
  pub in_done : length s ≤ p → false ≡ x
  unfolding any
  in_done h = pass_done (any (mentions_at s k)) s p x inv h

  module _ (e : ℕ) (here : p < length s) (ee : e ≡ field_end s p) where
    entries : (entry_whole s p ≡ true) × (all (entry_whole s) (places_from s e) ≡ true)
    entries = all_true (entry_whole s) p (places_from s e) (pass_next (all (entry_whole s)) s p true whole e here ee)

    pub in_fits : (p + 5 ≤ e) × (e ≡ field_end s p) × (e ≤ length s)
    unfolding field_end
    in_fits =
        ⊎_elim
        (λ w. let f = w.fits in let n = class_long s p w in (omega arith, ee, omega arith))
        (λ w. let f = w.fits in let n = w.two in (omega arith, ee, omega arith))
        (entry_facts s p entries.0)

    module _ {r : Bool} (er : r ≡ mentions_at s k p) where
      pub in_stop : r ≡ true → true ≡ x
      in_stop h = any_stop (mentions_at s k) p _ (pass_next (any (mentions_at s k)) s p x inv e here ee) (sym er ∙ h)

      pub in_next : r ≡ false → (any (mentions_at s k) (places_from s e) ≡ x) × (all (entry_whole s) (places_from s e) ≡ true)
      in_next h =
          (any_next (mentions_at s k) p _ (pass_next (any (mentions_at s k)) s p x inv e here ee) (sym er ∙ h), entries.1)

-- What is_in tells.
pub in_is : (s : List ℕ) (k : ℕ) (l : Language) → entries_of s ≡ some l → any (mentions_at s k) (places s) ≡ is_in l k
unfolding is_in mentions_at
in_is s k l e = sym (any_map (mentions k) (entry_at s) (places s)) ∙ ap (any (mentions k)) (holds_entries s l e).entries

-- The entries of a file of entries are whole.
pub entries_whole : (s : List ℕ) → (l : Language) × (entries_of s ≡ some l) → all (entry_whole s) (places s) ≡ true
entries_whole s h = (holds_entries s h.0 h.1).whole

-- A kind that is in a language is below 32.
among_kinds : (k : ℕ) (l : List ℕ) → all is_kind l ≡ true → any (λ a. eqb a k) l ≡ true → k < 32
unfolding any
among_kinds k [] h i = false_true i
among_kinds k (a ∷ l) h i =
    let w = all_true is_kind a l h in
    by_test (eqb a k)
    (λ e. let j : a ≡ k = eqb-true _ _ e in let m : a < 32 = ltb-true _ _ w.0 in omega arith)
    (λ e. among_kinds k l w.1 (any_next (λ a. eqb a k) a l i e))

module _ (s : List ℕ) (k p : ℕ) where
  class_kind : IsClass s p → mentions_at s k p ≡ true → k < 32
  unfolding mentions_at mentions
  class_kind w h =
      let i : eqb (get_or s (p + 3) 0) k ≡ true = sym (ap (mentions k) (class_is s p w)) ∙ h in
      let j : get_or s (p + 3) 0 ≡ k = eqb-true _ _ i in
      let m = w.kind in
      omega arith

  production_kind : IsProduction s p → mentions_at s k p ≡ true → k < 32
  unfolding mentions_at mentions
  production_kind w h =
      let i : eqb (get_or s (p + 3) 0) k || any (λ a. eqb a k) (slice (p + 5) (field_end s p) s) ≡ true = sym (ap (mentions k) (production_is s p w)) ∙ h in
      by_test (eqb (get_or s (p + 3) 0) k)
      (λ d. let j : get_or s (p + 3) 0 ≡ k = eqb-true _ _ d in let m = w.kind in omega arith)
      (λ d. among_kinds k (slice (p + 5) (field_end s p) s) w.arguments (rw d at i))

mentioned : (s : List ℕ) (k : ℕ) (l : List ℕ) → all (entry_whole s) l ≡ true → any (mentions_at s k) l ≡ true → k < 32
unfolding any
mentioned s k [] h i = false_true i
mentioned s k (p ∷ l) h i =
    let w = all_true (entry_whole s) p l h in
    by_test (mentions_at s k p)
    (λ e. ⊎_elim (λ c. class_kind s k p c e) (λ c. production_kind s k p c e) (entry_facts s p w.0))
    (λ e. mentioned s k l w.1 (any_next (mentions_at s k) p l i e))

pub in_below : (s : List ℕ) (k : ℕ) (l : Language) → entries_of s ≡ some l → is_in l k ≡ true → k < 32
in_below s k l e h = mentioned s k (places s) (entries_whole s (l, e)) (in_is s k l e ∙ h)

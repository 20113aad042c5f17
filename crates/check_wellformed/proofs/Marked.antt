-- The table of the kinds in a language: a law for each turn of the functions on kinds, and what the table says.
use Prim.Native.Nat.{ℕ, ◌+◌, ◌<◌, ◌≤◌}
use mathlib.Core.Path.{◌≡◌, refl, sym, ap, ◌∙◌}
use mathlib.Core.Bool.{Bool, true, false, ◌||◌}
use mathlib.Core.List.{List, [], ◌∷◌}
use mathlib.Core.Option.{some}
use lib.ListN.{length, get_or, drop, drop_of_length-le, set, replicate, length-set, length-replicate, get_or-replicate}
use lib.Seq.{slice, get_or-set_same, get_or-set_other}
use lib.Dec.{eqb}
use borrow.Author.Tests.{eq-eqb, ne_eqb, eqb-true, eqb-false, ltb-true}
use Rattle.format_fields.specs.Lists.{all, any}
use Rattle.format_fields.specs.Inner.Places.{field_end, places_from, places}
use Rattle.format_fields.proofs.Truth.{by_test}
use Rattle.format_fields.proofs.Lists.{all_true}
use Rattle.format_fields.proofs.Split.{front}
use Rattle.format_fields.proofs.Places.{pass_done, pass_next}
use Rattle.format_language.specs.Language.{Language, mentions, is_in}
use Rattle.format_language.specs.LanguageFile.{is_kind, entries_of}
use Rattle.format_language.specs.Inner.Entries.{IsProduction, entry_at}
use Rattle.tree_reader.specs.Inner.Positions.{mentions_at}
use Rattle.tree_reader.proofs.Members.{in_is}
use Rattle.format_translation.proofs.Whole.{arguments_in}
use Rattle.format_translation.proofs.Found.{cut, cut_is}
use Rattle.check_wellformed.specs.Inner.Tests.{mark_all, mentioned_at, mark_entries}

-- mark_part
pub part_kind : (s : List ℕ) (i : ℕ) → all is_kind (drop i s) ≡ true → i < length s → (get_or s i 0 < 32) × (all is_kind (drop (i + 1) s) ≡ true)
part_kind s i h here =
    let w = all_true is_kind (get_or s i 0) (drop (i + 1) s) (rw (front s i here) at h) in
    (ltb-true _ _ w.0, w.1)

module _ (s : List ℕ) (i : ℕ) (kinds x : List Bool) (inv : mark_all kinds (drop i s) ≡ x) where
  pub part_marked : length s ≤ i → kinds ≡ x
  unfolding mark_all
  part_marked h = rw (drop_of_length-le s {i = i} h) at inv

  pub part_mark : (more : List Bool) → more ≡ set kinds (get_or s i 0) true → i < length s → mark_all more (drop (i + 1) s) ≡ x
  unfolding mark_all
  part_mark more em h = rw em (rw (front s i h) at inv)

-- mark_entry
arguments_cut : (s : List ℕ) (p : ℕ) → IsProduction s p → {e : ℕ} → e ≡ field_end s p → cut s (p + 5) e ≡ slice (p + 5) (field_end s p) s
arguments_cut s p w {e} ee = let k = arguments_in s p e w ee in cut_is s (p + 5) e k.2 k.3 ∙ ap (λ (x : ℕ). slice (p + 5) x s) ee

pub entry_arguments : (s : List ℕ) (p : ℕ) → IsProduction s p → {e : ℕ} → e ≡ field_end s p → all is_kind (cut s (p + 5) e) ≡ true
entry_arguments s p w ee = ap (all is_kind) (arguments_cut s p w ee) ∙ w.arguments

module _ (s : List ℕ) (p : ℕ) (kinds more : List Bool) (em : more ≡ set kinds (get_or s (p + 3) 0) true) where
  pub entry_class : get_or s p 0 ≡ 0x11 → more ≡ mark_all kinds (mentioned_at s p)
  unfolding mark_all mentioned_at
  entry_class h = cc (eq-eqb _ _ h)

  pub entry_production : (get_or s p 0 ≡ 0x11 → ⊥) → IsProduction s p → {e : ℕ} → e ≡ field_end s p → {x : List Bool} → x ≡ mark_all more (cut s (p + 5) e)
      → x ≡ mark_all kinds (mentioned_at s p)
  unfolding mark_all mentioned_at
  entry_production h w ee ex = cc (ne_eqb _ _ h, arguments_cut s p w ee)

-- mark_entries
module _ (s : List ℕ) (p : ℕ) (kinds x : List Bool) (inv : mark_entries s kinds (places_from s p) ≡ x) where
  pub entries_marked : length s ≤ p → kinds ≡ x
  unfolding mark_entries
  entries_marked h = pass_done (mark_entries s kinds) s p x inv h

  pub entries_mark : (more : List Bool) → more ≡ mark_all kinds (mentioned_at s p) → (end : ℕ) → end ≡ field_end s p → p < length s
      → mark_entries s more (places_from s end) ≡ x
  unfolding mark_entries
  entries_mark more em end ee here = rw em (pass_next (mark_entries s kinds) s p x inv end here ee)

-- What is marked: the kinds of the list, and what was marked before.
or_move : (a b c : Bool) → (a || b) || c ≡ b || (a || c)
or_move true true c = refl
or_move true false c = refl
or_move false b c = refl

or_none : (a : Bool) → a ≡ a || false
or_none true = refl
or_none false = refl

set_marks : (kinds : List Bool) (a k : ℕ) → k < length kinds → get_or (set kinds a true) k false ≡ eqb a k || get_or kinds k false
set_marks kinds a k h =
    by_test (eqb a k)
    (λ e. let i : a ≡ k = eqb-true _ _ e in rw e (rw i (get_or-set_same kinds k true false h)))
    (λ e. rw e (get_or-set_other kinds a k true false (λ d. eqb-false _ _ e (sym d))))

list_length : (kinds : List Bool) (l : List ℕ) → length (mark_all kinds l) ≡ length kinds
unfolding mark_all
list_length kinds [] = refl
list_length kinds (a ∷ l) = list_length (set kinds a true) l ∙ length-set kinds a true

list_marks : (k : ℕ) (kinds : List Bool) (l : List ℕ) → k < length kinds → get_or (mark_all kinds l) k false ≡ get_or kinds k false || any (λ a. eqb a k) l
unfolding mark_all any
list_marks k kinds [] h = or_none _
list_marks k kinds (a ∷ l) h =
    list_marks k (set kinds a true) l (rw (length-set kinds a true) h)
    ∙ (ap (λ (b : Bool). b || any (λ a. eqb a k) l) (set_marks kinds a k h)
    ∙ or_move (eqb a k) (get_or kinds k false) (any (λ a. eqb a k) l))

mentioned_is : (s : List ℕ) (k p : ℕ) → any (λ a. eqb a k) (mentioned_at s p) ≡ mentions_at s k p
unfolding any mentioned_at mentions_at mentions entry_at
mentioned_is s k p = by_test (eqb (get_or s p 0) 0x11) (λ e. rw e (sym (or_none _))) (λ e. rw e)

entries_marks : (s : List ℕ) (k : ℕ) (kinds : List Bool) (l : List ℕ) → k < length kinds
    → get_or (mark_entries s kinds l) k false ≡ get_or kinds k false || any (mentions_at s k) l
unfolding mark_entries any
entries_marks s k kinds [] h = or_none _
entries_marks s k kinds (p ∷ l) h =
    entries_marks s k (mark_all kinds (mentioned_at s p)) l (rw (list_length kinds (mentioned_at s p)) h)
    ∙ (ap (λ (b : Bool). b || any (mentions_at s k) l) (list_marks k kinds (mentioned_at s p) h)
    ∙ (rw (mentioned_is s k p) (or_assoc (get_or kinds k false) (mentions_at s k p) (any (mentions_at s k) l))))
  where
    or_assoc : (a b c : Bool) → (a || b) || c ≡ a || (b || c)
    or_assoc true b c = refl
    or_assoc false b c = refl

-- A table that starts empty says which kinds are in the language.
pub table_is : (s : List ℕ) (l : Language) → entries_of s ≡ some l → {kinds : List Bool} → kinds ≡ mark_entries s (replicate 32 false) (places s)
    → (k : ℕ) → k < 32 → get_or kinds k false ≡ is_in l k
table_is s l e em k h =
    rw em
    (entries_marks s k (replicate 32 false) (places s) (rw (length-replicate {A = Bool} 32 false) h)
    ∙ (ap (λ (b : Bool). b || any (mentions_at s k) (places s)) (get_or-replicate {A = Bool} 32 k false false h)
    ∙ in_is s k l e))

-- The items of an identity in bytes: a law for each return and turn.
use Rattle.std.specs.Prelude.{Err, None, Option, Some}
use Prim.Native.Nat.{ℕ, suc, ◌+◌, ◌-◌, ◌*◌, ◌≤◌, ◌<◌}
use mathlib.Core.Path.{◌≡◌, refl, sym, ap, subst, ◌∙◌}
use mathlib.Core.Logic.{⊎_elim}
use mathlib.Core.Bool.{Bool, true, false, cond}
use mathlib.Core.List.{List, [], ◌∷◌, ◌++◌, map}
use mathlib.Core.Option.{some}
use native.Mathlib.Omega.{arith}
use lib.ListN.{length, get_or, take}
use lib.Seq.{slice, length-slice}
use lib.Dec.{ltb}
use borrow.Author.Tests.{eq-eqb}
use Rattle.outcome.specs.Outcome.{value, refuse_if, Outcome}
use Rattle.outcome.specs.declared.Reason.TheVariants.{ValueTooLarge}
use Rattle.format_fields.specs.Lists.{keep, concat_map, count_up}
use Rattle.format_fields.specs.Fields.{byte_at, encode_field, encode_fields}
use Rattle.format_fields.specs.Inner.Places.{field_end, places}
use Rattle.format_fields.proofs.Codec.{concat_append}
use Rattle.format_language.specs.Language.{Entry, class, production, Language, is_in}
use Rattle.format_language.specs.LanguageFile.{entries_of}
use Rattle.format_language.specs.Inner.Entries.{entry_whole, entry_at, class_range, IsProduction}
use Rattle.format_language.proofs.Facts.{entry_facts, production_is}
use Rattle.format_language.proofs.Holds.{holds_entries}
use Rattle.tree_reader.specs.Syntax.{write}
use Rattle.format_translation.specs.Translation.{mapping, Body}
use Rattle.format_translation.specs.TranslationFile.{item_field}
use Rattle.format_translation.specs.WellFormed.{kinds}
use Rattle.reduce_operators.specs.Operators.{arguments_from, identity_clause, identity_of}
use Rattle.format_fields.specs.Inner.Writing.{Stores}
use Rattle.reduce_operators.specs.Inner.Values.{exact_language, translation_bytes, Gives}
use Rattle.reduce_operators.proofs.Proper.{good_proper}
use Rattle.reduce_operators.proofs.IdentitySound.{sound_identity}
use Rattle.format_fields.proofs.Splices.{put_unwanted}
use Rattle.reduce_merge.proofs.Writing.{Writing}
use Rattle.reduce_operators.specs.Inner.Assembled.{assembled}
use Rattle.reduce_operators.specs.Inner.Kept.{written_from}
use Rattle.reduce_operators.specs.Inner.SameItems.{kind_item, Marks, kind_items, clause_item}
use Rattle.reduce_operators.proofs.Given.{gives_refused, stored_first}
use Rattle.reduce_operators.proofs.Accepted.{exact_good, language_entries, language_written, assembled_given, body_over}

-- put_kind
pub kind_stored : (l : Language) (k : ℕ) (there : Bool) → there ≡ is_in l k → (o o' : List ℕ) (n : ℕ) (x : Option ℕ)
    → Stores (cond there (0x22 ∷ 0 ∷ 2 ∷ k ∷ k ∷ []) []) o o' n x → Stores (kind_item l k) o o' n x
unfolding kind_item encode_field item_field
kind_stored l k there e o o' n x w = rw (← e) w

-- put_marked: where it is
pub record Kinding (marked : List Bool) (o out : List ℕ) (n k : ℕ) : Type 0 where
  pub writing : (l : Language) → Marks marked l → Writing (kind_items l 0) (kind_items l k) o out 0 n
  pub room : n ≤ length out
  pub long : length out ≡ length o
  pub inside : k ≤ 32

pub marked_at : (marked : List Bool) (l : Language) (k i : ℕ) → Marks marked l → k < 32 → i ≡ k → get_or marked i false ≡ is_in l k
marked_at marked l k i e h q = rw q (e k h)

pub kinding_turn : (l : Language) (k : ℕ) → k < 32 → kind_items l k ≡ kind_item l k ++ kind_items l (k + 1)
unfolding kind_items count_up concat_map
kinding_turn l k h =
    let z : 32 - k ≡ suc (32 - (k + 1)) = omega arith in
    let i : suc k ≡ k + 1 = omega arith in
    ap (λ (j : ℕ). concat_map (kind_item l) (count_up j k)) z ∙ ap (λ (j : ℕ). kind_item l k ++ concat_map (kind_item l) (count_up (32 - (k + 1)) j)) i

pub kinding_end : (l : Language) (k : ℕ) → 32 ≤ k → kind_items l k ≡ []
unfolding kind_items count_up concat_map
kinding_end l k h = let z : 32 - k ≡ 0 = omega arith in ap (λ (j : ℕ). concat_map (kind_item l) (count_up j k)) z

-- put_clause: the clause of a production, in bytes
abbrev pub same_item : ℕ → ℕ → ℕ → List ℕ
same_item x r q = (0x23 ∷ 0 ∷ (x + 4) ∷ r ∷ q ∷ 1 ∷ q ∷ []) ++ slice 0 x (3 ∷ 1 ∷ 3 ∷ 2 ∷ 3 ∷ 3 ∷ 3 ∷ 4 ∷ 3 ∷ 5 ∷ 3 ∷ 6 ∷ 3 ∷ 7 ∷ 3 ∷ 8 ∷ [])

same_item_lem : (r q x : ℕ) (ks : List ℕ) → length ks ≤ 8 → x ≡ 2 * length ks
    → same_item x r q ≡ encode_fields (map item_field (identity_clause (production r q ks)))
unfolding encode_fields encode_field concat_map item_field identity_clause arguments_from write
same_item_lem r q x [] h e = rw e refl
same_item_lem r q x (a ∷ []) h e = rw e refl
same_item_lem r q x (a ∷ b ∷ []) h e = rw e refl
same_item_lem r q x (a ∷ b ∷ c ∷ []) h e = rw e refl
same_item_lem r q x (a ∷ b ∷ c ∷ d ∷ []) h e = rw e refl
same_item_lem r q x (a ∷ b ∷ c ∷ d ∷ f ∷ []) h e = rw e refl
same_item_lem r q x (a ∷ b ∷ c ∷ d ∷ f ∷ g ∷ []) h e = rw e refl
same_item_lem r q x (a ∷ b ∷ c ∷ d ∷ f ∷ g ∷ i ∷ []) h e = rw e refl
same_item_lem r q x (a ∷ b ∷ c ∷ d ∷ f ∷ g ∷ i ∷ j ∷ []) h e = rw e refl
same_item_lem r q x (a ∷ b ∷ c ∷ d ∷ f ∷ g ∷ i ∷ j ∷ k ∷ ks) h e = absurd (omega arith)

module _ (s : List ℕ) (p tag : ℕ) (et : tag ≡ byte_at s p) where
  pub class_stored : tag ≡ 0x11 → (o : List ℕ) (n : ℕ) → n ≤ length o → Stores (clause_item s p) o o n (Some n)
  unfolding clause_item entry_at identity_clause encode_fields concat_map
  class_stored h o n room =
      let z : entry_at s p ≡ class (byte_at s (p + 3)) (class_range s p) = cc (eq-eqb tag 0x11 h) in
      let y : [] ≡ clause_item s p = sym (ap (λ (a : Entry). encode_fields (map item_field (identity_clause a))) z) in
      subst (λ (v : List ℕ). Stores v o o n (Some n)) y (put_unwanted false [] o n refl room)

  module _ (other : tag ≡ 0x11 → ⊥) (w : entry_whole s p ≡ true) where
    production_there : IsProduction s p
    production_there = ⊎_elim (λ c. absurd (other (et ∙ c.tag))) (λ c. c) (entry_facts s p w)

    pub production_size : (e : ℕ) → e ≡ field_end s p → (p + 5 ≤ e) × (e ≤ p + 13) × (e ≤ length s)
    unfolding field_end
    production_size e ee =
        let c = production_there in
        let i = c.two in
        let j = c.ten in
        let k = c.fits in
        (omega arith, omega arith, omega arith)

    pub production_stored : (e : ℕ) → e ≡ field_end s p → (x r q : ℕ) → x ≡ 2 * (e - p - 5) → r ≡ byte_at s (p + 3) → q ≡ byte_at s (p + 4)
        → (o o' : List ℕ) (n : ℕ) (y : Option ℕ) → Stores (same_item x r q) o o' n y → Stores (clause_item s p) o o' n y
    unfolding clause_item
    production_stored e ee x r q ex er eq o o' n y k =
        let b = production_size e ee in
        let ks = slice (p + 5) e s in
        let m : length ks ≡ e - (p + 5) = length-slice (p + 5) e s b.2 in
        let z : entry_at s p ≡ production r q ks = production_is s p production_there ∙ rw (← er, ← eq, ee) refl in
        let h : length ks ≤ 8 = omega (arith, m, b.0, b.1) in
        let d : x ≡ 2 * length ks = omega (arith, m, ex, b.0) in
        subst (λ (v : List ℕ). Stores v o o' n y) (same_item_lem r q x ks h d ∙ sym (ap (λ (a : Entry). encode_fields (map item_field (identity_clause a))) z)) k

-- The bytes of items, one after the other.
map_append : {A B : Type 0} (f : A → B) (l m : List A) → map f (l ++ m) ≡ map f l ++ map f m
map_append f [] m = refl
map_append f (a ∷ l) m = ap (λ r. f a ∷ r) (map_append f l m)

pub items_append : (x y : Body) → encode_fields (map item_field (x ++ y)) ≡ encode_fields (map item_field x) ++ encode_fields (map item_field y)
unfolding encode_fields
items_append x y = ap (concat_map encode_field) (map_append item_field x y) ∙ concat_append encode_field (map item_field x) (map item_field y)

-- The mappings.
kinds_bytes : (l : Language) (ks : List ℕ) → concat_map (kind_item l) ks ≡ encode_fields (map item_field (map (λ k. mapping k 0 k) (keep (is_in l) ks)))
unfolding concat_map keep encode_fields kind_item
kinds_bytes l [] = refl
kinds_bytes l (k ∷ ks) = rw (kinds_bytes l ks) (go (is_in l k))
  where
    go : (t : Bool) → cond t (encode_field (item_field (mapping k 0 k))) [] ++ encode_fields (map item_field (map (λ k. mapping k 0 k) (keep (is_in l) ks)))
        ≡ encode_fields (map item_field (map (λ k. mapping k 0 k) (cond t (k ∷ keep (is_in l) ks) (keep (is_in l) ks))))
    go true = refl
    go false = refl

-- The clauses.
clauses_bytes : (s ps : List ℕ) → concat_map (clause_item s) ps ≡ encode_fields (map item_field (concat_map identity_clause (map (entry_at s) ps)))
unfolding concat_map clause_item encode_fields
clauses_bytes s [] = refl
clauses_bytes s (p ∷ ps) =
    ap (λ (r : List ℕ). clause_item s p ++ r) (clauses_bytes s ps)
    ∙ sym (items_append (identity_clause (entry_at s p)) (concat_map identity_clause (map (entry_at s) ps)))

pub same_bytes : (s : List ℕ) (l : Language) → entries_of s ≡ some l
    → kind_items l 0 ++ written_from (clause_item s) s 0 ≡ encode_fields (map item_field (identity_of l).body)
unfolding identity_of kind_items written_from kinds
same_bytes s l e =
    let a : concat_map (clause_item s) (places s) ≡ encode_fields (map item_field (concat_map identity_clause l)) =
    clauses_bytes s (places s) ∙ ap (λ (m : Language). encode_fields (map item_field (concat_map identity_clause m))) (holds_entries s l e).entries in
    rw (kinds_bytes l (count_up 32 0), a) (sym (items_append (map (λ k. mapping k 0 k) (keep (is_in l) (count_up 32 0))) (concat_map identity_clause l)))

-- identity: its items were put in front of d
module _ (s : List ℕ) (l : Language) (e : exact_language s ≡ value l) (d d' : List ℕ) (x : Option ℕ)
    (w : Stores (kind_items l 0 ++ written_from (clause_item s) s 0) d d' 0 x) where
  pub items_over : x ≡ None → length d ≡ 4096 → (o : List ℕ) → Gives (translation_bytes (value (identity_of l))) o o (Err ValueTooLarge)
  items_over h n o = gives_refused _ o o ValueTooLarge (body_over (identity_of l) (omega (arith, w.full h, ap length (same_bytes s l (language_entries s l e))))) refl

  pub identity_given : (k : ℕ) → x ≡ Some k → (o o' : List ℕ) (r : Outcome)
      → Gives (refuse_if (ltb 4096 (length (assembled s s (take k d')))) ValueTooLarge (value (assembled s s (take k d')))) o o' r
      → Gives (translation_bytes (value (identity_of l))) o o' r
  unfolding identity_of
  identity_given k ex o o' r g =
      let h = exact_good s l e in
      assembled_given (identity_of l) (sound_identity l (good_proper l h)) h.short h.short s s (take k d') o o' r
      (language_written s l e) (language_written s l e)
      (stored_first _ d d' k x w ex ∙ same_bytes s l (language_entries s l e)) g

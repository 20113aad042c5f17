-- The parts by place are the parts of `pack_parts`.
use Prim.Native.Nat.{ℕ, ◌-◌, ◌≤◌}
use mathlib.Core.Path.{◌≡◌, refl, sym, ap, ◌∙◌}
use mathlib.Core.Bool.{Bool, true, false, cond, ◌&&◌}
use mathlib.Core.List.{List, [], ◌∷◌, map}
use mathlib.Core.Option.{Option, none, some}
use native.Mathlib.Omega.{arith}
use lib.ListN.{length, get_or, length-map}
use lib.Dec.{leb, eqb}
use borrow.Author.Tests.{le-leb, lt-leb, leb-true, leb-false, eqb-true, ne_eqb}
use Rattle.format_fields.specs.Lists.{all, is_some, keep, concat_map}
use Rattle.format_fields.specs.Fields.{Field, fields_of, decoded_in}
use Rattle.format_fields.specs.Inner.Places.{is_whole, field_at, contents_at, places, tag_is, tags_ordered}
use Rattle.format_fields.proofs.Truth.{by_test, and_both}
use Rattle.format_fields.proofs.Codec.{cond_there}
use Rattle.format_fields.proofs.Lists.{all_and, all_true}
use Rattle.format_fields.proofs.Split.{decoded_at_places}
use Rattle.format_language.specs.Language.{Language}
use Rattle.format_language.specs.LanguageFile.{entries_of}
use Rattle.format_translation.specs.Translation.{Body}
use Rattle.format_translation.specs.TranslationFile.{body_of}
use Rattle.format_pack.specs.Pack.{Pack, Part, language_part, body_part, language_in, body_in, part_of, group, in_groups, as_language, as_body, as_term, pack_with, pack_in, pack_in_parts, pack_in_fields, pack_parts}
use Rattle.format_pack.specs.Inner.Parts.{list_in, language_at, body_at, part_good, part_whole, part_at, parts_ordered, tagged}
use Rattle.format_pack.proofs.PackCodec.{pack_from}

-- A language that is there, and a body.
language_in_lem : (o : Option Language) → language_in o ≡ cond (is_some o) (some (language_part (list_in o))) none
language_in_lem none = refl
language_in_lem (some l) = refl

body_in_lem : (o : Option Body) → body_in o ≡ cond (is_some o) (some (body_part (list_in o))) none
body_in_lem none = refl
body_in_lem (some b) = refl

-- The part at a place.
part_here : (s : List ℕ) (p : ℕ) → part_of (field_at s p) ≡ cond (part_good s p) (some (part_at s p)) none
unfolding part_of field_at part_good part_at language_at body_at
part_here s p =
    by_test (eqb (get_or s p 0) 0x30)
    (λ e. cc (language_in_lem (entries_of (contents_at s p))))
    (λ e. by_test (eqb (get_or s p 0) 0x31)
    (λ d. cc (body_in_lem (body_of (contents_at s p))))
    (λ d. by_test (eqb (get_or s p 0) 0x32) (λ c. cc) (λ c. cc)))

in_parts : (a : Bool) (ps : List Part) → pack_in_parts (cond a (some ps) none) ≡ cond a (pack_in ps) none
in_parts true ps = refl
in_parts false ps = refl

in_fields : (o : Option (List Field)) → pack_in_fields o ≡ pack_in_parts (decoded_in part_of o)
in_fields none = refl
in_fields (some fs) = refl

-- The parts of a pack are those at its places, where each is whole.
pub parts_at_places : (s : List ℕ) → pack_parts s ≡ cond (all (part_whole s) (places s)) (pack_in (map (part_at s) (places s))) none
unfolding pack_parts part_whole
parts_at_places s =
    in_fields (fields_of s)
    ∙ (ap pack_in_parts (decoded_at_places part_of (part_good s) (part_at s) s (λ p w. part_here s p))
    ∙ in_parts (all (part_whole s) (places s)) (map (part_at s) (places s)))

pub good_of : (s : List ℕ) (p : ℕ) → part_whole s p ≡ true → part_good s p ≡ true
unfolding part_whole
good_of s p h = (and_both (is_whole s p) (part_good s p) h).1

-- A whole part is a language, a body or a term.
pub part_cases : {A : Type 0} (s : List ℕ) (p : ℕ) → part_whole s p ≡ true
    → (eqb (get_or s p 0) 0x30 ≡ true → is_some (entries_of (contents_at s p)) ≡ true → A)
    → (eqb (get_or s p 0) 0x30 ≡ false → eqb (get_or s p 0) 0x31 ≡ true → is_some (body_of (contents_at s p)) ≡ true → A)
    → (eqb (get_or s p 0) 0x30 ≡ false → eqb (get_or s p 0) 0x31 ≡ false → eqb (get_or s p 0) 0x32 ≡ true → A) → A
unfolding part_good
part_cases s p h f g k =
    let w = good_of s p h in
    by_test (eqb (get_or s p 0) 0x30)
    (λ e. f e (rw e at w))
    (λ e. by_test (eqb (get_or s p 0) 0x31) (λ d. g e d (rw (e, d) at w)) (λ d. k e d (rw (e, d) at w)))

-- The group of a part is told by its tag.
module _ (s : List ℕ) (p : ℕ) (h : part_whole s p ≡ true) where
  tag_least : 0x30 ≤ get_or s p 0
  tag_least =
      part_cases s p h
      (λ e w. omega (arith, eqb-true (get_or s p 0) 0x30 e))
      (λ d e w. omega (arith, eqb-true (get_or s p 0) 0x31 e))
      (λ d f e. omega (arith, eqb-true (get_or s p 0) 0x32 e))

  group_is : group (part_at s p) ≡ get_or s p 0 - 0x30
  unfolding part_at
  group_is =
      part_cases s p h
      (λ e w. cc (eqb-true (get_or s p 0) 0x30 e))
      (λ d e w. cc (eqb-true (get_or s p 0) 0x31 e))
      (λ d f e. cc (eqb-true (get_or s p 0) 0x32 e))

past_leb : (a b : ℕ) → 0x30 ≤ a → 0x30 ≤ b → leb (a - 0x30) (b - 0x30) ≡ leb a b
past_leb a b h k =
    by_test (leb a b)
    (λ e. let n = leb-true a b e in le-leb (a - 0x30) (b - 0x30) (omega arith) ∙ sym e)
    (λ e. let n = leb-false a b e in lt-leb (a - 0x30) (b - 0x30) (omega arith) ∙ sym e)

-- Tests of which all must hold, in another grouping or order.
pub and_join : (a b c : Bool) → (a && (b && c)) ≡ ((a && b) && c)
and_join true b c = refl
and_join false b c = refl

pub and_swap : (a b c : Bool) → (a && (b && c)) ≡ (b && (a && c))
and_swap true b c = refl
and_swap false true c = refl
and_swap false false c = refl

-- The tags do not fall where the parts stand in the order of their groups.
pub ordered_is : (s : List ℕ) (last : ℕ) (l : List ℕ) → 0x30 ≤ last
    → parts_ordered s last l ≡ (all (part_whole s) l && in_groups (last - 0x30) (map (part_at s) l))
unfolding tags_ordered all in_groups
ordered_is s last [] h = refl
ordered_is s last (p ∷ l) h =
    by_test (part_whole s p)
    (λ e.
    let t = tag_least s p e in
    rw (e, group_is s p e, past_leb last (get_or s p 0) h t, ordered_is s (get_or s p 0) l t)
    (and_swap (leb last (get_or s p 0)) (all (part_whole s) l) (in_groups (get_or s p 0 - 0x30) (map (part_at s) l))))
    (λ e. rw e)

-- The languages, the bodies and the terms stand at the places of their tags.
pub languages_are : (s l : List ℕ) → concat_map as_language (map (part_at s) l) ≡ map (language_at s) (keep (tag_is 0x30 s) l)
unfolding concat_map keep part_at
languages_are s [] = refl
languages_are s (p ∷ l) =
    by_test (eqb (get_or s p 0) 0x30)
    (λ e. cc (languages_are s l))
    (λ e. by_test (eqb (get_or s p 0) 0x31) (λ d. cc (languages_are s l)) (λ d. cc (languages_are s l)))

pub bodies_are : (s l : List ℕ) → all (part_whole s) l ≡ true → concat_map as_body (map (part_at s) l) ≡ map (body_at s) (keep (tag_is 0x31 s) l)
unfolding concat_map keep part_at
bodies_are s [] h = refl
bodies_are s (p ∷ l) h =
    let w = all_true (part_whole s) p l h in
    part_cases s p w.0
    (λ e i. let z : eqb (get_or s p 0) 0x31 ≡ false = cc (eqb-true (get_or s p 0) 0x30 e) in cc (bodies_are s l w.1))
    (λ d e i. cc (bodies_are s l w.1))
    (λ d f e. cc (bodies_are s l w.1))

pub terms_are : (s l : List ℕ) → all (part_whole s) l ≡ true → concat_map as_term (map (part_at s) l) ≡ map (contents_at s) (keep (tag_is 0x32 s) l)
unfolding concat_map keep part_at
terms_are s [] h = refl
terms_are s (p ∷ l) h =
    let w = all_true (part_whole s) p l h in
    part_cases s p w.0
    (λ e i. let z : eqb (get_or s p 0) 0x32 ≡ false = cc (eqb-true (get_or s p 0) 0x30 e) in cc (terms_are s l w.1))
    (λ d e i. let z : eqb (get_or s p 0) 0x32 ≡ false = cc (eqb-true (get_or s p 0) 0x31 e) in cc (terms_are s l w.1))
    (λ d f e. cc (terms_are s l w.1))

neither : (a b : Bool) → false ≡ (a && (b && false))
neither true true = refl
neither true false = refl
neither false b = refl

-- There is a pack where there are few enough languages and bodies, and one term.
pack_there : (ls : List Language) (bs : List Body) (ts : List (List ℕ))
    → is_some (pack_with ls bs ts) ≡ (leb (length ls) 32 && (leb (length bs) 32 && eqb (length ts) 1))
unfolding pack_with
pack_there ls bs [] = neither (leb (length ls) 32) (leb (length bs) 32)
pack_there ls bs (t ∷ []) = one (leb (length ls) 32) (leb (length bs) 32) (record { languages = ls; bodies = bs; term = t })
  where
    one : (a b : Bool) (p : Pack) → is_some (cond (a && b) (some p) none) ≡ (a && (b && true))
    one true true p = refl
    one true false p = refl
    one false b p = refl
pack_there ls bs (t ∷ u ∷ ts) = rw (ne_eqb (length (t ∷ u ∷ ts)) 1 (λ h. omega arith)) (neither (leb (length ls) 32) (leb (length bs) 32))

-- What `parts_whole` tests.
pub parts_there : (s : List ℕ)
    → (parts_ordered s 0x30 (places s) && (leb (length (tagged 0x30 s)) 32 && (leb (length (tagged 0x31 s)) 32 && eqb (length (tagged 0x32 s)) 1)))
    ≡ is_some (pack_parts s)
unfolding pack_in tagged
parts_there s =
    by_test (all (part_whole s) (places s))
    (λ h.
    let o : parts_ordered s 0x30 (places s) ≡ in_groups 0 (map (part_at s) (places s)) = ordered_is s 0x30 (places s) (omega arith) ∙ rw h in
    let w = pack_there (concat_map as_language (map (part_at s) (places s))) (concat_map as_body (map (part_at s) (places s))) (concat_map as_term (map (part_at s) (places s))) in
    by_test (in_groups 0 (map (part_at s) (places s)))
    (λ g. cc (
      o,
      parts_at_places s,
      w,
      languages_are s (places s),
      bodies_are s (places s) h,
      terms_are s (places s) h,
      length-map (keep (tag_is 0x30 s) (places s)) (language_at s),
      length-map (keep (tag_is 0x31 s) (places s)) (body_at s),
      length-map (keep (tag_is 0x32 s) (places s)) (contents_at s),
    ))
    (λ g. cc (o, parts_at_places s)))
    (λ h. cc (ordered_is s 0x30 (places s) (omega arith), parts_at_places s))

-- What stands in the bytes of a pack.
pub record HoldsParts (s : List ℕ) (p : Pack) : Type 0 where
  pub parts : all (part_whole s) (places s) ≡ true
  pub ordered : parts_ordered s 0x30 (places s) ≡ true
  pub languages : map (language_at s) (tagged 0x30 s) ≡ p.languages
  pub bodies : map (body_at s) (tagged 0x31 s) ≡ p.bodies
  pub term : map (contents_at s) (tagged 0x32 s) ≡ p.term ∷ []

pub holds_parts : (s : List ℕ) (p : Pack) → pack_parts s ≡ some p → HoldsParts s p
unfolding tagged
holds_parts s p e =
    let w = cond_there _ _ p (sym (parts_at_places s) ∙ e) in
    let f = pack_from (map (part_at s) (places s)) p w.1 in
    record {
      parts = w.0;
      ordered = ordered_is s 0x30 (places s) (omega arith) ∙ rw (w.0, f.groups);
      languages = sym (languages_are s (places s)) ∙ f.languages;
      bodies = sym (bodies_are s (places s) w.0) ∙ f.bodies;
      term = sym (terms_are s (places s) w.0) ∙ f.term;
    }

-- Each field of a pack is whole.
pub wholes : (s l : List ℕ) → all (part_whole s) l ≡ true → all (is_whole s) l ≡ true
unfolding part_whole
wholes s l h = (and_both _ _ (sym (all_and (is_whole s) (part_good s) l) ∙ h)).0

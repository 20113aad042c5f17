-- Packs in bytes: their parts, and packs that differ only in the term.
use Prim.Native.Nat.{ℕ, ◌≤◌}
use mathlib.Core.Path.{◌≡◌, refl, sym, ap, subst, ◌∙◌}
use mathlib.Core.Bool.{Bool, true, false, ◌&&◌, ◌||◌}
use mathlib.Core.List.{List, [], ◌∷◌, ◌++◌}
use mathlib.Core.Option.{Option, none, some}
use native.Mathlib.Omega.{arith}
use lib.ListN.{length}
use lib.Dec.{ltb, leb, eqb}
use borrow.Author.Tests.{le-ltb, ltb-false}
use Rattle.outcome.specs.Outcome.{value}
use Rattle.format_fields.specs.Lists.{all, any, traverse, concat_map}
use Rattle.format_fields.specs.Fields.{Field, field, fields_of, encode_fields, has_over}
use Rattle.format_fields.specs.Keyed.{rising}
use Rattle.format_fields.proofs.Truth.{by_test, none_some, false_true, and_both, or_false, false_or}
use Rattle.format_fields.proofs.Codec.{Each, cond_there, cond_some, before_inv, traverse_front, traverse_append, each_append, each_front, concat_append, fields_encode, Within, not_over, within_over}
use Rattle.format_language.specs.Language.{Language, entry_key, clashes}
use Rattle.format_language.specs.LanguageFile.{entries_of, encode_language, language_limit}
use Rattle.format_language.proofs.Codec.{entry_whole, GoodLanguage, language_whole, language_length, open_value, open_rest}
use Rattle.format_translation.specs.Translation.{Body, item_key}
use Rattle.format_translation.specs.TranslationFile.{body_of}
use Rattle.format_translation.proofs.Codec.{item_whole, GoodBody, body_whole}
use Rattle.format_pack.specs.Pack.{Pack, Part, language_part, body_part, term_part, language_in, body_in, part_of, group, in_groups, as_language, as_body, as_term, pack_with, pack_in, pack_in_parts, pack_in_fields, pack_parts, pack_limit, is_language_tag, pack_of}

-- The bytes of a pack: fields, and last the term.
abbrev pub with_term : List Field → List ℕ → List ℕ
with_term fs t = encode_fields (fs ++ field 0x32 t ∷ [])

-- The pack with another term.
abbrev pub new_term : Pack → List ℕ → Pack
new_term p t = record { languages = p.languages; bodies = p.bodies; term = t }

-- The parts that a pack is made of.
pub record PackFrom (ps : List Part) (p : Pack) : Type 0 where
  pub groups : in_groups 0 ps ≡ true
  pub languages : concat_map as_language ps ≡ p.languages
  pub bodies : concat_map as_body ps ≡ p.bodies
  pub term : concat_map as_term ps ≡ p.term ∷ []
  pub few : leb (length p.languages) 32 && leb (length p.bodies) 32 ≡ true

-- A pack with one term.
with_one : (ls : List Language) (bs : List Body) (ts : List (List ℕ)) (p : Pack) → pack_with ls bs ts ≡ some p
    → (ls ≡ p.languages) × (bs ≡ p.bodies) × (ts ≡ p.term ∷ []) × (leb (length p.languages) 32 && leb (length p.bodies) 32 ≡ true)
unfolding pack_with
with_one ls bs [] p e = none_some e
with_one ls bs (t ∷ u ∷ ts) p e = none_some e
with_one ls bs (t ∷ []) p e =
    let (few, z) = cond_some (leb (length ls) 32 && leb (length bs) 32) (record { languages = ls; bodies = bs; term = t }) p e in (
      ap (λ (q : Pack). q.languages) z,
      ap (λ (q : Pack). q.bodies) z,
      ap (λ (q : Pack). q.term ∷ []) z,
      subst (λ (q : Pack). leb (length q.languages) 32 && leb (length q.bodies) 32 ≡ true) z few,
    )

-- The pack of parts, and the parts of a pack.
pub pack_from : (ps : List Part) (p : Pack) → pack_in ps ≡ some p → PackFrom ps p
unfolding pack_in
pack_from ps p e =
    let (g, d) = cond_there (in_groups 0 ps) (pack_with (concat_map as_language ps) (concat_map as_body ps) (concat_map as_term ps)) p e in
    let (ls, bs, t, few) = with_one (concat_map as_language ps) (concat_map as_body ps) (concat_map as_term ps) p d in
    record { groups = g; languages = ls; bodies = bs; term = t; few = few }

-- The pack that parts make.
from_pack : (ps : List Part) (p : Pack) → PackFrom ps p → pack_in ps ≡ some p
unfolding pack_in pack_with
from_pack ps p f = rw (f.groups, f.languages, f.bodies, f.term, f.few)

-- The order of the groups does not hang on the term.
groups_same : (n : ℕ) (ps : List Part) (a b : List ℕ) → in_groups n (ps ++ term_part a ∷ []) ≡ in_groups n (ps ++ term_part b ∷ [])
unfolding in_groups
groups_same n [] a b = refl
groups_same n (q ∷ ps) a b = ap (λ (t : Bool). leb n (group q) && t) (groups_same (group q) ps a b)

-- The last of a list of one.
last_alone : {A : Type 0} (l : List A) (a b : A) → l ++ a ∷ [] ≡ b ∷ [] → (l ≡ []) × (a ≡ b)
last_alone [] a b e = (refl, cc)
last_alone (x ∷ []) a b e = none_some {B = ℕ} {b = 0} (cc)
last_alone (x ∷ y ∷ l) a b e = none_some {B = ℕ} {b = 0} (cc)

module _ (ps : List Part) (a : List ℕ) (p : Pack) (f : PackFrom (ps ++ term_part a ∷ []) p) where
  -- The one term is the last part.
  only_term : (concat_map as_term ps ≡ []) × (a ≡ p.term)
  unfolding concat_map
  only_term = last_alone (concat_map as_term ps) a p.term (sym (concat_append as_term ps (term_part a ∷ [])) ∙ f.term)

  -- Another term in its place.
  other_term : (b : List ℕ) → PackFrom (ps ++ term_part b ∷ []) (new_term p b)
  unfolding concat_map
  other_term b = record {
    groups = groups_same 0 ps b a ∙ f.groups;
    languages = concat_append as_language ps (term_part b ∷ []) ∙ (sym (concat_append as_language ps (term_part a ∷ [])) ∙ f.languages);
    bodies = concat_append as_body ps (term_part b ∷ []) ∙ (sym (concat_append as_body ps (term_part a ∷ [])) ∙ f.bodies);
    term = concat_append as_term ps (term_part b ∷ []) ∙ ap (λ (l : List (List ℕ)). l ++ b ∷ []) only_term.0;
    few = f.few;
  }

-- The parts of a file that is a pack.
record PartsIn (s : List ℕ) (p : Pack) : Type 0 where
  fields : List Field
  parts : List Part
  split : fields_of s ≡ some fields
  reads : traverse part_of fields ≡ some parts
  from : PackFrom parts p

-- Parts that were read.
parts_of_parts : (s : List ℕ) (fs : List Field) (o : Option (List Part)) (p : Pack) → fields_of s ≡ some fs → traverse part_of fs ≡ o
    → pack_in_parts o ≡ some p → PartsIn s p
parts_of_parts s fs none p d r e = none_some e
parts_of_parts s fs (some ps) p d r e = record { fields = fs; parts = ps; split = d; reads = r; from = pack_from ps p e }

-- Parts of fields that may not be there.
parts_of_fields_lem : (s : List ℕ) (o : Option (List Field)) (p : Pack) → fields_of s ≡ o → pack_in_fields o ≡ some p → PartsIn s p
parts_of_fields_lem s none p d e = none_some e
parts_of_fields_lem s (some fs) p d e = parts_of_parts s fs (traverse part_of fs) p d refl e

-- Parts of a file.
parts_in_lem : (s : List ℕ) (p : Pack) → pack_parts s ≡ some p → PartsIn s p
unfolding pack_parts
parts_in_lem s p e = parts_of_fields_lem s (fields_of s) p refl e

-- Fields that are parts of a pack are read as the pack.
parts_encode : (fs : List Field) (ps : List Part) (p : Pack) → traverse part_of fs ≡ some ps → PackFrom ps p → pack_parts (encode_fields fs) ≡ some p
unfolding pack_parts
parts_encode fs ps p r f = rw (fields_encode fs, r) (from_pack ps p f)

-- The field of a term.
term_part_lem : (t : List ℕ) → traverse part_of (field 0x32 t ∷ []) ≡ some (term_part t ∷ [])
unfolding traverse part_of
term_part_lem t = refl

-- The parts in front of the term.
front_parts : (fs : List Field) (a : List ℕ) (p : Pack) → PartsIn (with_term fs a) p
    → (ps : List Part) × (traverse part_of fs ≡ some ps) × PackFrom (ps ++ term_part a ∷ []) p
front_parts fs a p i =
    let same : i.fields ≡ fs ++ field 0x32 a ∷ [] = cc (i.split, fields_encode (fs ++ field 0x32 a ∷ [])) in
    let r : traverse part_of (fs ++ field 0x32 a ∷ []) ≡ some i.parts = rw (← same) i.reads in
    let (ps, ts, x, y, z) = traverse_front part_of fs (field 0x32 a ∷ []) i.parts r in
    let t : ts ≡ term_part a ∷ [] = cc (term_part_lem a, y) in
    (ps, x, subst (λ (l : List Part). PackFrom l p) (z ∙ ap (λ (l : List Part). ps ++ l) t) i.from)

-- What rises in a pack.
abbrev pub pack_rises : Pack → Bool
pack_rises p = all (rising entry_key) p.languages && all (rising item_key) p.bodies

-- What clashes in a pack.
abbrev pub pack_clashes : Pack → Bool
pack_clashes p = any (λ l. clashes l l) p.languages

-- A pack that a file holds: its parts, and what was asked of them.
pub record PackIn (s : List ℕ) (p : Pack) : Type 0 where
  pub short : ltb pack_limit (length s) ≡ false
  pub within : has_over is_language_tag language_limit s ≡ false
  pub parts : pack_parts s ≡ some p
  pub rises : pack_rises p ≡ true
  pub apart : pack_clashes p ≡ false

-- A file that is a pack.
pub pack_in_lem : (s : List ℕ) (p : Pack) → pack_of s ≡ value p → PackIn s p
unfolding pack_of
pack_in_lem s p e =
    let o = open_value pack_rises pack_clashes value (ltb pack_limit (length s) || has_over is_language_tag language_limit s) (pack_parts s) p e in
    let z : o.held ≡ p = cc o.made in
    let (short, within) = or_false (ltb pack_limit (length s)) (has_over is_language_tag language_limit s) o.fits in
    record { short = short; within = within; parts = o.reads ∙ ap some z; rises = rw (← z) o.in_order; apart = rw (← z) o.apart }

-- Such a file is read as the pack.
in_pack : (s : List ℕ) (p : Pack) → PackIn s p → pack_of s ≡ value p
unfolding pack_of
in_pack s p i = open_rest pack_rises pack_clashes value _ _ p (false_or _ _ i.short i.within) i.parts i.rises i.apart

-- A term is no language: it is within any limit.
term_within : (fs : List Field) (a b : List ℕ) → has_over is_language_tag language_limit (with_term fs a) ≡ false
    → has_over is_language_tag language_limit (with_term fs b) ≡ false
term_within fs a b h =
    let w = not_over is_language_tag language_limit (with_term fs a) (fs ++ field 0x32 a ∷ []) (fields_encode (fs ++ field 0x32 a ∷ [])) h in
    let v = each_front (Within is_language_tag language_limit) fs (field 0x32 a ∷ []) w in
    let t : Each (Within is_language_tag language_limit) (field 0x32 b ∷ []) = (λ e. false_true e, tt) in
    within_over is_language_tag language_limit (fs ++ field 0x32 b ∷ []) (each_append (Within is_language_tag language_limit) fs (field 0x32 b ∷ []) v.0 t)

-- Packs that differ only in field 32: one is a pack if the other is, with the same languages and bodies.
pub pack_term : (fs : List Field) (a b : List ℕ) (p : Pack) → pack_of (with_term fs a) ≡ value p → length (with_term fs b) ≤ pack_limit
    → (p.term ≡ a) × (pack_of (with_term fs b) ≡ value (new_term p b))
pack_term fs a b p e h =
    let i = pack_in_lem (with_term fs a) p e in
    let (ps, r, f) = front_parts fs a p (parts_in_lem (with_term fs a) p i.parts) in
    let q : pack_parts (with_term fs b) ≡ some (new_term p b) =
    parts_encode (fs ++ field 0x32 b ∷ []) (ps ++ term_part b ∷ []) (new_term p b)
    (traverse_append part_of fs (field 0x32 b ∷ []) ps (term_part b ∷ []) r (term_part_lem b)) (other_term ps a p f b) in (
      sym (only_term ps a p f).1,
      in_pack (with_term fs b) (new_term p b) (record {
        short = le-ltb pack_limit (length (with_term fs b)) h;
        within = term_within fs a b i.within;
        parts = q;
        rises = i.rises;
        apart = i.apart;
      }),
    )

-- A pack that a file holds is no longer than a pack may be.
pub pack_short : (s : List ℕ) (p : Pack) → pack_of s ≡ value p → length s ≤ pack_limit
pack_short s p e = ltb-false pack_limit (length s) (pack_in_lem s p e).short

-- What is known of a part before order and clashes are looked at.
record FitLanguage (l : Language) : Type 0 where
  whole : all entry_whole l ≡ true
  short : length (encode_language l) ≤ language_limit

-- A part that is fit.
abbrev FitPart : Part → Type 0
FitPart (language_part l) = FitLanguage l
FitPart (body_part b) = all item_whole b ≡ true
FitPart (term_part t) = Unit {0}

-- A language that is read within the limit is fit.
fit_language : (c : List ℕ) (o : Option Language) (q : Part) → entries_of c ≡ o → language_in o ≡ some q → length c ≤ language_limit → FitPart q
fit_language c none q d e h = none_some e
fit_language c (some l) q d e h =
    let z : language_part l ≡ q = cc in
    subst FitPart z (record { whole = language_whole c l d; short = omega (arith, language_length c l d) })

-- A body that is read is fit.
fit_body : (c : List ℕ) (o : Option Body) (q : Part) → body_of c ≡ o → body_in o ≡ some q → FitPart q
fit_body c none q d e = none_some e
fit_body c (some b) q d e = let z : body_part b ≡ q = cc in subst FitPart z (body_whole c b d).0

-- A field that is read within the limit is fit.
fit_part : (f : Field) (q : Part) → part_of f ≡ some q → Within is_language_tag language_limit f → FitPart q
unfolding part_of
fit_part (field tag c) q e w =
    by_test (eqb tag 0x30)
    (λ t. fit_language c (entries_of c) q refl (cc) (w t))
    (λ t. by_test (eqb tag 0x31)
    (λ u. fit_body c (body_of c) q refl (cc))
    (λ u. by_test (eqb tag 0x32)
    (λ v. let z : term_part c ≡ q = cc in subst FitPart z tt)
    (λ v. none_some {b = q} (cc))))

-- So are all fields.
fit_parts : (fs : List Field) (ps : List Part) → traverse part_of fs ≡ some ps → Each (Within is_language_tag language_limit) fs → Each FitPart ps
unfolding traverse
fit_parts [] ps e w = let z : [] ≡ ps = cc in subst (λ (l : List Part). Each FitPart l) z tt
fit_parts (f ∷ fs) ps e w =
    let (q, qs, x, y, z) = before_inv (part_of f) (traverse part_of fs) ps e in
    subst (λ (l : List Part). Each FitPart l) (sym z) (fit_part f q x w.0, fit_parts fs qs y w.1)

-- The languages of fit parts that rise and do not clash are good.
languages_good : (ps : List Part) → Each FitPart ps → all (rising entry_key) (concat_map as_language ps) ≡ true
    → any (λ l. clashes l l) (concat_map as_language ps) ≡ false → Each GoodLanguage (concat_map as_language ps)
unfolding concat_map all any
languages_good [] f r c = tt
languages_good (body_part b ∷ ps) f r c = languages_good ps f.1 r c
languages_good (term_part t ∷ ps) f r c = languages_good ps f.1 r c
languages_good (language_part l ∷ ps) f r c =
    let (r1, r2) = and_both (rising entry_key l) (all (rising entry_key) (concat_map as_language ps)) r in
    let (c1, c2) = or_false (clashes l l) (any (λ l. clashes l l) (concat_map as_language ps)) c in
    (record { whole = f.0.whole; rises = r1; apart = c1; short = f.0.short }, languages_good ps f.1 r2 c2)

-- The bodies of fit parts that rise are good.
bodies_good : (ps : List Part) → Each FitPart ps → all (rising item_key) (concat_map as_body ps) ≡ true → Each GoodBody (concat_map as_body ps)
unfolding concat_map all
bodies_good [] f r = tt
bodies_good (language_part l ∷ ps) f r = bodies_good ps f.1 r
bodies_good (term_part t ∷ ps) f r = bodies_good ps f.1 r
bodies_good (body_part b ∷ ps) f r =
    let (r1, r2) = and_both (rising item_key b) (all (rising item_key) (concat_map as_body ps)) r in
    (record { whole = f.0; rises = r1 }, bodies_good ps f.1 r2)

-- Every language and every body of a pack that a file holds is good.
pub pack_good : (s : List ℕ) (p : Pack) → pack_of s ≡ value p → Each GoodLanguage p.languages × Each GoodBody p.bodies
pack_good s p e =
    let i = pack_in_lem s p e in
    let j = parts_in_lem s p i.parts in
    let w = not_over is_language_tag language_limit s j.fields j.split i.within in
    let f = fit_parts j.fields j.parts j.reads w in
    let ls = j.from.languages in
    let bs = j.from.bodies in
    let (r1, r2) = and_both (all (rising entry_key) p.languages) (all (rising item_key) p.bodies) i.rises in (
      subst (λ (l : List Language). Each GoodLanguage l) ls (languages_good j.parts f (rw ls r1) (rw ls i.apart)),
      subst (λ (l : List Body). Each GoodBody l) bs (bodies_good j.parts f (rw bs r2)),
    )

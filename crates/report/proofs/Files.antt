-- What a file of bytes holds: entries that can be written, and codes in bytes.
use Prim.Native.Nat.{ℕ, zero, suc, ◌+◌, ◌<◌}
use mathlib.Core.Path.{◌≡◌, refl, sym, subst}
use mathlib.Core.Logic.{inl, inr}
use mathlib.Core.Bool.{Bool, true, false, cond, ◌&&◌, ◌||◌}
use mathlib.Core.List.{List, [], ◌∷◌}
use mathlib.Core.Option.{Option, none, some}
use native.Mathlib.Omega.{arith}
use lib.ListN.{length, drop}
use lib.Dec.{eqb, leb, ltb}
use borrow.Author.Tests.{leb-true, ltb-true}
use Rattle.outcome.specs.Outcome.{value}
use Rattle.format_fields.specs.Fields.{Field, field, byte_at, pair_at, fields_of, decoded_in}
use Rattle.format_fields.specs.Lists.{all, traverse, concat_map}
use Rattle.format_fields.proofs.Truth.{Mem, none_some, some_inj, and_both, all_mem}
use Rattle.format_fields.proofs.Keyed.{Rising, is_rising}
use Rattle.format_fields.proofs.Codec.{Each, Bytes, InBytes, contents_of, two_tags, four_tags, cond_some, each_at, before_inv, fields_sound, bytes_at}
use Rattle.format_language.specs.Language.{Entry, class, production, Language}
use Rattle.format_language.specs.LanguageFile.{is_kind, range_whole, range_in, class_of, production_of, entry_of, entries_of, language_of}
use Rattle.format_language.proofs.Codec.{entry_whole, language_good, GoodLanguage}
use Rattle.format_translation.specs.Translation.{Item, mapping, clause, Body, Translation, item_key}
use Rattle.format_translation.specs.TranslationFile as File
use Rattle.format_translation.specs.TranslationFile.{mapping_field, is_number, numbered_mapping, clause_field, numbered_clause, item_of, grouped, items_in, body_of, translation_of}
use Rattle.format_translation.proofs.Codec.{body_from, rises_parts, translation_whole, GoodBody}
use Rattle.format_translation.proofs.Fitting.{Fitting, formed_fits}
use Rattle.reduce_operators.proofs.Proper.{Proper, good_proper, kinds_below}
use Rattle.format_pack.specs.Pack.{Pack, Part, language_part, body_part, term_part, language_in, body_in, part_of, as_language, as_body, pack_in_parts, pack_in_fields, pack_parts, pack_of}
use Rattle.format_pack.proofs.PackCodec.{pack_from, pack_in_lem, pack_good}
use Rattle.reduce_signs.specs.Evaluation.{constants_of}
use Rattle.report.specs.Sets.{◌∈◌, here, later}
use Rattle.report.specs.Languages.{Writable, WellFormedLanguage}
use Rattle.report.specs.WellFormed.{OneNumber, WellFormed}
use Rattle.report.proofs.Sets.{in_mem}
use Rattle.report.proofs.Languages.{proper_formed}
use Rattle.report.proofs.WellFormed.{ByteCodes, fits_formed}
use Rattle.report.proofs.Reduction.{ConstantsFit}

-- Each entry that is read from fields in bytes has a property that those of its field have.
each_read : {A : Type 0} (decode : Field → Option A) (P : A → Type 0) → ((f : Field) (a : A) → decode f ≡ some a → Bytes (contents_of f) → P a)
    → (fs : List Field) (l : List A) → Each InBytes fs → traverse decode fs ≡ some l → Each P l
unfolding traverse
each_read {A} decode P h [] l b e = subst (Each P) (some_inj e) tt
each_read {A} decode P h (f ∷ fs) l b e =
    let r = before_inv (decode f) (traverse decode fs) l e in
    subst (Each P) (sym r.4) (h f r.0 r.2 b.0.contents, each_read decode P h fs r.1 b.1 r.3)

each_mem : {A : Type 0} (P : A → Type 0) (l : List A) → Each P l → (a : A) → Mem a l → P a
each_mem P (b ∷ l) h a (inl e) = subst P (sym e) h.0
each_mem P (b ∷ l) h a (inr m) = each_mem P l h.1 a m
each_mem {A = A} P [] h a x'' = elim x'' [ ]

cond_has : {A : Type 0} (P : A → Type 0) (t : Bool) (x a : A) → P x → cond t (some x) none ≡ some a → P a
cond_has P t x a h e = subst P (cond_some t x a e).1 h

-- The numbers of an entry are in bytes: a highest value and a step in two, a name in one.
abbrev NumbersFit : Entry → Type 0
NumbersFit (class k c) = (c.high < 65536) × (c.step < 65536)
NumbersFit (production r p ks) = p < 256

pair_below : (c : List ℕ) → Bytes c → (i : ℕ) → pair_at c i < 65536
unfolding pair_at
pair_below c b i = let x = bytes_at c b i in let y = bytes_at c b (i + 1) in omega arith

range_fits : (k : ℕ) (c : List ℕ) → Bytes c → NumbersFit (class k (range_in c))
unfolding range_in
range_fits k c b = (pair_below c b 3, step (eqb (length c) 7))
  where
    step : (t : Bool) → cond t (pair_at c 5) 1 < 65536
    step true = pair_below c b 5
    step false = omega arith

entry_numbers : (f : Field) (a : Entry) → entry_of f ≡ some a → Bytes (contents_of f) → NumbersFit a
unfolding entry_of class_of production_of
entry_numbers (field tag c) a e b =
    two_tags tag 0x11 0x12 (class_of c) (production_of c) a e
    (λ t q. cond_has NumbersFit ((eqb (length c) 5 || eqb (length c) 7) && (is_kind (byte_at c 0) && range_whole (range_in c))) (class (byte_at c 0) (range_in c)) a (range_fits (byte_at c 0) c b) q)
    (λ t q. cond_has NumbersFit (leb 2 (length c) && (leb (length c) 10 && (is_kind (byte_at c 0) && all is_kind (drop 2 c)))) (production (byte_at c 0) (byte_at c 1) (drop 2 c)) a (bytes_at c b 1) q)

whole_writable : (a : Entry) → entry_whole a ≡ true → NumbersFit a → Writable a
unfolding entry_whole range_whole
whole_writable (class k c) w n =
    let x = and_both (is_kind k) (leb c.low c.high && ltb 0 c.step) w in
    let y = and_both (leb c.low c.high) (ltb 0 c.step) x.1 in
    (ltb-true k 32 x.0, leb-true c.low c.high y.0, n.0, ltb-true 0 c.step y.1, n.1)
whole_writable (production r p ks) w n =
    let x = and_both (is_kind r) (leb (length ks) 8 && all is_kind ks) w in
    let y = and_both (leb (length ks) 8) (all is_kind ks) x.1 in
    (ltb-true r 32 x.0, n, leb-true (length ks) 8 y.0, λ k m. ltb-true k 32 (all_mem is_kind ks y.1 k (in_mem m)))

-- The entries of a language that is read from bytes can be written.
entries_numbers : (c : List ℕ) (l : Language) → Bytes c → entries_of c ≡ some l → Each NumbersFit l
unfolding entries_of
entries_numbers c l b e = go (fields_of c) refl e
  where
    go : (o : Option (List Field)) → fields_of c ≡ o → decoded_in entry_of o ≡ some l → Each NumbersFit l
    go none d q = none_some q
    go (some fs) d q = each_read entry_of NumbersFit entry_numbers fs l (fields_sound c fs b d).1 q

numbers_formed : (l : Language) → Proper l → Each NumbersFit l → WellFormedLanguage l
numbers_formed l p n = proper_formed l p (λ a m. whole_writable a (p.whole a (in_mem m)) (each_mem NumbersFit l n a (in_mem m)))

-- B.2: a language that is accepted is well formed.
pub held_language : (s : List ℕ) (l : Language) → Bytes s → language_of s ≡ value l → WellFormedLanguage l
held_language s l b e = let g = language_good s l e in numbers_formed l (good_proper l g.1) (entries_numbers s l b g.0)

-- The code of an item is in bytes.
abbrev CodeBytes : Item → Type 0
CodeBytes (mapping k j t) = Unit {0}
CodeBytes (clause n p j c) = Bytes c

each_drop : {A : Type 0} (P : A → Type 0) (n : ℕ) (l : List A) → Each P l → Each P (drop n l)
each_drop P zero l h = h
each_drop P (suc n) [] h = tt
each_drop P (suc n) (a ∷ l) h = each_drop P n l h.1

item_code : (f : Field) (a : Item) → item_of f ≡ some a → Bytes (contents_of f) → CodeBytes a
unfolding item_of mapping_field clause_field numbered_mapping numbered_clause
item_code (field tag c) a e b =
    four_tags tag 0x22 0x23 0x28 0x29 (mapping_field c) (clause_field c) (numbered_mapping c) (numbered_clause c) a e
    (λ t q. cond_has CodeBytes (eqb (length c) 2 && (is_kind (byte_at c 0) && is_kind (byte_at c 1))) (mapping (byte_at c 0) 0 (byte_at c 1)) a tt q)
    (λ t q. cond_has CodeBytes (leb 2 (length c) && is_kind (byte_at c 0)) (clause (byte_at c 0) (byte_at c 1) 0 (drop 2 c)) a (each_drop _ 2 c b) q)
    (λ t q. cond_has CodeBytes (eqb (length c) 3 && (is_kind (byte_at c 0) && (is_number (byte_at c 1) && is_kind (byte_at c 2)))) (mapping (byte_at c 0) (byte_at c 1) (byte_at c 2)) a tt q)
    (λ t q. cond_has CodeBytes (leb 3 (length c) && (is_kind (byte_at c 0) && is_number (byte_at c 2))) (clause (byte_at c 0) (byte_at c 1) (byte_at c 2) (drop 3 c)) a (each_drop _ 3 c b) q)

-- The codes of a body that is read from fields in bytes are in bytes.
items_coded : (fs : List Field) (b : Body) → Each InBytes fs → items_in fs ≡ some b → Each CodeBytes b
unfolding items_in
items_coded fs b h e = go (traverse item_of fs) refl e
  where
    go : (o : Option Body) → traverse item_of fs ≡ o → File.in_groups o ≡ some b → Each CodeBytes b
    go none d q = none_some q
    go (some c) d q = subst (Each CodeBytes) (cond_some (grouped false c) c b q).1 (each_read item_of CodeBytes item_code fs c h d)

coded_bytes : (b : Body) → Each CodeBytes b → (n p : ℕ) (d : List ℕ) → Mem (clause n p 0 d) b → Bytes d
coded_bytes b h n p d m = each_mem CodeBytes b h (clause n p 0 d) m

-- An accepted translation: its languages are well formed, its body is in order and in bytes, and it fits.
pub record Accepted (f : Translation) : Type 0 where
  pub source : WellFormedLanguage f.source
  pub target : WellFormedLanguage f.target
  pub rises : Rising item_key f.body
  pub bytes : ByteCodes f
  pub fits : Fitting f

pub accepted : (s : List ℕ) (f : Translation) → Bytes s → translation_of s ≡ value f → Accepted f
accepted s f b e =
    let w = translation_whole s f e in
    let r = rises_parts f w.1.rises in
    let i = (fields_sound s _ b w.0.fields).1 in
    let ps = good_proper f.source (record { whole = w.1.source; rises = r.0; apart = w.1.source_apart; short = w.1.source_short }) in
    let pt = good_proper f.target (record { whole = w.1.target; rises = r.1; apart = w.1.target_apart; short = w.1.target_short }) in
    record {
      source = numbers_formed f.source ps (entries_numbers w.0.source_bytes f.source i.0.contents w.0.source);
      target = numbers_formed f.target pt (entries_numbers w.0.target_bytes f.target i.1.0.contents w.0.target);
      rises = is_rising item_key f.body r.2;
      bytes = coded_bytes f.body (items_coded w.0.items f.body i.1.1 w.0.body);
      fits = (formed_fits f f (kinds_below f ps) (is_rising item_key f.body r.2) w.2).0;
    }

-- C.6: one with number 0 only is well formed.
pub accepted_formed : (f : Translation) → Accepted f → OneNumber f.body → WellFormed f
accepted_formed f a one = fits_formed f one a.source a.target a.rises a.bytes a.fits

-- The parts of a pack in bytes.
abbrev PartFits : Part → Type 0
PartFits (language_part l) = Each NumbersFit l
PartFits (body_part b) = Each CodeBytes b
PartFits (term_part t) = Unit {0}

language_fits : (c : List ℕ) (o : Option Language) (q : Part) → entries_of c ≡ o → language_in o ≡ some q → Bytes c → PartFits q
language_fits c none q d e b = none_some e
language_fits c (some l) q d e b = subst PartFits (some_inj e) (entries_numbers c l b d)

body_fits : (c : List ℕ) (o : Option Body) (q : Part) → body_of c ≡ o → body_in o ≡ some q → Bytes c → PartFits q
body_fits c none q d e b = none_some e
body_fits c (some l) q d e b = let r = body_from c l d in subst PartFits (some_inj e) (items_coded r.0 l (fields_sound c r.0 b r.1).1 r.2)

part_fits : (f : Field) (q : Part) → part_of f ≡ some q → Bytes (contents_of f) → PartFits q
unfolding part_of
part_fits (field tag c) q e b =
    three_tags (eqb tag 0x30) (eqb tag 0x31) (eqb tag 0x32) (language_in (entries_of c)) (body_in (body_of c)) (term_part c) q e
    (λ d. language_fits c (entries_of c) q refl d b) (λ d. body_fits c (body_of c) q refl d b) tt
  where
    three_tags : (t u v : Bool) (x y : Option Part) (z q : Part) → cond t x (cond u y (cond v (some z) none)) ≡ some q
        → (x ≡ some q → PartFits q) → (y ≡ some q → PartFits q) → PartFits z → PartFits q
    three_tags true u v x y z q e f g h = f e
    three_tags false true v x y z q e f g h = g e
    three_tags false false v x y z q e f g h = cond_has PartFits v z q h e

languages_fit_lem : (ps : List Part) → Each PartFits ps → Each (Each NumbersFit) (concat_map as_language ps)
unfolding concat_map
languages_fit_lem [] h = tt
languages_fit_lem (language_part l ∷ ps) h = (h.0, languages_fit_lem ps h.1)
languages_fit_lem (body_part b ∷ ps) h = languages_fit_lem ps h.1
languages_fit_lem (term_part t ∷ ps) h = languages_fit_lem ps h.1

bodies_fit : (ps : List Part) → Each PartFits ps → Each (Each CodeBytes) (concat_map as_body ps)
unfolding concat_map
bodies_fit [] h = tt
bodies_fit (language_part l ∷ ps) h = bodies_fit ps h.1
bodies_fit (body_part b ∷ ps) h = (h.0, bodies_fit ps h.1)
bodies_fit (term_part t ∷ ps) h = bodies_fit ps h.1

pack_fits : (s : List ℕ) (p : Pack) → Bytes s → pack_of s ≡ value p → Each (Each NumbersFit) p.languages × Each (Each CodeBytes) p.bodies
unfolding pack_parts
pack_fits s p b e = fields (fields_of s) refl (pack_in_lem s p e).parts
  where
    parts : (fs : List Field) → Each InBytes fs → (o : Option (List Part)) → traverse part_of fs ≡ o → pack_in_parts o ≡ some p
        → Each (Each NumbersFit) p.languages × Each (Each CodeBytes) p.bodies
    parts fs h none d q = none_some q
    parts fs h (some ps) d q =
        let n = each_read part_of PartFits part_fits fs ps h d in
        let f = pack_from ps p q in
        (subst (Each (Each NumbersFit)) f.languages (languages_fit_lem ps n), subst (Each (Each CodeBytes)) f.bodies (bodies_fit ps n))

    fields : (o : Option (List Field)) → fields_of s ≡ o → pack_in_fields o ≡ some p → Each (Each NumbersFit) p.languages × Each (Each CodeBytes) p.bodies
    fields none d q = none_some q
    fields (some fs) d q = parts fs (fields_sound s fs b d).1 (traverse part_of fs) refl q

-- What stands at a place is a member.
at_in : {A : Type 0} (l : List A) (i : ℕ) (a : A) → lib.ListN.get_elem? l i ≡ some a → a ∈ l
at_in [] i a e = none_some e
at_in (x ∷ l) zero a e = subst (λ y. y ∈ (x ∷ l)) (some_inj e) here
at_in (x ∷ l) (suc i) a e = later (at_in l i a e)

-- The constants of an accepted pack in bytes whose bodies have number 0 only.
pub pack_constants : (s : List ℕ) (p : Pack) → Bytes s → pack_of s ≡ value p → ((b : Body) → b ∈ p.bodies → OneNumber b) → ConstantsFit (constants_of p)
pack_constants s p b e one = record {
  languages = λ n l q.
      numbers_formed l (good_proper l (each_at GoodLanguage p.languages n l (pack_good s p e).0 q)) (each_at (Each NumbersFit) p.languages n l (pack_fits s p b e).0 q);
  bodies = λ n c q. record {
    one = one c (at_in p.bodies n c q);
    rises = is_rising item_key c (each_at GoodBody p.bodies n c (pack_good s p e).1 q).rises;
    bytes = coded_bytes c (each_at (Each CodeBytes) p.bodies n c (pack_fits s p b e).1 q);
  };
}

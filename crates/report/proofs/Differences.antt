-- "Without" of translations ([RES]).
use Prim.Native.Nat.{ℕ}
use mathlib.Core.Path.{◌≡◌, refl, sym, subst, ◌∙◌}
use mathlib.Core.Bool.{true}
use mathlib.Core.List.{List}
use Rattle.format_fields.proofs.Truth.{mem_keep, keep_cases, some_is, is_some_lem}
use Rattle.format_fields.proofs.Keyed.{Rising, is_rising, rising_is, keep_from}
use Rattle.format_language.specs.Language.{Entry, production, Language, entry_key, arguments_of}
use Rattle.format_language.proofs.Lookup.{arguments_mem, mem_arguments}
use Rattle.tree_reader.specs.Code.{Code}
use Rattle.format_translation.specs.Translation.{Item, mapping, clause, Body, Translation, item_key}
use Rattle.reduce_operators.specs.Operators.{language_without, is_of, translation_without}
use Rattle.reduce_operators.proofs.SumSound.{proper_without}
use Rattle.report.specs.Sets.{◌∈◌}
use Rattle.report.specs.Languages.{Nonterminal, has_production_lem, is_argument, IsDifference}
use Rattle.report.specs.Transformation.{Reconstructor}
use Rattle.report.specs.WellFormed.{KeepsRanges, WellFormed}
use Rattle.report.specs.Translations.{Holds, ItemOf, kind_of, production_of_lem, IsDifferenceX}
use Rattle.report.proofs.Sets.{mem_in, in_mem}
use Rattle.report.proofs.Typing.{has_larger, picked_in}
use Rattle.report.proofs.Languages.{kinds_larger, difference_formed, difference_one, within_larger, nonterminal_in, in_nonterminal, without_is, formed_proper}
use Rattle.report.proofs.WellFormed.{code_one, ranges_produced, body_rises}
use Rattle.report.proofs.Sums.{same_parts, same_bodies}

-- What an item is of.
pub of_kind : {l : Language} {n j t : ℕ} → ItemOf l (mapping n j t) → Nonterminal l n
of_kind (kind_of x) = x

pub of_production : {l : Language} {n p j : ℕ} {c : List ℕ} → ItemOf l (clause n p j c) → (ks : List ℕ) × (production n p ks ∈ l)
of_production (production_of_lem {ks = ks} x) = (ks, x)

module _ (f : Translation) (l s : Language) (b : Body) (w : WellFormed f) (d : IsDifference f.source l s) (h : Holds b (λ a. (a ∈ f.body) × ItemOf s a)) where
  abbrev less : Translation
  less = record { source = s; target = f.target; body = b }

  was : (a : Entry) → a ∈ s → a ∈ f.source
  was a x = ((d.members a).0 x).0

  kept_mapping : (n t : ℕ) → Nonterminal s n → mapping n 0 t ∈ f.body → mapping n 0 t ∈ b
  kept_mapping n t x m = (h.members (mapping n 0 t)).1 (m, kind_of x)

  -- A reconstructor whose production is left is left.
  pub less_reconstructs : {n p : ℕ} {ks : List ℕ} {a : Code} → production n p ks ∈ s → Reconstructor f n p a → Reconstructor less n p a
  less_reconstructs {n} {p} {ks} {a} m x =
      let e : ks ≡ x.arguments = w.source.one_production (was _ m) x.entry in
      let m' : production n p x.arguments ∈ s = subst (λ (js : List ℕ). production n p js ∈ s) e m in
      record {
        arguments = x.arguments;
        kind = x.kind;
        entry = m';
        to = kept_mapping n x.kind (has_production_lem {p = p} {ks = ks} m) x.to;
        typed = has_larger (within_larger (λ a y. y)) (λ i t q. (q.0, q.1, kept_mapping q.0 t (is_argument m' (picked_in q.1)) q.2)) x.typed;
        stands = (h.members _).1 (x.stands, production_of_lem m);
      }

  less_ranges : KeepsRanges less
  less_ranges n t c x m = w.keeps_ranges n t c (was _ x) ((h.members (mapping n 0 t)).0 m).0

  less_formed : WellFormed less
  less_formed =
      let source = difference_formed f.source l s w.source d in
      record {
        one_number = λ a x. w.one_number a ((h.members a).0 x).0;
        in_order = h.in_order;
        source = source;
        target = w.target;
        maps = record {
          each = λ n x. let t = w.maps.each n (kinds_larger was x) in (t.0, kept_mapping n t.0 x t.1);
          only = λ n t m. let q = (h.members (mapping n 0 t)).0 m in (of_kind q.1, (w.maps.only n t q.0).1);
        };
        from_produced = ranges_produced less less_ranges;
        keeps_ranges = less_ranges;
        covers = λ n p ks x. let c = w.covers n p ks (was _ x) in (c.0, (h.members (clause n p 0 c.0)).1 (c.1, production_of_lem x));
        has_codes = λ n p c m.
            let q = (h.members (clause n p 0 c)).0 m in
            let x = w.has_codes n p c q.0 in
            (x.0, x.1, less_reconstructs (of_production q.1).1 x.2);
        one_code = code_one less (is_rising item_key b h.in_order) source w.target;
      }

difference_parts : (f : Translation) (l : Language) (h : Translation) → IsDifferenceX f l h → h ≡ record { source = h.source; target = f.target; body = h.body }
difference_parts f l h d = same_parts h (record { source = h.source; target = f.target; body = h.body }) refl d.target refl

-- What is left of a well-formed translation is well formed.
pub difference_formed_x : (f : Translation) (l : Language) (h : Translation) → WellFormed f → IsDifferenceX f l h → WellFormed h
difference_formed_x f l h w d = subst WellFormed (sym (difference_parts f l h d)) (less_formed f l h.source h.body w d.source d.body)

pub difference_reconstructs : (f : Translation) (l : Language) (h : Translation) → WellFormed f → IsDifferenceX f l h → {n p : ℕ} {ks : List ℕ} {a : Code}
    → production n p ks ∈ h.source → Reconstructor f n p a → Reconstructor h n p a
difference_reconstructs f l h w d {n} {p} {a = a} m x =
    subst (λ (k : Translation). Reconstructor k n p a) (sym (difference_parts f l h d)) (less_reconstructs f l h.source h.body w d.source d.body m x)

pub difference_one_x : (f : Translation) (l : Language) (h k : Translation) → IsDifferenceX f l h → IsDifferenceX f l k → h ≡ k
difference_one_x f l h k x y =
    let e : h.source ≡ k.source = difference_one f.source l h.source k.source x.source y.source in
    let z : Holds k.body (λ a. (a ∈ f.body) × ItemOf h.source a) = rw e y.body in
    same_parts h k e (x.target ∙ sym y.target) (same_bodies (λ a. (a ∈ f.body) × ItemOf h.source a) h k x.body z)

-- [RES], of the project's "without".
is_item_of : (l : Language) (a : Item) → is_of l a ≡ true → ItemOf l a
unfolding is_of
is_item_of l (mapping k j t) e = kind_of (in_nonterminal l k e)
is_item_of l (clause n p j c) e = let r = some_is (arguments_of l n p) e in production_of_lem {ks = r.0} (mem_in _ _ (arguments_mem l n p r.0 r.1))

item_is_of : (l : Language) → Rising entry_key l → (a : Item) → ItemOf l a → is_of l a ≡ true
unfolding is_of
item_is_of l r (mapping k j t) (kind_of n) = nonterminal_in n
item_is_of l r (clause n p j c) (production_of_lem {ks = ks} m) = is_some_lem (arguments_of l n p) (mem_arguments l r n p ks (in_mem m))

pub without_is_x : (f : Translation) (l : Language) → WellFormed f → IsDifferenceX f l (translation_without f l)
unfolding translation_without
without_is_x f l w =
    let left = language_without f.source l in
    let p = formed_proper f.source w.source in
    let rises = (proper_without f.source l p).rises in
    record {
      source = without_is f.source l p;
      target = refl;
      body = record {
        in_order = rising_is item_key _ (keep_from item_key (is_of left) 0 f.body (body_rises f w));
        members = λ a. (
          λ x. let r = keep_cases (is_of left) a f.body (in_mem x) in (mem_in _ _ r.0, is_item_of left a r.1),
          λ x. mem_in _ _ (mem_keep (is_of left) a f.body (in_mem x.0) (item_is_of left rises a x.1)),
        );
      };
    }

-- Compositions (C.15, C.16).
use Prim.Native.Nat.{ℕ}
use mathlib.Core.Path.{◌≡◌, refl, sym, subst, ◌∙◌}
use mathlib.Core.List.{List}
use Rattle.format_fields.proofs.Keyed.{is_rising}
use Rattle.tree_reader.specs.Code.{Code}
use Rattle.tree_reader.specs.Syntax.{write, code}
use Rattle.format_translation.specs.Translation.{Item, mapping, clause, Body, Translation, number_of, item_key}
use Rattle.report.specs.Sets.{◌∈◌}
use Rattle.report.specs.Languages.{LiesWithin}
use Rattle.report.specs.Typing.{HasKind, Mapped}
use Rattle.report.specs.Transformation.{Reconstructor, Transforms}
use Rattle.report.specs.WellFormed.{FromRegular, Maps, KeepsRanges, Covers, HasCodes, WellFormed}
use Rattle.report.specs.Translations.{Holds, Composed, composed_kind, composed_code, IsComposition}
use Rattle.report.proofs.Typing.{has_larger}
use Rattle.report.proofs.Languages.{within_kinds, within_larger}
use Rattle.report.proofs.Transformation.{has_reconstructor, typed_transforms, transformed_has}
use Rattle.report.proofs.WellFormed.{code_one, ranges_produced}
use Rattle.report.proofs.Sums.{same_parts, same_bodies}

-- What a composed item is made of.
composed_of_kind : {f g : Translation} {n t : ℕ} → Composed f g (mapping n 0 t) → (u : ℕ) × (mapping n 0 u ∈ g.body) × (mapping u 0 t ∈ f.body)
composed_of_kind (composed_kind {u = u} x y) = (u, x, y)

composed_of_code : {f g : Translation} {n p : ℕ} {c : List ℕ} → Composed f g (clause n p 0 c) → (a b : Code) × Reconstructor g n p a × Transforms f a b × (write code b ≡ c)
composed_of_code (composed_code {a = a} {b = b} x y) = (a, b, x, y, refl)

composed_number : {f g : Translation} (a : Item) → Composed f g a → number_of a ≡ 0
unfolding number_of
composed_number a (composed_kind x y) = refl
composed_number a (composed_code x y) = refl

module _ (f g : Translation) (b : Body) (wf : WellFormed f) (wg : WellFormed g) (w : LiesWithin g.target f.source) (d : Holds b (Composed f g)) where
  abbrev made : Translation
  made = record { source = g.source; target = f.target; body = b }

  -- The kind that a mapping of the second reaches is mapped on by the first.
  onward : (n u : ℕ) → mapping n 0 u ∈ g.body → (t : ℕ) × (mapping u 0 t ∈ f.body)
  onward n u x = wf.maps.each u (within_kinds w (wg.maps.only n u x).1)

  -- A reconstructor of the second is typed over the first's source.
  carried : {n p : ℕ} {a : Code} (x : Reconstructor g n p a) → HasKind f.source (Mapped g.body x.arguments) a x.kind
  carried x = has_larger w (λ i t q. q) x.typed

  made_reconstructs : {n p : ℕ} {a c : Code} → Reconstructor g n p a → Transforms f a c → Reconstructor made n p c
  made_reconstructs {n} {p} {a} {c} x y =
      let t = onward n x.kind x.to in
      record {
        arguments = x.arguments;
        kind = t.0;
        entry = x.entry;
        to = (d.members (mapping n 0 t.0)).1 (composed_kind x.to t.1);
        typed =
            has_larger (within_larger (λ e m. m))
            (λ i k q. (q.1.0, q.1.1, (d.members (mapping q.1.0 0 k)).1 (composed_kind q.1.2 q.2)))
            (transformed_has f wf (carried x) y t.1);
        stands = (d.members (clause n p 0 (write code c))).1 (composed_code x y);
      }

  made_maps : Maps made
  made_maps = record {
    each = λ n x.
        let u = wg.maps.each n x in
        let t = onward n u.0 u.1 in
        (t.0, (d.members (mapping n 0 t.0)).1 (composed_kind u.1 t.1));
    only = λ n t m.
        let c = composed_of_kind ((d.members (mapping n 0 t)).0 m) in
        ((wg.maps.only n c.0 c.1).0, (wf.maps.only c.0 t c.2).1);
  }

  made_ranges : KeepsRanges made
  made_ranges n t r x m =
      let c = composed_of_kind ((d.members (mapping n 0 t)).0 m) in
      let p = wg.keeps_ranges n c.0 r x c.1 in
      let q = w.classes p.1 in
      let s = wf.keeps_ranges c.0 t q.0 q.1 c.2 in
      (s.0, s.1, λ v e. s.2 v (q.2 v (p.2 v e)))

  made_covers : Covers made
  made_covers n p ks x =
      let r = has_reconstructor g wg n p ks x in
      let y = typed_transforms f wf (carried r.1) in
      (write code y.0, (d.members (clause n p 0 (write code y.0))).1 (composed_code r.1 y.1))

  made_codes : HasCodes made
  made_codes n p c m =
      let q = composed_of_code ((d.members (clause n p 0 c)).0 m) in
      (q.1, q.4, made_reconstructs q.2 q.3)

  made_formed : WellFormed made
  made_formed = record {
    one_number = λ a x. composed_number a ((d.members a).0 x);
    in_order = d.in_order;
    source = wg.source;
    target = wf.target;
    maps = made_maps;
    from_produced = ranges_produced made made_ranges;
    keeps_ranges = made_ranges;
    covers = made_covers;
    has_codes = made_codes;
    one_code = code_one made (is_rising item_key b d.in_order) wg.source wf.target;
  }

  made_regular : FromRegular f → FromRegular g → FromRegular made
  made_regular a e n t m r p ks x =
      let c = composed_of_kind ((d.members (mapping n 0 t)).0 m) in
      e n c.0 c.1 (λ q js y. a c.0 t c.2 r q js (w.productions y)) p ks x

-- C.16.
pub composition_formed : (f g h : Translation) → LiesWithin g.target f.source → WellFormed f → WellFormed g → IsComposition f g h → WellFormed h
composition_formed f g h w wf wg d =
    subst WellFormed (sym (same_parts h (record { source = g.source; target = f.target; body = h.body }) d.source d.target refl)) (made_formed f g h.body wf wg w d.body)

-- And with the first half of C.6 (ii).
pub composition_regular : (f g h : Translation) → LiesWithin g.target f.source → WellFormed f → WellFormed g → IsComposition f g h → FromRegular f → FromRegular g → FromRegular h
composition_regular f g h w wf wg d a b =
    subst FromRegular (sym (same_parts h (record { source = g.source; target = f.target; body = h.body }) d.source d.target refl)) (made_regular f g h.body wf wg w d.body a b)

pub composition_one : (f g h k : Translation) → IsComposition f g h → IsComposition f g k → h ≡ k
composition_one f g h k x y = same_parts h k (x.source ∙ sym y.source) (x.target ∙ sym y.target) (same_bodies (Composed f g) h k x.body y.body)

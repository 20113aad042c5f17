-- Sums of translations (C.12 to C.14).
use Prim.Native.Nat.{ℕ}
use mathlib.Core.Path.{◌≡◌, refl, ap, sym, subst, ◌∙◌}
use mathlib.Core.Logic.{◌⊎◌, inl, inr, ⊎_elim}
use mathlib.Core.List.{List}
use native.Mathlib.Omega.{arith}
use Rattle.format_fields.proofs.Keyed.{Agree, is_rising, rising_is, union_from}
use Rattle.format_language.specs.Language.{Entry, class, production, Language}
use Rattle.tree_reader.specs.Code.{Code}
use Rattle.tree_reader.specs.Syntax.{write, code}
use Rattle.format_translation.specs.Translation.{Item, mapping, clause, Translation, plain_key, number_of, item_key}
use Rattle.format_translation.proofs.Lookup.{mem_mapping}
use Rattle.reduce_operators.specs.Operators.{language_union, translation_union}
use Rattle.reduce_operators.proofs.SumSound.{TranslationsFit, union_covers}
use Rattle.format_translation.proofs.ItemParts.{mapping_parts, clause_parts}
use Rattle.report.specs.Sets.{◌∈◌}
use Rattle.report.specs.Languages.{Nonterminal, has_class, has_production_lem, is_argument, IsSum}
use Rattle.report.specs.Typing.{HasKind, Mapped}
use Rattle.report.specs.Transformation.{Reconstructor}
use Rattle.report.specs.WellFormed.{FromRegular, Maps, KeepsRanges, Covers, HasCodes, WellFormed}
use Rattle.report.specs.Translations.{Holds, CompatibleX, IsSumX}
use Rattle.report.proofs.Sets.{mem_in, in_mem, in_either, either_in, one_way}
use Rattle.report.proofs.Typing.{has_larger, picked_in}
use Rattle.report.proofs.Languages.{kinds_larger, sum_formed, within_larger, sum_one, in_nonterminal, fit_compatible, compatible_fit, union_is, formed_rises}
use Rattle.report.proofs.Codes.{written_one}
use Rattle.report.proofs.WellFormed.{code_one, ranges_produced, body_rises, mapping_zero, clause_zero, mapping_kinds, clause_entry_lem}

-- The kinds of a sum.
pub sum_kinds : (l m s : Language) → IsSum l m s → {n : ℕ} → Nonterminal s n → Nonterminal l n ⊎ Nonterminal m n
sum_kinds l m s d {n} (has_class {c = c} x) = ⊎_elim (λ y. inl (has_class {c = c} y)) (λ y. inr (has_class {c = c} y)) ((d.members (class n c)).0 x)
sum_kinds l m s d {n} (has_production_lem {p = p} {ks = ks} x) =
    ⊎_elim (λ y. inl (has_production_lem {p = p} {ks = ks} y)) (λ y. inr (has_production_lem {p = p} {ks = ks} y)) ((d.members (production n p ks)).0 x)
sum_kinds l m s d (is_argument {r = r} {p = p} {ks = ks} x k) = ⊎_elim (λ y. inl (is_argument y k)) (λ y. inr (is_argument y k)) ((d.members (production r p ks)).0 x)

-- A translation that has the entries and items of a well-formed one keeps its reconstructors.
pub record Part (f h : Translation) : Type 0 where
  pub source : (a : Entry) → a ∈ f.source → a ∈ h.source
  pub target : (a : Entry) → a ∈ f.target → a ∈ h.target
  pub body : (a : Item) → a ∈ f.body → a ∈ h.body

pub part_reconstructs : {f h : Translation} → Part f h → {n p : ℕ} {a : Code} → Reconstructor f n p a → Reconstructor h n p a
part_reconstructs w x = record {
  arguments = x.arguments;
  kind = x.kind;
  entry = w.source _ x.entry;
  to = w.body _ x.to;
  typed = has_larger (within_larger w.target) (λ i t q. (q.0, q.1, w.body _ q.2)) x.typed;
  stands = w.body _ x.stands;
}

module _ (f g h : Translation) (c : CompatibleX f g) (wf : WellFormed f) (wg : WellFormed g) (d : IsSumX f g h) where
  left : Part f h
  left = record { source = λ a x. (d.source.members a).1 (inl x); target = λ a x. (d.target.members a).1 (inl x); body = λ a x. (d.body.members a).1 (inl x) }

  right : Part g h
  right = record { source = λ a x. (d.source.members a).1 (inr x); target = λ a x. (d.target.members a).1 (inr x); body = λ a x. (d.body.members a).1 (inr x) }

  -- A mapping of the sum is that of each of the two that has the kind.
  left_mapping : (n t : ℕ) → Nonterminal f.source n → mapping n 0 t ∈ h.body → mapping n 0 t ∈ f.body
  left_mapping n t x m =
      ⊎_elim (λ y. y)
      (λ y. let r = wf.maps.each n x in subst (λ (u : ℕ). mapping n 0 u ∈ f.body) (c.same_kind r.1 y) r.1)
      ((d.body.members (mapping n 0 t)).0 m)

  right_mapping : (n t : ℕ) → Nonterminal g.source n → mapping n 0 t ∈ h.body → mapping n 0 t ∈ g.body
  right_mapping n t x m =
      ⊎_elim
      (λ y. let r = wg.maps.each n x in subst (λ (u : ℕ). mapping n 0 u ∈ g.body) (sym (c.same_kind y r.1)) r.1)
      (λ y. y)
      ((d.body.members (mapping n 0 t)).0 m)

  sum_maps : Maps h
  sum_maps = record {
    each = λ n x.
        ⊎_elim
        (λ y. let r = wf.maps.each n y in (r.0, left.body _ r.1))
        (λ y. let r = wg.maps.each n y in (r.0, right.body _ r.1))
        (sum_kinds f.source g.source h.source d.source x);
    only = λ n t m.
        ⊎_elim
        (λ y. let r = wf.maps.only n t y in (kinds_larger left.source r.0, kinds_larger left.target r.1))
        (λ y. let r = wg.maps.only n t y in (kinds_larger right.source r.0, kinds_larger right.target r.1))
        ((d.body.members (mapping n 0 t)).0 m);
  }

  sum_ranges : KeepsRanges h
  sum_ranges n t r x m =
      ⊎_elim
      (λ y. let q = wf.keeps_ranges n t r y (left_mapping n t (has_class {c = r} y) m) in (q.0, left.target _ q.1, q.2))
      (λ y. let q = wg.keeps_ranges n t r y (right_mapping n t (has_class {c = r} y) m) in (q.0, right.target _ q.1, q.2))
      ((d.source.members (class n r)).0 x)

  sum_covers : Covers h
  sum_covers n p ks x =
      ⊎_elim
      (λ y. let q = wf.covers n p ks y in (q.0, left.body _ q.1))
      (λ y. let q = wg.covers n p ks y in (q.0, right.body _ q.1))
      ((d.source.members (production n p ks)).0 x)

  sum_codes : HasCodes h
  sum_codes n p b m =
      ⊎_elim
      (λ y. let q = wf.has_codes n p b y in (q.0, q.1, part_reconstructs left q.2))
      (λ y. let q = wg.has_codes n p b y in (q.0, q.1, part_reconstructs right q.2))
      ((d.body.members (clause n p 0 b)).0 m)

  -- C.14.
  pub sum_formed_x : WellFormed h
  sum_formed_x =
      let s = sum_formed f.source g.source h.source c.sources wf.source wg.source d.source in
      let t = sum_formed f.target g.target h.target c.targets wf.target wg.target d.target in
      record {
        one_number = λ a x. ⊎_elim (λ y. wf.one_number a y) (λ y. wg.one_number a y) ((d.body.members a).0 x);
        in_order = d.body.in_order;
        source = s;
        target = t;
        maps = sum_maps;
        from_produced = ranges_produced h sum_ranges;
        keeps_ranges = sum_ranges;
        covers = sum_covers;
        has_codes = sum_codes;
        one_code = code_one h (is_rising item_key h.body d.body.in_order) s t;
      }

  -- And with the first half of C.6 (ii).
  pub sum_regular : FromRegular f → FromRegular g → FromRegular h
  sum_regular a b n t m r p ks x =
      ⊎_elim
      (λ y. a n t (left_mapping n t (has_production_lem {p = p} {ks = ks} y) m) (λ q js z. r q js (left.target _ z)) p ks y)
      (λ y. b n t (right_mapping n t (has_production_lem {p = p} {ks = ks} y) m) (λ q js z. r q js (right.target _ z)) p ks y)
      ((d.source.members (production n p ks)).0 x)

-- Translations of the same parts are equal.
pub same_parts : (h k : Translation) → h.source ≡ k.source → h.target ≡ k.target → h.body ≡ k.body → h ≡ k
same_parts h k a b c = λ i. record { source = a i; target = b i; body = c i }

pub same_bodies : (P : Item → Type 0) (h k : Translation) → Holds h.body P → Holds k.body P → h.body ≡ k.body
same_bodies P h k x y = one_way item_key P h.body k.body x.in_order y.in_order x.members y.members

pub sum_one_x : (f g h k : Translation) → IsSumX f g h → IsSumX f g k → h ≡ k
sum_one_x f g h k x y =
    same_parts h k (sum_one f.source g.source h.source k.source x.source y.source)
    (sum_one f.target g.target h.target k.target x.target y.target)
    (same_bodies (λ a. (a ∈ f.body) ⊎ (a ∈ g.body)) h k x.body y.body)

-- C.12, from the project's test.
module _ (f g : Translation) (wf : WellFormed f) (wg : WellFormed g) (h : TranslationsFit f g) where
  kinds_alike : {n t u : ℕ} → mapping n 0 t ∈ f.body → mapping n 0 u ∈ g.body → t ≡ u
  unfolding item_key plain_key number_of
  kinds_alike {n} {t} {u} x y = (mapping_parts (h.body (mapping n 0 t) (mapping n 0 u) (in_mem x) (in_mem y) refl)).2

  -- Argument kinds of a shared production are mapped alike.
  gaps_alike : {n p : ℕ} {ks : List ℕ} → production n p ks ∈ f.source → (i t : ℕ) → Mapped g.body ks i t → Mapped f.body ks i t
  gaps_alike x i t q =
      let r = wf.maps.each q.0 (is_argument x (picked_in q.1)) in
      (q.0, q.1, subst (λ (u : ℕ). mapping q.0 0 u ∈ f.body) (kinds_alike r.1 q.2) r.1)

  codes_alike : {n p : ℕ} {a b : Code} → Reconstructor f n p a → Reconstructor g n p b → a ≡ b
  unfolding item_key plain_key number_of language_union
  codes_alike {n} {p} {a} {b} x y =
      let e : write code a ≡ write code b = (clause_parts (h.body (clause n p 0 (write code a)) (clause n p 0 (write code b)) (in_mem x.stands) (in_mem y.stands) refl)).3 in
      let ks : y.arguments ≡ x.arguments = sym ((fit_compatible f.source g.source h.source).same_production x.entry y.entry) in
      let k : y.kind ≡ x.kind = sym (kinds_alike x.to y.to) in
      let u = language_union f.target g.target in
      let s = union_is f.target g.target (formed_rises f.target wf.target) (formed_rises g.target wg.target) h.target in
      let wu = sum_formed f.target g.target u (fit_compatible f.target g.target h.target) wf.target wg.target s in
      let ty : HasKind g.target (Mapped g.body x.arguments) b x.kind = rw (ks, k) at y.typed in
      written_one u wu f.body (body_rises f wf) x.arguments
      (has_larger (within_larger (λ a m. (s.members a).1 (inl m))) (λ i t q. q) x.typed)
      (has_larger (within_larger (λ a m. (s.members a).1 (inr m))) (gaps_alike x.entry) ty) e

  pub fit_compatible_x : CompatibleX f g
  fit_compatible_x = record {
    sources = fit_compatible f.source g.source h.source;
    targets = fit_compatible f.target g.target h.target;
    same_kind = kinds_alike;
    same_code = codes_alike;
  }

-- And to it.
module _ (f g : Translation) (wf : WellFormed f) (wg : WellFormed g) (h : CompatibleX f g) where
  bytes_alike : (n p : ℕ) (c d : List ℕ) → clause n p 0 c ∈ f.body → clause n p 0 d ∈ g.body → c ≡ d
  bytes_alike n p c d m k = of_codes (wf.has_codes n p c m) (wg.has_codes n p d k)
    where
      of_codes : (a : Code) × (write code a ≡ c) × Reconstructor f n p a → (b : Code) × (write code b ≡ d) × Reconstructor g n p b → c ≡ d
      of_codes (a, x, r) (b, y, s) = sym x ∙ (ap (write code) (h.same_code r s) ∙ y)

  items_agree : Agree item_key f.body g.body
  unfolding item_key plain_key number_of
  items_agree (mapping s i t) (mapping u j v) x y e =
      let a = mapping_zero f wf s i t x in
      let b = mapping_zero g wg u j v y in
      let z : s ≡ u = omega arith in
      let m : mapping s 0 t ∈ f.body = mem_in _ _ (rw a at x) in
      let n : mapping s 0 v ∈ g.body = rw z (mem_in _ _ (rw b at y)) in
      let q : i ≡ j = a ∙ sym b in
      λ k. mapping (z k) (q k) (h.same_kind m n k)
  items_agree (mapping s i t) (clause q m j d) x y e =
      let a = mapping_zero f wf s i t x in
      let b = (mapping_kinds f wf s i t x).0 in
      absurd (omega arith)
  items_agree (clause r p i c) (mapping u j v) x y e =
      let a = mapping_zero g wg u j v y in
      let b = (mapping_kinds g wg u j v y).0 in
      absurd (omega arith)
  items_agree (clause r p i c) (clause q o j d) x y e =
      let a = clause_zero f wf r p i c x in
      let b = clause_zero g wg q o j d y in
      let k = (wf.source.writable _ (clause_entry_lem f wf r p i c x).1).1 in
      let l = (wg.source.writable _ (clause_entry_lem g wg q o j d y).1).1 in
      let z : r ≡ q = omega arith in
      let w : p ≡ o = omega arith in
      let m : clause r p 0 c ∈ f.body = mem_in _ _ (rw a at x) in
      let n : clause r p 0 d ∈ g.body = rw (z, w) (mem_in _ _ (rw b at y)) in
      let v : i ≡ j = a ∙ sym b in
      let s : c ≡ d = bytes_alike r p c d m n in
      λ t. clause (z t) (w t) (v t) (s t)

  pub compatible_fit_x : TranslationsFit f g
  compatible_fit_x = record {
    source = compatible_fit f.source g.source wf.source wg.source h.sources;
    target = compatible_fit f.target g.target wf.target wg.target h.targets;
    left = λ k j t m e. let r = wg.maps.each k (in_nonterminal g.source k e) in (r.0, rw (mapping_zero f wf k j t m) (mem_mapping g.body (body_rises g wg) k 0 r.0 (in_mem r.1)));
    right = λ k j t m e. let r = wf.maps.each k (in_nonterminal f.source k e) in (r.0, rw (mapping_zero g wg k j t m) (mem_mapping f.body (body_rises f wf) k 0 r.0 (in_mem r.1)));
    body = items_agree;
  }

-- C.13.
pub union_is_x : (f g : Translation) → WellFormed f → WellFormed g → TranslationsFit f g → IsSumX f g (translation_union f g)
unfolding translation_union
union_is_x f g s t h =
    let c = union_covers item_key f.body g.body (body_rises f s) h.body in
    record {
      source = union_is f.source g.source (formed_rises f.source s.source) (formed_rises g.source t.source) h.source;
      target = union_is f.target g.target (formed_rises f.target s.target) (formed_rises g.target t.target) h.target;
      body = record {
        in_order = rising_is item_key _ (union_from item_key 0 f.body g.body (body_rises f s) (body_rises g t));
        members = λ a. (λ x. in_either (c.only a (in_mem x)), λ x. mem_in _ _ (⊎_elim (λ y. c.left a y) (λ y. c.right a y) (either_in x)));
      };
    }

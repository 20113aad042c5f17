-- Appendix B: what is proved there (B.5, B.7, B.9), and that the operators of the project are these.
use Prim.Native.Nat.{ℕ, ◌<◌}
use mathlib.Core.Path.{◌≡◌, refl, ap, sym}
use mathlib.Core.Logic.{◌⊎◌, ⊎_elim}
use mathlib.Core.Bool.{true, not, ◌&&◌}
use mathlib.Core.List.{List}
use native.Mathlib.Omega.{arith}
use lib.ListN.{length}
use lib.Dec.{eqb, leb, ltb}
use borrow.Author.Tests.{eqb-true, eq-eqb, lt-ltb, le-leb}
use Rattle.format_fields.specs.Lists.{any, all}
use Rattle.format_fields.specs.Keyed.{without, within, holds}
use Rattle.format_fields.proofs.Truth.{Mem, false_true, and_both, both_and, or_cases, any_mem, mem_any, all_mem, mem_all, mem_keep, keep_cases, not_true, not_both, refuted}
use Rattle.format_fields.proofs.Keyed.{Rising, Agree, is_rising, rising_is, from_agree, union_from, holds_mem, mem_holds}
use Rattle.format_language.specs.Language.{Entry, class, production, Language, entry_key, same_entry, Range, range_within, mentions, is_in}
use Rattle.format_language.specs.LanguageFile.{is_kind, range_whole}
use Rattle.format_language.proofs.Lookup.{same_equal, equal_same, class_in, result_in, argument_in}
use Rattle.format_language.proofs.Lookup as Lookup
use Rattle.format_language.proofs.Ranges.{all_within_lem, value_within}
use Rattle.format_language.proofs.Codec.{entry_whole}
use Rattle.reduce_operators.specs.Operators.{language_union, language_without, entry_within}
use Rattle.reduce_operators.proofs.Proper.{Proper}
use Rattle.reduce_operators.proofs.SumSound.{LanguagesFit, union_covers, proper_without}
use Rattle.report.specs.Sets.{◌∈◌}
use Rattle.report.specs.Languages.{Nonterminal, has_class, has_production_lem, is_argument, Writable, WellFormedLanguage, Compatible, IsSum, IsDifference, Contained, LiesWithin}
use Rattle.report.proofs.Sets.{mem_in, in_mem, in_either, either_in, one_way}

-- Where the entries of one language are in another, so are its kinds.
pub kinds_larger : {l m : Language} → ((a : Entry) → a ∈ l → a ∈ m) → {n : ℕ} → Nonterminal l n → Nonterminal m n
kinds_larger h (has_class {c = c} x) = has_class {c = c} (h _ x)
kinds_larger h (has_production_lem {p = p} {ks = ks} x) = has_production_lem {p = p} {ks = ks} (h _ x)
kinds_larger h (is_argument x k) = is_argument (h _ x) k

-- B.5.
pub sum_formed : (l m s : Language) → Compatible l m → WellFormedLanguage l → WellFormedLanguage m → IsSum l m s → WellFormedLanguage s
sum_formed l m s c wl wm d = record {
  in_order = d.in_order;
  writable = λ a x. ⊎_elim (λ y. wl.writable a y) (λ y. wm.writable a y) ((d.members a).0 x);
  one_range = λ {n} {c = a} {d = b} x y.
      ⊎_elim
      (λ p. ⊎_elim (λ q. wl.one_range p q) (λ q. c.same_range p q) ((d.members (class n b)).0 y))
      (λ p. ⊎_elim (λ q. sym (c.same_range q p)) (λ q. wm.one_range p q) ((d.members (class n b)).0 y))
      ((d.members (class n a)).0 x);
  not_both = λ {n} {p} {c = a} {ks} x y.
      ⊎_elim
      (λ u. ⊎_elim (λ v. wl.not_both u v) (λ v. c.left_apart u v) ((d.members (production n p ks)).0 y))
      (λ u. ⊎_elim (λ v. c.right_apart u v) (λ v. wm.not_both u v) ((d.members (production n p ks)).0 y))
      ((d.members (class n a)).0 x);
  one_production = λ {n} {p} {ks} {js} x y.
      ⊎_elim
      (λ u. ⊎_elim (λ v. wl.one_production u v) (λ v. c.same_production u v) ((d.members (production n p js)).0 y))
      (λ u. ⊎_elim (λ v. sym (c.same_production v u)) (λ v. wm.one_production u v) ((d.members (production n p js)).0 y))
      ((d.members (production n p ks)).0 x);
}

-- B.7.
pub difference_formed : (l m s : Language) → WellFormedLanguage l → IsDifference l m s → WellFormedLanguage s
difference_formed l m s w d = record {
  in_order = d.in_order;
  writable = λ a x. w.writable a ((d.members a).0 x).0;
  one_range = λ {n} {c = a} {d = b} x y. w.one_range ((d.members (class n a)).0 x).0 ((d.members (class n b)).0 y).0;
  not_both = λ {n} {p} {c = a} {ks} x y. w.not_both ((d.members (class n a)).0 x).0 ((d.members (production n p ks)).0 y).0;
  one_production = λ {n} {p} {ks} {js} x y. w.one_production ((d.members (production n p ks)).0 x).0 ((d.members (production n p js)).0 y).0;
}

-- B.9.
pub within_kinds : {l m : Language} → LiesWithin l m → {n : ℕ} → Nonterminal l n → Nonterminal m n
within_kinds w (has_class x) = let d = w.classes x in has_class {c = d.0} d.1
within_kinds w (has_production_lem {p = p} {ks = ks} x) = has_production_lem {p = p} {ks = ks} (w.productions x)
within_kinds w (is_argument x k) = is_argument (w.productions x) k

-- A language lies within itself, and within each that has its entries.
pub within_larger : {l m : Language} → ((a : Entry) → a ∈ l → a ∈ m) → LiesWithin l m
within_larger h = record { classes = λ {n} {c} x. (c, h (class n c) x, λ v e. e); productions = λ {n} {p} {ks} x. h (production n p ks) x }

-- What B.4 and B.6 ask for is one language at most.
pub sum_one : (l m n o : Language) → IsSum l m n → IsSum l m o → n ≡ o
sum_one l m n o x y = one_way entry_key (λ a. (a ∈ l) ⊎ (a ∈ m)) n o x.in_order y.in_order x.members y.members

pub difference_one : (l m n o : Language) → IsDifference l m n → IsDifference l m o → n ≡ o
difference_one l m n o x y = one_way entry_key (λ a. (a ∈ l) × (a ∈ m → ⊥)) n o x.in_order y.in_order x.members y.members

-- The kinds of a language, as the project has them.
pub nonterminal_in : {l : Language} {k : ℕ} → Nonterminal l k → is_in l k ≡ true
nonterminal_in {l} {k} (has_class m) = class_in l k _ (in_mem m)
nonterminal_in {l} {k} (has_production_lem m) = result_in l k _ _ (in_mem m)
nonterminal_in {l} {k} (is_argument m n) = argument_in l _ _ _ (in_mem m) k (in_mem n)

pub in_nonterminal : (l : Language) (k : ℕ) → is_in l k ≡ true → Nonterminal l k
unfolding mentions
in_nonterminal l k e = let r = Lookup.in_mem l k e in go r.0 r.1 r.2
  where
    go : (a : Entry) → Mem a l → mentions k a ≡ true → Nonterminal l k
    go (class j c) m q = has_class {c = c} (mem_in _ _ (rw (eqb-true j k q) at m))
    go (production r p ks) m q =
        ⊎_elim
        (λ d. has_production_lem {p = p} {ks = ks} (mem_in _ _ (rw (eqb-true r k d) at m)))
        (λ d. let x = any_mem (λ a. eqb a k) ks d in is_argument (mem_in _ _ m) (mem_in _ _ (rw (eqb-true x.0 k x.2) at x.1)))
        (or_cases (eqb r k) (any (λ a. eqb a k) ks) q)

class_inj : {k j : ℕ} {c d : Range} → class k c ≡ class j d → c ≡ d
class_inj e = cc

production_inj : {r p s q : ℕ} {ks js : List ℕ} → production r p ks ≡ production s q js → ks ≡ js
production_inj e = cc

-- Entries of one key in two lists that agree.
module _ (l m : Language) (h : Agree entry_key l m) where
  ranges_agree : {k : ℕ} {c d : Range} → class k c ∈ l → class k d ∈ m → c ≡ d
  unfolding entry_key
  ranges_agree {k} {c} {d} x y = class_inj (h (class k c) (class k d) (in_mem x) (in_mem y) refl)

  productions_agree : {n p : ℕ} {ks js : List ℕ} → production n p ks ∈ l → production n p js ∈ m → ks ≡ js
  unfolding entry_key
  productions_agree {n} {p} {ks} {js} x y = production_inj (h (production n p ks) (production n p js) (in_mem x) (in_mem y) refl)

-- What a file can hold is well formed, where names and values are bytes.
pub proper_formed : (l : Language) → Proper l → ((a : Entry) → a ∈ l → Writable a) → WellFormedLanguage l
proper_formed l p b = record {
  in_order = rising_is entry_key l p.rises;
  writable = b;
  one_range = ranges_agree l l (from_agree entry_key 0 l p.rises);
  not_both = λ {n} {p = q} {c} {ks} x y. p.apart n c q ks (in_mem x) (in_mem y);
  one_production = productions_agree l l (from_agree entry_key 0 l p.rises);
}

-- And a well-formed language is one that a file can hold, but for its size.
writable_whole : (a : Entry) → Writable a → entry_whole a ≡ true
unfolding entry_whole range_whole
writable_whole (class k c) w = both_and (is_kind k) (leb c.low c.high && ltb 0 c.step) (lt-ltb k 32 w.0) (both_and (leb c.low c.high) (ltb 0 c.step) (le-leb c.low c.high w.1) (lt-ltb 0 c.step w.3))
writable_whole (production n p ks) w =
    both_and (is_kind n) (leb (length ks) 8 && all is_kind ks) (lt-ltb n 32 w.0)
    (both_and (leb (length ks) 8) (all is_kind ks) (le-leb (length ks) 8 w.2) (mem_all is_kind ks (λ k m. lt-ltb k 32 (w.3 k (mem_in k ks m)))))

pub formed_proper : (l : Language) → WellFormedLanguage l → Proper l
formed_proper l w = record {
  whole = λ a m. writable_whole a (w.writable a (mem_in a l m));
  rises = is_rising entry_key l w.in_order;
  apart = λ k c p ks x y. w.not_both (mem_in _ _ x) (mem_in _ _ y);
}

pub formed_rises : (l : Language) → WellFormedLanguage l → Rising entry_key l
formed_rises l w = is_rising entry_key l w.in_order

-- Kinds of a well-formed language are below 32.
pub kind_below : {l : Language} → WellFormedLanguage l → {n : ℕ} → Nonterminal l n → n < 32
kind_below w (has_class m) = (w.writable _ m).0
kind_below w (has_production_lem m) = (w.writable _ m).0
kind_below w {n} (is_argument m k) = (w.writable _ m).3 n k

-- B.3.
pub fit_compatible : (l m : Language) → LanguagesFit l m → Compatible l m
fit_compatible l m h = record {
  same_range = ranges_agree l m h.agrees;
  left_apart = λ {n} {p = q} {c} {ks} x y. h.left n c q ks (in_mem x) (in_mem y);
  right_apart = λ {n} {p = q} {c} {ks} x y. h.right n c q ks (in_mem x) (in_mem y);
  same_production = productions_agree l m h.agrees;
}

-- Entries of one key of two compatible languages are equal.
module _ (l m : Language) (p : WellFormedLanguage l) (q : WellFormedLanguage m) (h : Compatible l m) where
  entries_agree : Agree entry_key l m
  unfolding entry_key
  entries_agree (class k c) (class j d) x y e =
      let z : class k d ∈ m = rw e (mem_in _ _ y) in
      λ i. class (e i) (h.same_range (mem_in _ _ x) z i)
  entries_agree (class k c) (production s n js) x y e = let b = (p.writable (class k c) (mem_in _ _ x)).0 in absurd (omega arith)
  entries_agree (production r o ks) (class j d) x y e = let b = (q.writable (class j d) (mem_in _ _ y)).0 in absurd (omega arith)
  entries_agree (production r o ks) (production s n js) x y e =
      let u = (p.writable (production r o ks) (mem_in _ _ x)).1 in
      let v = (q.writable (production s n js) (mem_in _ _ y)).1 in
      let f : r ≡ s = omega arith in
      let g : o ≡ n = omega arith in
      let z : production r o js ∈ m = rw (f, g) (mem_in _ _ y) in
      λ i. production (f i) (g i) (h.same_production (mem_in _ _ x) z i)

  pub compatible_fit : LanguagesFit l m
  compatible_fit = record {
    agrees = entries_agree;
    left = λ k c o ks x y. h.left_apart (mem_in _ _ x) (mem_in _ _ y);
    right = λ k c o ks x y. h.right_apart (mem_in _ _ x) (mem_in _ _ y);
  }

-- B.4.
pub union_is : (l m : Language) → Rising entry_key l → Rising entry_key m → LanguagesFit l m → IsSum l m (language_union l m)
unfolding language_union
union_is l m p q h =
    let c = union_covers entry_key l m p h.agrees in
    record {
      in_order = rising_is entry_key _ (union_from entry_key 0 l m p q);
      members = λ a. (λ x. in_either (c.only a (in_mem x)), λ x. mem_in _ _ (⊎_elim (λ y. c.left a y) (λ y. c.right a y) (either_in x)));
    }

-- B.6.
mem_without : (a : Entry) (l m : Language) → Mem a l → (Mem a m → ⊥) → Mem a (without same_entry l m)
unfolding without
mem_without a l m x h = mem_keep (λ b. not (holds same_entry m b)) a l x (ap not (refuted (holds same_entry m a) (λ e. h (holds_mem same_entry same_equal equal_same m a e))))

without_cases : (a : Entry) (l m : Language) → Mem a (without same_entry l m) → Mem a l × (Mem a m → ⊥)
unfolding without
without_cases a l m x =
    let r = keep_cases (λ b. not (holds same_entry m b)) a l x in
    (r.0, λ y. not_both (mem_holds same_entry same_equal equal_same m a y) (not_true (holds same_entry m a) r.1))

pub without_is : (l m : Language) → Proper l → IsDifference l m (language_without l m)
unfolding language_without
without_is l m p = record {
  in_order = rising_is entry_key _ (proper_without l m p).rises;
  members = λ a. (
    λ x. let r = without_cases a l m (in_mem x) in (mem_in _ _ r.0, λ y. r.1 (in_mem y)),
    λ x. mem_in _ _ (mem_without a l m (in_mem x.0) (λ y. x.1 (mem_in _ _ y))),
  );
}

-- B.8.
class_lies : (k : ℕ) (c : Range) (m : Language) (b : Entry) → Mem b m → entry_within (class k c) b ≡ true → (d : Range) × (class k d ∈ m) × Contained c d
unfolding entry_within
class_lies k c m (class j d) x e =
    let r = and_both (eqb k j) (range_within c d) e in
    (d, mem_in _ _ (rw (eqb-true k j r.0) x), value_within c d r.1)
class_lies k c m (production s q js) x e = false_true e

production_lies : (b : Entry) (n p : ℕ) (ks : List ℕ) (m : Language) → Mem b m → entry_within (production n p ks) b ≡ true → production n p ks ∈ m
unfolding entry_within
production_lies b n p ks m x e = mem_in _ _ (rw (same_equal (production n p ks) b e) x)

pub within_lies : (l m : Language) → within entry_within l m ≡ true → LiesWithin l m
unfolding within holds
within_lies l m e = record {
  classes = λ {n} {c} x.
      let r = any_mem (entry_within (class n c)) m (all_mem (holds entry_within m) l e (class n c) (in_mem x)) in
      class_lies n c m r.0 r.1 r.2;
  productions = λ {n} {p} {ks} x.
      let r = any_mem (entry_within (production n p ks)) m (all_mem (holds entry_within m) l e (production n p ks) (in_mem x)) in
      production_lies r.0 n p ks m r.1 r.2;
}

pub lies_within : (l m : Language) → LiesWithin l m → within entry_within l m ≡ true
unfolding within holds entry_within
lies_within l m h = mem_all (holds entry_within m) l (λ a x. go a x)
  where
    go : (a : Entry) → Mem a l → holds entry_within m a ≡ true
    go (class k c) x =
        let r = h.classes (mem_in _ _ x) in
        mem_any (entry_within (class k c)) m (class k r.0) (in_mem r.1) (both_and (eqb k k) (range_within c r.0) (eq-eqb k k refl) (all_within_lem c r.0 r.2))
    go (production n p ks) x =
        mem_any (entry_within (production n p ks)) m (production n p ks) (in_mem (h.productions (mem_in _ _ x))) (equal_same (production n p ks))

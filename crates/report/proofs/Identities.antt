-- Identities (C.17, C.18).
use Prim.Native.Nat.{ℕ, suc, ◌+◌}
use mathlib.Core.Path.{◌≡◌, refl, ap, sym, subst, ◌∙◌}
use mathlib.Core.Logic.{inl, inr, ⊎_elim}
use mathlib.Core.List.{List, [], ◌∷◌, map}
use native.Mathlib.Omega.{arith}
use Rattle.format_fields.specs.Lists.{keep, concat_map}
use Rattle.format_fields.proofs.Truth.{Mem, mem_keep, keep_cases, mem_map, map_cases, mem_append, append_cases, mem_concat, concat_cases, mem_count}
use Rattle.format_fields.proofs.Keyed.{is_rising, rising_is}
use Rattle.format_language.specs.Language.{Entry, class, production, Language, is_in}
use Rattle.tree_reader.specs.Code.{node, argument, Codes, cons}
use Rattle.tree_reader.specs.Syntax.{write, code}
use Rattle.format_translation.specs.Translation.{Item, mapping, clause, Body, Translation, number_of, item_key}
use Rattle.format_translation.specs.WellFormed.{kinds}
use Rattle.reduce_operators.specs.Operators.{arguments_from, identity_clause, identity_of}
use Rattle.reduce_operators.proofs.IdentitySound.{sound_identity}
use Rattle.report.specs.Sets.{◌∈◌, here, later}
use Rattle.report.specs.Languages.{Nonterminal, is_argument, has_production_lem, WellFormedLanguage}
use Rattle.report.specs.Typing.{Picked, picked_first, picked_later, has_argument, has_node, HaveKinds, have_none, have_more, Mapped}
use Rattle.report.specs.Transformation.{Reconstructor}
use Rattle.report.specs.WellFormed.{FromRegular, KeepsRanges, WellFormed}
use Rattle.report.specs.Translations.{Holds, gaps_from, Unchanged, same_kind, same_production, IsIdentity}
use Rattle.report.proofs.Sets.{mem_in, in_mem}
use Rattle.report.proofs.Languages.{nonterminal_in, in_nonterminal, formed_proper, kind_below}
use Rattle.report.proofs.WellFormed.{code_one, ranges_produced}
use Rattle.report.proofs.Sums.{same_parts, same_bodies}

-- What an unchanged item is made of.
pub unchanged_kind : {l : Language} {n t : ℕ} → Unchanged l (mapping n 0 t) → Nonterminal l n × (t ≡ n)
unchanged_kind (same_kind x) = (x, refl)

pub unchanged_code : {l : Language} {n p : ℕ} {c : List ℕ} → Unchanged l (clause n p 0 c) → (ks : List ℕ) × (production n p ks ∈ l) × (write code (node n p (gaps_from 1 ks)) ≡ c)
unchanged_code (same_production {ks = ks} x) = (ks, x, refl)

unchanged_number : {l : Language} (a : Item) → Unchanged l a → number_of a ≡ 0
unfolding number_of
unchanged_number a (same_kind x) = refl
unchanged_number a (same_production x) = refl

-- The arguments in order are of the kinds in order.
gaps_have : (l : Language) (b : Body) (js ks : List ℕ) (m : ℕ) → ((i k : ℕ) → Picked ks (suc i) k → Picked js (suc (m + i)) k)
    → ((k : ℕ) → k ∈ ks → mapping k 0 k ∈ b) → HaveKinds l (Mapped b js) (gaps_from (suc m) ks) ks
unfolding gaps_from
gaps_have l b js [] m h same = have_none
gaps_have l b js (k ∷ ks) m h same =
    let z : m + 0 ≡ m = omega arith in
    let q : Picked js (suc m) k = subst (λ (x : ℕ). Picked js (suc x) k) z (h 0 k picked_first) in
    have_more (has_argument (k, q, same k here))
    (gaps_have l b js ks (suc m) (λ i x p. let y : m + suc i ≡ suc m + i = omega arith in subst (λ (v : ℕ). Picked js (suc v) x) y (h (suc i) x (picked_later p))) (λ x n. same x (later n)))

module _ (l : Language) (b : Body) (w : WellFormedLanguage l) (d : Holds b (Unchanged l)) where
  abbrev same : Translation
  same = record { source = l; target = l; body = b }

  to_itself : (n : ℕ) → Nonterminal l n → mapping n 0 n ∈ b
  to_itself n x = (d.members (mapping n 0 n)).1 (same_kind x)

  pub same_reconstructs : {n p : ℕ} {ks : List ℕ} → production n p ks ∈ l → Reconstructor same n p (node n p (gaps_from 1 ks))
  same_reconstructs {n} {p} {ks} x = record {
    arguments = ks;
    kind = n;
    entry = x;
    to = to_itself n (has_production_lem {p = p} {ks = ks} x);
    typed =
        has_node x
        (gaps_have l b ks ks 0 (λ i k q. let z : i ≡ 0 + i = omega arith in subst (λ (v : ℕ). Picked ks (suc v) k) z q) (λ k m. to_itself k (is_argument x m)));
    stands = (d.members (clause n p 0 (write code (node n p (gaps_from 1 ks))))).1 (same_production x);
  }

  same_ranges : KeepsRanges same
  same_ranges n t c x m =
      let q = unchanged_kind ((d.members (mapping n 0 t)).0 m) in
      (c, subst (λ (k : ℕ). class k c ∈ l) (sym q.1) x, λ v e. e)

  same_formed : WellFormed same
  same_formed =
      record {
        one_number = λ a x. unchanged_number a ((d.members a).0 x);
        in_order = d.in_order;
        source = w;
        target = w;
        maps = record {
          each = λ n x. (n, to_itself n x);
          only = λ n t m. let q = unchanged_kind ((d.members (mapping n 0 t)).0 m) in (q.0, subst (Nonterminal l) (sym q.1) q.0);
        };
        from_produced = ranges_produced same same_ranges;
        keeps_ranges = same_ranges;
        covers = λ n p ks x. (write code (node n p (gaps_from 1 ks)), (d.members (clause n p 0 (write code (node n p (gaps_from 1 ks))))).1 (same_production x));
        has_codes = λ n p c m.
            let q = unchanged_code ((d.members (clause n p 0 c)).0 m) in
            (node n p (gaps_from 1 q.0), q.2, same_reconstructs q.1);
        one_code = code_one same (is_rising item_key b d.in_order) w w;
      }

  same_regular : FromRegular same
  same_regular n t m r p ks x = let q = unchanged_kind ((d.members (mapping n 0 t)).0 m) in r p ks (subst (λ (k : ℕ). production k p ks ∈ l) (sym q.1) x)

-- A translation that is an identity, as the record of its parts.
identity_parts : (l : Language) (h : Translation) → IsIdentity l h → h ≡ record { source = l; target = l; body = h.body }
identity_parts l h d = same_parts h (record { source = l; target = l; body = h.body }) d.source d.target refl

-- C.18.
pub identity_formed : (l : Language) (h : Translation) → WellFormedLanguage l → IsIdentity l h → WellFormed h
identity_formed l h w d = subst WellFormed (sym (identity_parts l h d)) (same_formed l h.body w d.body)

-- And with the first half of C.6 (ii).
pub identity_regular : (l : Language) (h : Translation) → WellFormedLanguage l → IsIdentity l h → FromRegular h
identity_regular l h w d = subst FromRegular (sym (identity_parts l h d)) (same_regular l h.body w d.body)

pub identity_reconstructs : (l : Language) (h : Translation) → WellFormedLanguage l → IsIdentity l h → {n p : ℕ} {ks : List ℕ} → production n p ks ∈ l
    → Reconstructor h n p (node n p (gaps_from 1 ks))
identity_reconstructs l h w d {n} {p} {ks} x =
    subst (λ (k : Translation). Reconstructor k n p (node n p (gaps_from 1 ks))) (sym (identity_parts l h d)) (same_reconstructs l h.body w d.body x)

pub identity_one : (l : Language) (h k : Translation) → IsIdentity l h → IsIdentity l k → h ≡ k
identity_one l h k x y = same_parts h k (x.source ∙ sym y.source) (x.target ∙ sym y.target) (same_bodies (Unchanged l) h k x.body y.body)

-- C.17, of the project's identity.
gaps_are : (i : ℕ) (ks : List ℕ) → gaps_from i ks ≡ arguments_from i ks
unfolding gaps_from arguments_from
gaps_are i [] = refl
gaps_are i (k ∷ ks) = ap (cons (argument i 0)) (gaps_are (suc i) ks)

clause_unchanged : (l : Language) (a : Entry) (x : Item) → Mem a l → Mem x (identity_clause a) → Unchanged l x
unfolding identity_clause
clause_unchanged l (class k c) x m n = absurd n
clause_unchanged l (production r p ks) x m (inl e) =
    let q : Unchanged l (clause r p 0 (write code (node r p (gaps_from 1 ks)))) = same_production (mem_in _ _ m) in
    rw e (rw (gaps_are 1 ks) at q)
clause_unchanged l (production r p ks) x m (inr e) = absurd e

module _ (l : Language) (w : WellFormedLanguage l) where
  abbrev mappings : Body
  mappings = map (λ k. mapping k 0 k) (keep (is_in l) kinds)

  abbrev clauses : Body
  clauses = concat_map identity_clause l

  identity_unchanged : (a : Item) → Mem a (identity_of l).body → Unchanged l a
  unfolding identity_of
  identity_unchanged a m =
      ⊎_elim
      (λ q.
      let r = map_cases (λ k. mapping k 0 k) a (keep (is_in l) kinds) q in
      let t = keep_cases (is_in l) r.0 kinds r.1 in
      rw r.2 (same_kind (in_nonterminal l r.0 t.1)))
      (λ q. let r = concat_cases identity_clause a l q in clause_unchanged l r.0 a r.1 r.2)
      (append_cases a mappings clauses m)

  unchanged_identity : (a : Item) → Unchanged l a → Mem a (identity_of l).body
  unfolding identity_of kinds identity_clause
  unchanged_identity a (same_kind {n = k} n) =
      let e = nonterminal_in n in
      mem_append (mapping k 0 k) mappings clauses (inl (mem_map (λ j. mapping j 0 j) k (keep (is_in l) kinds) (mem_keep (is_in l) k kinds (mem_count 32 0 k (omega arith) (kind_below w n)) e)))
  unchanged_identity a (same_production {n = n} {p = p} {ks = ks} m) =
      let x = clause n p 0 (write code (node n p (gaps_from 1 ks))) in
      mem_append x mappings clauses (inr (mem_concat identity_clause (production n p ks) x l (in_mem m) (inl (ap (λ (t : Codes). clause n p 0 (write code (node n p t))) (gaps_are 1 ks)))))

  pub identity_is : IsIdentity l (identity_of l)
  unfolding identity_of
  identity_is = record {
    source = refl;
    target = refl;
    body = record {
      in_order = rising_is item_key _ (sound_identity l (formed_proper l w)).rises;
      members = λ a. (λ x. identity_unchanged a (in_mem x), λ x. mem_in _ _ (unchanged_identity a x));
    };
  }

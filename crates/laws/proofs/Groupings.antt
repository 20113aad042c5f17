-- Two groupings of three joins have the same value where both have one.
use Prim.Native.Nat.{ℕ, zero, suc, ◌/◌, ◌%◌}
use mathlib.Core.Path.{◌≡◌, ap, sym, subst, ◌∙◌}
use mathlib.Core.Bool.{true}
use mathlib.Core.Option.{some}
use mathlib.Core.List.{List, map}
use native.Mathlib.Omega.{arith}
use Rattle.outcome.specs.Outcome.{value}
use Rattle.format_fields.proofs.Truth.{Mem, none_some}
use Rattle.format_fields.proofs.Keyed.{rising_ext}
use Rattle.format_language.specs.Language.{Language, arguments_of}
use Rattle.format_language.proofs.Lookup.{mem_arguments}
use Rattle.tree_reader.specs.Code.{Code, Codes}
use Rattle.tree_reader.specs.Typing.{Uses, kind_at, Typed, TypedAll, typed_node, typed_token, typed_argument, typed_nil, typed_cons}
use Rattle.tree_reader.specs.Syntax.{write, code}
use Rattle.tree_reader.proofs.Larger.{typed_larger}
use Rattle.format_translation.specs.Translation.{Item, mapping, clause, Translation, item_key, mapping_of, mapped}
use Rattle.format_translation.specs.Running.{paired, run, clauses_of}
use Rattle.format_translation.proofs.Lookup.{mapping_mem, mem_mapping, number_mem, mem_number}
use Rattle.format_translation.proofs.Running.{ByZero, ByZeroAll, pair_whole}
use Rattle.format_translation.proofs.Preserved.{use_kind}
use Rattle.format_translation.proofs.Fitting.{fit_carries}
use Rattle.format_pack.specs.Terms.{Term, translations, join}
use Rattle.reduce_operators.specs.Operators.{numbers_low, joined}
use Rattle.reduce_operators.specs.Inner.Paired.{reached, paired_item}
use Rattle.reduce_signs.specs.Evaluation.{Constants, nothing_bound, evaluate}
use Rattle.reduce_operators.proofs.JoinRises.{mem_join, join_cases, joined_rises}
use Rattle.reduce_operators.proofs.JoinSound.{target_larger, join_lies}
use Rattle.reduce_terms.proofs.Evaluated.{GoodConstants}
use Rattle.laws.proofs.Joined.{mapped_to, mapping_low, SoundJoin, sound_value, mapped_pair, pair_mapped, code_joined, code_runs}
use Rattle.laws.proofs.Signs.{operands_join, join_value, value_good}

-- A use that is typed is by a number that a mapping has: where that is 0 only, so are all uses.
module _ {m : Language} {u : Uses} (only : (i j k : ℕ) → kind_at u i j ≡ some k → j ≡ 0) where
  mutual
    typed_zero : {a : Code} {k : ℕ} → Typed m u a k → ByZero a
    typed_zero (typed_node e h) = typed_zero_all h
    typed_zero (typed_token e h) = tt
    typed_zero (typed_argument {i = i} {j = j} {k = k} e) = only i j k e

    -- The same of a list of codes.
    typed_zero_all : {t : Codes} {ks : List ℕ} → TypedAll m u t ks → ByZeroAll t
    typed_zero_all typed_nil = tt
    typed_zero_all (typed_cons h hs) = (typed_zero h, typed_zero_all hs)

-- Where a join has low numbers only, its second has number 0 only.
zero_mapping : (f g : Translation) (s : SoundJoin f g) → numbers_low (joined f g) ≡ true → (k i u : ℕ) → mapping_of g.body k i ≡ some u → i ≡ 0
zero_mapping f g s low k i u e =
    let v = s.first.fits.maps u (join_lies f g s.first s.second s.says.fits k i u e) in
    let l = mapping_low (joined f g) low k (paired i 0) v.0 (mapped_pair f g s k i u 0 v.0 e (mem_mapping f.body s.first.rises u 0 v.0 v.1)) in
    omega arith

-- A third number that is 0 may be paired first or last.
pairs_same : (n i j : ℕ) → n ≡ 0 → paired n (paired i j) ≡ paired (paired n i) j
pairs_same n i j e = omega arith

-- Three translations, of which the first two and the last two join, the last two with low numbers.
module _ (f g h : Translation) (fg : SoundJoin f g) (gh : SoundJoin g h) (low : numbers_low (joined g h) ≡ true) where
  -- A clause of the third: its production, and the kind that its result is mapped to.
  record Third (r p n : ℕ) : Type 0 where
    arguments : List ℕ
    reaches : ℕ
    entry : arguments_of h.source r p ≡ some arguments
    maps : mapping_of h.body r n ≡ some reaches

  -- Each clause of the third has them.
  third : (r p n : ℕ) (c : List ℕ) → Mem (clause r p n c) h.body → Third r p n
  third r p n c m =
      let x = gh.second.fits.clauses_only r p n c m in
      record {
        arguments = x.0.0;
        reaches = x.1.0;
        entry = mem_arguments h.source gh.second.source.rises r p x.0.0 x.0.1;
        maps = mem_mapping h.body gh.second.rises r n x.1.0 x.1.1;
      }

  -- The kind that its result is mapped to is mapped on.
  mapped_on : (r p n : ℕ) (x : Third r p n) (i w : ℕ) → mapping_of g.body (mapped h.body r n) i ≡ some w → mapping_of g.body x.reaches i ≡ some w
  mapped_on r p n x i w e = ap (λ (k : ℕ). mapping_of g.body k i) (sym (mapped_to h.body r n x.reaches x.maps)) ∙ e

  -- A joined item of the last two reaches what the kind reached by the item is mapped to.
  reached_same : (a : Item) → Mem a h.body → (i w : ℕ) → mapping_of g.body (reached h a) i ≡ some w → reached (joined g h) (paired_item g h a i) ≡ w
  reached_same (mapping k n u) m i w e = mapped_to g.body u i w e
  reached_same (clause r p n c) m i w e =
      let x = third r p n c m in
      mapped_to (joined g h).body r (paired n i) w (mapped_pair g h gh r n x.reaches i w x.maps (mapped_on r p n x i w e))

  -- Its code is typed.
  code_typed : (r p n : ℕ) (x : Third r p n) → Typed h.target (map (mapping_of h.body) x.arguments) (clauses_of h r p n) x.reaches
  code_typed r p n x = (fit_carries h gh.second.rises gh.second.fits).nodes r p n x.reaches x.arguments x.entry x.maps

  -- It uses by number 0 only.
  code_zero : (r p n : ℕ) (x : Third r p n) → ByZero (clauses_of h r p n)
  code_zero r p n x = typed_zero only (code_typed r p n x)
    where
      only : (i j k : ℕ) → kind_at (map (mapping_of h.body) x.arguments) i j ≡ some k → j ≡ 0
      only zero j k e = none_some e
      only (suc i) j k e = let q = use_kind (mapping_of h.body) x.arguments i j k e in zero_mapping g h gh low q.0 j k q.2

  -- An item of the third is joined alike in both groupings.
  item_same : (a : Item) → Mem a h.body → (i w j t : ℕ) → mapping_of g.body (reached h a) i ≡ some w → mapping_of f.body w j ≡ some t
      → paired_item (joined f g) h a (paired i j) ≡ paired_item f (joined g h) (paired_item g h a i) j
  item_same (mapping k n u) m i w j t e d =
      let z = zero_mapping g h gh low k n u (mem_mapping h.body gh.second.rises k n u m) in
      let left = mapped_to (joined f g).body u (paired i j) t (mapped_pair f g fg u i w j t e d) in
      let right : mapped f.body (mapped g.body u i) j ≡ t = ap (λ (x : ℕ). mapped f.body x j) (mapped_to g.body u i w e) ∙ mapped_to f.body w j t d in
      let to = left ∙ sym right in
      λ x. mapping k (pairs_same n i j z x) (to x)
  item_same (clause r p n c) m i w j t e d =
      let x = third r p n c m in
      let on = mapped_on r p n x i w e in
      let z = zero_mapping g h gh low r n x.reaches x.maps in
      let y = typed_larger (target_larger g h gh.first gh.second gh.says.fits) (code_typed r p n x) in
      let left = code_runs f g fg i w j t y (code_zero r p n x) on d in
      let right = ap (run (clauses_of f) j) (code_joined g h gh r p n x.reaches i w x.arguments x.entry x.maps on) in
      let same = left ∙ sym right in
      λ v. clause r p (pairs_same n i j z v) (write code (same v))

  -- Each item of the first grouping is one of the second.
  onward : (x : Item) → Mem x (joined (joined f g) h).body → Mem x (joined f (joined g h)).body
  onward x m =
      let c = join_cases (joined f g) h x m in
      let a = c.0 in
      let n = c.1 in
      let i = n / 16 in
      let j = n % 16 in
      let q = number_mem (joined f g).body (reached h a) n c.3 in
      let e = mem_mapping (joined f g).body fg.whole.rises (reached h a) n q.0 q.1 in
      let r = pair_mapped f g fg (reached h a) i j q.0 (omega arith) (ap (mapping_of (joined f g).body (reached h a)) (pair_whole n) ∙ e) in
      let w = r.0 in
      let y = mem_join g h a i c.2 (mem_number g.body (reached h a) i w (mapping_mem g.body (reached h a) i w r.1)) in
      let k = mem_number f.body w j q.0 (mapping_mem f.body w j q.0 r.2) in
      let z = mem_join f (joined g h) (paired_item g h a i) j y (rw (reached_same a c.2 i w r.1) k) in
      let same = c.4 ∙ (ap (paired_item (joined f g) h a) (sym (pair_whole n)) ∙ item_same a c.2 i w j q.0 r.1 r.2) in
      subst (λ (b : Item). Mem b (joined f (joined g h)).body) (sym same) z

  -- And each of the second is one of the first.
  back : (x : Item) → Mem x (joined f (joined g h)).body → Mem x (joined (joined f g) h).body
  back x m =
      let c = join_cases f (joined g h) x m in
      let y = c.0 in
      let j = c.1 in
      let b = join_cases g h y c.2 in
      let a = b.0 in
      let i = b.1 in
      let q = number_mem g.body (reached h a) i b.3 in
      let w = q.0 in
      let e = mem_mapping g.body fg.second.rises (reached h a) i w q.1 in
      let k : reached (joined g h) y ≡ w = ap (reached (joined g h)) b.4 ∙ reached_same a b.2 i w e in
      let r = number_mem f.body w j (rw k at c.3) in
      let t = r.0 in
      let d = mem_mapping f.body fg.first.rises w j t r.1 in
      let n = mem_number (joined f g).body (reached h a) (paired i j) t (mapping_mem (joined f g).body (reached h a) (paired i j) t (mapped_pair f g fg (reached h a) i w j t e d)) in
      let z = mem_join (joined f g) h a (paired i j) b.2 n in
      let same = c.4 ∙ (ap (λ (o : Item). paired_item f (joined g h) o j) b.4 ∙ sym (item_same a b.2 i w j t e d)) in
      subst (λ (o : Item). Mem o (joined (joined f g) h).body) (sym same) z

  -- The two groupings are equal.
  groupings : numbers_low (joined f g) ≡ true → joined (joined f g) h ≡ joined f (joined g h)
  unfolding joined
  groupings l = λ i. record {
    source = h.source;
    target = f.target;
    body =
        rising_ext item_key 0 0 (joined (joined f g) h).body (joined f (joined g h)).body
        (joined_rises (joined f g) h fg.whole.rises l gh.second.rises gh.says.low_second)
        (joined_rises f (joined g h) fg.first.rises fg.says.low_first gh.whole.rises low)
        onward back i;
  }

-- Two groupings of three joins, where both have a value, have the same.
pub regrouped : (c : Constants) → GoodConstants c → (f g h : Term translations) (u v : Translation)
    → evaluate c nothing_bound (join (join f g) h) ≡ value u
    → evaluate c nothing_bound (join f (join g h)) ≡ value v
    → u ≡ v
regrouped c good f g h u v e d =
    let p = join_value c (join f g) h u e in
    let q = join_value c f g p.first p.first_value in
    let r = join_value c f (join g h) v d in
    let x = q.first in
    let y = q.second in
    let z = p.second in
    let yz = operands_join c g h y z r.second q.second_value p.second_value r.second_value in
    let outer = operands_join c f (join g h) x r.second v q.first_value r.second_value d in
    let sx = (value_good c good f x q.first_value).sound in
    let sy = (value_good c good g y q.second_value).sound in
    let sz = (value_good c good h z p.second_value).sound in
    let left = sound_value x y p.first sx sy (value_good c good (join f g) p.first p.first_value).sound q.says in
    let right = sound_value y z r.second sy sz (value_good c good (join g h) r.second r.second_value).sound yz in
    let low : numbers_low (joined x y) ≡ true = ap numbers_low q.says.is ∙ p.says.low_first in
    let low-last : numbers_low (joined y z) ≡ true = ap numbers_low yz.is ∙ outer.low_second in
    sym p.says.is
    ∙ (ap (λ (t : Translation). joined t z) (sym q.says.is)
    ∙ (groupings x y z left right low-last low
    ∙ (ap (joined x) yz.is ∙ outer.is)))

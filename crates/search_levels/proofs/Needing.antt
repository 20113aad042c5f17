-- The least levels: a law for each return and turn of the functions of `levels`.
use Prim.Native.Nat.{ℕ, zero, suc, max, ◌+◌, ◌-◌, ◌/◌, ◌%◌, ◌≤◌, ◌<◌}
use mathlib.Core.Path.{◌≡◌, refl, ap, sym, subst, ◌∙◌}
use mathlib.Core.Logic.{◌⊎◌, inl, inr}
use mathlib.Core.Bool.{Bool, true, false, cond}
use mathlib.Core.List.{List, [], ◌∷◌}
use mathlib.Core.Option.{none, some}
use native.Mathlib.Omega.{arith}
use Rattle.std.specs.Prelude.{Some}
use native.Mathlib.Decide.{dec_le}
use lib.ListN.{length, get_or, drop, drop_of_length-le, replicate, get_or-replicate}
use borrow.Author.Tests.{le-leb, lt-leb}
use Rattle.format_fields.specs.Fields.{pair_at}
use Rattle.format_fields.specs.Inner.Places.{field_end}
use Rattle.format_fields.proofs.Split.{front}
use Rattle.format_language.specs.Language.{Language, range_of, arguments_of, in_range, production_key}
use Rattle.format_language.specs.Inner.Entries.{IsClass, class_range}
use Rattle.tree_reader.specs.Code.{Code, node, token, Codes}
use Rattle.tree_reader.specs.Inner.Index.{range_before, arguments_before}
use Rattle.tree_reader.specs.Syntax.{write}
use Rattle.tree_reader.proofs.RoundTrip.{Apart}
use Rattle.tree_reader.proofs.Larger.{apart}
use Rattle.format_translation.specs.Translation.{Translation, mapped}
use Rattle.format_translation.specs.Running.{Clauses, clauses_of}
use Rattle.run_table.specs.Inner.Table.{index_entry, clause_entry, source_byte}
use Rattle.run_emit.proofs.Ends.{kind_byte}
use Rattle.tree_index.specs.Inner.Lying.{Lies}
use Rattle.tree_index.proofs.Lying.{first_byte}
use Rattle.search_sources.specs.Inner.Goals.{Goal, Fits, FitsAll}
use Rattle.search_sources.specs.Inner.Levels.{Needs, NeedsAll, NeedsNamed, recalled, noted}
use Rattle.search_sources.proofs.Memory.{recall_needs}
use Rattle.search_sources.proofs.Answers.{cons_fits, needs_nil, needs_cons, needs_node, needs_unknown, needs_unmatched, fits_more, needs_zero, needs_kind}
use Rattle.search_sources.proofs.Tokens.{class_token, ValueFor, needs_token, needs_no_token}
use Rattle.search_levels.specs.Inner.Setting.{Asked, Truthful, Unnamed, Without, Named, value_at, Seeks, SeeksAll}
use Rattle.search_levels.specs.Inner.Clauses.{MatchAsks, MatchGives}
use Rattle.search_levels.specs.Inner.Memory.{byte_for, memory_with, free_with}
use Rattle.search_levels.proofs.Truths.{byte_says, kept_true}

-- The number in two bytes.
pair_is : (b : List ℕ) (i v : ℕ) → get_or b i 0 ≡ v / 256 → get_or b (i + 1) 0 ≡ v % 256 → pair_at b i ≡ v
unfolding pair_at
pair_is b i v x y = omega arith

-- token_value
pub class_inside : (s : List ℕ) (class : ℕ) → 0 < class → IsClass s (class - 1) → class + 4 < length s
unfolding field_end
class_inside s class h c = go c.size
  where
    go : (pair_at s (class - 1 + 1) ≡ 5) ⊎ (pair_at s (class - 1 + 1) ≡ 7) → class + 4 < length s
    go (inl e) = let x = c.fits in omega arith
    go (inr e) = let x = c.fits in omega arith

module _ (source : List ℕ) (class : ℕ) (bytes : List ℕ) (at : ℕ) where
  pub value_low : {r : ℕ} → length bytes ≤ at → r ≡ pair_at source (class + 3) → r ≡ value_at source class bytes at
  unfolding value_at
  value_low h e = rw (le-leb (length bytes) at h) e

  pub value_there : {r : ℕ} → at < length bytes → r ≡ pair_at bytes at → r ≡ value_at source class bytes at
  unfolding value_at
  value_there h e = rw (lt-leb (length bytes) at h) e

-- class_need
pub class_yes : (m : ℕ) {b t : Bool} → b ≡ t → b ≡ true → 0 ≡ cond t 0 (suc m)
class_yes m e h = rw (← e, h)

pub class_no : (m : ℕ) {b t : Bool} → b ≡ t → b ≡ false → m + 1 ≡ cond t 0 (suc m)
class_no m {b} {t} e h = let z : m + 1 ≡ suc m = omega arith in z ∙ ap (λ (x : Bool). cond x 0 (suc m)) (sym h ∙ e)

-- need
module _ (table source target places kinds bytes memory free : List ℕ) (k at : ℕ) (f : Translation) (g : Goal)
    (h : Seeks table source target places kinds bytes memory free k at f g) where
  abbrev l : Language
  l = f.source

  abbrev clauses : Clauses
  clauses = clauses_of f

  pub source_apart : Apart l
  source_apart = apart l h.setting.apart

  pub target_apart : Apart f.target
  target_apart = apart f.target h.setting.targeted.target_index.apart

  pub recall_true : (m : ℕ) → m ≤ 16 → {r : ℕ} → Some r ≡ recalled m (byte_for memory free (length bytes) k at) → Needs l clauses m k g r
  recall_true m few {r} e = recall_needs m _ few (byte_says f bytes memory free k at h.kind h.truthful g h.asked) r (sym e)

  -- A class.
  module _ (class : ℕ) (place : class ≡ get_or table k 0) where
    range_is : range_of l k ≡ range_before source class
    range_is = h.setting.source_index.range k h.kind ∙ ap (range_before source) (sym place)

    pub plain : class ≡ 0 → range_of l k ≡ none
    plain e = range_is ∙ ap (range_before source) e

    module _ (some_class : class ≡ 0 → ⊥) where
      pub class_positive : 0 < class
      class_positive = omega arith

      pub class_whole : IsClass source (class - 1)
      class_whole = rw place (h.setting.source_index.sound.class k h.kind (let z = class_positive in omega arith))

      pub the_range : range_of l k ≡ some (class_range source (class - 1))
      the_range = let e : class ≡ suc (class - 1) = omega arith in range_is ∙ ap (range_before source) e

      low_is : length bytes ≤ at → value_at source class bytes at ≡ (class_range source (class - 1)).low
      unfolding value_at class_range
      low_is past = let e : class + 3 ≡ class - 1 + 4 = omega arith in rw (le-leb (length bytes) at past) (ap (pair_at source) e)

      tree_value : (v : ℕ) → Lies f.target bytes at (mapped f.body k 0) (token v) → pair_at bytes at ≡ v
      unfolding write
      tree_value v t =
          let p = first_byte bytes at (v / 256) (v % 256 ∷ t.rest) t.inside t.is in
          let q = first_byte bytes (at + 1) (v % 256) t.rest (let z = p.0 in omega arith) p.2 in
          let x = p.1 in
          let y = q.1 in
          pair_is bytes at v x y

      pub value_for : (g : Goal) → Asked f bytes at k g → ValueFor l clauses source_apart k (class_range source (class - 1)) the_range g (value_at source class bytes at)
      unfolding value_at
      value_for none a = low_is a
      value_for (some u) a =
          let d = h.setting.tokens k (class_range source (class - 1)) the_range in
          let z = class_token f.target clauses target_apart (mapped f.body k 0) d.0 d.1 a.1.typed in
          let t : Lies f.target bytes at (mapped f.body k 0) (token z.0) = rw z.1 at a.1 in
          rw (lt-leb (length bytes) at a.0) (z.1 ∙ ap token (sym (tree_value z.0 t)))

      pub class_needs : (m : ℕ) {r : ℕ} → r ≡ cond (in_range (class_range source (class - 1)) (value_at source class bytes at)) 0 (suc m) → Needs l clauses m k g r
      class_needs m {r} e = rw e (go (in_range (class_range source (class - 1)) (value_at source class bytes at)) refl)
        where
          go : (t : Bool) → in_range (class_range source (class - 1)) (value_at source class bytes at) ≡ t → Needs l clauses m k g (cond t 0 (suc m))
          go true q = needs_token l clauses source_apart k (class_range source (class - 1)) the_range g m _ (value_for g h.asked) q
          go false q = needs_no_token l clauses source_apart k (class_range source (class - 1)) the_range g m _ (value_for g h.asked) q

  -- The names of any other kind.
  module _ (none_class : range_of l k ≡ none) (m : ℕ) where
    pub zero_levels : m ≡ 0 → Needs l clauses m k g 1
    zero_levels e = rw e (needs_zero l clauses h.setting.named k g none_class)

    pub all_names : (m ≡ 0 → ⊥) → (best : ℕ) (n : ℕ) → n ≡ 256 → NeedsNamed l clauses (m - 1) k 0 n g best → Needs l clauses m k g (best + 1)
    all_names e best n c q =
        let a : suc (m - 1) ≡ m = omega arith in
        let b : best + 1 ≡ suc best = omega arith in
        rw (← a, b) (needs_kind l clauses h.setting.named k g none_class (m - 1) best (rw c at q))

  pub without : (low high : ℕ) → high ≤ 256 → Unnamed table k low high → Without l clauses k g low high
  without low high narrow a = record { none = none_named }
    where
      none_named : (q x : ℕ) (s : Codes) → low ≤ q → q < high → Fits l clauses (suc x) k g (node k q s) → ⊥
      none_named q x s i j w =
          let e : arguments_of l k q ≡ none = h.setting.source_index.arguments k q h.kind (omega arith) ∙ ap (arguments_before source) (a.none q i j) in
          let z = (needs_unknown l clauses x k q g e).least x q s (omega arith) (omega arith) (omega arith) w in
          omega arith

  -- first_name
  pub lowest_is : (low r : ℕ) → low ≡ get_or kinds (32 + k) 0 → Unnamed table k low r → Unnamed table k 0 r
  lowest_is low r e a = record { none = λ p i j. go p i j (dec_le (suc p) low) }
    where
      go : (p : ℕ) → 0 ≤ p → p < r → Dec (suc p ≤ low) → get_or table (production_key k p) 0 ≡ 0
      go p i j (yes d) = (h.setting.lowest k h.kind).none p i (rw (← e) d)
      go p i j (no d) = a.none p (omega arith) j

  -- A memory that was changed meanwhile.
  pub seeks_still : (memory' free' : List ℕ) → Truthful f bytes memory' free' → Seeks table source target places kinds bytes memory' free' k at f g
  seeks_still memory' free' t = record { setting = h.setting; truthful = t; kind = h.kind; asked = h.asked }

  pub keeps_true : (memory' free' : List ℕ) → Truthful f bytes memory' free' → (m r : ℕ) → m ≤ 16 → Needs l clauses m k g r
      → Truthful f bytes (memory_with memory' (length bytes) k at (noted m r)) (free_with free' (length bytes) k at (noted m r))
  keeps_true memory' free' t m r few q = kept_true f bytes memory' free' k at h.kind t target_apart m r few g h.asked q

-- The names come one by one.
pub names_start : (l : Language) (f : Clauses) (m k : ℕ) (g : Goal) (name : ℕ) → (m ≡ 0 → ⊥) → Without l f k g 0 name → NeedsNamed l f (m - 1) k 0 name g m
names_start l f m k g name e w = record {
  bound = omega arith;
  finds = λ i. absurd (omega arith);
  least = λ n q s i u j z. absurd (w.none q n s u j z);
}

-- Behind names that need `best` levels, one of which it is asked whether it needs less.
module _ (l : Language) (f : Clauses) (m k : ℕ) (g : Goal) (name best n r : ℕ) (some-best : 0 < best) (a : NeedsNamed l f m k 0 name g best)
    (b : NeedsNamed l f (best - 1) k name (suc name) g n) (past : name < r) (gap : 0 < n → Without l f k g (name + 1) r) where
  found_less : n ≤ m → Dec (best ≤ n) → (q : ℕ) × (0 ≤ q) × (q < r) × (s : Codes) × Fits l f (suc n) k g (node k q s)
  found_less i (yes e) =
      let z : n ≡ best = let y = b.bound in omega arith in
      let t = a.finds (omega arith) in
      (t.0, omega arith, omega (arith, t.2), t.3, fits_more (omega arith) t.4)
  found_less i (no e) = let t = b.finds (omega arith) in (t.0, omega arith, omega (arith, t.2), t.3, t.4)

  none_less : (x q : ℕ) (s : Codes) → x ≤ m → q < r → Fits l f (suc x) k g (node k q s) → Dec (suc q ≤ name) → Dec (q ≤ name) → Dec (n ≤ x) → n ≤ x
  none_less x q s i j w d o (yes e) = e
  none_less x q s i j w (yes d) o (no e) = let z = a.least x q s i (omega arith) d w in let y = b.bound in omega arith
  none_less x q s i j w (no d) (yes o) (no e) = let y = b.bound in b.least x q s (omega arith) (omega arith) (omega arith) w
  none_less x q s i j w (no d) (no o) (no e) = absurd ((gap (omega arith)).none q x s (omega arith) j w)

  pub names_next : NeedsNamed l f m k 0 r g n
  names_next = record {
    bound = let x = a.bound in let y = b.bound in omega arith;
    finds = λ i. found_less i (dec_le best n);
    least = λ x q s i u j w. none_less x q s i j w (dec_le (suc q) name) (dec_le q name) (dec_le n x);
  }

-- name_need
module _ (table source target places kinds bytes memory free : List ℕ) (k at : ℕ) (f : Translation) (g : Goal)
    (h : Seeks table source target places kinds bytes memory free k at f g) (p : ℕ) (narrow : p < 256) where
  pub key_small : production_key k p < 8224
  key_small = let y = h.kind in omega arith

  known_before : arguments_of f.source k p ≡ arguments_before source (get_or table (production_key k p) 0)
  known_before = h.setting.source_index.arguments k p h.kind narrow

  pub name_known : Named table k p → (ks : List ℕ) × (arguments_of f.source k p ≡ some ks)
  name_known n = let z = n.there narrow in go (get_or table (production_key k p) 0) known_before (λ e. omega arith)
    where
      go : (n : ℕ) → arguments_of f.source k p ≡ arguments_before source n → (n ≡ 0 → ⊥) → (ks : List ℕ) × (arguments_of f.source k p ≡ some ks)
      go zero q z = absurd (z refl)
      go (suc n) q z = (_, q)

  module _ (ks : List ℕ) (known : arguments_of f.source k p ≡ some ks) (place clause j : ℕ) (ep : place ≡ index_entry table j)
      (ec : clause ≡ clause_entry table j) (ej : j ≡ production_key k p) where
    place_of : place ≡ index_entry table (production_key k p)
    place_of = ep ∙ ap (index_entry table) ej

    pub asks_match : (n : ℕ) → n ≡ length bytes → MatchAsks table target places kinds bytes memory (replicate 8 n) place clause at f k p ks g
    asks_match n e = record {
      targeted = h.setting.targeted;
      ends = h.truthful.ends;
      kind = h.kind;
      name = narrow;
      known = known;
      place_is = place_of;
      clause_is = ec ∙ ap (clause_entry table) ej;
      asked = h.asked;
      long = refl;
      empty = λ j q. let z = get_or-replicate 8 j n 0 q in omega arith;
    }

    module _ (bound : List ℕ) (r : Bool) (w : MatchGives bytes bound r f k p ks g) where
      pub name_unmatched : (m : ℕ) → r ≡ false → NeedsNamed f.source (clauses_of f) m k p (suc p) g (m + 1)
      name_unmatched m e = let a : m + 1 ≡ suc m = omega arith in rw a (needs_unmatched f.source (clauses_of f) m k p ks g known (w.fails e))

      module _ (e : r ≡ true) where
        pub name_seeks : SeeksAll table source target places kinds bytes memory free bound place f ks (w.holds e).0
        name_seeks = record {
          setting = h.setting;
          truthful = h.truthful;
          production = rw place_of (h.setting.targeted.ready.production k p ks h.kind narrow known);
          long = (w.holds e).1.long;
          asked = (w.holds e).1.at;
        }

        pub name_needs : (m x : ℕ) → NeedsAll f.source (clauses_of f) m ks (w.holds e).0 x → NeedsNamed f.source (clauses_of f) m k p (suc p) g x
        name_needs m x q = needs_node f.source (clauses_of f) k p ks g (w.holds e).0 known (w.holds e).2 m x q

    -- candidate: the root of the clause is another.
    module _ (bound : List ℕ) (w : MatchGives bytes bound false f k p ks g) where
      pub without_next : (from next : ℕ) → p < next → next ≤ 256 → Unnamed table k (p + 1) next → Without f.source (clauses_of f) k g from p
          → Without f.source (clauses_of f) k g from next
      without_next from next past few a b = record { none = λ q x s i o z. go q x s i o z (dec_le (suc q) p) (dec_le q p) }
        where
          go : (q x : ℕ) (s : Codes) → from ≤ q → q < next → Fits f.source (clauses_of f) (suc x) k g (node k q s) → Dec (suc q ≤ p) → Dec (q ≤ p) → ⊥
          go q x s i o z (yes d) e = b.none q x s i d z
          go q x s i o z (no d) (yes e) =
              let y = (needs_unmatched f.source (clauses_of f) x k p ks g known (w.fails refl)).least x q s (omega arith) (omega arith) (omega arith) z in
              omega arith
          go q x s i o z (no d) (no e) =
              (without table source target places kinds bytes memory free k at f g h (p + 1) next few a).none q x s (omega arith) o z

pub without_start : (l : Language) (f : Clauses) (k : ℕ) (g : Goal) (from : ℕ) → Without l f k g from from
without_start l f k g from = record { none = λ q x s i o z. absurd (omega arith) }

pub without_then : (l : Language) (f : Clauses) (k : ℕ) (g : Goal) (a b c : ℕ) → Without l f k g a b → Without l f k g b c → Without l f k g a c
without_then l f k g a b c u v = record { none = λ q x s i o z. go q x s i o z (dec_le (suc q) b) }
  where
    go : (q x : ℕ) (s : Codes) → a ≤ q → q < c → Fits l f (suc x) k g (node k q s) → Dec (suc q ≤ b) → ⊥
    go q x s i o z (yes d) = u.none q x s i d z
    go q x s i o z (no d) = v.none q x s (omega arith) o z

-- operands_need
module _ (table source target places kinds bytes memory free bound : List ℕ) (place : ℕ) (f : Translation) (ks : List ℕ) (b : ℕ → Goal)
    (h : SeeksAll table source target places kinds bytes memory free bound place f ks b) where
  pub count_inside : place + 1 < 1024
  count_inside = let x = h.production.kinds.inside in omega arith

  pub count_is : {n : ℕ} → n ≡ source_byte table (place + 1) → (n ≡ length ks + 2) × (length ks ≤ 8)
  count_is e = (e ∙ h.production.count, h.production.few)

  module _ (j : ℕ) (q : j < length ks) where
    pub kind_inside : {i : ℕ} → i ≡ place + 4 → i + j < 1024
    kind_inside e = let x = h.production.kinds.inside in omega arith

    pub operand_kind : {i k : ℕ} → i ≡ place + 4 → k ≡ source_byte table (i + j) → k ≡ get_or ks j 0
    operand_kind d e = e ∙ (ap (λ (x : ℕ). source_byte table (x + j)) d ∙ kind_byte h.production.kinds j q)

    pub operand_seeks : (memory' free' : List ℕ) → Truthful f bytes memory' free' → {i k : ℕ} → i ≡ place + 4 → k ≡ source_byte table (i + j)
        → Seeks table source target places kinds bytes memory' free' k (get_or bound j 0) f (b j)
    operand_seeks memory' free' t {i} {k} d e =
        let z : k ≡ get_or ks j 0 = operand_kind d e in
        rw z (record { setting = h.setting; truthful = t; kind = h.production.kinds.below j q; asked = h.asked j q })

module _ (l : Language) (f : Clauses) (m : ℕ) (ks : List ℕ) (b : ℕ → Goal) where
  pub operands_start : (j : ℕ) → length ks ≤ j → NeedsAll l f m (drop j ks) (λ i. b (i + j)) 0
  operands_start j h = rw (drop_of_length-le ks {i = j} h) (needs_nil l f m (λ i. b (i + j)))

  pub operands_next : (j k x y r : ℕ) → 0 < j → j ≤ length ks → k ≡ get_or ks (j - 1) 0 → Needs l f m k (b (j - 1)) x
      → NeedsAll l f m (drop j ks) (λ i. b (i + j)) y → r ≡ max x y → NeedsAll l f m (drop (j - 1) ks) (λ i. b (i + (j - 1))) r
  operands_next j k x y r some_left within e a c d =
      let z : j - 1 + 1 ≡ j = omega arith in
      let parts : drop (j - 1) ks ≡ k ∷ drop j ks =
      front ks (j - 1) (omega arith) ∙ ((λ i. e' i ∷ drop (z i) ks)) in
      let tail : NeedsAll l f m (drop j ks) (λ i. b (suc i + (j - 1))) y = subst (λ (w : ℕ → Goal). NeedsAll l f m (drop j ks) w y) (λ t i. b (shift i t)) c in
      let head : Needs l f m k (b (0 + (j - 1))) x = subst (λ (n : ℕ). Needs l f m k (b n) x) (first (j - 1)) a in
      rw (d, parts) (needs_cons l f m k (drop j ks) (λ i. b (i + (j - 1))) x y head tail)
    where
      e' : get_or ks (j - 1) 0 ≡ k
      e' = sym e

      first : (i : ℕ) → i ≡ 0 + i
      first i = omega arith

      shift : (i : ℕ) → i + j ≡ suc i + (j - 1)
      shift i = omega arith

  -- One of them needs more than count.
  pub operands_stop : (j k x : ℕ) → j < length ks → k ≡ get_or ks j 0 → Needs l f m k (b j) x → m < x → NeedsAll l f m ks b (m + 1)
  operands_stop j k x q e h past = record {
    bound = omega arith;
    finds = λ i. absurd (omega arith);
    least = λ n t i w. let z = all_at n ks b t w j q in let y = h.least n z.0 i (rw (← e) at z.1) in omega arith;
  }
    where
      all_at : (n : ℕ) (ks : List ℕ) (b : ℕ → Goal) (t : Codes) → FitsAll l f n ks b t → (j : ℕ) → j < length ks → (a : Code) × Fits l f n (get_or ks j 0) (b j) a
      all_at n [] b t w j q = absurd (omega arith)
      all_at n (k ∷ ks) b t w zero q = let z = cons_fits l f n k ks b t w in (z.0, z.3)
      all_at n (k ∷ ks) b t w (suc j) q = let z = cons_fits l f n k ks b t w in all_at n ks (λ i. b (suc i)) z.1 z.4 j (omega arith)

  pub operands_end : (j y : ℕ) → j ≡ 0 → NeedsAll l f m (drop j ks) (λ i. b (i + j)) y → NeedsAll l f m ks b y
  operands_end j y e q =
      let z : NeedsAll l f m ks (λ i. b (i + 0)) y = rw e at q in
      subst (λ (w : ℕ → Goal). NeedsAll l f m ks w y) (λ t i. b (none_more i t)) z
    where
      none_more : (i : ℕ) → i + 0 ≡ i
      none_more i = omega arith

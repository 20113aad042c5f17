-- What stands at a legal tree: a law for each return of `operands_at`.
use Prim.Native.Nat.{ℕ, zero, suc, ◌+◌, ◌<◌, ◌≤◌}
use mathlib.Core.Path.{◌≡◌, refl, sym, ap, ◌∙◌}
use mathlib.Core.List.{List, []}
use mathlib.Core.Option.{none, some}
use native.Mathlib.Omega.{arith}
use lib.ListN.{length, get_or}
use lib.Seq.{slice}
use Rattle.format_fields.specs.Fields.{pair_at}
use Rattle.format_fields.specs.Inner.Places.{field_end}
use Rattle.format_fields.specs.Lists.{all}
use Rattle.format_fields.proofs.Truth.{none_some}
use Rattle.format_language.specs.Language.{Language, Range, arguments_of, production_key}
use Rattle.tree_reader.specs.Code.{Code, node, token, Codes, nil, levels_all}
use Rattle.tree_reader.specs.Typing.{kind_at, Typed, typed_node, typed_token, typed_argument, typed_nil}
use Rattle.tree_reader.specs.Syntax.{write, tree}
use Rattle.tree_reader.specs.Inner.Index.{range_before, arguments_before}
use Rattle.tree_reader.proofs.Larger.{apart}
use Rattle.tree_reader.proofs.Members.{in_below}
use Rattle.tree_index.specs.Inner.Lying.{Lies, Index, There, Shape, production, value, Opens}
use Rattle.tree_index.proofs.Lying.{past_inside, past_is, node_byte, node_lies}

-- A place of the language's index is not 0 exactly if there is such an entry.
no_class : (s : List ℕ) (place : ℕ) → range_before s place ≡ none → place ≡ 0
no_class s zero e = refl
no_class s (suc p) e = none_some (sym e)

some_class : (s : List ℕ) (place : ℕ) {c : Range} → range_before s place ≡ some c → place ≡ 0 → ⊥
some_class s zero e h = none_some e
some_class s (suc p) e h = omega arith

some_production : (s : List ℕ) (place : ℕ) {ks : List ℕ} → arguments_before s place ≡ some ks
    → (0 < place) × (slice (place + 4) (place + 2 + pair_at s place) s ≡ ks)
unfolding field_end
some_production s zero e = none_some e
some_production s (suc q) {ks} e =
    let from : suc q + 4 ≡ q + 5 = omega arith in
    let n : pair_at s (suc q) ≡ pair_at s (q + 1) = ap (pair_at s) (omega arith) in
    let stop : suc q + 2 + pair_at s (suc q) ≡ q + 3 + pair_at s (q + 1) = omega arith in
    let z : slice (q + 5) (q + 3 + pair_at s (q + 1)) s ≡ ks = cc in
    (omega arith, rw (from, stop) z)

no_argument : {A : Type 0} (i j : ℕ) {k : ℕ} → kind_at [] i j ≡ some k → A
no_argument zero j z = none_some z
no_argument (suc i) j z = none_some z

-- What is known of a production by its place in the language.
pub record Named (s b : List ℕ) (at place : ℕ) : Type 0 where
  pub byte : at < length b
  pub there : place + 4 ≤ length s
  pub short : length s ≤ 1024

module _ (index s b : List ℕ) (at k : ℕ) (l : Language) (x : Index index s l) (kind : k < 32) where
  leaf_opens : (u : Code) → Typed l [] u k → Lies l b at k u → (get_or index k 0 ≡ 0 → ⊥) → Opens index s b at k l u 0 0 (at + 2)
  unfolding write levels_all all
  leaf_opens u (typed_node {p = p} {ks = ks} e w) h c =
      absurd (c (no_class s (get_or index k 0) (sym (x.indexed.range k kind) ∙ apart l x.apart k p ks e)))
  leaf_opens u (typed_token {v = v} e w) h c = record {
    operands = nil;
    front = 2;
    shape = value;
    past = refl;
    row = record {
      index_of = x;
      lie = record {
        rest = h.rest;
        is = past_is b at (write tree (token v)) _ h.inside h.is;
        inside = past_inside b at (write tree (token v)) _ h.inside h.is;
        typed = typed_nil;
        within = omega arith;
        known = refl;
      };
    };
    kinds = λ y i j. absurd (omega arith);
  }
  leaf_opens u (typed_argument {i = i} {j = j} e) h c = no_argument i j e

  module _ (bytes : (i : ℕ) → get_or b i 0 < 256) (class : get_or index k 0 ≡ 0) where
    abbrev spot : ℕ
    spot = get_or index (production_key k (get_or b at 0)) 0

    node_facts : (p : ℕ) (ts : Codes) (ks : List ℕ) → Lies l b at k (node k p ts) → arguments_of l k p ≡ some ks
        → (p ≡ get_or b at 0) × (0 < spot) × (slice (spot + 4) (spot + 2 + pair_at s spot) s ≡ ks)
    node_facts p ts ks h e =
        let w = node_byte l b at k p ts h in
        let q : p ≡ get_or b at 0 = sym w.1 in
        let f : arguments_of l k (get_or b at 0) ≡ some ks = ap (arguments_of l k) w.1 ∙ e in
        let y = some_production s spot (sym (x.indexed.arguments k (get_or b at 0) kind (bytes at)) ∙ f) in
        (q, y.0, y.1)

    node_named : (u : Code) → Typed l [] u k → Lies l b at k u → Named s b at spot
    node_named u (typed_node {p = p} {t = ts} {ks = ks} e w) h =
        let f = node_facts p ts ks h e in
        record {
          byte = (node_byte l b at k p ts h).0;
          there = x.indexed.sound.name k (get_or b at 0) kind (bytes at) f.1;
          short = x.indexed.sound.short;
        }
    node_named u (typed_token e w) h = absurd (some_class s (get_or index k 0) (sym (x.indexed.range k kind) ∙ e) class)
    node_named u (typed_argument {i = i} {j = j} e) h = no_argument i j e

    node_opens : (u : Code) → Typed l [] u k → Lies l b at k u → Opens index s b at k l u (spot + 4) (spot + 2 + pair_at s spot) (at + 1)
    node_opens u (typed_node {p = p} {t = ts} {ks = ks} e w) h =
        let f = node_facts p ts ks h e in
        let sh : Shape l k (node k p ts) ts (slice (spot + 4) (spot + 2 + pair_at s spot) s) 1 = production (e ∙ ap some (sym f.2)) in
        record {
          operands = ts;
          front = 1;
          shape = sh;
          past = refl;
          row = record { index_of = x; lie = rw f.2 (node_lies l b at k p ts h ks e w) };
          kinds = x.indexed.sound.operands k (get_or b at 0) kind (bytes at) f.1;
        }
    node_opens u (typed_token e w) h = absurd (some_class s (get_or index k 0) (sym (x.indexed.range k kind) ∙ e) class)
    node_opens u (typed_argument {i = i} {j = j} e) h = no_argument i j e

-- operands_at
module _ (index s b : List ℕ) (at k : ℕ) (l : Language) (t : Code) (h : There index s b at k l t) (j c : ℕ) (ej : j ≡ k) (ec : c ≡ get_or index j 0) where
  small : k < 32
  small = in_below s k l h.index_of.indexed.entries h.lies.known

  class_is : c ≡ get_or index k 0
  class_is = ec ∙ ap (λ (i : ℕ). get_or index i 0) ej

  pub at_token : (c ≡ 0 → ⊥) → Opens index s b at k l t 0 0 (at + 2)
  at_token n = leaf_opens index s b at k l h.index_of small t h.lies.typed h.lies (λ z. n (class_is ∙ z))

  module _ (bytes : (i : ℕ) → get_or b i 0 < 256) (none : c ≡ 0) where
    pub name_there : at < length b
    name_there = (node_named index s b at k l h.index_of small bytes (sym class_is ∙ none) t h.lies.typed h.lies).byte

    module _ (i m key place : ℕ) (ei : i ≡ k) (em : m ≡ get_or b at 0) (ek : key ≡ production_key i m) (ep : place ≡ get_or index key 0) where
      place_is : place ≡ get_or index (production_key k (get_or b at 0)) 0
      place_is = ep ∙ ap (λ (z : ℕ). get_or index z 0) (ek ∙ (ap (λ (z : ℕ). production_key z m) ei ∙ ap (production_key k) em))

      pub named : Named s b at place
      named = rw place_is (node_named index s b at k l h.index_of small bytes (sym class_is ∙ none) t h.lies.typed h.lies)

      pub at_node : (f e : ℕ) → f ≡ place + 4 → e ≡ place + 2 + pair_at s place → Opens index s b at k l t f e (at + 1)
      at_node f e ef ee = rw (ef, ee, place_is) (node_opens index s b at k l h.index_of small bytes (sym class_is ∙ none) t h.lies.typed h.lies)

-- The items of the second's body, joined one after the other: a law for each return and turn.
use Rattle.std.specs.Prelude.{None, Option, Some}
use Prim.Native.Nat.{ℕ, zero, suc, ◌+◌, ◌-◌, ◌*◌, ◌%◌, ◌<◌, ◌≤◌}
use mathlib.Core.Path.{◌≡◌, refl, sym, ap, ◌∙◌}
use mathlib.Core.Bool.{Bool, true, false, cond}
use mathlib.Core.List.{List, [], ◌∷◌, ◌++◌, map, append_assoc}
use mathlib.Core.Option
use mathlib.Core.Option.{Option as Maybe, some}
use native.Mathlib.Omega.{arith}
use lib.ListN.{length, get_or, replicate, length-append}
use lib.Dec.{eqb}
use borrow.Author.Tests.{lt-ltb, eqb-true}
use Rattle.format_fields.specs.Lists.{all, is_some, keep, concat_map, count_up}
use Rattle.format_fields.specs.Fields.{encode_field, encode_fields}
use Rattle.format_fields.specs.Inner.Places.{field_end, is_whole, places_from, places, order_at}
use Rattle.format_fields.specs.Inner.Writing.{spliced, Stores}
use Rattle.format_fields.proofs.Truth.{false_true, and_both, some_inj, is_some_lem}
use Rattle.format_fields.proofs.Places.{places_done, places_next}
use Rattle.format_fields.proofs.Splices.{length_spliced}
use Rattle.format_language.specs.Inner.Entries.{size_at}
use Rattle.tree_reader.specs.Inner.Positions.{kind_before, mapped_in}
use Rattle.tree_reader.specs.Code as Terms
use Rattle.tree_reader.specs.Typing.{Uses}
use Rattle.tree_reader.specs.Syntax.{write, code}
use Rattle.tree_reader.specs.declared.node.Syntax.TheVariants.{Code}
use Rattle.run_emit.specs.Inner.Runs.{TermAsks}
use Rattle.format_translation.specs.Translation.{Item, mapping, clause, Translation, plain_key, number_of, item_key, mapping_of, mapped}
use Rattle.format_translation.specs.TranslationFile.{item_field}
use Rattle.format_translation.specs.Running.{clauses_of, transform}
use Rattle.format_translation.specs.Inner.Items.{item_whole, item_good, item_at, mapping_whole, numbered_mapping_whole, ItemFacts, plain_mapping, plain_clause, numbered_mapping_lem, numbered_clause_lem, is_clause_tag}
use Rattle.format_translation.specs.Inner.ItemIndex.{Mapped}
use Rattle.format_translation.proofs.Items.{item_facts, mapping_is, clause_is, numbered_mapping_is, numbered_clause_is, key_is, holds_items}
use Rattle.reduce_operators.specs.Operators.{join_item, joined}
use Rattle.reduce_operators.specs.Inner.Paired.{reached, paired_item}
use Rattle.reduce_operators.proofs.JoinRises.{join_item_lem, numbers_listed}
use Rattle.reduce_operators.proofs.SameItem.{items_append}
use Rattle.format_translation.proofs.Lookup.{mem_mapping}
use Rattle.reduce_join.specs.Inner.Joining.{Joining, Reached, head_length, clause_head, between, ClauseAsks, ReachAsks, NumberAsks, paired_field, number_field, joined_field, joined_body}
use Rattle.format_fields.proofs.Splices.{stored_to, stored_full, stored_nothing, stored_there}
use Rattle.reduce_join.proofs.Splices.{head_before, clause_field_lem, head_length_lem}
use Rattle.reduce_join.proofs.Operands.{first_sound, number_low}

-- The number of the item at p, by its key.
pub number_of_lem : (b : List ℕ) (p : ℕ) → item_whole b p ≡ true → number_of (item_at b p) < 256 → (key : ℕ) → key ≡ order_at 0x22 b p → key % 256 ≡ number_of (item_at b p)
unfolding item_key
number_of_lem b p w h key e =
    let q : key ≡ plain_key (item_at b p) * 256 + number_of (item_at b p) = e ∙ sym (key_is b p w) in
    omega arith

-- The number of an item that the join comes by.
pub item_number : (t u b u' : List ℕ) (limit : ℕ) (f g : Translation) → Joining t u b u' limit f g → (p : ℕ) → Reached b p → p < length b → item_whole b p ≡ true
    → (key : ℕ) → key ≡ order_at 0x22 b p → key % 256 ≡ number_of (item_at b p)
item_number t u b u' limit f g z p w here whole key e =
    let l = number_low t u b u' limit f g z p w here in
    number_of_lem b p whole (omega arith) key e

-- join_clause
pub pair_is : (i w j : ℕ) → w ≡ j → 16 * i + w ≡ 16 * i + j
pair_is i w j e = ap (λ (x : ℕ). 16 * i + x) e

pub number_below : (t b : List ℕ) (p e kind i j : ℕ) (f g : Translation) → ClauseAsks t b p e kind i j f g → (w : ℕ) → w ≡ j → 16 * i + w < 256
number_below t b p e kind i j f g a w e' = let x = a.second_low in let y = a.first_low in omega arith

module _ (t b : List ℕ) (p e kind i j x : ℕ) (ex : x ≡ head_length i) (f g : Translation) (a : ClauseAsks t b p e kind i j f g) where
  pub run_asks : TermAsks Code t (between b (p + x) e) (replicate 2 0) 16 kind j f a.given (clauses_of g (get_or b (p + 3) 0) (get_or b (p + 4) 0) i)
  run_asks = rw ex a.asks

  pub run_stores : (o o' : List ℕ) (n : ℕ) (r : Option ℕ)
      → ((h : Translation) (given : Uses) (u : Terms.Code) → TermAsks Code t (between b (p + x) e) (replicate 2 0) 16 kind j h given u → Stores (write code (transform h j u)) o o' n r)
      → Stores (write code (transform f j (clauses_of g (get_or b (p + 3) 0) (get_or b (p + 4) 0) i))) o o' n r
  run_stores o o' n r h = h f a.given _ run_asks

module _ (t b : List ℕ) (p e kind i j : ℕ) (f g : Translation) (a : ClauseAsks t b p e kind i j f g) (number : ℕ) (en : number ≡ 16 * i + j) (hl : ℕ) (el : hl ≡ head_length number) where
  abbrev joined_code : List ℕ
  joined_code = write code (transform f j (clauses_of g (get_or b (p + 3) 0) (get_or b (p + 4) 0) i))

  field_is : (size : ℕ) → size + 3 ≡ hl + length joined_code → paired_field f g b p j ≡ clause_head (get_or b (p + 3) 0) (get_or b (p + 4) 0) number size ++ joined_code
  unfolding paired_field transform
  field_is size e =
      ap (λ (x : Item). encode_field (item_field (paired_item f g x j))) a.item
      ∙ (ap (λ (x : ℕ). encode_field (item_field (clause (get_or b (p + 3) 0) (get_or b (p + 4) 0) x joined_code))) (sym en)
      ∙ clause_field_lem (get_or b (p + 3) 0) (get_or b (p + 4) 0) number joined_code size (e ∙ ap (λ (x : ℕ). x + length joined_code) el))

  hl_five : 5 ≤ hl
  unfolding head_length
  hl_five = rw el (go number)
    where
      go : (x : ℕ) → 5 ≤ head_length x
      go zero = omega arith
      go (suc x) = let z : eqb (suc x) 0 ≡ false = borrow.Author.Tests.ne_eqb (suc x) 0 (λ h. omega arith) in rw z (omega arith)

  field_long : length (paired_field f g b p j) ≡ hl + length joined_code
  field_long =
      let size = hl + length joined_code - 3 in
      let h = hl_five in
      let s : size + 3 ≡ hl + length joined_code = omega arith in
      omega (arith, ap length (field_is size s), length-append (clause_head (get_or b (p + 3) 0) (get_or b (p + 4) 0) number size) joined_code, head_length_lem (get_or b (p + 3) 0) (get_or b (p + 4) 0) number size, el)

  module _ (o : List ℕ) (n : ℕ) where
    pub clause_short : length o < n + hl → Stores (paired_field f g b p j) o o n None
    clause_short h = stored_full _ o o n (omega (arith, field_long))

    module _ (o' : List ℕ) (x : Option ℕ) (w : Stores joined_code o o' (n + hl) x) where
      pub clause_full : x ≡ None → Stores (paired_field f g b p j) o o' n None
      clause_full h = stored_full _ o o' n (omega (arith, w.full h, field_long))

      pub clause_in : (m : ℕ) → x ≡ Some m → (n + hl ≤ m) × (m ≤ length o) × (5 ≤ hl)
      clause_in m h = (omega (arith, (w.done m h).end), (w.done m h).fits, hl_five)

      pub clause_to : n + hl ≤ length o → (m : ℕ) → x ≡ Some m → (o'' : List ℕ) (y : Option ℕ) (r k size : ℕ) → r ≡ get_or b (p + 3) 0 → k ≡ get_or b (p + 4) 0 → size ≡ m - n - 3
          → Stores (clause_head r k number size) o' o'' n y → Stores (paired_field f g b p j) o o'' n (Some m)
      clause_to room m h o'' y r k size er ek es v =
          let d = w.done m h in
          let five = hl_five in
          let s : size + 3 ≡ hl + length joined_code = omega (arith, d.end, es) in
          let hd = clause_head r k number size in
          let lh : length hd ≡ hl = head_length_lem r k number size ∙ sym el in
          let lo : length o' ≡ length o = ap length d.bytes ∙ length_spliced o (n + hl) joined_code (omega (arith, d.end, d.fits)) in
          let q : o'' ≡ spliced o' n hd = stored_there hd o' o'' n y v (omega (arith, lh, lo)) in
          stored_to _ o o'' n m (omega (arith, d.end, field_long)) d.fits
          (q ∙ (ap (λ (z : List ℕ). spliced z n hd) d.bytes
          ∙ (head_before o n hl room hd joined_code lh ∙ ap (spliced o n) (rw (er, ek) (sym (field_is size s))))))

-- The table, looked up.
before_some : (x k : ℕ) → kind_before x ≡ some k → x ≡ k + 1
before_some zero k e = Rattle.format_fields.proofs.Truth.none_some e
before_some (suc x) k e = let z : x ≡ k = some_inj e in omega arith

some_before : (x : ℕ) → (x ≡ 0 → ⊥) → kind_before x ≡ some (x - 1)
some_before zero h = absurd (h refl)
some_before (suc x) h = ap some (let z : x ≡ suc x - 1 = omega arith in z)

looked : (u : List ℕ) (f : Translation) → Mapped u f.body → (k j : ℕ) → k < 32 → j < 256 → (x : ℕ) → x ≡ get_or u (256 * k + j) 0 → kind_before x ≡ mapping_of f.body k j
unfolding mapped_in
looked u f w k j h l x ex =
    let i : 256 * k + j ≡ k * 256 + j = omega arith in
    let e : kind_before (get_or u (k * 256 + j) 0) ≡ mapping_of f.body k j = rw (lt-ltb j 256 l) at (w.is k j h l) in
    ap kind_before (ex ∙ ap (λ (y : ℕ). get_or u y 0) i) ∙ e

-- A mapping at p: its kind and its target, which is its last byte.
record MappingAt (b : List ℕ) (p : ℕ) : Type 0 where
  number : ℕ
  target : ℕ
  item : item_at b p ≡ mapping (get_or b (p + 3) 0) number target
  last : get_or b (field_end b p - 1) 0 ≡ target
  kind : target < 32
  end : 5 ≤ field_end b p

mapping_at : (b : List ℕ) (p : ℕ) → item_whole b p ≡ true → is_clause_tag (get_or b p 0) ≡ false → ItemFacts b p → MappingAt b p
unfolding item_whole item_good mapping_whole numbered_mapping_whole field_end
mapping_at b p w t (plain_mapping m) =
    let a = and_both (is_whole b p) (item_good b p) w in
    let c : mapping_whole b p ≡ true = rw m.tag at a.1 in
    let n : size_at b p ≡ 2 = eqb-true (size_at b p) 2 (and_both (eqb (size_at b p) 2) _ c).0 in
    record { number = 0; target = get_or b (p + 4) 0; item = mapping_is b p m; last = ap (λ (i : ℕ). get_or b i 0) (omega (arith, n)); kind = m.target; end = omega (arith, n) }
mapping_at b p w t (plain_clause c) = false_true (sym (rw c.tag at t))
mapping_at b p w t (numbered_mapping_lem m) =
    let a = and_both (is_whole b p) (item_good b p) w in
    let c : numbered_mapping_whole b p ≡ true = rw m.tag at a.1 in
    let n : size_at b p ≡ 3 = eqb-true (size_at b p) 3 (and_both (eqb (size_at b p) 3) _ c).0 in
    record { number = get_or b (p + 4) 0; target = get_or b (p + 5) 0; item = numbered_mapping_is b p m; last = ap (λ (i : ℕ). get_or b i 0) (omega (arith, n)); kind = m.target; end = omega (arith, n) }
mapping_at b p w t (numbered_clause_lem c) = false_true (sym (rw c.tag at t))

-- kind_reached
module _ (b u : List ℕ) (p e i : ℕ) (g : Translation) (a : ReachAsks b u p e i g) (tag : ℕ) (et : tag ≡ get_or b p 0) (c : Bool) (ec : c ≡ is_clause_tag tag) where
  module _ (h : c ≡ true) (r x : ℕ) (er : r ≡ get_or b (p + 3) 0) (ex : x ≡ get_or u (256 * r + i) 0) where
    goes : (k : ℕ) × (mapping_of g.body (get_or b (p + 3) 0) i ≡ some k) × (k < 32)
    goes = a.goes (ap is_clause_tag (sym et) ∙ (sym ec ∙ h))

    result_kind : ItemFacts b p → get_or b (p + 3) 0 < 32
    result_kind (plain_mapping m) = m.source
    result_kind (plain_clause m) = m.result
    result_kind (numbered_mapping_lem m) = m.source
    result_kind (numbered_clause_lem m) = m.result

    target_is : x ≡ goes.0 + 1
    target_is =
        let l = a.low in
        before_some x goes.0 (looked u g a.uses (get_or b (p + 3) 0) i (result_kind (item_facts b p a.whole)) (omega arith) x (ex ∙ ap (λ (y : ℕ). get_or u (256 * y + i) 0) er) ∙ goes.1)

    pub reach_some : (1 ≤ x) × (x - 1 < 32)
    reach_some = let q = target_is in let k = goes.2 in (omega arith, omega arith)

    clause_reaches : ItemFacts b p → reached g (item_at b p) ≡ goes.0
    unfolding mapped number_of
    clause_reaches (plain_mapping m) = false_true (sym (ec ∙ ap is_clause_tag (et ∙ m.tag)) ∙ h)
    clause_reaches (plain_clause m) =
        let z : i ≡ 0 = a.number ∙ ap number_of (clause_is b p m) in
        ap (reached g) (clause_is b p m) ∙ ap (λ (o : Maybe ℕ). Option.get_or o 0) (ap (mapping_of g.body (get_or b (p + 3) 0)) (sym z) ∙ goes.1)
    clause_reaches (numbered_mapping_lem m) = false_true (sym (ec ∙ ap is_clause_tag (et ∙ m.tag)) ∙ h)
    clause_reaches (numbered_clause_lem m) =
        let z : i ≡ get_or b (p + 5) 0 = a.number ∙ ap number_of (numbered_clause_is b p m) in
        ap (reached g) (numbered_clause_is b p m) ∙ ap (λ (o : Maybe ℕ). Option.get_or o 0) (ap (mapping_of g.body (get_or b (p + 3) 0)) (sym z) ∙ goes.1)

    pub reach_clause : x - 1 ≡ reached g (item_at b p)
    reach_clause = let q = target_is in let y : x - 1 ≡ goes.0 = omega arith in y ∙ sym (clause_reaches (item_facts b p a.whole))

  module _ (h : c ≡ false) where
    here : MappingAt b p
    here = mapping_at b p a.whole (ap is_clause_tag (sym et) ∙ (sym ec ∙ h)) (item_facts b p a.whole)

    pub reach_end : 1 ≤ e
    reach_end = let q = here.end in omega (arith, a.end)

    pub reach_mapping : (x : ℕ) → x ≡ get_or b (e - 1) 0 → (x < 32) × (x ≡ reached g (item_at b p))
    reach_mapping x ex =
        let y : x ≡ here.target = ex ∙ (ap (λ (z : ℕ). get_or b (z - 1) 0) a.end ∙ here.last) in
        (rw y here.kind, y ∙ sym (ap (reached g) here.item))

-- The table at a kind and a number.
pub table_at : (u : List ℕ) (kind j x y to : ℕ) → x ≡ kind → y ≡ j → to ≡ get_or u (256 * x + y) 0 → to ≡ get_or u (256 * kind + j) 0
table_at u kind j x y to ex ey e = e ∙ (λ z. get_or u (256 * ex z + ey z) 0)

-- join_number
module _ (t u b : List ℕ) (p e kind i j : ℕ) (f g : Translation) (a : NumberAsks t u b p e kind i j f g) (to : ℕ) (ex : to ≡ get_or u (256 * kind + j) 0) where
  maps : kind_before to ≡ mapping_of f.body kind j
  maps = let l = a.first_low in looked u f a.uses kind j a.below (omega arith) to ex

  field_of : (x : Bool) → is_some (mapping_of f.body kind j) ≡ x → number_field f g b p j ≡ cond x (paired_field f g b p j) []
  unfolding number_field
  field_of x h = ap (λ (k : ℕ). cond (is_some (mapping_of f.body k j)) (paired_field f g b p j) []) (sym a.reaches) ∙ ap (λ (y : Bool). cond y (paired_field f g b p j) []) h

  pub number_none : to ≡ 0 → (o : List ℕ) (n : ℕ) → n ≤ length o → Stores (number_field f g b p j) o o n (Some n)
  number_none h o n l =
      let q : is_some (mapping_of f.body kind j) ≡ false = ap is_some (sym maps) ∙ ap (λ (x : ℕ). is_some (kind_before x)) h in
      rw (field_of false q) (stored_nothing o n l)

  module _ (h : to ≡ 0 → ⊥) where
    goes_to : mapping_of f.body kind j ≡ some (to - 1)
    goes_to = sym maps ∙ some_before to h

    has : is_some (mapping_of f.body kind j) ≡ true
    has = is_some_lem (mapping_of f.body kind j) goes_to

    pub number_code : (c : Bool) → c ≡ is_clause_tag (get_or b p 0) → c ≡ true → ClauseAsks t b p e kind i j f g
    number_code c ec hc = a.code (sym ec ∙ hc) has

    pub number_there : (o o' : List ℕ) (n : ℕ) (r : Option ℕ) → Stores (paired_field f g b p j) o o' n r → Stores (number_field f g b p j) o o' n r
    number_there o o' n r w = rw (field_of true has) w

    pub number_mapping : (c : Bool) → c ≡ is_clause_tag (get_or b p 0) → c ≡ false → (s l : ℕ) → s ≡ get_or b (p + 3) 0 → l ≡ j
        → (o o' : List ℕ) (n : ℕ) (r : Option ℕ) → Stores (encode_field (item_field (mapping s (16 * i + l) (to - 1)))) o o' n r → Stores (number_field f g b p j) o o' n r
    unfolding paired_field number_of mapped
    number_mapping c ec hc s l es el o o' n r w =
        let m = mapping_at b p a.whole (sym ec ∙ hc) (item_facts b p a.whole) in
        let rs : get_or b (p + 3) 0 ≡ s = sym es in
        let y : m.number ≡ i = sym (a.number ∙ ap number_of m.item) in
        let k : m.target ≡ kind = sym (a.reaches ∙ ap (reached g) m.item) in
        let q : mapped f.body m.target j ≡ to - 1 = ap (λ (x : ℕ). mapped f.body x j) k ∙ ap (λ (x : Maybe ℕ). Option.get_or x 0) goes_to in
        let d : j ≡ l = sym el in
        let v : paired_field f g b p j ≡ encode_field (item_field (mapping s (16 * i + l) (to - 1)))
        = ap (λ (x : Item). encode_field (item_field (paired_item f g x j))) m.item
        ∙ (λ x. encode_field (item_field (mapping (rs x) (16 * y x + d x) (q x)))) in
        number_there o o' n r (rw v w)

-- Fields of numbers.
fields_keep : (to : ℕ → Item) (test : ℕ → Bool) (l : List ℕ) → encode_fields (map item_field (map to (keep test l))) ≡ concat_map (λ j. cond (test j) (encode_field (item_field (to j))) []) l
unfolding concat_map keep encode_fields
fields_keep to test [] = refl
fields_keep to test (j ∷ l) = rw (← fields_keep to test l) (go (test j))
  where
    go : (x : Bool) → encode_fields (map item_field (map to (cond x (j ∷ keep test l) (keep test l))))
        ≡ cond x (encode_field (item_field (to j))) [] ++ encode_fields (map item_field (map to (keep test l)))
    go true = refl
    go false = refl

-- join_item: what there is from number j on
abbrev pub fields_from : Translation → Translation → List ℕ → ℕ → ℕ → ℕ → List ℕ
fields_from f g b p limit j = concat_map (number_field f g b p) (count_up (limit - j) j)

module _ (t u b u' : List ℕ) (limit : ℕ) (f g : Translation) (z : Joining t u b u' limit f g) (p : ℕ) where
  pub fields_all : joined_field f g b p ≡ fields_from f g b p limit 0
  unfolding joined_field number_field paired_field
  fields_all =
      let k = reached g (item_at b p) in
      let s = first_sound t u b u' limit f g z in
      let e : join_item f g (item_at b p) ≡ map (paired_item f g (item_at b p)) (keep (λ j. is_some (mapping_of f.body k j)) (count_up limit 0))
      = join_item_lem f g (item_at b p)
      ∙ ap (map (paired_item f g (item_at b p))) (numbers_listed f.body s.rises k limit (λ j x m. z.below k j (is_some_lem (mapping_of f.body k j) (mem_mapping f.body s.rises k j x m)))) in
      ap (λ (l : List Item). encode_fields (map item_field l)) e
      ∙ (fields_keep (paired_item f g (item_at b p)) (λ j. is_some (mapping_of f.body k j)) (count_up limit 0)
      ∙ ap (λ (x : ℕ). concat_map (number_field f g b p) (count_up x 0)) (let y : limit ≡ limit - 0 = omega arith in y))

module _ (f g : Translation) (b : List ℕ) (p limit j : ℕ) where
  pub fields_next : j < limit → fields_from f g b p limit j ≡ number_field f g b p j ++ fields_from f g b p limit (j + 1)
  unfolding count_up concat_map
  fields_next h =
      let y : limit - j ≡ suc (limit - (j + 1)) = omega arith in
      let i : suc j ≡ j + 1 = omega arith in
      ap (λ (x : ℕ). concat_map (number_field f g b p) (count_up x j)) y
      ∙ ap (λ (x : ℕ). number_field f g b p j ++ concat_map (number_field f g b p) (count_up (limit - (j + 1)) x)) i

  pub fields_end : limit ≤ j → fields_from f g b p limit j ≡ []
  unfolding count_up concat_map
  fields_end h = let y : limit - j ≡ 0 = omega arith in ap (λ (x : ℕ). concat_map (number_field f g b p) (count_up x j)) y

-- join_items: the body of the join, place by place
joined_places : (f g : Translation) (b l : List ℕ) → encode_fields (map item_field (concat_map (join_item f g) (map (item_at b) l))) ≡ concat_map (joined_field f g b) l
unfolding concat_map joined_field encode_fields
joined_places f g b [] = refl
joined_places f g b (p ∷ l) =
    items_append (join_item f g (item_at b p)) (concat_map (join_item f g) (map (item_at b) l))
    ∙ ap (λ (r : List ℕ). encode_fields (map item_field (join_item f g (item_at b p))) ++ r) (joined_places f g b l)

module _ (t u b u' : List ℕ) (limit : ℕ) (f g : Translation) (z : Joining t u b u' limit f g) where
  pub body_places : joined_body f g ≡ concat_map (joined_field f g b) (places b)
  unfolding joined
  body_places =
      ap (λ (l : List Item). encode_fields (map item_field (concat_map (join_item f g) l))) (sym (holds_items b g.body z.items).items)
      ∙ joined_places f g b (places b)

  pub items_whole_lem : all (item_whole b) (places b) ≡ true
  items_whole_lem = (holds_items b g.body z.items).whole

pub places_on : (f g : Translation) (b : List ℕ) (p : ℕ) → p < length b → (e : ℕ) → e ≡ field_end b p
    → concat_map (joined_field f g b) (places_from b p) ≡ joined_field f g b p ++ concat_map (joined_field f g b) (places_from b e)
unfolding concat_map
places_on f g b p h e ee = rw ee (ap (concat_map (joined_field f g b)) (places_next b p h))

pub places_end : (f g : Translation) (b : List ℕ) (p : ℕ) → length b ≤ p → concat_map (joined_field f g b) (places_from b p) ≡ []
unfolding concat_map
places_end f g b p h = ap (concat_map (joined_field f g b)) (places_done b p h)

abbrev pub reached_start : (s : List ℕ) → Reached s 0
reached_start s = record { before = []; walk = refl }

abbrev pub reached_next : (s : List ℕ) (p e : ℕ) → (w : Reached s p) → p < length s → e ≡ field_end s p → Reached s e
reached_next s p e w h ee = record {
  before = w.before ++ (p ∷ []);
  walk =
      w.walk
      ∙ (ap (λ (l : List ℕ). w.before ++ l) (places_next s p h)
      ∙ (ap (λ (j : ℕ). w.before ++ (p ∷ places_from s j)) (sym ee) ∙ sym (append_assoc w.before (p ∷ []) (places_from s e))));
}

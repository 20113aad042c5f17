-- A law for each return and loop turn of the functions of walk.rt.
use Prim.Native.Nat.{ℕ, zero, suc, ◌+◌, ◌*◌, ◌-◌, ◌/◌, ◌%◌, ◌<◌, ◌≤◌}
use mathlib.Core.Path.{◌≡◌, refl, sym, ap, ◌∙◌}
use mathlib.Core.Bool.{Bool, true, false, cond}
use mathlib.Core.List.{List, [], ◌∷◌, ◌++◌, append_assoc}
use mathlib.Core.Option
use mathlib.Core.Option.{some}
use native.Mathlib.Omega.{arith}
use lib.ListN.{length, get_or, set, take, drop, length-append, length-drop}
use lib.Seq.{slice, sets, sets-eq, get_or-drop, drop-drop, length-take-le}
use lib.Dec.{eqb}
use borrow.Rule.Slice.PartMut.{put_mid}
use borrow.Author.Tests.{ne_eqb}
use Rattle.format_fields.specs.Fields.{pair_at, two_bytes}
use Rattle.format_fields.specs.Inner.Writing.{spliced}
use Rattle.format_fields.proofs.Truth.{by_test}
use Rattle.format_fields.proofs.Lists.{part_done, part_next}
use Rattle.format_fields.proofs.Codec.{bytes_from}
use Rattle.format_fields.proofs.Splices.{opened, splice_splice, length_spliced, nothing_spliced}
use Rattle.format_language.specs.Language.{Language, arguments_of}
use Rattle.tree_reader.specs.Code.{Code, node, token, argument, Codes, nil, cons}
use Rattle.tree_reader.specs.Syntax.{done, tree, write, write_all, read_all, read}
use Rattle.tree_reader.specs.Operations.{tree_levels}
use Rattle.tree_reader.specs.Inner.Index.{Indexed}
use Rattle.tree_reader.specs.Inner.Positions.{production_place}
use Rattle.tree_reader.specs.declared.node.Syntax.TheVariants.{Tree}
use Rattle.tree_reader.proofs.Sound.{read_done}
use Rattle.format_card.specs.Card.{Card, sees}
use Rattle.format_card.specs.Inner.Sets.{in_set}
use Rattle.check_operations.proofs.Reading.{two, read_token_lem, read_deep, read_production, same_done, then_done}
use Rattle.tree_mask.specs.Mask.{hidden_block, masked, masked_all}
use Rattle.tree_mask.specs.Inner.Masking.{Puts, EndsTree, MasksTree, MasksTrees, MasksWhole}

-- Texts put one behind the other, and the same text said in another way.
pub puts_same : {v u o o' : List ℕ} {n m : ℕ} → v ≡ u → Puts v o o' n m → Puts u o o' n m
puts_same e w = rw (← e) w

pub puts_nothing : (o : List ℕ) (n : ℕ) → Puts [] o o n n
puts_nothing o n = record { end = omega arith; bytes = λ h. nothing_spliced o n }

pub puts_then : {v u o o₁ o₂ : List ℕ} {n m k : ℕ} → Puts v o o₁ n m → Puts u o₁ o₂ m k → Puts (v ++ u) o o₂ n k
puts_then {v} {u} {o} {o₁} {o₂} {n} {m} {k} a c = record {
  end = omega (arith, length-append v u, a.end, c.end);
  bytes = λ h.
      let f : n + length v ≤ length o = omega (arith, a.end, c.end) in
      let e : o₁ ≡ spliced o n v = a.bytes (omega (arith, a.end)) in
      let i : length o₁ ≡ length o = ap length e ∙ length_spliced o n v f in
      c.bytes (omega arith) ∙ (ap (λ (p : List ℕ). spliced p m u) e ∙ (ap (λ (j : ℕ). spliced (spliced o n v) j u) a.end ∙ splice_splice o n v f u));
}

set_stored : (o : List ℕ) (n : ℕ) (v : List ℕ) → n + length v ≤ length o → sets o n v ≡ spliced o n v
unfolding spliced
set_stored o n v h = sets-eq v o n h ∙ append_assoc (take n o) v (drop (n + length v) o)

-- put
pub put_short : (x : ℕ) (o : List ℕ) (n : ℕ) → length o ≤ n → Puts (x ∷ []) o o n (n + 1)
put_short x o n h = record { end = refl; bytes = λ i. absurd (omega arith) }

pub put_byte : (x : ℕ) (o : List ℕ) (n : ℕ) → n < length o → Puts (x ∷ []) o (set o n x) n (n + 1)
put_byte x o n h = record { end = refl; bytes = λ i. set_stored o n (x ∷ []) (omega arith) }

-- put_token
module _ (x : Bool) (b : List ℕ) (at : ℕ) (o : List ℕ) (n : ℕ) (there : at + 2 ≤ length b) where
  pub token_hidden : (o' : List ℕ) → x ≡ false → Puts hidden_block o o' n (n + 1) → Puts (cond x (take 2 (drop at b)) hidden_block) o o' n (n + 1)
  token_hidden o' e w = rw e w

  module _ (e : x ≡ true) where
    token_is : take 2 (drop at b) ≡ cond x (take 2 (drop at b)) hidden_block
    token_is = sym (ap (λ (y : Bool). cond y (take 2 (drop at b)) hidden_block) e)

    token_long : length (take 2 (drop at b)) ≡ 2
    token_long = length-take-le 2 (drop at b) (omega (arith, length-drop at b))

    pub token_short : length o < n + 2 → Puts (cond x (take 2 (drop at b)) hidden_block) o o n (n + 2)
    token_short h = puts_same token_is (record { end = omega (arith, token_long); bytes = λ i. absurd (omega arith) })

    pub token_put : (o' v : List ℕ) → v ≡ take (at + 2 - at) (drop at b) → o' ≡ put_mid n (n + 2 - n) o v
        → Puts (cond x (take 2 (drop at b)) hidden_block) o o' n (n + 2)
    token_put o' v ev eo =
        let two : at + 2 - at ≡ 2 = omega arith in
        let w : v ≡ take 2 (drop at b) = ev ∙ ap (λ (j : ℕ). take j (drop at b)) two in
        let k : n + (n + 2 - n) ≡ n + length (take 2 (drop at b)) = omega (arith, token_long) in
        puts_same token_is (record {
          end = omega (arith, token_long);
          bytes = λ i.
              eo ∙ (ap (put_mid n (n + 2 - n) o) w ∙ rw (opened o n (take 2 (drop at b)), drop-drop (n + 2 - n) n o) (ap (λ (j : ℕ). take n o ++ (take 2 (drop at b) ++ drop j o)) k));
        })

-- A block that is hidden, a token and a production that are seen.
pub masked_hidden : (l : Language) (card : Card) (k : ℕ) (a : Code) → sees card k ≡ false → masked l card k a ≡ hidden_block
unfolding masked
masked_hidden l card k (node j p t) h = rw h refl
masked_hidden l card k (token v) h = rw h refl
masked_hidden l card k (argument i j) h = rw h refl

pub masked_token : (l : Language) (card : Card) (k v : ℕ) → sees card k ≡ true → masked l card k (token v) ≡ two_bytes v
unfolding masked
masked_token l card k v h = rw h refl

pub masked_node : (l : Language) (card : Card) (k p : ℕ) (ks : List ℕ) (t : Codes) → sees card k ≡ true → arguments_of l k p ≡ some ks
    → masked l card k (node k p t) ≡ p ∷ masked_all l card ks t
unfolding masked
masked_node l card k p ks t h e = rw (h, e) refl

-- Two bytes are those of their number.
own_bytes : (x y : ℕ) → y < 256 → two_bytes (x * 256 + y) ≡ x ∷ y ∷ []
own_bytes x y h =
    let a : (x * 256 + y) / 256 ≡ x = omega arith in
    let c : (x * 256 + y) % 256 ≡ y = omega arith in
    cc

token_bytes : (b : List ℕ) (at : ℕ) → 2 ≤ length b - at → ((i : ℕ) → get_or b i 0 < 256) → two_bytes (pair_at b at) ≡ take 2 (drop at b)
unfolding pair_at
token_bytes b at h bytes = own_bytes (get_or b at 0) (get_or b (at + 1) 0) (bytes (at + 1)) ∙ sym (ap (take 2) (two b at h))

-- A tree that was read takes a byte at least.
some_bytes : (a : Code) → 1 ≤ length (write tree a)
unfolding write
some_bytes (node k p t) = omega arith
some_bytes (token v) = omega arith
some_bytes (argument i zero) = omega arith
some_bytes (argument i (suc j)) = omega arith

-- A masked form is no longer than the tree.
cond_few : (x : Bool) (v u : List ℕ) {n : ℕ} → length v ≤ n → length u ≤ n → length (cond x v u) ≤ n
cond_few true v u h i = h
cond_few false v u h i = i

mutual
  unfolding masked write

  pub masked_few : (l : Language) (card : Card) (k : ℕ) (a : Code) → length (masked l card k a) ≤ length (write tree a)
  masked_few l card k (node j p t) = cond_few (sees card k) _ _ (omega (arith, masked_few_all l card (Option.get_or (arguments_of l j p) []) t)) (omega (arith, some_bytes (node j p t)))
  masked_few l card k (token v) = cond_few (sees card k) _ _ (omega arith) (omega (arith, some_bytes (token v)))
  masked_few l card k (argument i j) = cond_few (sees card k) _ _ (omega arith) (some_bytes (argument i j))

  masked_few_all : (l : Language) (card : Card) (ks : List ℕ) (t : Codes) → length (masked_all l card ks t) ≤ length (write_all tree t)
  masked_few_all l card ks nil = omega arith
  masked_few_all l card [] (cons a t) = omega arith
  masked_few_all l card (k ∷ ks) (cons a t) =
      omega (arith, length-append (masked l card k a) (masked_all l card ks t), length-append (write tree a) (write_all tree t), masked_few l card k a, masked_few_all l card ks t)

pub read_some : (l : Language) (levels k : ℕ) (u : List ℕ) (a : Code) (rest : List ℕ) → ((i : ℕ) → get_or u i 0 < 256)
    → read tree l [] levels k u ≡ done a rest → length rest < length u
read_some l levels k u a rest bytes e =
    let w = (read_done tree l [] levels k u a rest e).2 (bytes_from u (λ i j. bytes i)) in
    omega (arith, ap length w.0, length-append (write tree a) rest, some_bytes a)

-- A tree of a kind, by what stands at its position.
module _ (s index b : List ℕ) (kinds k at : ℕ) (o : List ℕ) (n levels : ℕ) where
  pub at_hidden : {e m : ℕ} {o' : List ℕ} → in_set kinds k ≡ false → EndsTree s index k b at levels e → Puts hidden_block o o' n m
      → MasksTree s index kinds k b at levels o o' n e m
  at_hidden h ends w l card a rest z c f = record { left = ends.left l a rest z f; put = puts_same (sym (masked_hidden l card k a (sym (c k) ∙ h))) w }

  module _ (kind : k < 32) (bytes : (i : ℕ) → get_or b i 0 < 256) where
    pub not_behind : {e : ℕ} → EndsTree s index k b at levels e → e ≤ at → (l : Language) (a : Code) (rest : List ℕ) → Indexed index s l
        → read tree l [] levels k (drop at b) ≡ done a rest → ⊥
    not_behind {e} ends h l a rest z f =
        let w = read_some l levels k (drop at b) a rest (λ i. rw (get_or-drop at b i 0) (bytes (at + i))) f in
        omega (arith, w, ap length (ends.left l a rest z f), length-drop e b, length-drop at b)

    module _ {j class place : ℕ} (ej : j ≡ k) (ec : class ≡ get_or index j 0) (ep : place ≡ cond (eqb class 0) (production_place Tree index k b at) 0) where
      pub not_cut : place ≡ 0 → length b - at < 2 → (l : Language) (a : Code) (rest : List ℕ) → Indexed index s l
          → read tree l [] levels k (drop at b) ≡ done a rest → ⊥
      not_cut p h l a rest z f =
          let t = read_token_lem s index b k at kind bytes ej ec ep l z levels a rest f p in omega (arith, t.there)

      pub at_token : {x : Bool} {o' : List ℕ} {m : ℕ} → place ≡ 0 → x ≡ in_set kinds k → Puts (cond x (take 2 (drop at b)) hidden_block) o o' n m
          → MasksTree s index kinds k b at levels o o' n (at + 2) m
      at_token {x} p ex w l card a rest z c f =
          let t = read_token_lem s index b k at kind bytes ej ec ep l z levels a rest f p in
          let v : cond x (take 2 (drop at b)) hidden_block ≡ masked l card k a =
          by_test x
          (λ q.
          rw q (sym (ap (masked l card k) t.is ∙ (masked_token l card k (pair_at b at) (sym (c k) ∙ (sym ex ∙ q)) ∙ token_bytes b at t.there bytes))))
          (λ q. rw q (sym (masked_hidden l card k a (sym (c k) ∙ (sym ex ∙ q))))) in
          record { left = t.left; put = puts_same v w }

      module _ (pos : place ≡ 0 → ⊥) where
        pub not_deep : levels ≡ 0 → (l : Language) (a : Code) (rest : List ℕ) → Indexed index s l
            → read tree l [] levels k (drop at b) ≡ done a rest → ⊥
        not_deep h l a rest z f = read_deep s index b k at kind bytes ej ec ep l z levels a rest f pos h

        pub at_operands : {size : ℕ} {o₁ o₂ : List ℕ} {e m : ℕ} → (levels ≡ 0 → ⊥) → size ≡ pair_at s place → in_set kinds k ≡ true
            → Puts (get_or b at 0 ∷ []) o o₁ n (n + 1)
            → MasksTrees s index kinds (place + 4) (place + 2 + size) b (at + 1) (levels - 1) o₁ o₂ (n + 1) e m
            → MasksTree s index kinds k b at levels o o₂ n e m
        at_operands some_level es shown w all l card a rest z c f =
            let d = read_production s index b k at kind bytes ej ec ep l z levels a rest f pos some_level es in
            let v = masked_node l card k (get_or b at 0) _ d.operands (sym (c k) ∙ shown) d.known in
            let y = all l card d.operands rest z c d.reads in
            record { left = y.left; put = puts_same (sym (ap (masked l card k) d.is ∙ v)) (puts_then w y.put) }

-- A class has no production.
pub no_place : (class x : ℕ) → (class ≡ 0 → ⊥) → 0 ≡ cond (eqb class 0) x 0
no_place class x h = ap (λ (y : Bool). cond y x 0) (sym (ne_eqb class 0 h))

-- Trees one behind the other.
pub all_cons : (l : Language) (card : Card) (k : ℕ) (ks : List ℕ) (a : Code) (t : Codes) → masked_all l card (k ∷ ks) (cons a t) ≡ masked l card k a ++ masked_all l card ks t
unfolding masked_all
all_cons l card k ks a t = refl

pub all_nil : (l : Language) (card : Card) (ks : List ℕ) → masked_all l card ks nil ≡ []
unfolding masked_all
all_nil l card ks = refl

module _ (s index : List ℕ) (kinds q stop : ℕ) (b : List ℕ) (to levels : ℕ) (o : List ℕ) (n : ℕ) where
  pub all_done : stop ≤ q → MasksTrees s index kinds q stop b to levels o o n to n
  unfolding read_all
  all_done h l card t rest z c e =
      let no : slice q stop s ≡ [] = sym (part_done (λ u. u) s q stop (slice q stop s) refl h) in
      let r : done nil (drop to b) ≡ done t rest = ap (λ (ks : List ℕ). read_all (read tree l [] levels) ks (drop to b)) (sym no) ∙ e in
      let w = same_done nil t (drop to b) rest r in
      let v : [] ≡ masked_all l card (slice q stop s) t = sym (all_nil l card (slice q stop s)) ∙ ap (masked_all l card (slice q stop s)) w.0 in
      record { left = w.1; put = puts_same v (puts_nothing o n) }

  module _ {k : ℕ} (ek : k ≡ get_or s q 0) (more : q < stop) (there : stop ≤ length s) where
    next_is : slice q stop s ≡ k ∷ slice (q + 1) stop s
    next_is = sym (part_next (λ u. u) s q stop (slice q stop s) refl more there) ∙ ap (λ (j : ℕ). j ∷ slice (q + 1) stop s) (sym ek)

    -- The first tree, and those behind it.
    record First (l : Language) (card : Card) (t : Codes) (rest : List ℕ) : Type 0 where
      pub head : Code
      pub behind : List ℕ
      pub others : Codes
      pub reads : read tree l [] levels k (drop to b) ≡ done head behind
      pub rests : read_all (read tree l [] levels) (slice (q + 1) stop s) behind ≡ done others rest
      pub parts : masked_all l card (slice q stop s) t ≡ masked l card k head ++ masked_all l card (slice (q + 1) stop s) others

    first : (l : Language) (card : Card) (t : Codes) (rest : List ℕ) → read_all (read tree l [] levels) (slice q stop s) (drop to b) ≡ done t rest → First l card t rest
    unfolding read_all
    first l card t rest e =
        let r : read_all (read tree l [] levels) (k ∷ slice (q + 1) stop s) (drop to b) ≡ done t rest =
        ap (λ (ks : List ℕ). read_all (read tree l [] levels) ks (drop to b)) (sym next_is) ∙ e in
        let x = then_done (read tree l [] levels k (drop to b)) _ t rest r in
        let y = then_done (read_all (read tree l [] levels) (slice (q + 1) stop s) x.1) _ t rest x.3 in
        let w = same_done (cons x.0 y.0) t y.1 rest y.3 in
        record {
          head = x.0;
          behind = x.1;
          others = y.0;
          reads = x.2;
          rests = y.2 ∙ ap (done y.0) w.1;
          parts = ap (λ (ks : List ℕ). masked_all l card ks t) next_is
              ∙ (ap (masked_all l card (k ∷ slice (q + 1) stop s)) (sym w.0) ∙ all_cons l card k (slice (q + 1) stop s) x.0 y.0);
        }

    -- A tree that cannot be read.
    pub all_not : {o' : List ℕ} {e m : ℕ} → ((l : Language) (a : Code) (rest : List ℕ) → Indexed index s l → read tree l [] levels k (drop to b) ≡ done a rest → ⊥)
        → MasksTrees s index kinds q stop b to levels o o' n e m
    all_not none l card t rest z c e = absurd (none l _ _ z (first l card t rest e).reads)

    pub all_next : {o₁ o₂ : List ℕ} {e m x h : ℕ} → MasksTree s index kinds k b to levels o o₁ n e m
        → MasksTrees s index kinds (q + 1) stop b e levels o₁ o₂ m x h → MasksTrees s index kinds q stop b to levels o o₂ n x h
    all_next step all l card t rest z c f =
        let d = first l card t rest f in
        let w = step l card d.head d.behind z c d.reads in
        let y = all l card d.others rest z c (ap (read_all (read tree l [] levels) (slice (q + 1) stop s)) w.left ∙ d.rests) in
        record { left = y.left; put = puts_same (sym d.parts) (puts_then w.put y.put) }

-- The last tree: behind it nothing is left.
pub all_last : (s index : List ℕ) (kinds q stop : ℕ) (b : List ℕ) (to levels : ℕ) (o : List ℕ) (n : ℕ) {k : ℕ} → k ≡ get_or s q 0 → q + 1 ≡ stop → stop ≤ length s
    → {o₁ : List ℕ} {e m : ℕ} → MasksTree s index kinds k b to levels o o₁ n e m → MasksTrees s index kinds q stop b to levels o o₁ n e m
all_last s index kinds q stop b to levels o n ek last there {o₁} {e} {m} step =
    all_next s index kinds q stop b to levels o n ek (omega arith) there step (all_done s index kinds (q + 1) stop b e levels o₁ m (omega arith))

-- mask_tree
module _ (s index b : List ℕ) (kinds k : ℕ) (o : List ℕ) where
  pub whole_hidden : {o' : List ℕ} → in_set kinds k ≡ false → Puts hidden_block o o' 0 1 → MasksWhole s index kinds k b o o' 1
  whole_hidden h w l card a z c f = puts_same (sym (masked_hidden l card k a (sym (c k) ∙ h))) w

  pub whole_not : {o' : List ℕ} {m : ℕ} → ((l : Language) (a : Code) (rest : List ℕ) → Indexed index s l → read tree l [] tree_levels k b ≡ done a rest → ⊥)
      → MasksWhole s index kinds k b o o' m
  whole_not none l card a z c f = absurd (none l a [] z f)

  pub whole_is : {o' : List ℕ} {e m : ℕ} → MasksTree s index kinds k b 0 tree_levels o o' 0 e m → MasksWhole s index kinds k b o o' m
  whole_is w l card a z c f = (w l card a [] z c f).put

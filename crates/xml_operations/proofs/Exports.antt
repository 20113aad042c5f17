-- A law for each return and loop turn of `export_at` and `export_all`.
use Prim.Native.Nat.{ℕ, ◌+◌, ◌*◌, ◌-◌, ◌<◌, ◌≤◌}
use mathlib.Core.Path.{◌≡◌, refl, sym, ap, ◌∙◌}
use mathlib.Core.Bool.{cond}
use mathlib.Core.List.{List, [], ◌∷◌, ◌++◌, append_assoc, append-nil}
use native.Mathlib.Omega.{arith}
use lib.ListN.{length, get_or, take, drop, drop_of_length-le, length-append, length-take}
use lib.Seq.{slice, get_or-take, get_or-drop}
use lib.Dec.{leb, eqb}
use borrow.Author.Tests.{leb-true, leb-false}
use Rattle.std.specs.Prelude.{All}
use Rattle.std.proofs.lemmas.List.{drop-take}
use Rattle.std.proofs.lemmas.List.Elements.{All-from_get_or}
use Rattle.format_fields.proofs.Truth.{by_test}
use Rattle.format_fields.specs.Fields.{pair_at}
use Rattle.format_fields.specs.Inner.Writing.{Written}
use Rattle.format_fields.proofs.Split.{front}
use Rattle.format_fields.proofs.Splices.{nothing_spliced}
use Rattle.format_language.specs.Language.{Language}
use Rattle.tree_reader.specs.Code.{Code, Codes, nil, cons}
use Rattle.tree_reader.specs.Syntax.{done, tree, read_all, read}
use Rattle.tree_reader.specs.Inner.Index.{Sound}
use Rattle.tree_reader.specs.Inner.Positions.{KindsIn, production_place}
use Rattle.tree_reader.specs.declared.operands.Operands.{Operands}
use Rattle.tree_reader.specs.declared.node.Syntax.TheVariants.{Tree}
use Rattle.check_operations.proofs.Reading.{ReadToken, ReadNode, read_token_lem, read_deep, read_production, at_name, at_kinds, same_done, then_done}
use Rattle.format_fields.specs.Decimal.{decimal}
use Rattle.xml_text.specs.Text.{node_tag, token_tag, open_node, close_node, open_token, close_token, export, export_all}
use Rattle.xml_operations.specs.Inner.Exporting.{TreeAsks, TreesAsk, Exported}
use Rattle.xml_text.proofs.Stores.{written_then}
use Rattle.xml_operations.proofs.Puts.{written_same, token_length, node_length}
use Rattle.xml_operations.proofs.Reading.{token_text, node_text}

-- export_all, a turn at a time: `text` is written, `operands` are left.
pub record Going (kinds s index b : List ℕ) (levels : ℕ) (o : List ℕ) (n : ℕ) (l : Language) (t : Codes) (rest o' : List ℕ) (q to m : ℕ) : Type 0 where
  pub operands : Codes
  pub text : List ℕ
  pub asks : TreesAsk (drop q kinds) s index b to levels (length o) m l operands rest
  pub whole : export_all l kinds t ≡ text ++ export_all l (drop q kinds) operands
  pub put : Written text o o' n m

abbrev pub Goes : List ℕ → List ℕ → List ℕ → List ℕ → ℕ → ℕ → List ℕ → ℕ → List ℕ → ℕ → ℕ → ℕ → Type 0
Goes kinds s index b at levels o n o' q to m =
    (l : Language) (t : Codes) (rest : List ℕ) → TreesAsk kinds s index b at levels (length o) n l t rest
    → Going kinds s index b levels o n l t rest o' q to m

none_text : (l : Language) (ks : List ℕ) → export_all l ks nil ≡ []
unfolding export_all
none_text l ks = refl

some_text : (l : Language) (k : ℕ) (ks : List ℕ) (a : Code) (t : Codes) → export_all l (k ∷ ks) (cons a t) ≡ export l k a ++ export_all l ks t
unfolding export_all
some_text l k ks a t = refl

module _ (kinds s index b : List ℕ) (at levels : ℕ) (o : List ℕ) (n : ℕ) where
  pub goes_start : Goes kinds s index b at levels o n o 0 at n
  goes_start l t rest a = record {
    operands = t;
    text = [];
    asks = a;
    whole = refl;
    put = record { end = omega arith; fits = omega (arith, a.fits); bytes = nothing_spliced o n };
  }

  module _ {o₁ : List ℕ} {q to m : ℕ} (goes : Goes kinds s index b at levels o n o₁ q to m) where
    pub goes_done : length kinds ≤ q → to ≤ length b → (l : Language) (t : Codes) (rest : List ℕ) → TreesAsk kinds s index b at levels (length o) n l t rest
        → Exported (export_all l kinds t) b rest o o₁ n to m
    unfolding read_all
    goes_done h i l t rest a =
        let g = goes l t rest a in
        let no : drop q kinds ≡ [] = drop_of_length-le kinds {i = q} h in
        let r : done nil (drop to b) ≡ done g.operands rest = ap (λ (ks : List ℕ). read_all (read tree l [] levels) ks (drop to b)) (sym no) ∙ g.asks.reads in
        let w = same_done nil g.operands (drop to b) rest r in
        let v : g.text ≡ export_all l kinds t =
        sym (g.whole ∙ (ap (λ (u : Codes). g.text ++ export_all l (drop q kinds) u) (sym w.0)
        ∙ (ap (λ (u : List ℕ). g.text ++ u) (none_text l (drop q kinds)) ∙ append-nil g.text))) in
        record { left = w.1; inside = i; put = written_same v g.put }

    module _ {k : ℕ} (ek : k ≡ get_or kinds q 0) (more : q < length kinds) (long₁ : length o₁ ≡ length o)
        {l : Language} {t : Codes} {rest : List ℕ} (a : TreesAsk kinds s index b at levels (length o) n l t rest) where
      pub now_is : Going kinds s index b levels o n l t rest o₁ q to m
      now_is = goes l t rest a

      next_is : drop q kinds ≡ k ∷ drop (q + 1) kinds
      next_is = front kinds q more ∙ ap (λ (j : ℕ). j ∷ drop (q + 1) kinds) (sym ek)

      -- The next tree, and those behind it.
      pub record Next : Type 0 where
        pub first : Code
        pub behind : List ℕ
        pub others : Codes
        pub reads : read tree l [] levels k (drop to b) ≡ done first behind
        pub rests : read_all (read tree l [] levels) (drop (q + 1) kinds) behind ≡ done others rest
        pub parts : export_all l (drop q kinds) now_is.operands ≡ export l k first ++ export_all l (drop (q + 1) kinds) others

      pub next : Next
      unfolding read_all
      next =
          let r : read_all (read tree l [] levels) (k ∷ drop (q + 1) kinds) (drop to b) ≡ done now_is.operands rest =
          ap (λ (ks : List ℕ). read_all (read tree l [] levels) ks (drop to b)) (sym next_is) ∙ now_is.asks.reads in
          let x = then_done (read tree l [] levels k (drop to b)) _ now_is.operands rest r in
          let z = then_done (read_all (read tree l [] levels) (drop (q + 1) kinds) x.1) _ now_is.operands rest x.3 in
          let w = same_done (cons x.0 z.0) now_is.operands z.1 rest z.3 in
          record {
            first = x.0;
            behind = x.1;
            others = z.0;
            reads = x.2;
            rests = z.2 ∙ ap (done z.0) w.1;
            parts = ap (λ (ks : List ℕ). export_all l ks now_is.operands) next_is
                ∙ (ap (export_all l (k ∷ drop (q + 1) kinds)) (sym w.0) ∙ some_text l k (drop (q + 1) kinds) x.0 z.0);
          }

      pub next_asks : TreeAsks s index k b to levels (length o₁) m l next.first next.behind
      next_asks =
          let u = export l k next.first in
          let v = export_all l (drop (q + 1) kinds) next.others in
          record {
            indexed = now_is.asks.indexed;
            reads = next.reads;
            fits = omega (arith, now_is.asks.fits, ap length next.parts, length-append u v);
          }

      pub goes_next : {o₂ : List ℕ} {e h : ℕ} → Exported (export l k next.first) b next.behind o₁ o₂ m e h
          → Going kinds s index b levels o n l t rest o₂ (q + 1) e h
      goes_next {o₂} {e} {h} w =
          let u = export l k next.first in
          let v = export_all l (drop (q + 1) kinds) next.others in
          record {
            operands = next.others;
            text = now_is.text ++ u;
            asks = record {
              indexed = now_is.asks.indexed;
              reads = ap (read_all (read tree l [] levels) (drop (q + 1) kinds)) w.left ∙ next.rests;
              fits = omega (arith, w.put.end, now_is.asks.fits, ap length next.parts, length-append u v);
            };
            whole = now_is.whole ∙ (ap (λ (z : List ℕ). now_is.text ++ z) next.parts ∙ sym (append_assoc now_is.text u v));
            put = written_then now_is.put long₁ w.put;
          }

-- A part of the language, as the code takes it.
part_is : (s : List ℕ) (first last : ℕ) → take (last - first) (drop first s) ≡ slice first last s
part_is s first last =
    by_test (leb first last)
    (λ t.
    let h : first + (last - first) ≡ last = let z = leb-true _ _ t in omega arith in
    sym (drop-take first (last - first) s) ∙ ap (λ (i : ℕ). drop first (take i s)) h)
    (λ t.
    let h : last - first ≡ 0 = let z = leb-false _ _ t in omega arith in
    ap (λ (i : ℕ). take i (drop first s)) h ∙ sym (drop_of_length-le (take last s) {i = first} (let z = leb-false _ _ t in omega (arith, length-take last s))))

-- The numbers in the tags of a production.
tags_same : {i k p q : ℕ} (v : List ℕ) → i ≡ k → p ≡ q → node_tag open_node k q ++ (v ++ node_tag close_node k q) ≡ node_tag open_node i p ++ (v ++ node_tag close_node i p)
tags_same v e f = rw (e, f) refl

-- export_at
module _ (s index b : List ℕ) (k at levels : ℕ) (kind : k < 32) (bytes : (i : ℕ) → get_or b i 0 < 256) {j class place : ℕ}
    (ej : j ≡ k) (ec : class ≡ get_or index j 0) (ep : place ≡ cond (eqb class 0) (production_place Tree index k b at) 0) where
  module _ {room n : ℕ} {l : Language} {a : Code} {rest : List ℕ} (q : TreeAsks s index k b at levels room n l a rest) (none : place ≡ 0) where
    stands : ReadToken b at a rest
    stands = read_token_lem s index b k at kind bytes ej ec ep l q.indexed levels a rest q.reads none

    pub token_there : 2 ≤ length b - at
    token_there = stands.there

    module _ {v : ℕ} (ev : v ≡ pair_at b at) where
      pub token_room : n + (7 + 2 * length (decimal j) + length (decimal v)) ≤ room
      token_room =
          let d : length (decimal j) ≡ length (decimal k) = ap (λ (i : ℕ). length (decimal i)) ej in
          let e : length (decimal v) ≡ length (decimal (pair_at b at)) = ap (λ (i : ℕ). length (decimal i)) ev in
          omega (arith, q.fits, ap length (token_text l k stands), token_length k (pair_at b at), d, e)

      pub token_done : {m : ℕ} {o o' : List ℕ} → Written (token_tag open_token j ++ (decimal v ++ token_tag close_token j)) o o' n m
          → Exported (export l k a) b rest o o' n (at + 2) m
      token_done {m} {o} {o'} w =
          let u : Written (token_tag open_token k ++ (decimal (pair_at b at) ++ token_tag close_token k)) o o' n m = rw (← ej, ← ev) w in
          record { left = stands.left; inside = omega (arith, stands.there); put = written_same (sym (token_text l k stands)) u }

  module _ (pos : place ≡ 0 → ⊥) where
    pub level_left : {room n : ℕ} {l : Language} {a : Code} {rest : List ℕ} → TreeAsks s index k b at levels room n l a rest → levels ≡ 0 → ⊥
    level_left {room} {n} {l} {a} {rest} q h = read_deep s index b k at kind bytes ej ec ep l q.indexed levels a rest q.reads pos h

    module _ {p : ℕ} (ename : p ≡ get_or b at 0) {row : Operands} (ef : row.first ≡ place + 4) (el : row.last ≡ place + 2 + pair_at s place) where
      abbrev kinds : List ℕ
      kinds = take (row.last - row.first) (drop row.first s)

      kinds_in : Sound index s → KindsIn s row.first row.last
      kinds_in known = rw (ef, el) (at_kinds s index b k at kind bytes ej ec ep pos refl known)

      pub kinds_end : Sound index s → row.first < row.last → row.last ≤ length s
      kinds_end known h = let w = kinds_in known (row.last - 1) (omega arith) (omega arith) in omega (arith, w.0)

      pub kinds_legal : Sound index s → All (λ (i : ℕ). i < 32) kinds
      kinds_legal known =
          All-from_get_or (λ (i : ℕ). i < 32) kinds 0 (λ i h.
          let n = length-take (row.last - row.first) (drop row.first s) in
          let v : get_or kinds i 0 ≡ get_or s (row.first + i) 0 = get_or-take (row.last - row.first) (drop row.first s) i 0 (omega arith) ∙ get_or-drop row.first s i 0 in
          rw v (kinds_in known (row.first + i) (omega arith) (omega arith)).1)

      module _ (o : List ℕ) {n : ℕ} {l : Language} {a : Code} {rest : List ℕ} (q : TreeAsks s index k b at levels (length o) n l a rest) where
        pub found : ReadNode s l k b at levels row.first row.last a rest
        found =
            let z : ReadNode s l k b at levels (place + 4) (place + 2 + pair_at s place) a rest =
            read_production s index b k at kind bytes ej ec ep l q.indexed levels a rest q.reads pos (level_left q) refl in
            rw (ef, el) z

        abbrev inner : List ℕ
        inner = export_all l kinds found.operands

        parts : export l k a ≡ node_tag open_node j p ++ (inner ++ node_tag close_node j p)
        parts =
            node_text found
            ∙ (ap (λ (ks : List ℕ). node_tag open_node k (get_or b at 0) ++ (export_all l ks found.operands ++ node_tag close_node k (get_or b at 0))) (sym (part_is s row.first row.last))
            ∙ tags_same inner ej ename)

        sizes : length (export l k a) ≡ 4 + length (decimal j) + length (decimal p) + (length inner + (5 + length (decimal j) + length (decimal p)))
        sizes =
            let u = node_tag open_node j p in
            let w = node_tag close_node j p in
            omega (arith, ap length parts, length-append u (inner ++ w), length-append inner w, node_length open_node j p, node_length close_node j p)

        pub opening_room : n + (4 + length (decimal j) + length (decimal p)) ≤ length o
        opening_room = omega (arith, q.fits, sizes)

        module _ {o₁ : List ℕ} {m : ℕ} (begun : Written (node_tag open_node j p) o o₁ n m) (long₁ : length o₁ ≡ length o) where
          pub operands_ask : TreesAsk kinds s index b (at + 1) (levels - 1) (length o₁) m l found.operands rest
          operands_ask = record {
            indexed = q.indexed;
            reads = ap (λ (ks : List ℕ). read_all (read tree l [] (levels - 1)) ks (drop (at + 1) b)) (part_is s row.first row.last) ∙ found.reads;
            fits = omega (arith, q.fits, sizes, begun.end, node_length open_node j p);
          }

          module _ {o₂ : List ℕ} {e h : ℕ} (all : Exported inner b rest o₁ o₂ m e h) (long₂ : length o₂ ≡ length o₁) where
            pub closing_room : h + (5 + length (decimal j) + length (decimal p)) ≤ length o₂
            closing_room = omega (arith, q.fits, sizes, begun.end, all.put.end, node_length open_node j p)

            pub node_done : {o₃ : List ℕ} {r : ℕ} → Written (node_tag close_node j p) o₂ o₃ h r → Exported (export l k a) b rest o o₃ n e r
            node_done w = record {
              left = all.left;
              inside = all.inside;
              put = written_same (sym parts) (written_then begun long₁ (written_then all.put long₂ w));
            }

          -- A production without arguments.
          pub none_inside : row.last ≤ row.first → Exported inner b rest o₁ o₁ m (at + 1) m
          none_inside h =
              goes_done kinds s index b (at + 1) (levels - 1) o₁ m (goes_start kinds s index b (at + 1) (levels - 1) o₁ m) (omega (arith, length-take (row.last - row.first) (drop row.first s)))
              (omega (arith, at_name s index b k at kind bytes ej ec ep pos)) l found.operands rest operands_ask

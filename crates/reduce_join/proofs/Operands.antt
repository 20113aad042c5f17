-- What the join is told of two translations: both are sound, and the emitter is told what it asks for.
use Prim.Native.Nat.{ℕ, zero, suc, ◌+◌, ◌-◌, ◌*◌, ◌<◌, ◌≤◌}
use mathlib.Core.Path.{◌≡◌, refl, sym, ap, ◌∙◌}
use mathlib.Core.Logic.{inl, inr}
use mathlib.Core.Bool.{true}
use mathlib.Core.List.{List, [], ◌∷◌}
use mathlib.Core.Option
use mathlib.Core.Option.{some}
use native.Mathlib.Omega.{arith}
use lib.ListN.{length, get_or, drop, replicate, length-take}
use lib.Seq.{slice, get_or-take, get_or-drop}
use borrow.Author.Tests.{ne_eqb}
use Rattle.format_fields.specs.Lists.{is_some}
use Rattle.format_fields.specs.Inner.Places.{field_end, places_from, places}
use Rattle.format_fields.proofs.Truth.{Mem, none_some, false_true, mem_map, mem_append}
use Rattle.format_fields.proofs.Codec.{Bytes, bytes_from}
use Rattle.format_fields.proofs.Places.{places_next}
use Rattle.format_language.specs.Language.{Language, arguments_of}
use Rattle.tree_reader.specs.Typing.{Uses, kind_at}
use Rattle.tree_reader.specs.Syntax as Meant
use Rattle.tree_reader.specs.declared.node.Syntax.TheVariants as Syntaxes
use Rattle.tree_reader.proofs.Lookup.{zeros}
use Rattle.tree_reader.proofs.Larger.{read_keeps, keeps}
use Rattle.tree_reader.proofs.Sound.{read_done}
use Rattle.format_translation.specs.Translation.{mapping, clause, Translation, number_of, mapping_of, mapped}
use Rattle.format_translation.specs.Running.{uses_of, read_clause, clauses_of}
use Rattle.format_translation.specs.Inner.Items.{item_whole, item_at, ItemFacts, plain_mapping, plain_clause, numbered_mapping_lem, numbered_clause_lem, is_clause_tag}
use Rattle.format_translation.proofs.Items.{item_facts, clause_is, numbered_clause_is, holds_items}
use Rattle.format_translation.proofs.Lookup.{mapping_mem, mem_mapping}
use Rattle.format_translation.proofs.Preserved.{use_kind}
use Rattle.format_translation.proofs.Found.{cut_is}
use Rattle.format_translation.proofs.Fitting.{clause_code}
use Rattle.run_table.proofs.Standing.{drop_stands}
use Rattle.run_emit.specs.Inner.Runs.{Right, TermAsks}
use Rattle.reduce_operators.specs.Inner.Paired.{reached}
use Rattle.reduce_operators.proofs.Proper.{Sound, proper_below}
use Rattle.reduce_operators.proofs.Accepted.{accepted_good}
use Rattle.reduce_operators.proofs.JoinRises.{low_is}
use Rattle.reduce_operators.proofs.JoinSound.{target_larger}
use Rattle.reduce_join.specs.Inner.Joining.{Held, Joining, Reached, head_length, between, ClauseAsks, ReachAsks, NumberAsks}

-- A translation that a file can hold is sound.
pub held_sound : (f : Translation) → Held f → Sound f
held_sound f h = (accepted_good h.0 f h.1).sound

-- The syntaxes differ.
no_tree : {A : Type 0} → Syntaxes.Code ≡ Syntaxes.Tree → A
no_tree e = let z : ◌≡◌ {A = ℕ} 0 1 = cc in absurd (omega arith)

-- The bytes of a part.
part_bytes : (s : List ℕ) (q e : ℕ) → ((i : ℕ) → get_or s i 0 < 256) → Bytes (between s q e)
part_bytes s q e h =
    bytes_from (between s q e)
    (λ i l.
    let g : get_or (between s q e) i 0 ≡ get_or s (q + i) 0 = get_or-take (e - q) (drop q s) i 0 (omega (arith, length-take (e - q) (drop q s), l)) ∙ get_or-drop q s i 0 in
    rw g (h (q + i)))

-- Nothing is kept in a table of zeros.
nothing_kept : (n : ℕ) (input : List ℕ) (l : Language) (given : Uses) → Right Syntaxes.Code (replicate n 0) input l given
nothing_kept n input l given k at e z u d s =
    let y = z.end in
    let w = zeros n (2 * z.slot + 1) in
    let m = z.some in
    absurd (omega arith)

-- A clause at p: where its code stands, and its number.
record ClauseAt (b : List ℕ) (p : ℕ) : Type 0 where
  number : ℕ
  item : item_at b p ≡ clause (get_or b (p + 3) 0) (get_or b (p + 4) 0) number (slice (p + head_length number) (field_end b p) b)
  past : p + head_length number ≤ field_end b p
  ends : field_end b p ≤ length b
  result : get_or b (p + 3) 0 < 32

clause_at_lem : (b : List ℕ) (p : ℕ) → is_clause_tag (get_or b p 0) ≡ true → ItemFacts b p → ClauseAt b p
unfolding head_length
clause_at_lem b p t (plain_mapping m) = false_true (rw m.tag at t)
clause_at_lem b p t (plain_clause c) = record { number = 0; item = clause_is b p c; past = c.past; ends = c.ends; result = c.result }
clause_at_lem b p t (numbered_mapping_lem m) = false_true (rw m.tag at t)
clause_at_lem b p t (numbered_clause_lem c) =
    let z = ne_eqb (get_or b (p + 5) 0) 0 (λ h. omega (arith, c.number)) in
    record {
      number = get_or b (p + 5) 0;
      item = rw z (numbered_clause_is b p c);
      past = rw z c.past;
      ends = c.ends;
      result = c.result;
    }

module _ (t u b u' : List ℕ) (limit : ℕ) (f g : Translation) (z : Joining t u b u' limit f g) where
  pub first_sound : Sound f
  first_sound = held_sound f z.first

  pub second_sound : Sound g
  second_sound = held_sound g z.second

  -- An item that the walk comes by is one of the second's body.
  module _ (p : ℕ) (w : Reached b p) (here : p < length b) where
    item_stands : Mem (item_at b p) g.body
    item_stands =
        let x : Mem p (p ∷ places_from b (field_end b p)) = inl refl in
        let y : Mem p (places_from b p) = rw (places_next b p here) x in
        let v : Mem p (places b) = rw w.walk (mem_append p w.before (places_from b p) (inr y)) in
        rw (← (holds_items b g.body z.items).items) (mem_map (item_at b) p (places b) v)

    pub number_low : number_of (item_at b p) < 16
    number_low = low_is g z.second_low (item_at b p) item_stands

    module _ (whole : item_whole b p ≡ true) (e : ℕ) (ee : e ≡ field_end b p) (i : ℕ) (ei : i ≡ number_of (item_at b p)) where
      -- The number of a clause.
      number_at_lem : (c : ClauseAt b p) → c.number ≡ i
      unfolding number_of
      number_at_lem c = sym (ei ∙ ap number_of c.item)

      clause_stands : (c : ClauseAt b p) → Mem (clause (get_or b (p + 3) 0) (get_or b (p + 4) 0) c.number (slice (p + head_length c.number) (field_end b p) b)) g.body
      clause_stands c = rw c.item at item_stands

      -- kind_reached
      clause_goes : (c : ClauseAt b p) → (k : ℕ) × (mapping_of g.body (get_or b (p + 3) 0) c.number ≡ some k) × (k < 32)
      clause_goes c =
          let s = second_sound in
          let k = (s.fits.clauses_only _ _ _ _ (clause_stands c)).1 in (
            k.0,
            mem_mapping g.body s.rises _ _ k.0 k.1,
            proper_below g.target s.target k.0 (s.fits.maps_only _ _ k.0 k.1).1,
          )

      pub reach_asks : ReachAsks b u' p e i g
      reach_asks = record {
        whole = whole;
        end = ee;
        number = ei;
        low = rw ei number_low;
        uses = z.second_uses;
        goes = λ q. let c = clause_at_lem b p q (item_facts b p whole) in rw (← number_at_lem c) (clause_goes c);
      }

      -- join_number
      module _ (bytes : (i : ℕ) → get_or b i 0 < 256) (kind : ℕ) (ek : kind ≡ reached g (item_at b p)) (below : kind < 32) (j : ℕ) (lj : j < limit) where
        -- A code is read in the first's source as it is in the second's target.
        code_read : (c : ClauseAt b p) → kind ≡ mapped g.body (get_or b (p + 3) 0) c.number
            → Meant.read Meant.code f.source (uses_of g (get_or b (p + 3) 0) (get_or b (p + 4) 0)) 16 kind (between b (p + head_length c.number) e)
            ≡ Meant.done (clauses_of g (get_or b (p + 3) 0) (get_or b (p + 4) 0) c.number) []
        unfolding read_clause
        code_read c l =
            let s = second_sound in
            let m = clause_stands c in
            let a = s.fits.codes _ _ _ _ m in
            let x : between b (p + head_length c.number) e ≡ slice (p + head_length c.number) (field_end b p) b
            = ap (λ (y : ℕ). between b (p + head_length c.number) y) ee ∙ cut_is b (p + head_length c.number) (field_end b p) c.past c.ends in
            rw (l, x, clause_code g s.rises _ _ _ _ a.0 m a.1)
            (keeps (read_keeps (target_larger f g first_sound s z.fits) _ 16 _ _) a.1)

        uses_low : (r n : ℕ) (x y k : ℕ) → kind_at (uses_of g r n) x y ≡ some k → y < 16
        unfolding uses_of number_of
        uses_low r n zero y k e = none_some e
        uses_low r n (suc x) y k e =
            let q = use_kind (mapping_of g.body) (Option.get_or (arguments_of g.source r n) []) x y k e in
            low_is g z.second_low (mapping q.0 y k) (mapping_mem g.body q.0 y k q.2)

        first_uses : (k y : ℕ) → is_some (mapping_of f.body k y) ≡ true → y < 16
        first_uses k y h = let a = z.below k y h in let c = z.few in omega arith

        code_asks : (c : ClauseAt b p) → kind ≡ mapped g.body (get_or b (p + 3) 0) c.number → is_some (mapping_of f.body kind j) ≡ true
            → TermAsks Syntaxes.Code t (between b (p + head_length c.number) e) (replicate 2 0) 16 kind j f (uses_of g (get_or b (p + 3) 0) (get_or b (p + 4) 0))
            (clauses_of g (get_or b (p + 3) 0) (get_or b (p + 4) 0) c.number)
        code_asks c l has =
            let d = read_done Meant.code f.source _ 16 kind (between b (p + head_length c.number) e) _ [] (code_read c l) in
            record {
              table = record { ready = z.table; plain = λ q. no_tree q; uses = uses_low _ _; numbers = λ q k y h. first_uses k y h };
              kept = nothing_kept 2 _ _ _;
              term = record {
                typed = d.0;
                kind = below;
                stands = drop_stands (between b (p + head_length c.number) e) 0 _ [] (omega arith) (d.2 (part_bytes b (p + head_length c.number) e bytes)).0;
              };
              has = has;
              levels = d.1;
              most = omega arith;
            }

        clause_as : (c : ClauseAt b p) → (i' : ℕ) → c.number ≡ i' → i' < 16 → is_some (mapping_of f.body kind j) ≡ true → ClauseAsks t b p e kind i' j f g
        clause_as c i' q l has =
            let k : kind ≡ mapped g.body (get_or b (p + 3) 0) c.number = ek ∙ ap (reached g) c.item in
            rw (← q)
            (record {
              bytes = slice (p + head_length c.number) (field_end b p) b;
              item = c.item;
              past = rw ee c.past;
              ends = rw ee c.ends;
              second_low = rw q l;
              first_low = let a = z.few in omega arith;
              given = uses_of g (get_or b (p + 3) 0) (get_or b (p + 4) 0);
              asks = code_asks c k has;
            })

        pub number_asks : NumberAsks t u b p e kind i j f g
        number_asks =
            let l : i < 16 = rw ei number_low in
            record {
              whole = whole;
              uses = z.uses;
              reaches = ek;
              below = below;
              number = ei;
              second_low = l;
              first_low = let a = z.few in omega arith;
              code = λ q has. let c = clause_at_lem b p q (item_facts b p whole) in clause_as c i (number_at_lem c) l has;
            }

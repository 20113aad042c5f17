-- A joined table is a table of the source, and gives a tree the score that the table gives its run.
use Prim.Native.Nat.{ℕ, zero, suc, max, ◌+◌, ◌*◌, ◌/◌, ◌%◌, ◌<◌, ◌≤◌}
use mathlib.Core.Path.{◌≡◌, refl, sym, ap, ◌∙◌}
use mathlib.Core.Bool.{true, not}
use mathlib.Core.Logic.{inl, ⊎_elim}
use mathlib.Core.List.{List, [], ◌∷◌, ◌++◌, map, append-nil}
use mathlib.Core.Option.{some}
use native.Mathlib.Omega.{arith}
use lib.ListN.{length, get_or}
use lib.Dec.{ltb}
use lib.IntN.{ℤ, pos}
use borrow.Author.Tests.{eq-eqb}
use Rattle.format_fields.specs.Lists.{all, concat_map, count_up, is_some}
use Rattle.format_fields.specs.Fields.{pair_at}
use Rattle.outcome.specs.Outcome.{value}
use Rattle.outcome.specs.declared.Reason.TheVariants.{ScoreOutOfRange}
use Rattle.format_fields.proofs.Truth.{and_both, Mem, mem_concat, true_not, some_is}
use Rattle.format_fields.proofs.Keyed.{Rising, is_rising}
use Rattle.format_fields.proofs.Codec.{step_value, value_inj, fields_encode}
use Rattle.format_language.specs.Language.{Language, class, production, entry_key, arguments_of, is_in}
use Rattle.format_language.specs.LanguageFile.{language_of}
use Rattle.format_language.proofs.Lookup.{arguments_mem, result_in}
use Rattle.tree_reader.specs.Code.{Code, levels}
use Rattle.tree_reader.specs.Typing.{Typed}
use Rattle.tree_reader.specs.Syntax.{done, deep, read, tree, write}
use Rattle.tree_reader.specs.Operations.{tree_of}
use Rattle.tree_reader.proofs.RoundTrip.{Apart, round, as_tree}
use Rattle.tree_reader.proofs.Larger.{apart}
use Rattle.tree_reader.proofs.Sound.{read_done, more_levels}
use Rattle.format_translation.specs.Translation.{Translation, mapping_of, mapped}
use Rattle.format_translation.specs.Running.{clauses_of, transform}
use Rattle.format_translation.specs.TranslationFile.{translation_of}
use Rattle.format_translation.specs.Operations.{run_bytes}
use Rattle.format_translation.proofs.Codec.{translation_whole, rises_parts}
use Rattle.format_translation.proofs.Cuts.{pieces_in, body_in_short}
use Rattle.format_translation.proofs.Lookup.{mem_mapping}
use Rattle.format_translation.proofs.Fitting.{refuse_value, uses_are, fit_carries}
use Rattle.format_translation.proofs.Running.{ByZero}
use Rattle.format_translation.proofs.Preserved.{Carries, kept_tree, typed_run}
use Rattle.format_translation.specs.Inner.Parts.{source_in, target_in, body_in}
use Rattle.format_translation.specs.Plain.{plain}
use Rattle.format_translation.proofs.PlainUses.{use_zero, typed_zero}
use Rattle.run_table.specs.Inner.Table.{Checked}
use Rattle.check_operations.proofs.Legal.{tree_done}
use Rattle.run_table.proofs.Clauses as Clauses
use Rattle.score_tree.specs.Figures.{signed, unsigned, figure_at, figures_from, figure_bytes, is_figure, is_score}
use Rattle.score_tree.specs.LoadTable.{load, Table, load_of, loads_in, table_of, figure_of, load_field, encode_table}
use Rattle.score_tree.specs.Linear.{Loads, form, passes}
use Rattle.score_tree.specs.Operations.{score_of, score_bytes}
use Rattle.score_tree.proofs.Integers.{figure_read}
use Rattle.score_tree.proofs.Loading.{loads_rise, figures_found}
use Rattle.score_join.specs.Joined.{place_fits, places_of, load_fits, joined_load, joined_table, joined_of, join_bytes}
use Rattle.score_join.specs.Laws.{JoinedIsTable, ScoresAgree}
use Rattle.score_join.proofs.Joins.{figures_long, map_long, count_long}
use Rattle.score_join.proofs.Linear.{form_run}

-- Figures written and read.
figures_shift : (m a : ℕ) (s : List ℕ) (i : ℕ) → figures_from m (a ∷ s) (i + 1) ≡ figures_from m s i
unfolding figures_from figure_at pair_at
figures_shift zero a s i = refl
figures_shift (suc m) a s i =
    let e : i + 1 + 2 ≡ i + 2 + 1 = omega arith in
    let one : (j : ℕ) → get_or (a ∷ s) (j + 1) 0 ≡ get_or s j 0 = λ j. rw (native.Mathlib.Numerals.add-one j) refl in
    λ x. signed ((one i x) * 256 + (one (i + 1) x)) ∷ (ap (figures_from m (a ∷ s)) e ∙ figures_shift m a s (i + 2)) x

figures_two : (m a b : ℕ) (s : List ℕ) → figures_from m (a ∷ b ∷ s) 2 ≡ figures_from m s 0
figures_two m a b s = figures_shift m a (b ∷ s) 1 ∙ figures_shift m b s 0

figures_read : (l : List ℤ) (s : List ℕ) → all is_figure l ≡ true → figures_from (length l) (concat_map figure_bytes l ++ s) 0 ≡ l
unfolding figures_from concat_map figure_bytes figure_at pair_at all
figures_read [] s h = refl
figures_read (z ∷ l) s h =
    let g = and_both (is_figure z) (all is_figure l) h in
    let v : unsigned z / 256 * 256 + unsigned z % 256 ≡ unsigned z = omega arith in
    λ x. (ap signed v ∙ figure_read z g.0) x ∷ (figures_two (length l) (unsigned z / 256) (unsigned z % 256) (concat_map figure_bytes l ++ s) ∙ figures_read l s g.1) x

load_read : (r p n : ℕ) (l : List ℤ) → length l ≡ suc n → all is_figure l ≡ true → load_of r p n (load_field (load r p l)) ≡ some (load r p l)
unfolding load_of load_field
load_read r p n l e h =
    let long : suc (suc (length (concat_map figure_bytes l))) ≡ 4 + 2 * n = let a = figures_long l in omega arith in
    let back : figures_from (suc n) (r ∷ p ∷ concat_map figure_bytes l) 2 ≡ l =
    figures_two (suc n) r p (concat_map figure_bytes l)
    ∙ (ap (λ (m : ℕ). figures_from m (concat_map figure_bytes l) 0) (sym e)
    ∙ (ap (λ (s : List ℕ). figures_from (length l) s 0) (sym (append-nil (concat_map figure_bytes l))) ∙ figures_read l [] h)) in
    rw (eq-eqb _ _ long, eq-eqb r r refl, eq-eqb p p refl) (ap (λ (q : List ℤ). some (load r p q)) back)

-- The figures of a clause that fits.
places_fit : (w : Loads) (c : Code) (l : List ℕ) → all (place_fits w c) l ≡ true → all is_figure (map (form w c) l) ≡ true
unfolding all place_fits
places_fit w c [] h = refl
places_fit w c (j ∷ l) h =
    let g = and_both (place_fits w c j) (all (place_fits w c) l) h in
    let k = and_both (passes is_figure w c j) (is_figure (form w c j)) g.0 in
    rw (k.1, places_fit w c l g.1) refl

loads_back : (f : Translation) (w : Loads) (l : Language) → all (load_fits f w) l ≡ true
    → loads_in l (map load_field (concat_map (joined_load f w) l)) ≡ some (concat_map (joined_load f w) l)
unfolding loads_in concat_map joined_load all load_fits
loads_back f w [] h = refl
loads_back f w (class k c ∷ l) h = loads_back f w l h
loads_back f w (production r p ks ∷ l) h =
    let g = and_both (all (place_fits w (clauses_of f r p 0)) (places_of (length ks))) (all (load_fits f w) l) h in
    let e : length (map (form w (clauses_of f r p 0)) (places_of (length ks))) ≡ suc (length ks) = map_long _ (places_of (length ks)) ∙ count_long (suc (length ks)) 0 in
    rw (load_read r p (length ks) (map (form w (clauses_of f r p 0)) (places_of (length ks))) e (places_fit w (clauses_of f r p 0) (places_of (length ks)) g.0), loads_back f w l g.1) refl

table_back : (f : Translation) (w : Loads) → all (load_fits f w) f.source ≡ true → table_of f.source (encode_table (joined_table f w)) ≡ value (joined_table f w)
unfolding table_of encode_table joined_table
table_back f w h = rw (fields_encode (map load_field (concat_map (joined_load f w) f.source)), loads_back f w f.source h) refl

-- What an accepted join was made of.
record Made (translation table : List ℕ) (f : Translation) (joined : List ℕ) : Type 0 where
  from : Table
  plain_body : plain f.body ≡ true
  is_table : table_of f.target table ≡ value from
  fits : all (load_fits f (figure_of from)) f.source ≡ true
  is : joined ≡ encode_table (joined_table f (figure_of from))

made : (translation table joined : List ℕ) (room : ℕ) (f : Translation) → translation_of translation ≡ value f → join_bytes translation table room ≡ value joined → Made translation table f joined
unfolding join_bytes joined_of
made translation table joined room f ef e =
    let a = step_value (translation_of translation) _ e in
    let same : a.0 ≡ f = value_inj (sym a.1 ∙ ef) in
    let n = refuse_value (not (plain a.0.body)) _ _ a.2 in
    let b = step_value (table_of a.0.target table) _ n.1 in
    let c = step_value (joined_of a.0 b.0) _ b.2 in
    let d = refuse_value (not (all (load_fits a.0 (figure_of b.0)) a.0.source)) _ _ c.1 in
    let g = refuse_value (ltb room (length (encode_table c.0))) _ _ c.2 in
    record {
      from = b.0;
      plain_body = rw (← same) (true_not _ n.0);
      is_table = rw (← same) b.1;
      fits = rw (← same) (true_not _ d.0);
      is = sym (value_inj g.1) ∙ (ap encode_table (sym (value_inj d.1)) ∙ ap (λ (h : Translation). encode_table (joined_table h (figure_of b.0))) same);
    }

pub joined_is_table : JoinedIsTable
joined_is_table translation table joined room f ef e =
    let m = made translation table joined room f ef e in
    (joined_table f (figure_of m.from), ap (table_of f.source) m.is ∙ table_back f (figure_of m.from) m.fits)

-- The joined figures are the forms of the clauses.
form_get : (g : ℕ → ℤ) (n j i : ℕ) → i < n → get_or (map g (count_up n j)) i (pos 0) ≡ g (j + i)
unfolding count_up
form_get g zero j i h = absurd (omega arith)
form_get g (suc n) j zero h = let e : j ≡ j + 0 = omega arith in ap g e
form_get g (suc n) j (suc i) h = let e : suc j + i ≡ j + suc i = omega arith in form_get g n (suc j) i (omega arith) ∙ ap g e

figures_are : (f : Translation) (w : Loads) → Rising entry_key f.source → all (load_fits f w) f.source ≡ true
    → (k p : ℕ) (ks : List ℕ) → arguments_of f.source k p ≡ some ks → (i : ℕ) → i ≤ length ks → figure_of (joined_table f w) k p i ≡ form w (clauses_of f k p 0) i
unfolding joined_table joined_load
figures_are f w rises h k p ks e i g =
    let figs = map (form w (clauses_of f k p 0)) (places_of (length ks)) in
    let m : Mem (load k p figs) (concat_map (joined_load f w) f.source) = mem_concat (joined_load f w) (production k p ks) (load k p figs) f.source (arguments_mem f.source k p ks e) (inl refl) in
    let up = loads_rise f.source (map load_field (concat_map (joined_load f w) f.source)) (concat_map (joined_load f w) f.source) 0 rises (loads_back f w f.source h) in
    let z : 0 + i ≡ i = omega arith in
    figures_found (concat_map (joined_load f w) f.source) up k p figs m i ∙ (form_get (form w (clauses_of f k p 0)) (suc (length ks)) 0 i (omega arith) ∙ ap (form w (clauses_of f k p 0)) z)

-- A tree that was read, and one that was read of what was written.
tree_read_lem : (l : Language) (k : ℕ) (s : List ℕ) (t : Code) → tree_of l k s ≡ value t → read tree l [] 64 k s ≡ done t []
unfolding tree_of
tree_read_lem l k s t e = tree_done _ t (refuse_value (not (is_in l k)) _ _ e).1

tree_typed : (l : Language) (k : ℕ) (s : List ℕ) (t : Code) → tree_of l k s ≡ value t → Typed l [] t k
tree_typed l k s t e = (read_done tree l [] 64 k s t [] (tree_read_lem l k s t e)).0

-- What is read of the bytes of a typed tree is that tree.
tree_again : (l : Language) → Apart l → (k : ℕ) (u t : Code) → Typed l [] u k → tree_of l k (write tree u) ≡ value t → t ≡ u
tree_again l a k u t h e =
    let n = max 64 (levels u) in
    let r = tree_read_lem l k (write tree u) t e in
    let b : read tree l [] n k (write tree u ++ []) ≡ done u [] = round l a h as_tree n [] (omega arith) in
    let c : read tree l [] n k (write tree u) ≡ done u [] = rw (← append-nil (write tree u)) b in
    ⊎_elim
    (λ d. let z : deep ≡ done t [] = sym d ∙ r in let y : ◌≡◌ {A = ℕ} 0 1 = cc in absurd (omega arith))
    (λ d. done_is (sym r ∙ (sym d ∙ c)))
    (more_levels tree l [] 64 n k (write tree u) (omega arith))
  where
    done_is : {x y : Code} → done x [] ≡ done y [] → x ≡ y
    done_is e = cc

-- A score that was given.
score_made : (w : Table) (t : Code) (x : ℤ) → score_of w t ≡ value x → x ≡ form (figure_of w) t 0
unfolding score_of
score_made w t x e = sym (value_inj (refuse_value (not (passes is_score (figure_of w) t 0)) ScoreOutOfRange (value (form (figure_of w) t 0)) e).1)

record Scored (language : List ℕ) (root : ℕ) (bytes table : List ℕ) (l : Language) (x : ℤ) : Type 0 where
  loads : Table
  tree_is : Code
  is_table : table_of l table ≡ value loads
  is_tree : tree_of l root bytes ≡ value tree_is
  is : x ≡ form (figure_of loads) tree_is 0

scored : (language : List ℕ) (root : ℕ) (bytes table : List ℕ) (l : Language) (x : ℤ) → language_of language ≡ value l → score_bytes language root bytes table ≡ value x
    → Scored language root bytes table l x
unfolding score_bytes
scored language root bytes table l x el e =
    let a = step_value (language_of language) _ e in
    let same : a.0 ≡ l = value_inj (sym a.1 ∙ el) in
    let b = step_value (table_of a.0 table) _ a.2 in
    let c = step_value (tree_of a.0 root bytes) _ b.2 in
    record {
      loads = b.0;
      tree_is = c.0;
      is_table = rw (← same) b.1;
      is_tree = rw (← same) c.1;
      is = score_made b.0 c.0 x c.2;
    }

record Ran (translation : List ℕ) (root : ℕ) (bytes output : List ℕ) (f : Translation) : Type 0 where
  maps : (goal : ℕ) × (mapping_of f.body root 0 ≡ some goal)
  tree_is : Code
  is_tree : tree_of f.source root bytes ≡ value tree_is
  is : output ≡ write tree (transform f 0 tree_is)

ran : (translation : List ℕ) (root : ℕ) (bytes output : List ℕ) (space : ℕ) (f : Translation) → translation_of translation ≡ value f → run_bytes translation root 0 bytes space ≡ value output
    → Ran translation root bytes output f
unfolding run_bytes
ran translation root bytes output space f ef e =
    let a = step_value (translation_of translation) _ e in
    let same : a.0 ≡ f = value_inj (sym a.1 ∙ ef) in
    let m = refuse_value (not (is_some (mapping_of a.0.body root 0))) _ _ a.2 in
    let b = step_value (tree_of a.0.source root bytes) _ m.1 in
    let c = refuse_value (ltb space (length (write tree (transform a.0 0 b.0)))) _ _ b.2 in
    record {
      maps = some_is (mapping_of f.body root 0) (rw (← same) (true_not _ m.0));
      tree_is = b.0;
      is_tree = rw (← same) b.1;
      is = sym (value_inj c.1) ∙ ap (λ (h : Translation). write tree (transform h 0 b.0)) same;
    }

-- The facts of a translation that was accepted.
module _ (translation : List ℕ) (f : Translation) (ef : translation_of translation ≡ value f) where
  accepted : Checked (source_in translation) (target_in translation) (body_in translation) f
  accepted = record { pieces = pieces_in translation f ef; short = body_in_short translation f ef; file = translation; accepted = ef }

  source_rises : Rising entry_key f.source
  source_rises = is_rising entry_key f.source (rises_parts f (translation_whole translation f ef).1.rises).0

  target_apart : Apart f.target
  target_apart = apart f.target (translation_whole translation f ef).1.target_apart

  carries : Carries f.source f.target (mapping_of f.body) (clauses_of f)
  carries = fit_carries f (Clauses.body_rises accepted) (Clauses.fits accepted)

  transform_typed : (t : Code) (k goal : ℕ) → Typed f.source [] t k → mapping_of f.body k 0 ≡ some goal → Typed f.target [] (transform f 0 t) (mapped f.body k 0)
  unfolding transform mapped
  transform_typed t k goal h e = rw e (typed_run carries (kept_tree (mapping_of f.body)) 0 goal h e)

  -- The codes of number 0 use arguments by number 0.
  clauses_zero : plain f.body ≡ true → (k p : ℕ) (ks : List ℕ) → arguments_of f.source k p ≡ some ks → ByZero (clauses_of f k p 0)
  clauses_zero h k p ks e =
      let (goal, o) = (Clauses.fits accepted).maps k (result_in f.source k p ks (arguments_mem f.source k p ks e)) in
      let q = mem_mapping f.body (Clauses.body_rises accepted) k 0 goal o in
      typed_zero (λ i j t u. use_zero f h k p i j t (rw (uses_are f k p ks e) u)) (carries.nodes k p 0 goal ks e q)

pub scores_agree : ScoresAgree
unfolding transform
scores_agree translation table joined source target bytes output room space root f x y ef es et ej er ex ey =
    let m = made translation table joined room f ef ej in
    let r = ran translation root bytes output space f ef er in
    let a = scored source root bytes joined f.source x es ex in
    let b = scored target (mapped f.body root 0) output table f.target y et ey in
    let v = joined_table f (figure_of m.from) in
    let w-same : b.loads ≡ m.from = value_inj (sym b.is_table ∙ m.is_table) in
    let v-same : a.loads ≡ v = value_inj (sym a.is_table ∙ (ap (table_of f.source) m.is ∙ table_back f (figure_of m.from) m.fits)) in
    let t_same : a.tree_is ≡ r.tree_is = value_inj (sym a.is_tree ∙ r.is_tree) in
    let typed = tree_typed f.source root bytes r.tree_is r.is_tree in
    let u_same : b.tree_is ≡ transform f 0 r.tree_is =
    tree_again f.target (target_apart translation f ef) (mapped f.body root 0) (transform f 0 r.tree_is) b.tree_is (transform_typed translation f ef r.tree_is root r.maps.0 typed r.maps.1)
    (ap (tree_of f.target (mapped f.body root 0)) (sym r.is) ∙ b.is_tree) in
    let main = form_run f.source (clauses_of f) (figure_of v) (figure_of m.from) (figures_are f (figure_of m.from) (source_rises translation f ef) m.fits) (clauses_zero translation f ef m.plain_body) typed in
    a.is
    ∙ (ap (λ (q : Table). form (figure_of q) a.tree_is 0) v-same
    ∙ (ap (λ (q : Code). form (figure_of v) q 0) t_same
    ∙ (main
    ∙ (ap (λ (q : Code). form (figure_of m.from) q 0) (sym u_same) ∙ (ap (λ (q : Table). form (figure_of q) b.tree_is 0) (sym w-same) ∙ sym b.is)))))

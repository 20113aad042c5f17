-- What a run relies on, and a law for each return of `write_tree`, `finish`, `run_over`, `run_given` and `run_opened`.
use Rattle.std.specs.Prelude.{Err, Ok}
use Prim.Native.Nat.{ℕ, min, ◌+◌, ◌*◌, ◌<◌, ◌≤◌}
use mathlib.Core.Path.{◌≡◌, refl, sym, ap, ◌∙◌}
use mathlib.Core.Logic.{◌⊎◌, ⊎_elim}
use mathlib.Core.Bool.{Bool, true, false}
use mathlib.Core.List.{List, [], ◌++◌}
use mathlib.Core.Option.{some}
use native.Mathlib.Omega.{arith}
use lib.ListN.{length, get_or, take, drop, drop_of_length-le}
use lib.Seq.{slice}
use Rattle.std.proofs.lemmas.List.{get_or_past, get_or-take, get_or-drop, length-take}
use Rattle.format_fields.specs.Inner.Places.{field_end}
use Rattle.format_translation.specs.Inner.Parts.{source_in}
use lib.Dec.{ltb}
use borrow.Author.Tests.{le-ltb, lt-ltb, ltb-true, ltb-false}
use Rattle.outcome.specs.Outcome.{Result, value, refused, ◌>>=◌, checked, written, output_after, Outcome}
use Rattle.outcome.specs.declared.Reason.{Reason}
use Rattle.outcome.specs.declared.Reason.TheVariants as Why
use Rattle.format_fields.specs.Lists.{is_some}
use Rattle.format_fields.proofs.Truth.{by_test, and_both, all_mem, some_is}
use Rattle.format_fields.proofs.Split.{front}
use Rattle.format_fields.proofs.Codec.{bytes_from}
use Rattle.format_language.specs.Language.{is_in}
use Rattle.format_language.specs.LanguageFile.{is_kind}
use Rattle.tree_reader.specs.Code.{Code}
use Rattle.tree_reader.specs.Syntax as Meant
use Rattle.tree_reader.specs.Operations.{tree_of, whole_tree}
use Rattle.tree_reader.specs.declared.node.Syntax.TheVariants.{Tree, Code as InCode}
use Rattle.tree_reader.specs.Inner.Index.{Indexed}
use Rattle.tree_reader.proofs.Built.{built_indexed}
use Rattle.format_translation.proofs.Accepted.{refused_not}
use Rattle.tree_reader.proofs.RoundTrip.{Apart}
use Rattle.tree_reader.proofs.Larger.{apart}
use Rattle.tree_reader.proofs.Sound.{read_done as right-done}
use Rattle.format_translation.specs.Translation.{mapping, Translation, mapping_of}
use Rattle.format_translation.specs.Running.{clauses_of, transform}
use Rattle.format_translation.specs.TranslationFile.{all_rising, translation_of}
use Rattle.format_translation.specs.WellFormed.{well_formed}
use Rattle.format_translation.specs.Operations.{check_translation, fitted, run_bytes, run_tree}
use Rattle.format_translation.proofs.Codec.{item_whole, translation_whole}
use Rattle.format_translation.proofs.Lookup.{mapping_mem}
use Rattle.tree_reader.specs.declared.node.ReadError.{ReadError}
use Rattle.tree_reader.specs.declared.node.ReadError.TheVariants.{Deep, Broken}
use Rattle.tree_reader.specs.Inner.Positions.{refusal_of}
use Rattle.run_measure.specs.declared.measure.Figures.{Figures}
use Rattle.run_measure.specs.Inner.Sizes.{size, capped}
use Rattle.run_measure.specs.Cost.{cost}
use Rattle.run_measure.specs.Inner.Learning.{Learnt}
use Rattle.run_measure.specs.Inner.Measuring.{Measured, EndsIn, sized_at, sized_of}
use Rattle.run_measure.proofs.Sums.{over_room, within_room}
use Rattle.run_measure.proofs.Meaning.{sized_done, sized_deep, sized_broken}
use Rattle.format_fields.specs.Inner.Writing.{spliced}
use Rattle.run_table.specs.Inner.Stands.{Wrote}
use Rattle.run_table.specs.Inner.Table.{Checked}
use Rattle.run_table.proofs.Clauses.{fits}
use Rattle.run_emit.specs.Inner.Runs.{TermAsks}
use Rattle.run_emit.proofs.Skips.{no_kind}
use Rattle.run_table.proofs.Standing.{drop_stands}
use Rattle.run_operation.specs.Operations.{largest_cost, clauses_applied, run_cost}
use Rattle.run_operation.specs.declared.run.Given.{Given}
use Rattle.run_operation.specs.Inner.Runs.{run_of, cost_of, Answers, Opened, Has, result_of, Done, outcome_of, paid_of, Ran, Asked, Reads, Measures}
use Rattle.run_operation.proofs.Learning.{learnt_right}

-- A mapping in a file is of a kind and by a byte.
item_below : (k j u : ℕ) → item_whole (mapping k j u) ≡ true → (k < 32) × (j < 256)
unfolding item_whole
item_below k j u e =
    let a = and_both (is_kind k) _ e in
    let b = and_both (is_kind u) _ a.1 in
    (ltb-true k 32 a.0, ltb-true j 256 b.1)

-- A translation that was accepted rises, and is well formed.
module _ {s t b : List ℕ} {f : Translation} (z : Checked s t b f) where
  pub rises : all_rising f ≡ true
  rises = (translation_whole z.file f z.accepted).1.rises

  pub source_apart : Apart f.source
  source_apart = apart f.source (translation_whole z.file f z.accepted).1.source_apart

  pub formed : well_formed f ≡ value f
  formed = (translation_whole z.file f z.accepted).2

-- The source of a translation is bytes.
slice_narrow : (s : List ℕ) (p e : ℕ) → ((i : ℕ) → get_or s i 0 < 256) → (i : ℕ) → get_or (slice p e s) i 0 < 256
slice_narrow s p e bytes i =
    let q : get_or (slice p e s) i 0 ≡ get_or (take e s) (p + i) 0 = get_or-drop p (take e s) i 0 in
    by_test (ltb (p + i) e)
    (λ h. let t = get_or-take e s (p + i) 0 (ltb-true (p + i) e h) in omega (arith, bytes (p + i)))
    (λ h. let l = ltb-false (p + i) e h in let t = get_or_past (take e s) (p + i) 0 (omega (arith, length-take e s)) in omega arith)

pub source_narrow : (s : List ℕ) {r : List ℕ} → r ≡ source_in s → ((i : ℕ) → get_or s i 0 < 256) → (i : ℕ) → get_or r i 0 < 256
unfolding source_in
source_narrow s e bytes i = rw e (slice_narrow s 3 (field_end s 0) bytes i)

-- The bytes of a run, and what reading its tree comes to.
abbrev pub run_by : Translation → ℕ → Code → List ℕ
run_by f j t = Meant.write Meant.tree (transform f j t)

abbrev pub tree_read : Translation → ℕ → List ℕ → Meant.Read Code
tree_read f k b = Meant.read Meant.tree f.source [] 64 k b

-- The source's index, where the table is filled.
pub opened_indexed : {g : Given} {t : List ℕ} {f : Translation} → Opened g t f → Indexed g.table.now g.source.now f.source
opened_indexed {g} {f = f} z =
    let p = z.prepared in
    built_indexed g.source.now g.table.now g.table.now 0 p.index (omega (arith, p.ready.long)) (λ j h. let n : 0 + j ≡ j = omega arith in ap (λ (m : ℕ). get_or g.table.now m 0) (sym n))
    z.source p.checked.pieces.source_short f.source p.checked.pieces.source

-- What measuring leaves.
pub measures : {g : Given} {t : List ℕ} {f : Translation} → Opened g t f → (ends before : List ℕ) (top : ℕ) (r : Measured) → ((i : ℕ) → get_or before i 0 ≡ 0)
    → ((u : ℕ) → mapping_of f.body g.kind g.number ≡ some u → sized_at g.tree.now r ≡ sized_of top f g.number (tree_read f g.kind g.tree.now))
    → EndsIn (length g.tree.now) top r → Learnt g.source.now g.table.now g.tree.now before ends → Measures g f ends top r
measures {g} {f = f} z ends before top r zeros is within learnt = record {
  is = is;
  within = within;
  kept = learnt_right g.source.now g.table.now g.tree.now f.source (opened_indexed z) (source_apart z.prepared.checked) z.tree before ends zeros learnt;
}

-- What `write_tree` hands to the emitter: the tree that was read stands in its bytes.
pub tree_asks : {g : Given} {s : List ℕ} {f : Translation} {t : Code} → Opened g s f → (ends : List ℕ) → g.kind < 32 → Reads g f ends t
    → TermAsks Tree g.table.now g.tree.now ends 64 g.kind g.number f [] t
tree_asks {g} {f = f} {t = t} z ends h e =
    let d = right-done Meant.tree f.source [] 64 g.kind g.tree.now t [] e.is in
    record {
      table = record { ready = z.prepared.ready; plain = λ q. refl; uses = λ a i n q. no_kind a i q; numbers = λ q. no_code q };
      kept = e.kept;
      term = record { typed = d.0; kind = h; stands = drop_stands g.tree.now 0 _ [] (omega arith) (d.2 (bytes_from g.tree.now (λ i l. z.tree i))).0 };
      has = e.has;
      levels = d.1;
      most = omega arith;
    }
  where
    no_code : {A : Type 0} → Tree ≡ InCode → A
    no_code q = let z : ◌≡◌ {A = ℕ} 0 1 = cc in absurd (omega arith)

-- write_tree: of what is all zero nothing is kept.
pub reads_none : {g : Given} {f : Translation} {ends none : List ℕ} {t : Code} → ((i : ℕ) → get_or none i 0 ≡ 0) → Reads g f ends t → Reads g f none t
reads_none zero h = record {
  has = h.has;
  is = h.is;
  kept = λ n p a z u d i. absurd (omega (arith, z.some, z.end, zero (2 * z.slot + 1)));
}

-- write_tree: what was put out fitted.
pub tree_written : (v o after : List ℕ) (n : ℕ) → Wrote v o after 0 n → length v ≤ length o → Answers (value v) o after (Ok n)
unfolding spliced
tree_written v o after n w h =
    let i : n ≤ length o = by_test (ltb (length o) n) (λ q. let l = (w.full (ltb-true (length o) n q)).0 in absurd (omega arith)) (λ q. ltb-false (length o) n q) in
    let x = w.fits i in
    let z : 0 + length v ≡ length v = omega arith in
    record { answer = ap Ok (x.0 ∙ z); left = x.1 ∙ ap (λ (m : ℕ). v ++ drop m o) z }

-- The answer that a result makes.
answer_refused : {x : Result (List ℕ)} {o : List ℕ} {out : Outcome} {r : Reason} → x ≡ refused r → out ≡ Err r → Answers x o o out
answer_refused {o = o} e h = record { answer = h ∙ sym (ap written e); left = sym (ap (output_after o) e) }

answer_same : {x y : Result (List ℕ)} {o after : List ℕ} {out : Outcome} → x ≡ y → Answers y o after out → Answers x o after out
answer_same {o = o} e h = record { answer = h.answer ∙ sym (ap written e); left = h.left ∙ sym (ap (output_after o) e) }

-- A run that is refused costs 0.
pub ran_refused : (g : Given) (f : Translation) (o : List ℕ) (r : Reason) → run_of f g.kind g.number g.tree.now (length o) ≡ refused r → Ran g f o o (Err r)
unfolding cost_of
ran_refused g f o r e = record { answers = answer_refused e refl; costs = rw e refl }

-- run_given: the kind lacks the number.
pub kind_out : (g : Given) (f : Translation) (o : List ℕ) → is_some (mapping_of f.body g.kind g.number) ≡ false → Ran g f o o (Err Why.UnknownRoot)
unfolding run_of
kind_out g f o h = ran_refused g f o Why.UnknownRoot (rw h refl)

-- Measuring, and what follows where it found a tree.
module _ {g : Given} {t : List ℕ} {f : Translation} (z : Opened g t f) (top : ℕ) (o ends : List ℕ) (has : Has g f) where
  k : ℕ
  k = g.kind

  j : ℕ
  j = g.number

  b : List ℕ
  b = g.tree.now

  room : ℕ
  room = length o

  there : is_in f.source k ≡ true
  unfolding k j
  there = let u = some_is (mapping_of f.body k j) has in ((fits z.prepared.checked).maps_only k j u.0 (mapping_mem f.body k j u.0 u.1)).0

  by_read : {q : Meant.Read Code} → tree_read f k b ≡ q → run_of f k j b room ≡ (whole_tree q >>= λ a. fitted room (run_by f j a))
  unfolding run_of tree_of k j
  by_read e = rw (has, there, e) refl

  read_is : (m : Measured) → Measures g f ends top m → sized_at b m ≡ sized_of top f j (tree_read f k b)
  unfolding k j b
  read_is m w = let u = some_is (mapping_of f.body k j) has in w.is u.0 u.1

  -- run_over: there is no such tree.
  pub tree_refused : (e : ReadError) → Measures g f ends top (Err e) → Ran g f o o (Err (refusal_of e))
  unfolding k j b room
  tree_refused Deep w = ran_refused g f o Why.TooDeep (by_read (sized_deep f top j (tree_read f k b) (sym (read_is (Err Deep) w))))
  tree_refused Broken w = ran_refused g f o Why.IllegalTree (by_read (sized_broken f top j (tree_read f k b) (sym (read_is (Err Broken) w))))

  -- finish
  module _ (m : Figures) (over : length o < top) (w : Measures g f ends top (Ok m)) where
    read_done : (a : Code) × (tree_read f k b ≡ Meant.done a (drop m.end b)) × (m.length ≡ capped top (size (transform f j a)))
        × (m.cost ≡ capped top (cost (clauses_of f) j a))
    unfolding b
    read_done = sized_done f top j (tree_read f k b) (drop m.end b) m.length m.cost (sym (read_is (Ok m) w))

    pub tree_more : (m.end ≡ length g.tree.now → ⊥) → Ran g f o o (Err Why.IllegalTree)
    unfolding room k j b
    tree_more h =
        let l = w.within.0 in
        let q : m.end < length g.tree.now = omega arith in
        ran_refused g f o Why.IllegalTree (by_read (read_done.1 ∙ ap (Meant.done read_done.0) (front g.tree.now m.end q)))

    module _ (all : m.end ≡ length g.tree.now) where
      read_all : tree_read f k b ≡ Meant.done read_done.0 []
      unfolding b
      read_all = read_done.1 ∙ ap (Meant.done read_done.0) (drop_of_length-le b {i = m.end} (omega arith))

      -- The tree is legal.
      pub tree_whole : (a : Code) × Reads g f ends a
      unfolding k b
      tree_whole = (read_done.0, record { has = has; is = read_all; kept = w.kept })

      fitted_is : (d : Bool) → ltb room m.length ≡ d → ltb room (size (transform f j read_done.0)) ≡ d
      unfolding room
      fitted_is d h = sym (over_room room top (size (transform f j read_done.0)) over) ∙ (ap (ltb room) (sym read_done.2) ∙ h)

      pub tree_long : length o < m.length → Ran g f o o (Err Why.OutputTooShort)
      unfolding room k j b
      tree_long h = ran_refused g f o Why.OutputTooShort (by_read read_all ∙ rw (fitted_is true (lt-ltb room m.length h)) refl)

      -- The run of the tree that was read, where it fits, and its cost: a count up to the top is reported as the whole count is.
      tree_run : m.length ≤ length o → run_of f k j b (length o) ≡ value (run_by f j read_done.0)
      unfolding room
      tree_run h = by_read read_all ∙ rw (fitted_is false (le-ltb room m.length h)) refl

      tree_is : tree_of f.source k b ≡ value read_done.0
      unfolding tree_of
      tree_is = rw (there, read_all) refl

      tree_costs : {paid : ℕ} → m.length ≤ length o → largest_cost ≤ top → paid ≡ min m.cost largest_cost → paid ≡ cost_of f k j b (length o)
      unfolding cost_of
      tree_costs h l i =
          let q = read_done.3 in
          let y : min m.cost largest_cost ≡ min (cost (clauses_of f) j read_done.0) largest_cost = omega arith in
          i ∙ (y ∙ rw (tree_run h, tree_is) refl)

      pub tree_fits : {n paid : ℕ} {after : List ℕ} → m.length ≤ length o → largest_cost ≤ top → paid ≡ min m.cost largest_cost
          → ((a : Code) → Reads g f ends a → length (result_of g f a) ≤ length o → Answers (value (result_of g f a)) o after (Ok n))
          → Ran g f o after (Ok record { length = n; cost = paid })
      unfolding room k j b
      tree_fits h most i gives =
          let q = read_done.2 in
          let l = within_room room top (size (transform f j read_done.0)) over (omega arith) in
          let y : Reads g f ends read_done.0 = record { has = has; is = read_all; kept = w.kept } in
          record {
            answers = answer_same (tree_run h) (gives read_done.0 y (omega arith));
            costs = tree_costs h most i;
          }

-- The operation.
module _ (s : List ℕ) (root j : ℕ) (b o : List ℕ) where
  asked_is : (after : List ℕ) (done : Done) → Answers (run_bytes s root j b (length o)) o after (outcome_of done) → paid_of done ≡ run_cost s root j b (length o)
      → Asked s root j b o after done
  unfolding run_tree
  asked_is after done h i = record { outcome = h.answer; output = h.left; costs = i }

  module _ (f : Translation) (e : translation_of s ≡ value f) where
    run_same : run_bytes s root j b (length o) ≡ run_of f root j b (length o)
    unfolding run_bytes run_of
    run_same = rw e

    cost_same : run_cost s root j b (length o) ≡ cost_of f root j b (length o)
    unfolding run_cost clauses_applied cost_of
    cost_same = rw (run_same, e) refl

    mapped_whole : (u : ℕ) → mapping_of f.body root j ≡ some u → (root < 32) × (j < 256)
    mapped_whole u q =
        let w = translation_whole s f e in
        let v = mapping_mem f.body root j u q in
        let x = all_mem item_whole f.body w.1.body (mapping root j u) v in
        item_below root j u x

    none_past : (31 < root) ⊎ (255 < j) → is_some (mapping_of f.body root j) ≡ false
    none_past h =
        by_test (is_some (mapping_of f.body root j))
        (λ q. let u = some_is (mapping_of f.body root j) q in let l = mapped_whole u.0 u.1 in ⊎_elim (λ n. absurd (omega arith)) (λ n. absurd (omega arith)) h)
        (λ q. q)

    pub root_past : (31 < root) ⊎ (255 < j) → Asked s root j b o o (Err Why.UnknownRoot)
    unfolding run_of cost_of
    root_past h =
        let q = none_past h in
        let y : run_of f root j b (length o) ≡ refused Why.UnknownRoot = rw q refl in
        asked_is o (Err Why.UnknownRoot) (answer_refused (run_same ∙ y) refl) (sym (cost_same ∙ rw y refl))

    pub run_accepted : (g : Given) (after : List ℕ) (done : Done) → g.kind ≡ root → g.number ≡ j → g.tree.now ≡ b → Ran g f o after done → Asked s root j b o after done
    run_accepted g after done ek ej eb h =
        let y : run_of f g.kind g.number g.tree.now (length o) ≡ run_bytes s root j b (length o) = rw (ek, ej, eb) (sym run_same) in
        let c : cost_of f g.kind g.number g.tree.now (length o) ≡ run_cost s root j b (length o) = rw (ek, ej, eb) (sym cost_same) in
        asked_is after done (answer_same (sym y) h.answers) (h.costs ∙ c)

  pub run_refused : (r : Reason) → check_translation s ≡ Err r → Asked s root j b o o (Err r)
  unfolding check_translation run_bytes run_cost clauses_applied
  run_refused r h =
      let y = go (translation_of s) refl h in
      asked_is o (Err r) (answer_refused y refl) (rw y refl)
    where
      go : (q : Result Translation) → translation_of s ≡ q → checked q ≡ Err r → run_bytes s root j b (length o) ≡ refused r
      go (value f) e d = refused_not {n = 0} {r = r} (sym d)
      go (refused x) e d = rw e (cc)

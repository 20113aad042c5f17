-- What export answers: a law for each return of `export_tree` and `export`.
use Rattle.std.specs.Prelude.{Err, Ok}
use Prim.Native.Nat.{ℕ, ◌<◌, ◌≤◌}
use mathlib.Core.Path.{◌≡◌, refl, sym, ap, ◌∙◌}
use mathlib.Core.List.{List, [], ◌∷◌, append-nil}
use native.Mathlib.Omega.{arith}
use lib.ListN.{length, drop, drop_of_length-le}
use lib.Dec.{leb}
use borrow.Author.Tests.{leb-true, leb-false}
use Rattle.outcome.specs.Outcome.{Result, value, refused, ◌>>=◌, Outcome}
use Rattle.format_fields.specs.Inner.Writing.{spliced}
use Rattle.outcome.specs.declared.Reason.{Reason}
use Rattle.outcome.specs.declared.Reason.TheVariants as Why
use Rattle.format_fields.proofs.Truth.{by_test}
use Rattle.format_fields.proofs.Split.{front}
use Rattle.format_language.specs.Language.{Language}
use Rattle.tree_reader.specs.Code.{Code, Codes, nil, cons}
use Rattle.tree_reader.specs.Syntax.{Read, done, deep, broken, and_then, read, read_all, tree}
use Rattle.tree_reader.specs.Operations.{tree_levels, whole_tree}
use Rattle.tree_reader.specs.Inner.Index.{Indexed}
use Rattle.format_translation.specs.Operations.{fitted}
use Rattle.check_operations.proofs.Reading.{same_done, deep_not, broken_not, then_done}
use Rattle.check_operations.specs.Inner.Opening.{rooted_of}
use Rattle.check_operations.proofs.Opening.{rooted_tree_then}
use Rattle.check_operations.proofs.Answering.{gives_refused, gives_same, gives_long, gives_fit}
use Rattle.xml_text.specs.Text.{export, export_all}
use Rattle.xml_operations.specs.Operations.{export_text, export_tree}
use Rattle.tree_reader.specs.declared.node.ReadError.{ReadError}
use Rattle.tree_reader.specs.declared.node.ReadError.TheVariants.{Deep, Broken}
use Rattle.tree_reader.specs.Inner.Positions.{refusal_of}
use Rattle.xml_operations.specs.declared.measure.Ends.{Ends}
use Rattle.xml_operations.specs.Inner.Exporting.{TreesAsk, Exported}
use Rattle.xml_operations.specs.Inner.Measuring.{Measured, most, Within, MeasuresTrees}
use Rattle.xml_operations.specs.Inner.Answering.{GivesTree}

-- One tree, read as the only one of some.
module _ (l : Language) (k : ℕ) (b : List ℕ) (levels : ℕ) where
  one_text : (a : Code) → export_all l (k ∷ []) (cons a nil) ≡ export l k a
  unfolding export_all
  one_text a = append-nil (export l k a)

  one_deep : (p : Read Code) → (and_then p λ a r. done (cons a nil) r) ≡ deep → p ≡ deep
  one_deep (done a r) e = deep_not (sym e)
  one_deep deep e = refl
  one_deep broken e = deep_not {a = tt} {r = []} (let z : ◌≡◌ {A = Read (Unit {0})} deep (done tt []) = cc in z)

  one_broken : (p : Read Code) → (and_then p λ a r. done (cons a nil) r) ≡ broken → p ≡ broken
  one_broken (done a r) e = broken_not (sym e)
  one_broken deep e = deep_not {a = tt} {r = []} (let z : ◌≡◌ {A = Read (Unit {0})} deep (done tt []) = cc in z)
  one_broken broken e = refl

  one_read : read_all (read tree l [] levels) (k ∷ []) b ≡ (and_then (read tree l [] levels k b) λ a r. done (cons a nil) r)
  unfolding read_all
  one_read = refl

  one_done : (t : Codes) (r : List ℕ) → read_all (read tree l [] levels) (k ∷ []) b ≡ done t r
      → (a : Code) × (read tree l [] levels k b ≡ done a r) × (export_all l (k ∷ []) t ≡ export l k a)
  one_done t r e =
      let d = then_done (read tree l [] levels k b) (λ a r. done (cons a nil) r) t r (sym one_read ∙ e) in
      let v = same_done (cons d.0 nil) t d.1 r d.3 in
      (d.0, d.2 ∙ ap (done d.0) v.1, ap (export_all l (k ∷ [])) (sym v.0) ∙ one_text d.0)

-- What a reading comes to, with so much room.
abbrev result : Language → ℕ → ℕ → Read Code → Result (List ℕ)
result l k room p = whole_tree p >>= λ t. fitted room (export l k t)

-- export_tree
module _ (s index : List ℕ) (k : ℕ) (b o : List ℕ) {x : Measured} (first : MeasuresTrees (k ∷ []) s index 0 1 b 0 tree_levels 0 x) where
  pub tree_err : (w : ReadError) {out : Outcome} → x ≡ Err w → out ≡ Err (refusal_of w) → GivesTree s index k b o o out
  tree_err Deep h i l z =
      let e = one_deep l k b tree_levels (read tree l [] tree_levels k b) (sym (one_read l k b tree_levels) ∙ (first l z).deep h) in
      gives_refused _ o Why.TooDeep (ap (result l k (length o)) e) i
  tree_err Broken h i l z =
      let e = one_broken l k b tree_levels (read tree l [] tree_levels k b) (sym (one_read l k b tree_levels) ∙ (first l z).broken h) in
      gives_refused _ o Why.IllegalTree (ap (result l k (length o)) e) i

  module _ {ends : Ends} (ex : x ≡ Ok ends) (inside : Within b x) where
    found : (l : Language) (z : Indexed index s l)
        → (a : Code) × (read tree l [] tree_levels k b ≡ done a (drop ends.tree b)) × (export_all l (k ∷ []) ((first l z).found ends ex).0 ≡ export l k a)
    found l z = one_done l k b tree_levels ((first l z).found ends ex).0 (drop ends.tree b) ((first l z).found ends ex).1

    pub tree_left : {out : Outcome} → (ends.tree ≡ length b → ⊥) → out ≡ Err Why.IllegalTree → GivesTree s index k b o o out
    tree_left h i l z =
        let f = found l z in
        let j = inside ends ex in
        let g : ends.tree < length b = omega arith in
        gives_refused _ o Why.IllegalTree (ap (result l k (length o)) (f.1 ∙ ap (done f.0) (front b ends.tree g))) i

    module _ (all : ends.tree ≡ length b) (short : length o ≤ most) where
      whole : (l : Language) (z : Indexed index s l) → read tree l [] tree_levels k b ≡ done (found l z).0 []
      whole l z = (found l z).1 ∙ ap (done (found l z).0) (drop_of_length-le b {i = ends.tree} (omega arith))

      pub tree_long : {out : Outcome} → length o < ends.text → out ≡ Err Why.OutputTooShort → GivesTree s index k b o o out
      tree_long h i l z =
          let f = ((first l z).found ends ex).2 in
          let g = ap length (found l z).2 in
          let n : length o < length (export l k (found l z).0) =
          by_test (leb ends.text most)
          (λ t. let w = f.is (leb-true _ _ t) in omega arith)
          (λ t. let w = f.long (leb-false _ _ t) in omega arith) in
          gives_same _ _ o o (ap (result l k (length o)) (whole l z)) (gives_long (export l k (found l z).0) o n i)

      module _ (fits : ends.text ≤ length o) where
        pub tree_asks : (l : Language) (z : Indexed index s l) → TreesAsk (k ∷ []) s index b 0 tree_levels (length o) 0 l ((first l z).found ends ex).0 (drop ends.tree b)
        tree_asks l z =
            let f = (first l z).found ends ex in
            record { indexed = z; reads = f.1; fits = let w = f.2.is (omega arith) in omega arith }

        pub tree_done : {o' : List ℕ} {d h : ℕ} {out : Outcome}
            → ((l : Language) (t : Codes) (rest : List ℕ) → TreesAsk (k ∷ []) s index b 0 tree_levels (length o) 0 l t rest → Exported (export_all l (k ∷ []) t) b rest o o' 0 d h)
            → out ≡ Ok ends.text → GivesTree s index k b o o' out
        tree_done {o'} put i l z =
            let f = (first l z).found ends ex in
            let v = export l k (found l z).0 in
            let g = ap length (found l z).2 in
            let n : ends.text ≡ length v = let w = f.2.is (omega arith) in omega arith in
            let w = (put l f.0 (drop ends.tree b) (tree_asks l z)).put.bytes in
            gives_same _ _ o o' (ap (result l k (length o)) (whole l z))
            (gives_fit v o o' (omega arith) (i ∙ ap Ok n) (w ∙ ap (spliced o 0) (found l z).2))

-- export
-- The outcome and the output are those of the operation.
abbrev pub AsExport : List ℕ → ℕ → List ℕ → List ℕ → List ℕ → Outcome → Type 0
AsExport s root b o o' out = (out ≡ (export_tree s root b o).outcome) × (o' ≡ (export_tree s root b o).output)

module _ (s : List ℕ) (root : ℕ) (b o : List ℕ) where
  by_root : export_text s root b (length o) ≡ (rooted_of s root >>= λ l. result l root (length o) (read tree l [] tree_levels root b))
  unfolding export_text
  by_root = rooted_tree_then s root b (λ l t. fitted (length o) (export l root t))

  module _ {out : Outcome} where
    pub export_refused : {r : Reason} → rooted_of s root ≡ refused r → out ≡ Err r → AsExport s root b o o out
    unfolding export_tree
    export_refused {r} e i = gives_refused (export_text s root b (length o)) o r (by_root ∙ rw e refl) i

    pub export_done : (l : Language) → rooted_of s root ≡ value l → (index o' : List ℕ) → Indexed index s l → GivesTree s index root b o o' out → AsExport s root b o o' out
    unfolding export_tree
    export_done l e index o' z g = gives_same (export_text s root b (length o)) (result l root (length o) (read tree l [] tree_levels root b)) o o' (by_root ∙ rw e refl) (g l z)

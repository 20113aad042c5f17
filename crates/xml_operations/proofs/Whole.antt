-- What import answers: a law for each return of `import_text` and `import`.
use Rattle.std.specs.Prelude.{Err, Ok}
use Prim.Native.Nat.{ℕ, ◌<◌, ◌≤◌}
use mathlib.Core.Path.{◌≡◌, refl, sym, ap, ◌∙◌}
use mathlib.Core.Bool.{Bool, true, false, not}
use mathlib.Core.List.{List, []}
use native.Mathlib.Omega.{arith}
use lib.ListN.{length, get_or, drop, drop_of_length-le}
use lib.Dec.{leb}
use borrow.Author.Tests.{leb-true, leb-false}
use Rattle.outcome.specs.Outcome.{Result, value, refused, refuse_if, ◌>>=◌, Outcome}
use Rattle.format_fields.specs.Inner.Writing.{spliced}
use Rattle.outcome.specs.declared.Reason.{Reason}
use Rattle.outcome.specs.declared.Reason.TheVariants as Why
use Rattle.format_fields.proofs.Split.{front}
use Rattle.format_language.specs.Language.{Language, is_in}
use Rattle.format_language.specs.LanguageFile.{language_of}
use Rattle.tree_reader.specs.Code.{Code}
use Rattle.tree_reader.specs.Syntax.{Read, done, write, tree}
use Rattle.tree_reader.specs.Operations.{tree_levels}
use Rattle.tree_reader.specs.Inner.Index.{Indexed}
use Rattle.format_translation.specs.Operations.{fitted}
use Rattle.xml_text.specs.Import.{read_text}
use Rattle.xml_operations.specs.Operations.{whole_text, import_of, import_bytes, import_tree}
use Rattle.xml_text.specs.Inner.Importing.{Text, Inside, ImportsTree}
use Rattle.xml_text.specs.Inner.Contents.{Contents}
use Rattle.xml_operations.specs.Inner.Answering.{GivesWhole}
use Rattle.xml_text.proofs.Held.{held_whole}
use Rattle.check_operations.specs.Inner.Opening.{rooted_of}
use Rattle.check_operations.proofs.Opening.{rooted_steps}
use Rattle.check_operations.proofs.Answering.{gives_refused, gives_same, gives_long, gives_fit}

-- What a reading comes to, with so much room.
abbrev result : ℕ → Read Code → Result (List ℕ)
result room p = whole_text p >>= λ t. fitted room (write tree t)

-- import_text
module _ (s index : List ℕ) (k : ℕ) (text o : List ℕ) {x : Text} (first : ImportsTree s index k text 0 tree_levels x) where
  module _ {e : ℕ} (ex : x ≡ Ok e) (inside : Inside text x) where
    one : (l : Language) → Indexed index s l → (a : Code) × (read_text l tree_levels k text ≡ done a (drop e text))
    one l z = (first l z).found e ex

    pub text_left : {out : Outcome} → (e ≡ length text → ⊥) → out ≡ Err Why.NotAnExport → GivesWhole s index k text o o out
    text_left h i l z =
        let f = one l z in
        let j = inside e ex in
        let g : e < length text = omega arith in
        gives_refused _ o Why.NotAnExport (ap (result (length o)) (f.1 ∙ ap (done f.0) (front text e g))) i

    module _ (all : e ≡ length text) (bytes : (i : ℕ) → get_or s i 0 < 256) where
      whole : (l : Language) (z : Indexed index s l) → read_text l tree_levels k text ≡ done (one l z).0 []
      whole l z = let f = one l z in f.1 ∙ ap (done f.0) (drop_of_length-le text {i = e} (omega arith))

      holds : (l : Language) (z : Indexed index s l) → Contents text (write tree (one l z).0)
      holds l z = held_whole s l z.entries bytes tree_levels k text (one l z).0 (whole l z)

      module _ {y : Bool} (room : (v : List ℕ) → Contents text v → y ≡ leb (length v) (length o)) where
        pub text_long : {out : Outcome} → y ≡ false → out ≡ Err Why.OutputTooShort → GivesWhole s index k text o o out
        text_long h i l z =
            let n = leb-false (length (write tree (one l z).0)) (length o) (sym (room _ (holds l z)) ∙ h) in
            gives_same _ _ o o (ap (result (length o)) (whole l z)) (gives_long (write tree (one l z).0) o (omega arith) i)

        pub text_done : {o' : List ℕ} {n : ℕ} {out : Outcome} → y ≡ true → ((v : List ℕ) → Contents text v → length v ≤ length o → (o' ≡ spliced o 0 v) × (n ≡ length v)) → out ≡ Ok n
            → GivesWhole s index k text o o' out
        text_done {o'} h put i l z =
            let t = (one l z).0 in
            let g = leb-true (length (write tree t)) (length o) (sym (room _ (holds l z)) ∙ h) in
            let w = put (write tree t) (holds l z) g in
            gives_same _ _ o o' (ap (result (length o)) (whole l z)) (gives_fit (write tree t) o o' g (i ∙ ap Ok w.1) w.0)

-- import
-- The outcome and the output are those of the operation.
abbrev pub AsImport : List ℕ → ℕ → List ℕ → List ℕ → List ℕ → Outcome → Type 0
AsImport s root text o o' out = (out ≡ (import_tree s root text o).outcome) × (o' ≡ (import_tree s root text o).output)

module _ (s : List ℕ) (root : ℕ) (text o : List ℕ) where
  of_root : (l : Language) → (import_of l root text >>= λ t. fitted (length o) (write tree t)) ≡ refuse_if (not (is_in l root)) Why.UnknownRoot (result (length o) (read_text l tree_levels root text))
  unfolding import_of
  of_root l = go (not (is_in l root))
    where
      go : (t : Bool) → (refuse_if t Why.UnknownRoot (whole_text (read_text l tree_levels root text)) >>= λ t. fitted (length o) (write tree t))
          ≡ refuse_if t Why.UnknownRoot (result (length o) (read_text l tree_levels root text))
      go true = refl
      go false = refl

  by_root : import_bytes s root text (length o) ≡ (rooted_of s root >>= λ l. result (length o) (read_text l tree_levels root text))
  unfolding import_bytes
  by_root = (λ i. language_of s >>= λ l. of_root l i) ∙ rooted_steps s root (λ l. result (length o) (read_text l tree_levels root text))

  module _ {out : Outcome} where
    pub import_refused : {r : Reason} → rooted_of s root ≡ refused r → out ≡ Err r → AsImport s root text o o out
    unfolding import_tree
    import_refused {r} e i = gives_refused (import_bytes s root text (length o)) o r (by_root ∙ rw e refl) i

    pub import_done : (l : Language) → rooted_of s root ≡ value l → (index o' : List ℕ) → Indexed index s l → GivesWhole s index root text o o' out → AsImport s root text o o' out
    unfolding import_tree
    import_done l e index o' z g = gives_same (import_bytes s root text (length o)) (result (length o) (read_text l tree_levels root text)) o o' (by_root ∙ rw e refl) (g l z)

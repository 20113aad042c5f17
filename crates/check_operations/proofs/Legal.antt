-- What a tree that was accepted is.
use Rattle.std.specs.Prelude.{Err, Ok}
use Prim.Native.Nat.{ℕ}
use mathlib.Core.Path.{◌≡◌, refl, sym, ap}
use mathlib.Core.Bool.{true, not}
use mathlib.Core.List.{List, [], ◌∷◌}
use Rattle.outcome.specs.Outcome.{Result, value, refused, checked, ◌>>=◌}
use Rattle.outcome.specs.declared.Reason.{Reason}
use Rattle.outcome.specs.declared.Reason.TheVariants.{UnknownRoot}
use Rattle.format_fields.proofs.Truth.{true_not}
use Rattle.format_fields.proofs.Codec.{refused_value, value_inj}
use Rattle.format_language.specs.Language.{Language, is_in}
use Rattle.format_language.specs.LanguageFile.{language_of}
use Rattle.tree_reader.specs.Code.{Code}
use Rattle.tree_reader.specs.Syntax.{Read, done, deep, broken, read, tree}
use Rattle.tree_reader.specs.Operations.{tree_levels, whole_tree, tree_of, check_tree}
use Rattle.tree_reader.proofs.Sound.{Right, read_done}
use Rattle.format_translation.proofs.Fitting.{refuse_value}
use Rattle.format_translation.proofs.Accepted.{refused_not}

-- A whole tree was read to its end.
pub tree_done : (o : Read Code) (t : Code) → whole_tree o ≡ value t → o ≡ done t []
tree_done (done u []) t e = ap (λ (x : Code). done x []) (value_inj e)
tree_done (done u (b ∷ s)) t e = refused_value e
tree_done deep t e = refused_value e
tree_done broken t e = refused_value e

-- It is of a kind that is in the language, and what was read is right.
pub tree_right : (l : Language) (k : ℕ) (bytes : List ℕ) (t : Code) → tree_of l k bytes ≡ value t
    → (is_in l k ≡ true) × Right tree l [] tree_levels k bytes (done t [])
unfolding tree_of
tree_right l k bytes t e =
    let r = refuse_value (not (is_in l k)) UnknownRoot (whole_tree (read tree l [] tree_levels k bytes)) e in
    (true_not (is_in l k) r.0, read_done tree l [] tree_levels k bytes t [] (tree_done _ t r.1))

-- What reading comes to for a kind that is in the language.
pub tree_of_lem : (l : Language) (k : ℕ) (bytes : List ℕ) (o : Read Code) → is_in l k ≡ true → read tree l [] tree_levels k bytes ≡ o → tree_of l k bytes ≡ whole_tree o
unfolding tree_of
tree_of_lem l k bytes o i e = rw (i, e)

-- A tree that the check accepts is a tree of the language, and what it refuses is refused by whatever goes on with the tree.
pub record Checked (s : List ℕ) (root : ℕ) (bytes : List ℕ) : Type 0 where
  pub language : Language
  pub subject : Code
  pub is : language_of s ≡ value language
  pub tree_is : tree_of language root bytes ≡ value subject

module _ (s : List ℕ) (root : ℕ) (bytes : List ℕ) where
  tree_checked : {n : ℕ} (l : Language) (m : Result Code) → language_of s ≡ value l → tree_of l root bytes ≡ m → checked m ≡ Ok n → Checked s root bytes
  tree_checked l (value t) e f h = record { language = l; subject = t; is = e; tree_is = f }
  tree_checked {n} l (refused r) e f h = refused_not {n = n} {r = r} h

  language_checked : {n : ℕ} (m : Result Language) → language_of s ≡ m → checked (m >>= λ l. tree_of l root bytes) ≡ Ok n → Checked s root bytes
  language_checked (value l) e h = tree_checked l (tree_of l root bytes) e refl h
  language_checked {n} (refused r) e h = refused_not {n = n} {r = r} h

  pub accepted_tree : {n : ℕ} → check_tree s root bytes ≡ Ok n → Checked s root bytes
  unfolding check_tree
  accepted_tree h = language_checked (language_of s) refl h

  module _ {A : Type 0} (f : Language → Code → Result A) {r : Reason} where
    tree_stays : (l : Language) (m : Result Code) → checked m ≡ Err r → m >>= f l ≡ refused r
    tree_stays l (value t) h = refused_not {n = 0} {r = r} (sym h)
    tree_stays l (refused q) h = cc

    language_stays : (m : Result Language) → checked (m >>= λ l. tree_of l root bytes) ≡ Err r
        → (m >>= λ l. tree_of l root bytes >>= f l) ≡ refused r
    language_stays (value l) h = tree_stays l (tree_of l root bytes) h
    language_stays (refused q) h = cc

    pub refused_tree : check_tree s root bytes ≡ Err r → (language_of s >>= λ l. tree_of l root bytes >>= f l) ≡ refused r
    unfolding check_tree
    refused_tree h = language_stays (language_of s) h

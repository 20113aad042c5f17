-- The check of a tree and its index: a law for each return of `check_own`, and what is known of a tree that was accepted.
use Rattle.std.specs.Prelude.{Err, Ok}
use Prim.Native.Nat.{ℕ, ◌<◌, ◌≤◌}
use mathlib.Core.Path.{◌≡◌, refl, sym, ap, ◌∙◌}
use mathlib.Core.Bool.{true, false, not, ◌||◌}
use mathlib.Core.List.{List}
use mathlib.Core.Option.{some}
use lib.ListN.{length, get_or}
use borrow.Author.Tests.{lt-ltb, le-ltb, ltb-false}
use Rattle.format_fields.specs.Lists.{same_numbers}
use Rattle.outcome.specs.Outcome.{Result, value, refused, refuse_if, checked, ◌>>=◌, Outcome}
use Rattle.outcome.specs.declared.Reason.{Reason}
use Rattle.outcome.specs.declared.Reason.TheVariants.{NotIndexed}
use Rattle.format_fields.proofs.Truth.{or_false, true_not, numbers_equal}
use Rattle.format_fields.proofs.Codec.{step_value, value_inj}
use Rattle.format_language.specs.Language.{Language}
use Rattle.format_language.specs.LanguageFile.{entries_of, language_of}
use Rattle.tree_reader.specs.Code.{Code}
use Rattle.tree_reader.specs.Operations.{tree_of, check_tree}
use Rattle.tree_reader.specs.Inner.Index.{Indexed}
use Rattle.tree_reader.proofs.Members.{in_below}
use Rattle.format_translation.proofs.Fitting.{refuse_value}
use Rattle.format_translation.proofs.Accepted.{refused_not}
use Rattle.check_operations.proofs.Legal.{tree_right, Checked, refused_tree}
use Rattle.check_operations.proofs.Opening.{language_facts}
use Rattle.tree_index.specs.Spans.{index_of}
use Rattle.tree_index.specs.Operations.{longest, is_long, indexed_tree, check_indexed}
use Rattle.tree_index.specs.Inner.Lying.{There}
use Rattle.tree_index.proofs.Checking.{checked_tree, tree_lies}

-- check_own
module _ (s : List ℕ) (root : ℕ) (b i : List ℕ) {out : Outcome} (eo : out ≡ check_tree s root b) where
  pub own_refused : {x : Reason} → out ≡ Err x → Err x ≡ check_indexed s root b i
  unfolding check_indexed indexed_tree
  own_refused q =
      sym (ap checked (refused_tree s root b (λ l t. refuse_if (is_long b || not (same_numbers i (index_of t))) NotIndexed (value t)) (sym eo ∙ q)))

  module _ {n : ℕ} (accepted : out ≡ Ok n) where
    abbrev c : Checked s root b
    c = checked_tree s root b eo accepted

    own_is : check_indexed s root b i ≡ checked (refuse_if (is_long b || not (same_numbers i (index_of c.subject))) NotIndexed (value c.subject))
    unfolding check_indexed indexed_tree
    own_is = rw (c.is, c.tree_is) refl

    pub own_long : longest < length b → Err NotIndexed ≡ check_indexed s root b i
    own_long h = let t : is_long b ≡ true = lt-ltb longest (length b) h in rw (own_is, t) refl

    module _ (short : length b ≤ longest) where
      pub own_other : false ≡ same_numbers i (index_of c.subject) → Err NotIndexed ≡ check_indexed s root b i
      own_other e = let t : is_long b ≡ false = le-ltb longest (length b) short in rw (own_is, t, ← e) refl

      pub own_accepted : true ≡ same_numbers i (index_of c.subject) → Ok 0 ≡ check_indexed s root b i
      own_accepted e = let t : is_long b ≡ false = le-ltb longest (length b) short in rw (own_is, t, ← e) refl

-- A tree that was accepted with its index.
pub record OwnedBy (s : List ℕ) (root : ℕ) (b i : List ℕ) (l : Language) (t : Code) : Type 0 where
  pub is : language_of s ≡ value l
  pub tree_is : tree_of l root b ≡ value t
  pub indexed_is : indexed_tree l root b i ≡ value t
  pub short : length b ≤ longest
  pub own : i ≡ index_of t

pub record Owned (s : List ℕ) (root : ℕ) (b i : List ℕ) : Type 0 where
  pub language : Language
  pub subject : Code
  pub by : OwnedBy s root b i language subject

pub indexed_owned : (s : List ℕ) (root : ℕ) (b i : List ℕ) (l : Language) (t : Code) → language_of s ≡ value l → indexed_tree l root b i ≡ value t
    → OwnedBy s root b i l t
unfolding indexed_tree
indexed_owned s root b i l t e f =
    let a = step_value (tree_of l root b) _ f in
    let r = refuse_value (is_long b || not (same_numbers i (index_of a.0))) NotIndexed (value a.0) a.2 in
    let o = or_false (is_long b) (not (same_numbers i (index_of a.0))) r.0 in
    let z : a.0 ≡ t = value_inj r.1 in
    record {
      is = e;
      tree_is = a.1 ∙ ap value z;
      indexed_is = f;
      short = ltb-false longest (length b) o.0;
      own = numbers_equal i (index_of a.0) (true_not _ o.1) ∙ ap index_of z;
    }

module _ (s : List ℕ) (root : ℕ) (b i : List ℕ) where
  tree_owned : {n : ℕ} (l : Language) (m : Result Code) → language_of s ≡ value l → indexed_tree l root b i ≡ m → checked m ≡ Ok n → Owned s root b i
  tree_owned l (value t) e f h = record { language = l; subject = t; by = indexed_owned s root b i l t e f }
  tree_owned {n} l (refused r) e f h = refused_not {n = n} {r = r} h

  language_owned : {n : ℕ} (m : Result Language) → language_of s ≡ m → checked (m >>= λ l. indexed_tree l root b i) ≡ Ok n → Owned s root b i
  language_owned (value l) e h = tree_owned l (indexed_tree l root b i) e refl h
  language_owned {n} (refused r) e h = refused_not {n = n} {r = r} h

  pub accepted_own : {n : ℕ} → check_indexed s root b i ≡ Ok n → Owned s root b i
  unfolding check_indexed
  accepted_own h = language_owned (language_of s) refl h

  -- What the check refuses is refused by whatever goes on with the tree.
  module _ {A : Type 0} (f : Language → Code → Result A) {r : Reason} where
    tree_stays : (l : Language) (m : Result Code) → checked m ≡ Err r → m >>= f l ≡ refused r
    tree_stays l (value t) h = refused_not {n = 0} {r = r} (sym h)
    tree_stays l (refused q) h = cc

    language_stays : (m : Result Language) → checked (m >>= λ l. indexed_tree l root b i) ≡ Err r
        → (m >>= λ l. indexed_tree l root b i >>= f l) ≡ refused r
    language_stays (value l) h = tree_stays l (indexed_tree l root b i) h
    language_stays (refused q) h = cc

    pub refused_own : check_indexed s root b i ≡ Err r → (language_of s >>= λ l. indexed_tree l root b i >>= f l) ≡ refused r
    unfolding check_indexed
    refused_own h = language_stays (language_of s) h

  module _ (l : Language) (t : Code) (w : OwnedBy s root b i l t) where
    pub owned_small : root < 32
    owned_small = in_below s root l (language_facts s l w.is).0 (tree_right l root b t w.tree_is).0

    pub owned_there : (places : List ℕ) → ((j : ℕ) → get_or b j 0 < 256) → ((k : Language) → entries_of s ≡ some k → Indexed places s k)
        → There places s b 0 root l t
    owned_there places bytes indexed =
        let f = language_facts s l w.is in
        record {
          index_of = record { indexed = indexed l f.0; apart = f.1 };
          lies = tree_lies l root b t bytes w.tree_is;
        }
